-- What a loop over lines keeps of its devices.
use Rattle.std.proofs.Common.{◌≡◌, ℕ, ◌-◌, ◌≤◌, ap, inl, inr, ◌∙◌, arith}
use Rattle.device_core.specs.Device.{raised, raised_by}
use Rattle.device_core.specs.Patience.{IsUnblocked}
use Rattle.device_core.specs.declared.patience.TheConstants.{MOST_READS}
use Rattle.device_core.proofs.StallLemmas.{unblocked_on, worn_out_on}
use Rattle.line_reader.specs.Lines.{IsGivenUp}
use Rattle.replay_core.specs.Reading.{IsSpent}

-- Each read of a loop was counted, none failed, and the last one was not blocked; so many may still be made.
pub record StillReads {I : Type 0} (calls failures stalls : I → ℕ) (first now : I) (reads : ℕ) : Type 0 where
  pub few : reads ≤ MOST_READS
  pub counted : calls now ≡ raised_by (MOST_READS - reads) (calls first)
  pub unfailed : failures now ≡ failures first
  pub unblocked : IsUnblocked (stalls first) (stalls now)

-- No write of a loop failed, and the last one was not blocked.
pub record StillWrites {O : Type 0} (failures stalls : O → ℕ) (first now : O) : Type 0 where
  pub unfailed : failures now ≡ failures first
  pub unblocked : IsUnblocked (stalls first) (stalls now)

counted_on : (first mid now reads less : ℕ) → reads ≤ MOST_READS → mid ≡ raised_by (MOST_READS - reads) first → less ≤ reads → now ≡ raised_by (reads - less) mid
    → now ≡ raised_by (MOST_READS - less) first
counted_on first mid now reads less few counted fewer more = omega arith

-- after reads that did not fail
pub reads_on : {I : Type 0} (calls failures stalls : I → ℕ) (first mid now : I) (reads less : ℕ) → StillReads calls failures stalls first mid reads → less ≤ reads
    → calls now ≡ raised_by (reads - less) (calls mid) → failures now ≡ failures mid → IsUnblocked (stalls mid) (stalls now) → StillReads calls failures stalls first now less
reads_on calls failures stalls first mid now reads less is fewer more same free = record {
  few = omega (arith, is.few);
  counted = counted_on (calls first) (calls mid) (calls now) reads less is.few is.counted fewer more;
  unfailed = same ∙ is.unfailed;
  unblocked = unblocked_on (stalls first) (stalls mid) (stalls now) is.unblocked free;
}

-- after writes that did not fail
pub writes_on : {O : Type 0} (failures stalls : O → ℕ) (first mid now : O) → StillWrites failures stalls first mid → failures now ≡ failures mid → IsUnblocked (stalls mid) (stalls now)
    → StillWrites failures stalls first now
writes_on failures stalls first mid now is same free =
    record { unfailed = same ∙ is.unfailed; unblocked = unblocked_on (stalls first) (stalls mid) (stalls now) is.unblocked free }

-- after reads by which the reader gave up
pub given_up_spent : {I : Type 0} (calls failures stalls : I → ℕ) (first mid now : I) (reads less : ℕ) → StillReads calls failures stalls first mid reads → less ≤ reads
    → calls now ≡ raised_by (reads - less) (calls mid) → IsGivenUp (failures mid) (failures now) (stalls mid) (stalls now) less
    → IsSpent (failures first) (failures now) (stalls first) (stalls now) (calls first) (calls now)
given_up_spent calls failures stalls first mid now reads less is fewer more (inl failed) = inl (failed ∙ ap raised is.unfailed)
given_up_spent calls failures stalls first mid now reads less is fewer more (inr (none, inl worn)) =
    inr (none ∙ is.unfailed, inl (worn_out_on (stalls first) (stalls mid) (stalls now) is.unblocked worn))
given_up_spent calls failures stalls first mid now reads less is fewer more (inr (none, inr zero)) =
    let counted = counted_on (calls first) (calls mid) (calls now) reads less is.few is.counted fewer more in
    inr (none ∙ is.unfailed, inr (counted ∙ ap (λ r. raised_by (MOST_READS - r) (calls first)) zero))
