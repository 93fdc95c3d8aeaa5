-- A piece is judged by what is held as it is by all bytes before it.
use Rattle.std.proofs.Common.{◌≡◌, ℕ, ◌+◌, ◌-◌, ◌<◌, ◌≤◌, Bool, true, false, List, ◌++◌, length, take, Some, None, refl, ◌∙◌, sym, ap, subst, arith, length-append, nat_lt}
use Rattle.std.specs.Prelude.{Result, Ok, Err, nat_le}
use Rattle.std.proofs.lemmas.Bool.Decides.{nat_tests}
use Rattle.std.proofs.lemmas.List.{take-append-le}
use Rattle.arrayvec.specs.ArrayVec.{ArrayVec}
use Rattle.pp_v1.specs.declared.meaning.Meaning.{Meaning}
use Rattle.pp_v1.specs.declared.meaning.Meaning.TheVariants.{Real, Declared}
use Rattle.pp_v2.specs.Head.{pair_length}
use Rattle.pp_v2.specs.Block.{pair_in}
use Rattle.pp_any.specs.declared.fault.HeaderFault.{HeaderFault}
use Rattle.pp_any.specs.declared.rest.Rest.{Rest}
use Rattle.pp_any.specs.declared.rest.Rest.TheVariants.{Read, Block, Skip}
use Rattle.pp_any.specs.declared.fed.Fed.{Fed}
use Rattle.pp_any.specs.declared.fed.Fed.TheVariants as feds
use Rattle.pp_any.specs.Status.{Status, Whole, Fault, Wait, decision, status}
use Rattle.pp_any.specs.Header.{IsDecidedAt, shifted}
use Rattle.pp_any.specs.Rest.{IsRest}
use Rattle.pp_any.specs.Fed.{Answers}
use Rattle.pp_any.specs.NextPiece.{Tells, less, rest_on, status_on}
use Rattle.pp_any.proofs.Steps.{Say}
use Rattle.pp_any.proofs.First.{first_of_status, given, waits_nowhere}
use Rattle.pp_any.proofs.Rests.{pair_ends, pair_goes_on, skip_ends, skip_goes_on}
use Rattle.pp_any.proofs.Same.{pair_inside, skip_some}
use Rattle.pp_any.proofs.Bytes.{held_by}

abbrev pub used_by : Status → ℕ
used_by (Whole count meaning) = count
used_by (Fault fault count) = count
used_by Wait = 0

pub record GoesOn (b : List ℕ) (rest : Rest) (c : List ℕ) : Type 0 where
  pub status : status (b ++ c) ≡ shifted (length b) (status_on rest c)
  pub holds : status_on rest c ≡ Wait → IsRest (b ++ c) (rest_on rest c)
  pub used : used_by (status_on rest c) ≤ length c

-- what is decided of bytes after some that wait is decided after those
decided_past : (b c : List ℕ) (count : ℕ) (s : Result Meaning HeaderFault) → status b ≡ Wait → status (b ++ c) ≡ given count s → (length b < count) × (count ≤ length b + length c)
decided_past b c count s waits found = by (nat_le count (length b)) refl (first_of_status (b ++ c) count s found)
  where
    by : (t : Bool) → nat_le count (length b) ≡ t → IsDecidedAt (b ++ c) count s → (length b < count) × (count ≤ length b + length c)
    by false test at = let l = length-append b c in let within = at.within in (grind (arith, nat_tests), omega arith)
    by true test at =
        let inside : count ≤ length b = grind (arith, nat_tests) in
        let never : decision (take count (b ++ c)) ≡ None = ap decision (take-append-le count b c inside) ∙ waits_nowhere b waits count at.some inside in
        let wrong : ◌≡◌ {A = Say} None (Some s) = sym never ∙ at.here in
        absurd cc

-- bytes that are held themselves
read_on : (b c : List ℕ) → status b ≡ Wait → GoesOn b (Read (record { items = b })) c
read_on b c waits = by (status (b ++ c)) refl
  where
    by : (s : Status) → status (b ++ c) ≡ s → GoesOn b (Read (record { items = b })) c
    by Wait is = record {
      status = is ∙ sym (ap (λ s. shifted (length b) (less (length b) s)) is);
      holds = λ none. (is, refl);
      used = rw is (omega arith);
    }
    by (Whole count meaning) is =
        let past = decided_past b c count (Ok meaning) waits is in
        let more = past.0 in
        let most = past.1 in
        let count_is : count ≡ count - length b + length b = omega arith in
        record {
          status = is ∙ ap (λ n. Whole n meaning) count_is ∙ sym (ap (λ s. shifted (length b) (less (length b) s)) is);
          holds = λ none. absurd (let wrong : ◌≡◌ {A = Status} (Whole (count - length b) meaning) Wait = sym (ap (less (length b)) is) ∙ none in cc);
          used = rw is (omega arith);
        }
    by (Fault fault count) is =
        let past = decided_past b c count (Err fault) waits is in
        let more = past.0 in
        let most = past.1 in
        let count_is : count ≡ count - length b + length b = omega arith in
        record {
          status = is ∙ ap (λ n. Fault fault n) count_is ∙ sym (ap (λ s. shifted (length b) (less (length b) s)) is);
          holds = λ none. absurd (let wrong : ◌≡◌ {A = Status} (Fault fault (count - length b)) Wait = sym (ap (less (length b)) is) ∙ none in cc);
          used = rw is (omega arith);
        }

skip_on : (b c : List ℕ) (m : ℕ) → IsRest b (Skip m) → GoesOn b (Skip m) c
skip_on b c m is = by (nat_lt (length c) m) refl
  where
    by : (t : Bool) → nat_lt (length c) m ≡ t → GoesOn b (Skip m) c
    by true test =
        let fewer : length c < m = grind (arith, nat_tests) in
        let on = skip_goes_on b c m is fewer in
        record { status = rw test on.0; holds = λ none. on; used = rw test (omega arith) }
    by false test =
        let within : m ≤ length c = grind (arith, nat_tests) in
        let count : length b + m ≡ m + length b = omega arith in
        record {
          status = rw test (skip_ends b c m is (skip_some b m is) within ∙ ap (λ n. Whole n Real) count);
          holds = λ none. absurd (let wrong : ◌≡◌ {A = Status} (Whole m Real) Wait = rw test at none in cc);
          used = rw test within;
        }

pub goes_on : (b c : List ℕ) (rest : Rest) → IsRest b rest → GoesOn b rest c
goes_on b c (Read held) is =
    let held_is : record { items = b } ≡ held = ap (λ e. record { items = e }) (held_by b held is.1) in
    let P : ArrayVec ℕ → Type 0 = λ e. GoesOn b (Read e) c in
    subst P held_is (read_on b c is.0)
goes_on b c (Skip m) is = skip_on b c m is
goes_on b c (Block family bytes m) is = by (nat_lt (length c) m) refl
  where
    by : (t : Bool) → nat_lt (length c) m ≡ t → GoesOn b (Block family bytes m) c
    by true test =
        let fewer : length c < m = grind (arith, nat_tests) in
        let on = pair_goes_on b c family bytes m is fewer in
        record { status = rw test on.0; holds = λ none. on; used = rw test (omega arith) }
    by false test =
        let within : m ≤ length c = grind (arith, nat_tests) in
        let count : length b + m ≡ m + length b = omega arith in
        record {
          status = rw test (pair_ends b c family bytes m is (pair_inside b family bytes m is) within ∙ ap (λ n. Whole n (Declared (pair_in family (take (pair_length family) (bytes.items ++ c))))) count);
          holds = λ none. absurd (let wrong : ◌≡◌ {A = Status} (Whole m (Declared (pair_in family (take (pair_length family) (bytes.items ++ c))))) Wait = rw test at none in cc);
          used = rw test within;
        }

-- ---- what a parser answers

shifted_wait : (n : ℕ) (s : Status) → Wait ≡ shifted n s → s ≡ Wait
shifted_wait n Wait is = refl
shifted_wait n (Whole count meaning) is = absurd cc
shifted_wait n (Fault fault count) is = absurd cc

shifted_whole : (n used : ℕ) (meaning : Meaning) (s : Status) → Whole (n + used) meaning ≡ shifted n s → s ≡ Whole used meaning
shifted_whole n used meaning Wait is = absurd cc
shifted_whole n used meaning (Whole count other) is =
    let sum : n + used ≡ count + n = cc in
    let same : other ≡ meaning = cc in
    let count_is : count ≡ used = omega arith in
    ap (λ k. Whole k other) count_is ∙ ap (λ v. Whole used v) same
shifted_whole n used meaning (Fault fault count) is = absurd cc

shifted_fault : (n used : ℕ) (fault : HeaderFault) (s : Status) → Fault fault (n + used) ≡ shifted n s → s ≡ Fault fault used
shifted_fault n used fault Wait is = absurd cc
shifted_fault n used fault (Whole count meaning) is = absurd cc
shifted_fault n used fault (Fault other count) is =
    let sum : n + used ≡ count + n = cc in
    let same : other ≡ fault = cc in
    let count_is : count ≡ used = omega arith in
    ap (λ k. Fault other k) count_is ∙ ap (λ v. Fault v used) same

pub tells : (b c : List ℕ) (rest : Rest) (fed : Fed) → IsRest b rest → Answers b c fed → Tells rest c fed
tells b c rest (feds.More parser) is answers =
    let on = goes_on b c rest is in
    let waits : status_on rest c ≡ Wait = shifted_wait (length b) (status_on rest c) (sym answers.0 ∙ on.status) in
    (waits, sym answers.1 ∙ (on.holds waits).1)
tells b c rest (feds.Whole meaning used) is answers = shifted_whole (length b) used meaning (status_on rest c) (sym answers.1 ∙ (goes_on b c rest is).status)
tells b c rest (feds.Bad fault used) is answers = shifted_fault (length b) used fault (status_on rest c) (sym answers.1 ∙ (goes_on b c rest is).status)

pub used_within : (b c : List ℕ) (rest : Rest) (s : Status) → IsRest b rest → status_on rest c ≡ s → used_by s ≤ length c
used_within b c rest s is found = let P : Status → Type 0 = λ s. used_by s ≤ length c in subst P found (goes_on b c rest is).used

pub tells_of : (b c : List ℕ) (rest held : Rest) (fed : Fed) → IsRest b rest → rest ≡ held → (IsRest b held → Answers b c fed) → Tells rest c fed
tells_of b c rest held fed is same answers = tells b c rest fed is (answers (is.0, is.1 ∙ same))
