-- Bytes of which a parser holds the same.
use Rattle.std.proofs.Common.{◌≡◌, ℕ, zero, suc, ◌+◌, ◌-◌, ◌<◌, ◌≤◌, Bool, true, false, List, [], ◌∷◌, ◌++◌, length, take, drop, Some, None, Option, refl, ◌∙◌, sym, ap, subst, arith, nat_lt}
use Rattle.std.specs.Prelude.{Ok, nat_le}
use Rattle.std.proofs.lemmas.Bool.Decides.{nat_tests}
use Rattle.std.proofs.lemmas.List.{length-take, length-take-le, length-drop, take-take}
use Rattle.arrayvec.specs.ArrayVec.{ArrayVec}
use Rattle.pp_v1.specs.declared.meaning.Meaning.TheVariants.{Real, Declared}
use Rattle.pp_v2.specs.declared.head.Family.{Family}
use Rattle.pp_v2.specs.declared.head.Head.{Head}
use Rattle.pp_v2.specs.Head.{head_of, pair_length}
use Rattle.pp_v2.specs.Block.{pair_in}
use Rattle.pp_any.specs.declared.rest.Rest.{Rest}
use Rattle.pp_any.specs.declared.rest.Rest.TheVariants.{Read, Block, Skip}
use Rattle.pp_any.specs.declared.fed.Fed.{Fed}
use Rattle.pp_any.specs.declared.fed.Fed.TheVariants as feds
use Rattle.pp_any.specs.Status.{Status, Whole, Fault, Wait, is_line, meaning_in, status}
use Rattle.pp_any.specs.Header.{shifted}
use Rattle.pp_any.specs.Rest.{IsInBlock, IsRest, has_room, rest_in_block}
use Rattle.pp_any.specs.Fed.{Answers}
use Rattle.pp_any.proofs.Steps.{Say}
use Rattle.pp_any.proofs.First.{waits_nowhere}
use Rattle.pp_any.proofs.Blocks.{said_at_end}
use Rattle.pp_any.proofs.Rests.{declares, past_head, pair_ends, pair_goes_on, skip_ends, skip_goes_on}
use Rattle.pp_any.proofs.Heads.{head_fits}
use Rattle.pp_any.proofs.Bytes.{held_by}

-- what follows decides the same of both, or a parser holds the same of both again
pub record SameAfter (a b c : List ℕ) : Type 0 where
  pub status : shifted (length b) (status (a ++ c)) ≡ shifted (length a) (status (b ++ c))
  pub rest : (more : Rest) → IsRest (a ++ c) more → IsRest (b ++ c) more

same_bytes : (a b c : List ℕ) → a ≡ b → SameAfter a b c
same_bytes a b c is = let P : List ℕ → Type 0 = λ e. SameAfter a e c in subst P is (record { status = refl; rest = λ more waits. waits })

same_answers : (a b c : List ℕ) (fed : Fed) → Answers a c fed → Answers b c fed → SameAfter a b c
same_answers a b c (feds.More parser) x y = record {
  status = ap (shifted (length b)) x.0 ∙ sym (ap (shifted (length a)) y.0);
  rest = λ more waits. (y.0, y.1 ∙ sym x.1 ∙ waits.1);
}
same_answers a b c (feds.Whole meaning used) x y =
    let count : length a + used + length b ≡ length b + used + length a = omega arith in
    record {
      status = ap (shifted (length b)) x.1 ∙ ap (λ n. Whole n meaning) count ∙ sym (ap (shifted (length a)) y.1);
      rest = λ more waits. absurd (let wrong : ◌≡◌ {A = Status} (Whole (length a + used) meaning) Wait = sym x.1 ∙ waits.0 in cc);
    }
same_answers a b c (feds.Bad fault used) x y =
    let count : length a + used + length b ≡ length b + used + length a = omega arith in
    record {
      status = ap (shifted (length b)) x.1 ∙ ap (λ n. Fault fault n) count ∙ sym (ap (shifted (length a)) y.1);
      rest = λ more waits. absurd (let wrong : ◌≡◌ {A = Status} (Fault fault (length a + used)) Wait = sym x.1 ∙ waits.0 in cc);
    }

-- ---- bytes that wait in a block lack some

is_line-take : (n : ℕ) (b : List ℕ) → 0 < n → is_line (take n b) ≡ is_line b
is_line-take zero b some = absurd (omega arith)
is_line-take (suc n) [] some = refl
is_line-take (suc n) (x ∷ b) some = refl

lacks_some : (b : List ℕ) (head : Head) → status b ≡ Wait → is_line b ≡ false → 16 ≤ length b → head_of (take 16 b) ≡ Ok head → length b < 16 + head.len
lacks_some b head waits version past says = by (nat_lt (length b) (16 + head.len)) refl
  where
    by : (t : Bool) → nat_lt (length b) (16 + head.len) ≡ t → length b < 16 + head.len
    by true test = grind (arith, nat_tests)
    by false test =
        let full : 16 + head.len ≤ length b = grind (arith, nat_tests) in
        let l : length (take (16 + head.len) b) ≡ 16 + head.len = length-take-le (16 + head.len) b full in
        let ends = said_at_end (take (16 + head.len) b) head (record {
          version = is_line-take (16 + head.len) b (omega arith) ∙ version;
          past = omega arith;
          says = ap head_of (take-take 16 (16 + head.len) b (omega arith)) ∙ says;
          all = omega arith;
        }) in
        let wrong : ◌≡◌ {A = Say} (Some (Ok (meaning_in head.declares (drop 16 (take (16 + head.len) b))))) None = sym ends ∙ waits_nowhere b waits (16 + head.len) (omega arith) full in
        absurd cc

pub skip_some : (b : List ℕ) (m : ℕ) → IsRest b (Skip m) → 0 < m
skip_some b m rest =
    let p = past_head b (Skip m) rest.1 (λ bytes wrong. absurd cc) in
    by p.head p.rest_is (lacks_some b p.head rest.0 p.version p.past p.says) p.head.declares refl
  where
    by : (head : Head) → rest_in_block head.declares head.len b ≡ Skip m → length b < 16 + head.len → (d : Option Family) → head.declares ≡ d → 0 < m
    by head is less (Some family) declares = let wrong = rw declares at is in absurd cc
    by head is less None declares =
        let same : Skip (16 + head.len - length b) ≡ Skip m = rw declares at is in
        let missing : 16 + head.len - length b ≡ m = cc in
        omega arith

pair_some : (b : List ℕ) (family : Family) (bytes : ArrayVec ℕ) (m : ℕ) → IsRest b (Block family bytes m) → 0 < m
pair_some b family bytes m rest =
    let p = past_head b (Block family bytes m) rest.1 (λ held wrong. absurd cc) in
    by p.head p.rest_is (lacks_some b p.head rest.0 p.version p.past p.says) p.head.declares refl
  where
    by : (head : Head) → rest_in_block head.declares head.len b ≡ Block family bytes m → length b < 16 + head.len → (d : Option Family) → head.declares ≡ d → 0 < m
    by head is less None declares = let wrong = rw declares at is in absurd cc
    by head is less (Some f) declares =
        let same : Block f (record { items = take (pair_length f) (drop 16 b) }) (16 + head.len - length b) ≡ Block family bytes m = rw declares at is in
        let missing : 16 + head.len - length b ≡ m = cc in
        omega arith

pub pair_inside : (b : List ℕ) (family : Family) (bytes : ArrayVec ℕ) (m : ℕ) → IsRest b (Block family bytes m) → IsInBlock family bytes.items m
pair_inside b family bytes m rest =
    let some = pair_some b family bytes m rest in
    let d = declares b family bytes m rest.1 some in
    let past = d.lacks.past in
    let all = d.lacks.all in
    let front = ap length d.bytes_are ∙ length-take (pair_length family) (drop 16 b) in
    let back = length-drop 16 b in
    let P : Option Family → Type 0 = λ o. has_room o d.head.len in
    let fits : pair_length family ≤ d.head.len = subst P d.declares (head_fits (take 16 b) d.head d.lacks.says) in
    record { some = some; within = omega arith; enough = omega arith }

-- ---- the law

pub same_after : (a b : List ℕ) (rest : Rest) → IsRest a rest → IsRest b rest → (c : List ℕ) → SameAfter a b c
same_after a b (Read held) x y c = same_bytes a b c (held_by a held x.1 ∙ sym (held_by b held y.1))
same_after a b (Skip m) x y c = by (nat_le m (length c)) refl
  where
    by : (t : Bool) → nat_le m (length c) ≡ t → SameAfter a b c
    by true test =
        let within : m ≤ length c = grind (arith, nat_tests) in
        let some = skip_some a m x in
        same_answers a b c (feds.Whole Real m) (within, skip_ends a c m x some within) (within, skip_ends b c m y some within)
    by false test =
        let less : length c < m = grind (arith, nat_tests) in
        same_answers a b c (feds.More (Skip (m - length c))) (skip_goes_on a c m x less) (skip_goes_on b c m y less)
same_after a b (Block family bytes m) x y c = by (nat_le m (length c)) refl
  where
    by : (t : Bool) → nat_le m (length c) ≡ t → SameAfter a b c
    by true test =
        let within : m ≤ length c = grind (arith, nat_tests) in
        let inside = pair_inside a family bytes m x in
        same_answers a b c (feds.Whole (Declared (pair_in family (take (pair_length family) (bytes.items ++ c)))) m)
        (within, pair_ends a c family bytes m x inside within) (within, pair_ends b c family bytes m y inside within)
    by false test =
        let less : length c < m = grind (arith, nat_tests) in
        same_answers a b c (feds.More (Block family (record { items = take (pair_length family) (bytes.items ++ c) }) (m - length c)))
        (pair_goes_on a c family bytes m x less) (pair_goes_on b c family bytes m y less)
