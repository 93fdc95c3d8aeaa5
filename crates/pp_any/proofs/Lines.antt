-- Whole lines.
use Rattle.std.proofs.Common.{◌≡◌, ◌⊎◌, ℕ, zero, suc, ◌+◌, ◌-◌, ◌<◌, ◌≤◌, Bool, true, false, List, [], ◌∷◌, ◌++◌, length, take, drop, get_or, Some, None, Option, refl, ◌∙◌, sym, ap, arith, inl, inr, add-one, length-append}
use Rattle.std.specs.Prelude.{Result, Ok, Err, codes, nat_le, not, ◌==◌, if◌then◌else◌}
use Rattle.std.specs.Option.{option_map}
use Rattle.std.proofs.lemmas.Bool.Decides.{nat_tests}
use Rattle.std.proofs.lemmas.List.{append-nil, length-take-le, take-append-drop, take-append-le, take_all, take_at, take-take, get_or-take}
use Rattle.pp_v1.specs.declared.TheConstants.{LINE_LIMIT}
use Rattle.pp_v1.specs.declared.meaning.Meaning.{Meaning}
use Rattle.pp_v1.specs.declared.reading.V1Fault.{V1Fault}
use Rattle.pp_v1.specs.Line.{ends_line, line_meaning, IsLine}
use Rattle.pp_v2.specs.declared.head.Head.{Head}
use Rattle.pp_v2.specs.declared.fault.V2Fault.{V2Fault}
use Rattle.pp_v2.specs.Head.{head_of}
use Rattle.pp_any.specs.declared.fault.HeaderFault.{HeaderFault}
use Rattle.pp_any.specs.declared.fault.HeaderFault.TheVariants.{NotProxy, TooLong}
use Rattle.pp_any.specs.Faults.{of_head, of_line}
use Rattle.pp_any.specs.Status.{Whole, block_decision, early_fault, fault_in_line, is_line, last_differs, meaning_in, meaning_of_line, decision, status}
use Rattle.pp_any.specs.Header.{IsBlock, IsDecidedAt, IsHeader, SaysInLine}
use Rattle.pp_any.proofs.Steps.{Say}
use Rattle.pp_any.specs.Rest.{IsNextInLine}
use Rattle.pp_any.proofs.First.{first_of_status, status_first, waits_nowhere}
use Rattle.pp_any.proofs.Wholes.{block_is_whole}

past_six : (n : ℕ) → 6 < n → nat_le n 6 ≡ false
past_six n more = grind (arith, nat_tests)

six_past : (n : ℕ) → nat_le n 6 ≡ false → 6 < n
six_past n test = grind (arith, nat_tests)

before_limit : (n : ℕ) → n < 107 → nat_le 107 n ≡ false
before_limit n less = grind (arith, nat_tests)

limit_before : (n : ℕ) → nat_le 107 n ≡ false → n < 107
limit_before n test = grind (arith, nat_tests)

-- what a byte past the sixth of a line decides
said_past_six : (b : List ℕ) (t : Bool) → is_line b ≡ true → 6 < length b → ends_line b ≡ t
    → decision b ≡ (if t then Some (meaning_of_line b) else (if nat_le 107 (length b) then Some (Err TooLong) else None))
said_past_six b t line past test = rw (line, past_six (length b) past, test) refl

none_past_six : (b : List ℕ) → is_line b ≡ true → 6 < length b → ends_line b ≡ false → length b < 107 → decision b ≡ None
none_past_six b line past test less = said_past_six b false line past test ∙ rw (before_limit (length b) less) refl

meaning_is : (b : List ℕ) (meaning : Meaning) → line_meaning b ≡ Ok meaning → meaning_of_line b ≡ Ok meaning
unfolding meaning_of_line
meaning_is b meaning says = ap fault_in_line says

-- the bytes of PROXY and a space, one by one
none_at_beginning : (rest : List ℕ) (k : ℕ) → 0 < k → k ≤ 6 → decision (take k (codes "PROXY " ++ rest)) ≡ None
none_at_beginning rest zero some few = absurd (omega arith)
none_at_beginning rest (suc zero) some few = refl
none_at_beginning rest (suc (suc zero)) some few = refl
none_at_beginning rest (suc (suc (suc zero))) some few = refl
none_at_beginning rest (suc (suc (suc (suc zero)))) some few = refl
none_at_beginning rest (suc (suc (suc (suc (suc zero))))) some few = refl
none_at_beginning rest (suc (suc (suc (suc (suc (suc zero)))))) some few = refl
none_at_beginning rest (suc (suc (suc (suc (suc (suc (suc k))))))) some few = absurd (omega arith)

line_at : (rest : List ℕ) (k : ℕ) → 0 < k → is_line (take k (codes "PROXY " ++ rest)) ≡ true
line_at rest zero some = absurd (omega arith)
line_at rest (suc k) some = refl

longer : (rest : List ℕ) → ends_line (codes "PROXY " ++ rest) ≡ true → 6 < length (codes "PROXY " ++ rest)
longer [] ends = absurd cc
longer (x ∷ rest) ends = omega arith

first_of_line : (b rest : List ℕ) → b ≡ codes "PROXY " ++ rest → IsLine b → (k : ℕ) → 0 < k → k < length b → decision (take k b) ≡ None
first_of_line b rest is line k some less = by (nat_le k 6) refl
  where
    by : (t : Bool) → nat_le k 6 ≡ t → decision (take k b) ≡ None
    by true test = let few : k ≤ 6 = grind (arith, nat_tests) in ap (λ e. decision (take k e)) is ∙ none_at_beginning rest k some few
    by false test =
        let past : 6 < k = six_past k test in
        let short = line.short in
        let l : length (take k b) ≡ k = length-take-le k b (omega arith) in
        none_past_six (take k b) (ap (λ e. is_line (take k e)) is ∙ line_at rest k some) (omega arith) (line.first k past less) (omega arith)

pub line_is_whole : (b : List ℕ) (meaning : Meaning) → SaysInLine b meaning → (c : List ℕ) → status (b ++ c) ≡ Whole (length b) meaning
line_is_whole b meaning line c =
    let is : b ≡ codes "PROXY " ++ drop 6 b = sym (take-append-drop 6 b) ∙ ap (λ e. e ++ drop 6 b) line.line.begins in
    let ends : ends_line (codes "PROXY " ++ drop 6 b) ≡ true = ap ends_line (sym is) ∙ line.line.ends in
    let past : 6 < length b = let more = longer (drop 6 b) ends in let l = ap length is in omega arith in
    let here : decision b ≡ Some (Ok meaning) =
    said_past_six b true (ap is_line is) past line.line.ends ∙ ap (λ r. Some r) (meaning_is b meaning line.says) in
    let l = length-append b c in
    status_first (b ++ c) (length b) (Ok meaning) (record {
      some = omega arith;
      within = omega arith;
      here = ap decision (take_at b c (length b) refl) ∙ here;
      first = λ k some less.
          let fits : k ≤ length b = omega arith in
          ap decision (take-append-le k b c fits) ∙ first_of_line b (drop 6 b) is line.line k some less;
    })

-- ---- a header is a line or a block

says_meaning : (b : List ℕ) (meaning : Meaning) → meaning_of_line b ≡ Ok meaning → line_meaning b ≡ Ok meaning
unfolding meaning_of_line
says_meaning b meaning is = by (line_meaning b) refl
  where
    by : (r : Result Meaning V1Fault) → line_meaning b ≡ r → line_meaning b ≡ Ok meaning
    by (Ok other) says =
        let same : ◌≡◌ {A = Result Meaning HeaderFault} (Ok other) (Ok meaning) = ap fault_in_line (sym says) ∙ is in
        let equal : other ≡ meaning = cc in
        says ∙ ap (λ m. Ok m) equal
    by (Err fault) says =
        let wrong : ◌≡◌ {A = Result Meaning HeaderFault} (Err (of_line fault)) (Ok meaning) = ap fault_in_line (sym says) ∙ is in
        absurd cc

few_bytes : (n : ℕ) → n ≤ 6 → nat_le n 6 ≡ true
few_bytes n few = grind (arith, nat_tests)

same_byte : (m n : ℕ) → not (m == n) ≡ false → m ≡ n
same_byte m n test = grind (arith, nat_tests)

-- a byte of the beginning that decides nothing is that of PROXY and a space
beginning_at : (b : List ℕ) (k : ℕ) → is_line b ≡ true → k < 6 → k < length b → decision (take (k + 1) b) ≡ None → get_or b k 0 ≡ get_or (codes "PROXY ") k 0
beginning_at [] k line few within none = absurd (omega arith)
beginning_at (x ∷ b) k line few within none = by (last_differs (codes "PROXY ") (take (k + 1) (x ∷ b))) refl
  where
    l : length (take (k + 1) (x ∷ b)) ≡ k + 1
    l = length-take-le (k + 1) (x ∷ b) (omega arith)

    front : (k : ℕ) → is_line (take (k + 1) (x ∷ b)) ≡ true
    front k = ap (λ n. is_line (take n (x ∷ b))) (add-one k) ∙ line

    short_one : nat_le (length (take (k + 1) (x ∷ b))) 6 ≡ true
    short_one = let len = l in few_bytes (length (take (k + 1) (x ∷ b))) (omega arith)

    place : length (take (k + 1) (x ∷ b)) - 1 ≡ k
    place = let len = l in omega arith

    said_is : (t : Bool) → last_differs (codes "PROXY ") (take (k + 1) (x ∷ b)) ≡ t → decision (take (k + 1) (x ∷ b)) ≡ (if t then Some (Err NotProxy) else None)
    said_is t test = rw (front k, short_one, test) refl

    by : (t : Bool) → last_differs (codes "PROXY ") (take (k + 1) (x ∷ b)) ≡ t → get_or (x ∷ b) k 0 ≡ get_or (codes "PROXY ") k 0
    by true test = let wrong : ◌≡◌ {A = Say} (Some (Err NotProxy)) None = sym (said_is true test) ∙ none in absurd cc
    by false test =
        let same : get_or (take (k + 1) (x ∷ b)) (length (take (k + 1) (x ∷ b)) - 1) 0 ≡ get_or (codes "PROXY ") (length (take (k + 1) (x ∷ b)) - 1) 0 =
        same_byte (get_or (take (k + 1) (x ∷ b)) (length (take (k + 1) (x ∷ b)) - 1) 0) (get_or (codes "PROXY ") (length (take (k + 1) (x ∷ b)) - 1) 0) test in
        sym (get_or-take (k + 1) (x ∷ b) k 0 (omega arith))
        ∙ ap (λ n. get_or (take (k + 1) (x ∷ b)) n 0) (sym place) ∙ same ∙ ap (λ n. get_or (codes "PROXY ") n 0) place

six_bytes : (b : List ℕ) → 6 < length b → ((k : ℕ) → k < 6 → get_or b k 0 ≡ get_or (codes "PROXY ") k 0) → take 6 b ≡ codes "PROXY "
six_bytes [] past each = absurd (omega arith)
six_bytes (x0 ∷ []) past each = absurd (omega arith)
six_bytes (x0 ∷ x1 ∷ []) past each = absurd (omega arith)
six_bytes (x0 ∷ x1 ∷ x2 ∷ []) past each = absurd (omega arith)
six_bytes (x0 ∷ x1 ∷ x2 ∷ x3 ∷ []) past each = absurd (omega arith)
six_bytes (x0 ∷ x1 ∷ x2 ∷ x3 ∷ x4 ∷ []) past each = absurd (omega arith)
six_bytes (x0 ∷ x1 ∷ x2 ∷ x3 ∷ x4 ∷ x5 ∷ b) past each =
    let e0 : x0 ≡ 80 = each 0 (omega arith) in
    let e1 : x1 ≡ 82 = each 1 (omega arith) in
    let e2 : x2 ≡ 79 = each 2 (omega arith) in
    let e3 : x3 ≡ 88 = each 3 (omega arith) in
    let e4 : x4 ≡ 89 = each 4 (omega arith) in
    let e5 : x5 ≡ 32 = each 5 (omega arith) in
    rw (e0, e1, e2, e3, e4, e5) refl

line_front : (b : List ℕ) (k : ℕ) → is_line b ≡ true → 0 < k → is_line (take k b) ≡ true
line_front [] k line some = absurd cc
line_front (x ∷ b) zero line some = absurd (omega arith)
line_front (x ∷ b) (suc k) line some = line

line_of_front : (b : List ℕ) (k : ℕ) → is_line (take k b) ≡ true → is_line b ≡ true
line_of_front [] zero line = absurd cc
line_of_front [] (suc k) line = absurd cc
line_of_front (x ∷ b) zero line = absurd cc
line_of_front (x ∷ b) (suc k) line = line

no_end_before : (b : List ℕ) (k : ℕ) → is_line b ≡ true → 6 < k → k < length b → decision (take k b) ≡ None → ends_line (take k b) ≡ false
no_end_before b k line past less none = by (ends_line (take k b)) refl
  where
    by : (t : Bool) → ends_line (take k b) ≡ t → ends_line (take k b) ≡ false
    by false test = test
    by true test =
        let l : length (take k b) ≡ k = length-take-le k b (omega arith) in
        let wrong : ◌≡◌ {A = Say} (Some (meaning_of_line (take k b))) None = sym (said_past_six (take k b) true (line_front b k line (omega arith)) (omega arith) test) ∙ none in
        absurd cc

within_limit : (b : List ℕ) → is_line b ≡ true → ((k : ℕ) → 0 < k → k < length b → decision (take k b) ≡ None) → length b ≤ 107
within_limit b line first = by (nat_le (length b) 107) refl
  where
    by : (t : Bool) → nat_le (length b) 107 ≡ t → length b ≤ 107
    by true test = grind (arith, nat_tests)
    by false test =
        let more : 107 < length b = grind (arith, nat_tests) in
        let none = first 107 (omega arith) more in
        let l : length (take 107 b) ≡ 107 = length-take-le 107 b (omega arith) in
        let full : nat_le 107 (length (take 107 b)) ≡ true = grind (arith, nat_tests) in
        let wrong : ◌≡◌ {A = Say} (Some (Err TooLong)) None =
        sym (said_past_six (take 107 b) false (line_front b 107 line (omega arith)) (omega arith) (no_end_before b 107 line (omega arith) more none) ∙ rw full refl) ∙ none in
        absurd cc

-- bytes that end a line and are decided by no byte before are a line
line_of : (b : List ℕ) → is_line b ≡ true → 6 < length b → ends_line b ≡ true → length b ≤ LINE_LIMIT → ((k : ℕ) → 0 < k → k < length b → decision (take k b) ≡ None) → IsLine b
line_of b line past ends short first = record {
  begins = six_bytes b past (λ k few. beginning_at b k line few (omega arith) (first (k + 1) (omega arith) (omega arith)));
  ends = ends;
  first = λ k more less. no_end_before b k line more less (first k (omega arith) less);
  short = short;
}

-- a byte that ends a line that waits
pub next_is_line : (b : List ℕ) → IsNextInLine b → 6 < length b → ends_line b ≡ true → IsLine b
next_is_line b next past ends =
    let l : length (take (length b - 1) b) ≡ length b - 1 = length-take-le (length b - 1) b (omega arith) in
    let room = next.front.room in
    line_of b (line_of_front b (length b - 1) next.front.line) past ends (omega arith)
    (λ k some less. ap decision (sym (take-take k (length b - 1) b (omega arith))) ∙ waits_nowhere (take (length b - 1) b) next.front.waits k some (omega arith))

is_the_line : (b : List ℕ) (meaning : Meaning) → is_line b ≡ true → decision b ≡ Some (Ok meaning) → ((k : ℕ) → 0 < k → k < length b → decision (take k b) ≡ None) → SaysInLine b meaning
is_the_line b meaning line here first = by (nat_le (length b) 6) (ends_line b) refl refl
  where
    by : (t e : Bool) → nat_le (length b) 6 ≡ t → ends_line b ≡ e → SaysInLine b meaning
    by true e test ends = absurd (early (last_differs (codes "PROXY ") b) refl)
      where
        early : (d : Bool) → last_differs (codes "PROXY ") b ≡ d → ⊥
        early true differs = let wrong : ◌≡◌ {A = Say} (Some (Err NotProxy)) (Some (Ok meaning)) = sym (rw (line, test, differs) refl) ∙ here in absurd cc
        early false differs = let wrong : ◌≡◌ {A = Say} None (Some (Ok meaning)) = sym (rw (line, test, differs) refl) ∙ here in absurd cc
    by false false test ends = absurd (late (nat_le 107 (length b)) refl)
      where
        late : (d : Bool) → nat_le 107 (length b) ≡ d → ⊥
        late true limit = let wrong : ◌≡◌ {A = Say} (Some (Err TooLong)) (Some (Ok meaning)) = sym (said_past_six b false line (six_past (length b) test) ends ∙ rw limit refl) ∙ here in absurd cc
        late false limit = let wrong : ◌≡◌ {A = Say} None (Some (Ok meaning)) = sym (said_past_six b false line (six_past (length b) test) ends ∙ rw limit refl) ∙ here in absurd cc
    by false true test ends =
        let past : 6 < length b = six_past (length b) test in
        let same : ◌≡◌ {A = Say} (Some (meaning_of_line b)) (Some (Ok meaning)) = sym (said_past_six b true line past ends) ∙ here in
        let means : meaning_of_line b ≡ Ok meaning = cc in
        record { line = line_of b line past ends (within_limit b line first) first; says = says_meaning b meaning means }

is_the_block : (b : List ℕ) (meaning : Meaning) → is_line b ≡ false → decision b ≡ Some (Ok meaning) → IsBlock b meaning
is_the_block b meaning line here = by (nat_le 16 (length b)) (head_of (take 16 b)) refl refl
  where
    by : (t : Bool) (r : Result Head V2Fault) → nat_le 16 (length b) ≡ t → head_of (take 16 b) ≡ r → IsBlock b meaning
    by false r test says = absurd (early (early_fault b) refl)
      where
        early : (o : Option V2Fault) → early_fault b ≡ o → ⊥
        early None fault = let wrong : ◌≡◌ {A = Say} None (Some (Ok meaning)) = sym (rw (line, test) (ap (option_map (λ fault. Err (of_head fault))) fault)) ∙ here in absurd cc
        early (Some f) fault = let wrong : ◌≡◌ {A = Say} (Some (Err (of_head f))) (Some (Ok meaning)) = sym (rw (line, test) (ap (option_map (λ fault. Err (of_head fault))) fault)) ∙ here in absurd cc
    by true (Err fault) test says =
        let wrong : ◌≡◌ {A = Say} (Some (Err (of_head fault))) (Some (Ok meaning)) = sym (rw (line, test) (ap (block_decision b) says)) ∙ here in absurd cc
    by true (Ok head) test says = at_end (length b == 16 + head.len) refl
      where
        found : block_decision b (Ok head) ≡ Some (Ok meaning)
        found = sym (rw (line, test) (ap (block_decision b) says)) ∙ here

        at_end : (e : Bool) → (length b == 16 + head.len) ≡ e → IsBlock b meaning
        at_end false ends = let wrong : ◌≡◌ {A = Say} None (Some (Ok meaning)) = rw ends at found in absurd cc
        at_end true ends =
            let same : ◌≡◌ {A = Say} (Some (Ok (meaning_in head.declares (drop 16 b)))) (Some (Ok meaning)) = rw ends at found in
            let means : meaning_in head.declares (drop 16 b) ≡ meaning = cc in
            record { head = head; past = grind (arith, nat_tests); says = says; all = grind (arith, nat_tests); means = sym means }

pub header_is : (b : List ℕ) (meaning : Meaning) → IsHeader b meaning → SaysInLine b meaning ⊎ IsBlock b meaning
header_is b meaning is = by (is_line b) refl
  where
    f : IsDecidedAt b (length b) (Ok meaning)
    f = first_of_status b (length b) (Ok meaning) is

    here : decision b ≡ Some (Ok meaning)
    here = ap decision (sym (take_all (length b) b (omega arith))) ∙ f.here

    by : (t : Bool) → is_line b ≡ t → SaysInLine b meaning ⊎ IsBlock b meaning
    by true line = inl (is_the_line b meaning line here f.first)
    by false line = inr (is_the_block b meaning line here)

pub header_of_either : (b : List ℕ) (meaning : Meaning) → SaysInLine b meaning ⊎ IsBlock b meaning → IsHeader b meaning
header_of_either b meaning (inl line) = ap status (sym (append-nil b)) ∙ line_is_whole b meaning line []
header_of_either b meaning (inr block) = ap status (sym (append-nil b)) ∙ block_is_whole b meaning block []
