-- The bytes that a parser in a block was fed.
use Rattle.std.proofs.Common.{◌≡◌, ℕ, zero, suc, ◌+◌, ◌-◌, ◌<◌, ◌≤◌, min, Bool, true, false, List, [], ◌∷◌, ◌++◌, length, take, drop, Some, None, Option, refl, ◌∙◌, sym, ap, arith, length-append, nat_lt}
use Rattle.std.specs.Prelude.{Result, Ok, Err}
use Rattle.std.proofs.lemmas.Bool.Decides.{nat_tests}
use Rattle.std.proofs.lemmas.List.{length-take, take-take, take-append-le, drop-append-le}
use Rattle.arrayvec.specs.ArrayVec.{ArrayVec}
use Rattle.pp_v1.specs.declared.meaning.Meaning.TheVariants.{Real, Declared}
use Rattle.pp_v2.specs.declared.head.Family.{Family}
use Rattle.pp_v2.specs.declared.head.Head.{Head}
use Rattle.pp_v2.specs.declared.fault.V2Fault.{V2Fault}
use Rattle.pp_v2.specs.Head.{head_of, pair_length}
use Rattle.pp_v2.specs.Block.{pair_in}
use Rattle.pp_any.specs.declared.rest.Rest.{Rest}
use Rattle.pp_any.specs.declared.rest.Rest.TheVariants.{Read, Block, Skip}
use Rattle.pp_any.specs.Status.{Whole, status, decision, is_line, meaning_in}
use Rattle.pp_any.specs.Rest.{IsInBlock, IsRest, rest_of, rest_after, rest_in_block}
use Rattle.pp_any.proofs.Steps.{status_from-append}
use Rattle.pp_any.proofs.Feeding.{is_line-append}
use Rattle.pp_any.proofs.Blocks.{Lacks, block_waits, block_ends}

below : (n : ℕ) → 16 ≤ n → nat_lt n 16 ≡ false
below n le = grind (arith, nat_tests)

above : (n : ℕ) → nat_lt n 16 ≡ false → 16 ≤ n
above n test = grind (arith, nat_tests)

-- the rest of bytes past the first 16
pub rest_past : (b : List ℕ) (head : Head) → is_line b ≡ false → 16 ≤ length b → head_of (take 16 b) ≡ Ok head → rest_of b ≡ rest_in_block head.declares head.len b
rest_past b head version past says = rw (version, below (length b) past) (ap (rest_after b) says)

-- a rest of a block is of bytes past the first 16
pub record PastHead (b : List ℕ) (rest : Rest) : Type 0 where
  pub head : Head
  pub version : is_line b ≡ false
  pub past : 16 ≤ length b
  pub says : head_of (take 16 b) ≡ Ok head
  pub rest_is : rest_in_block head.declares head.len b ≡ rest

pub past_head : (b : List ℕ) (rest : Rest) → rest_of b ≡ rest → ((bytes : ArrayVec ℕ) → Read bytes ≡ rest → ⊥) → PastHead b rest
past_head b rest is never = by (is_line b) (nat_lt (length b) 16) (head_of (take 16 b)) refl refl refl
  where
    by : (l s : Bool) (h : Result Head V2Fault) → is_line b ≡ l → nat_lt (length b) 16 ≡ s → head_of (take 16 b) ≡ h → PastHead b rest
    by true s h line short says = absurd (never (record { items = b }) (rw line at is))
    by false true h line short says = absurd (never (record { items = b }) (rw (line, short) at is))
    by false false (Err fault) line short says =
        let found : rest_after b (head_of (take 16 b)) ≡ rest = rw (line, short) at is in
        absurd (never (record { items = b }) (ap (rest_after b) (sym says) ∙ found))
    by false false (Ok head) line short says =
        let found : rest_after b (head_of (take 16 b)) ≡ rest = rw (line, short) at is in
        record { head = head; version = line; past = above (length b) short; says = says; rest_is = ap (rest_after b) (sym says) ∙ found }

-- ---- a block that is skipped

pub record Skips (b : List ℕ) (m : ℕ) : Type 0 where
  pub head : Head
  pub lacks : Lacks b head m
  pub none : head.declares ≡ None

skips : (b : List ℕ) (m : ℕ) → rest_of b ≡ Skip m → 0 < m → Skips b m
skips b m is some = let p = past_head b (Skip m) is (λ bytes wrong. absurd cc) in by p.head p.version p.past p.says p.rest_is p.head.declares refl
  where
    by : (head : Head) → is_line b ≡ false → 16 ≤ length b → head_of (take 16 b) ≡ Ok head → rest_in_block head.declares head.len b ≡ Skip m
        → (d : Option Family) → head.declares ≡ d → Skips b m
    by head version past says rest (Some family) declares = let wrong = rw declares at rest in absurd cc
    by head version past says rest None declares =
        let same : Skip (16 + head.len - length b) ≡ Skip m = rw declares at rest in
        let missing : 16 + head.len - length b ≡ m = cc in
        record { head = head; lacks = record { version = version; past = past; says = says; all = omega arith }; none = declares }

pub skip_ends : (b c : List ℕ) (m : ℕ) → IsRest b (Skip m) → 0 < m → m ≤ length c → status (b ++ c) ≡ Whole (length b + m) Real
skip_ends b c m rest some within =
    let s = skips b m rest.1 some in
    status_from-append decision [] b c rest.0 ∙ block_ends b c s.head m s.lacks some within
    ∙ ap (λ d. Whole (length b + m) (meaning_in d (drop 16 (b ++ take m c)))) s.none

-- bytes that go on in a block
lacks-append : (b c : List ℕ) (head : Head) (m : ℕ) → Lacks b head m → length c < m → Lacks (b ++ c) head (m - length c)
lacks-append b c head m lacks less =
    let l = length-append b c in
    let p = lacks.past in
    let a = lacks.all in
    record {
      version = is_line-append b c (omega arith) ∙ lacks.version;
      past = omega arith;
      says = ap head_of (take-append-le 16 b c p) ∙ lacks.says;
      all = omega arith;
    }

missing_is : (b : List ℕ) (head : Head) (m : ℕ) → Lacks b head m → 16 + head.len - length b ≡ m
missing_is b head m lacks = let a = lacks.all in omega arith

pub skip_goes_on : (b c : List ℕ) (m : ℕ) → IsRest b (Skip m) → length c < m → IsRest (b ++ c) (Skip (m - length c))
skip_goes_on b c m rest less =
    let s = skips b m rest.1 (omega arith) in
    let more = lacks-append b c s.head m s.lacks less in (
      status_from-append decision [] b c rest.0 ∙ block_waits b c s.head m s.lacks less,
      rest_past (b ++ c) s.head more.version more.past more.says
          ∙ ap (λ d. rest_in_block d s.head.len (b ++ c)) s.none
          ∙ ap (λ n. Skip n) (missing_is (b ++ c) s.head (m - length c) more),
    )

-- ---- a block with a pair

pub record Declares (b : List ℕ) (family : Family) (bytes : List ℕ) (m : ℕ) : Type 0 where
  pub head : Head
  pub lacks : Lacks b head m
  pub declares : head.declares ≡ Some family
  pub bytes_are : bytes ≡ take (pair_length family) (drop 16 b)

pub declares : (b : List ℕ) (family : Family) (bytes : ArrayVec ℕ) (m : ℕ) → rest_of b ≡ Block family bytes m → 0 < m → Declares b family bytes.items m
declares b family bytes m is some = let p = past_head b (Block family bytes m) is (λ held wrong. absurd cc) in by p.head p.version p.past p.says p.rest_is p.head.declares refl
  where
    by : (head : Head) → is_line b ≡ false → 16 ≤ length b → head_of (take 16 b) ≡ Ok head → rest_in_block head.declares head.len b ≡ Block family bytes m
        → (d : Option Family) → head.declares ≡ d → Declares b family bytes.items m
    by head version past says rest None none = let wrong = rw none at rest in absurd cc
    by head version past says rest (Some f) some_f =
        let same : Block f (record { items = take (pair_length f) (drop 16 b) }) (16 + head.len - length b) ≡ Block family bytes m = rw some_f at rest in
        let missing : 16 + head.len - length b ≡ m = cc in
        let family_is : f ≡ family = cc in
        let held_are : record { items = take (pair_length f) (drop 16 b) } ≡ bytes = cc in
        record {
          head = head;
          lacks = record { version = version; past = past; says = says; all = omega arith };
          declares = some_f ∙ ap (λ f. Some f) family_is;
          bytes_are = sym (ap (λ f. take (pair_length f) (drop 16 b)) (sym family_is) ∙ ap (λ v. v.items) held_are);
        }

-- the first of bytes of which the first were taken before
take-take_append : (n : ℕ) (xs ys : List ℕ) → take n (take n xs ++ ys) ≡ take n (xs ++ ys)
take-take_append zero xs ys = refl
take-take_append (suc n) [] ys = refl
take-take_append (suc n) (x ∷ xs) ys = ap (λ zs. x ∷ zs) (take-take_append n xs ys)

take-append_take : (n m : ℕ) (xs ys : List ℕ) → n ≤ length xs + m → take n (xs ++ take m ys) ≡ take n (xs ++ ys)
take-append_take zero m xs ys within = refl
take-append_take (suc n) m [] ys within = take-take (suc n) m ys (omega arith)
take-append_take (suc n) m (x ∷ xs) ys within = ap (λ zs. x ∷ zs) (take-append_take n m xs ys (omega arith))

pub take-append_front : (n : ℕ) (xs ys : List ℕ) → length xs ≤ n → take n (xs ++ ys) ≡ xs ++ take (n - length xs) ys
take-append_front n [] ys within = let none : n ≡ n - 0 = omega arith in ap (λ k. take k ys) none
take-append_front zero (x ∷ xs) ys within = absurd (omega arith)
take-append_front (suc n) (x ∷ xs) ys within =
    let less : n - length xs ≡ suc n - suc (length xs) = omega arith in
    ap (λ zs. x ∷ zs) (take-append_front n xs ys (omega arith) ∙ ap (λ k. xs ++ take k ys) less)

-- the bytes of the pair that are held after a piece
held : (b c bytes : List ℕ) (family : Family) → 16 ≤ length b → bytes ≡ take (pair_length family) (drop 16 b)
    → take (pair_length family) (bytes ++ c) ≡ take (pair_length family) (drop 16 b ++ c)
held b c bytes family past are = ap (λ e. take (pair_length family) (e ++ c)) are ∙ take-take_append (pair_length family) (drop 16 b) c

pub pair_ends : (b c : List ℕ) (family : Family) (bytes : ArrayVec ℕ) (m : ℕ) → IsRest b (Block family bytes m) → IsInBlock family bytes.items m → m ≤ length c
    → status (b ++ c) ≡ Whole (length b + m) (Declared (pair_in family (take (pair_length family) (bytes.items ++ c))))
pair_ends b c family bytes m rest inside within =
    let d = declares b family bytes m rest.1 inside.some in
    let past = d.lacks.past in
    let enough = inside.enough in
    let bytes_len : length bytes.items ≡ min (pair_length family) (length (drop 16 b)) = ap length d.bytes_are ∙ length-take (pair_length family) (drop 16 b) in
    let room : pair_length family ≤ length (drop 16 b) + m = omega arith in
    let same : take (pair_length family) (drop 16 (b ++ take m c)) ≡ take (pair_length family) (bytes.items ++ c) =
    ap (λ e. take (pair_length family) e) (drop-append-le 16 b (take m c) past)
    ∙ take-append_take (pair_length family) m (drop 16 b) c room
    ∙ sym (held b c bytes.items family past d.bytes_are) in
    status_from-append decision [] b c rest.0 ∙ block_ends b c d.head m d.lacks inside.some within
    ∙ ap (λ o. Whole (length b + m) (meaning_in o (drop 16 (b ++ take m c)))) d.declares
    ∙ ap (λ e. Whole (length b + m) (Declared (pair_in family e))) same

pub pair_goes_on : (b c : List ℕ) (family : Family) (bytes : ArrayVec ℕ) (m : ℕ) → IsRest b (Block family bytes m) → length c < m
    → IsRest (b ++ c) (Block family (record { items = take (pair_length family) (bytes.items ++ c) }) (m - length c))
pair_goes_on b c family bytes m rest less =
    let d = declares b family bytes m rest.1 (omega arith) in
    let past = d.lacks.past in
    let more = lacks-append b c d.head m d.lacks less in
    let same : take (pair_length family) (drop 16 (b ++ c)) ≡ take (pair_length family) (bytes.items ++ c) =
    ap (λ e. take (pair_length family) e) (drop-append-le 16 b c past) ∙ sym (held b c bytes.items family past d.bytes_are) in (
      status_from-append decision [] b c rest.0 ∙ block_waits b c d.head m d.lacks less,
      rest_past (b ++ c) d.head more.version more.past more.says
          ∙ ap (λ o. rest_in_block o d.head.len (b ++ c)) d.declares
          ∙ ap (λ n. Block family (record { items = take (pair_length family) (drop 16 (b ++ c)) }) n) (missing_is (b ++ c) d.head (m - length c) more)
          ∙ ap (λ e. Block family (record { items = e }) (m - length c)) same,
    )
