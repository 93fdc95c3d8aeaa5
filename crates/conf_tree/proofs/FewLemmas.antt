-- A configuration has at most 64 frontends and 64 backends.
use Rattle.std.proofs.Common.{◌≡◌, ℕ, suc, ◌+◌, ◌≤◌, ◌<◌, Bool, true, false, nat_le, List, [], ◌∷◌, ◌++◌, length, filter, sym, ap, subst, ◌∙◌, if◌then◌else◌}
use native.Mathlib.Omega.{arith}
use Rattle.std.proofs.lemmas.List.Elements.{filter_map-append}
use Rattle.conf_tree.specs.declared.claim.Claim.{Claim}
use Rattle.conf_tree.specs.declared.tree.ConfigLine.{ConfigLine}
use Rattle.conf_tree.specs.declared.tree.SectionPlace.{SectionPlace}
use Rattle.conf_line.specs.declared.statement.Statement.{Statement}
use Rattle.conf_line.specs.declared.statement.Statement.TheVariants as statements
use Rattle.conf_tree.specs.Config.{claim_of, claims_of, is_frontend, is_backend, is_full}
use Rattle.conf_tree.specs.Few.{FewSections}

-- Some of a list are not more than all.
pub filtered : {X : Type 0} (test : X → Bool) (xs : List X) → length (filter test xs) ≤ length xs
filtered test [] = (omega arith)
filtered {X} test (x ∷ xs) = by (filtered test xs) (test x)
  where
    by : length (filter test xs) ≤ length xs → (b : Bool) → length (if b then x ∷ filter test xs else filter test xs) ≤ suc (length xs)
    by few true = (omega (arith, few))
    by few false = (omega (arith, few))

pub too_few : (most : ℕ) (test : ConfigLine → Bool) (items : List ConfigLine) → length items < most → nat_le most (length (filter test items)) ≡ false
too_few most test items less =
    let few : length (filter test items) ≤ length items = filtered test items in
    grind (arith, few, less)

-- One more.

counted : (test : Claim → Bool) (xs ys : List Claim) → length (filter test (xs ++ ys)) ≡ length (filter test xs) + length (filter test ys)
counted test [] ys = (omega arith)
counted test (x ∷ xs) ys = by (counted test xs ys) (test x)
  where
    by : length (filter test (xs ++ ys)) ≡ length (filter test xs) + length (filter test ys)
        → (b : Bool) → length (if b then x ∷ filter test (xs ++ ys) else filter test (xs ++ ys)) ≡ length (if b then x ∷ filter test xs else filter test xs) + length (filter test ys)
    by more true = ap (λ n. suc n) more ∙ (omega arith)
    by more false = more

pub below : (n : ℕ) → nat_le 64 n ≡ false → n + 1 ≤ 64
below n is = grind (arith, is)

frontends_of : (items : List ConfigLine) (line : ℕ) (place : SectionPlace) (s : Statement) → is_full items place s ≡ false → length (filter is_frontend (claims_of items)) ≤ 64
    → length (filter is_frontend (claims_of items)) + length (filter is_frontend (claims_of (record { line = line; place = place; statement = s } ∷ []))) ≤ 64
frontends_of items line place (statements.Frontend name) full few = below (length (filter is_frontend (claims_of items))) full
frontends_of items line place statement full few = (omega arith)

backends_of : (items : List ConfigLine) (line : ℕ) (place : SectionPlace) (s : Statement) → is_full items place s ≡ false → length (filter is_backend (claims_of items)) ≤ 64
    → length (filter is_backend (claims_of items)) + length (filter is_backend (claims_of (record { line = line; place = place; statement = s } ∷ []))) ≤ 64
backends_of items line place (statements.Backend name) full few = below (length (filter is_backend (claims_of items))) full
backends_of items line place statement full few = (omega arith)

joined : (test : Claim → Bool) (items : List ConfigLine) (item : ConfigLine)
    → length (filter test (claims_of (items ++ item ∷ []))) ≡ length (filter test (claims_of items)) + length (filter test (claims_of (item ∷ [])))
joined test items item =
    ap (λ cs. length (filter test cs)) (filter_map-append (λ i. claim_of i.place i.statement) items (item ∷ [])) ∙ counted test (claims_of items) (claims_of (item ∷ []))

pub few_more : (items : List ConfigLine) (item : ConfigLine) → is_full items item.place item.statement ≡ false → FewSections items → FewSections (items ++ item ∷ [])
few_more items item full few = (
  subst (λ n. n ≤ 64) (sym (joined is_frontend items item)) (frontends_of items item.line item.place item.statement full few.0),
  subst (λ n. n ≤ 64) (sym (joined is_backend items item)) (backends_of items item.line item.place item.statement full few.1),
)
