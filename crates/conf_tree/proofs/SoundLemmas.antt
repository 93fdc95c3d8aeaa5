-- One item more.
use Rattle.std.proofs.Common.{◌≡◌, ◌||◌, Bool, true, false, List, [], ◌∷◌, ◌++◌, Option, Some, None, refl, sym, subst}
use Rattle.std.specs.List.{AllByRecursion, list_any, cons_option}
use Rattle.std.proofs.lemmas.List.{append-nil}
use Rattle.std.proofs.lemmas.List.Elements.{filter_map-append}
use Rattle.conf_tree.specs.declared.claim.Claim.{Claim}
use Rattle.conf_tree.specs.declared.tree.ConfigLine.{ConfigLine}
use Rattle.conf_tree.specs.Config.{claim_of, claims_of, same_claim, is_claim_taken, has_server, section_lines, is_taken}
use Rattle.conf_tree.specs.Sound.{ClaimsDiffer}

pub all_more : {X : Type 0} (P : X → Type 0) (xs : List X) (x : X) → AllByRecursion P xs → P x → AllByRecursion P (xs ++ x ∷ [])
all_more P [] x all one = (one, tt)
all_more P (y ∷ xs) x all one = (all.0, all_more P xs x all.1 one)

pub neither : (a b : Bool) → (a || b) ≡ false → (a ≡ false) × (b ≡ false)
neither true b is = absurd cc
neither false b is = (refl, is)

differ_more : (claims : List Claim) (claim : Claim) → ClaimsDiffer claims → list_any (same_claim claim) claims ≡ false → ClaimsDiffer (claims ++ claim ∷ [])
differ_more [] claim differ none = (tt, tt)
differ_more (first ∷ rest) claim differ none =
    let parts = neither (same_claim claim first) (list_any (same_claim claim) rest) none in
    (all_more (λ later. same_claim later first ≡ false) rest claim differ.0 parts.0, differ_more rest claim differ.1 parts.1)

pub claims_more : (items : List ConfigLine) (item : ConfigLine) → ClaimsDiffer (claims_of items) → is_taken items item.place item.statement ≡ false → ClaimsDiffer (claims_of (items ++ item ∷ []))
claims_more items item differ free =
    subst (λ claims. ClaimsDiffer claims) (sym (filter_map-append (λ i. claim_of i.place i.statement) items (item ∷ [])))
    (by (claim_of item.place item.statement) (neither (is_claim_taken (claims_of items) (claim_of item.place item.statement)) (has_server (section_lines item.place items) item.statement) free).0)
  where
    by : (o : Option Claim) → is_claim_taken (claims_of items) o ≡ false → ClaimsDiffer (claims_of items ++ cons_option o [])
    by None none = subst (λ claims. ClaimsDiffer claims) (sym (append-nil (claims_of items))) differ
    by (Some claim) none = differ_more (claims_of items) claim differ none
