-- The binds of a plan, and the tests for them.
use Rattle.std.proofs.Common.{◌≡◌, ◌↔◌, ◌⊎◌, inl, inr, ℕ, zero, suc, ◌<◌, ◌&&◌, ◌||◌, Bool, true, false, eqb, List, [], ◌∷◌, length, map, refl, sym, ap, subst, ◌∙◌}
use native.Mathlib.Omega.{arith}
use Rattle.std.specs.Prelude.{◌==◌, Contains, flat_map}
use Rattle.std.specs.List.{list_any, list_all}
use Rattle.std.specs.Str.{bytes_eq}
use Rattle.std.proofs.lemmas.Bool.Decides.{nat_tests}
use Rattle.std.proofs.lemmas.List.Elements.{Contains-append_left, Contains-append_right, Contains-append_cases}
use Rattle.std.proofs.lemmas.Slice.Eq.{bytes_eq-Decides}
use Rattle.addr_core.specs.Same.{same_addr, same_endpoint}
use Rattle.addr_core.proofs.SameLemmas.{same_addr-is, same_addr-refl}
use Rattle.plan_types.specs.declared.plan.Bind.{Bind}
use Rattle.plan_types.specs.declared.plan.Frontend.{Frontend}
use Rattle.plan_types.specs.declared.plan.Plan.{Plan}
use Rattle.plan_core.specs.Binds.{BindKey, bind_key, bind_keys_in, bind_keys, same_flag, same_bind, has_bind, has_named_bind, has_binds_of, has_all_binds, SameBinds}

-- Tests of one pair.

both_true : (a b : Bool) → (a && b) ≡ true → (a ≡ true) × (b ≡ true)
both_true true b is = (refl, is)
both_true false b is = absurd cc

eqb_same : (a b : ℕ) → eqb a b ≡ true → a ≡ b
eqb_same a b is = grind (arith, nat_tests)

same_eqb : (a : ℕ) → eqb a a ≡ true
same_eqb a = grind (arith, nat_tests)

flag_same : (a b : Bool) → same_flag a b ≡ true → a ≡ b
flag_same true b is = sym is
flag_same false true is = absurd cc
flag_same false false is = refl

same_flag_itself : (a : Bool) → same_flag a a ≡ true
same_flag_itself true = refl
same_flag_itself false = refl

bind_same : (name : List ℕ) (a b : Bind) → same_bind a b ≡ true → bind_key name b ≡ bind_key name a
bind_same name a b is =
    let parts = both_true (same_endpoint a.at b.at) (same_flag a.accept_proxy b.accept_proxy) is in
    let ends = both_true (same_addr a.at.addr b.at.addr) (a.at.port == b.at.port) parts.0 in
    let addr : a.at.addr ≡ b.at.addr = same_addr-is a.at.addr b.at.addr ends.0 in
    let port : a.at.port ≡ b.at.port = eqb_same a.at.port b.at.port ends.1 in
    let flag : a.accept_proxy ≡ b.accept_proxy = flag_same a.accept_proxy b.accept_proxy parts.1 in
    sym (rw (addr, port, flag) refl)

same_bind_of : (name other : List ℕ) (a b : Bind) → bind_key name a ≡ bind_key other b → same_bind a b ≡ true
same_bind_of name other a b is =
    let addr : a.at.addr ≡ b.at.addr = ap (λ bound. bound.addr) is in
    let port : a.at.port ≡ b.at.port = ap (λ bound. bound.port) is in
    let flag : a.accept_proxy ≡ b.accept_proxy = ap (λ bound. bound.accept_proxy) is in
    rw (addr, port, flag) (rw (same_addr-refl b.at.addr, same_eqb b.at.port, same_flag_itself b.accept_proxy) refl)

name_of : (name other : List ℕ) (a b : Bind) → bind_key name a ≡ bind_key other b → name ≡ other
name_of name other a b is = ap (λ bound. bound.frontend) is

-- The binds of a frontend.

first_one : {X : Type 0} (x : X) (xs : List X) → Contains (x ∷ xs) x
first_one x xs = (0, omega arith, refl)

one_later : {X : Type 0} (y x : X) (xs : List X) → Contains xs x → Contains (y ∷ xs) x
one_later y x xs is = (suc is.0, (let less : is.0 < length xs = is.1 in omega arith), is.2)

of_two : {X : Type 0} (y x : X) (xs : List X) → Contains (y ∷ xs) x → (y ≡ x) ⊎ Contains xs x
of_two y x xs (zero, less, is) = inl is
of_two y x xs (suc k, less, is) = inr (k, omega arith, is)

found_bind : (name : List ℕ) (bind : Bind) (binds : List Bind) → list_any (same_bind bind) binds ≡ true → Contains (map (bind_key name) binds) (bind_key name bind)
found_bind name bind [] is = absurd cc
found_bind name bind (first ∷ rest) is = by (same_bind bind first) refl is (λ more. found_bind name bind rest more)
  where
    by : (b : Bool) → same_bind bind first ≡ b → list_any (same_bind bind) (first ∷ rest) ≡ true → (list_any (same_bind bind) rest ≡ true → Contains (map (bind_key name) rest) (bind_key name bind)) →
        Contains (map (bind_key name) (first ∷ rest)) (bind_key name bind)
    by true same has more = subst (λ x. Contains (map (bind_key name) (first ∷ rest)) x) (bind_same name bind first same) (first_one (bind_key name first) (map (bind_key name) rest))
    by false same has more = one_later (bind_key name first) (bind_key name bind) (map (bind_key name) rest) (more (rw same at has))

bind_found : (name other : List ℕ) (bind : Bind) (binds : List Bind) → Contains (map (bind_key other) binds) (bind_key name bind) → (other ≡ name) × (list_any (same_bind bind) binds ≡ true)
bind_found name other bind [] is = absurd (let less : is.0 < 0 = is.1 in omega arith)
bind_found name other bind (first ∷ rest) is = by (of_two (bind_key other first) (bind_key name bind) (map (bind_key other) rest) is) (λ more. bind_found name other bind rest more)
  where
    later : (b : Bool) → list_any (same_bind bind) rest ≡ true → (b || list_any (same_bind bind) rest) ≡ true
    later true has = refl
    later false has = has

    by : (bind_key other first ≡ bind_key name bind) ⊎ Contains (map (bind_key other) rest) (bind_key name bind) →
        (Contains (map (bind_key other) rest) (bind_key name bind) → (other ≡ name) × (list_any (same_bind bind) rest ≡ true)) →
        (other ≡ name) × (list_any (same_bind bind) (first ∷ rest) ≡ true)
    by (inl same) more = (name_of other name first bind same, rw (same_bind_of name other bind first (sym same)) refl)
    by (inr there) more = let found = more there in (found.0, later (same_bind bind first) found.1)

-- The binds of a plan.

found_in : (name : List ℕ) (bind : Bind) (frontend : Frontend) → has_bind name bind frontend ≡ true → Contains (bind_keys_in frontend) (bind_key name bind)
found_in name bind frontend is =
    let parts = both_true (bytes_eq frontend.name name) (list_any (same_bind bind) frontend.binds) is in
    let named : frontend.name ≡ name = (bytes_eq-Decides frontend.name name).0 parts.0 in
    rw named (found_bind name bind frontend.binds parts.1)

in_found : (name : List ℕ) (bind : Bind) (frontend : Frontend) → Contains (bind_keys_in frontend) (bind_key name bind) → has_bind name bind frontend ≡ true
in_found name bind frontend is =
    let found = bind_found name frontend.name bind frontend.binds is in
    let named : bytes_eq frontend.name name ≡ true = (bytes_eq-Decides frontend.name name).1 found.0 in
    rw (named, found.1) refl

found_among : (name : List ℕ) (bind : Bind) (frontends : List Frontend) → list_any (has_bind name bind) frontends ≡ true → Contains (flat_map bind_keys_in frontends) (bind_key name bind)
found_among name bind [] is = absurd cc
found_among name bind (first ∷ rest) is = by (has_bind name bind first) refl is (λ more. found_among name bind rest more)
  where
    by : (b : Bool) → has_bind name bind first ≡ b → list_any (has_bind name bind) (first ∷ rest) ≡ true → (list_any (has_bind name bind) rest ≡ true → Contains (flat_map bind_keys_in rest) (bind_key name bind)) →
        Contains (flat_map bind_keys_in (first ∷ rest)) (bind_key name bind)
    by true has is more = Contains-append_left (bind_keys_in first) (flat_map bind_keys_in rest) (bind_key name bind) (found_in name bind first has)
    by false has is more = Contains-append_right (bind_keys_in first) (flat_map bind_keys_in rest) (bind_key name bind) (more (rw has at is))

among_found : (name : List ℕ) (bind : Bind) (frontends : List Frontend) → Contains (flat_map bind_keys_in frontends) (bind_key name bind) → list_any (has_bind name bind) frontends ≡ true
among_found name bind [] is = absurd (let less : is.0 < 0 = is.1 in omega arith)
among_found name bind (first ∷ rest) is =
    by (Contains-append_cases (bind_keys_in first) (flat_map bind_keys_in rest) (bind_key name bind) is) (λ more. among_found name bind rest more)
  where
    later : (b : Bool) → list_any (has_bind name bind) rest ≡ true → (b || list_any (has_bind name bind) rest) ≡ true
    later true has = refl
    later false has = has

    by : Contains (bind_keys_in first) (bind_key name bind) ⊎ Contains (flat_map bind_keys_in rest) (bind_key name bind) →
        (Contains (flat_map bind_keys_in rest) (bind_key name bind) → list_any (has_bind name bind) rest ≡ true) → list_any (has_bind name bind) (first ∷ rest) ≡ true
    by (inl here) more = rw (in_found name bind first here) refl
    by (inr there) more = later (has_bind name bind first) (more there)

-- All binds of one plan are among those of another.

within_bind : (plan : Plan) (name : List ℕ) (binds : List Bind) (bound : BindKey) → list_all (has_named_bind plan name) binds ≡ true → Contains (map (bind_key name) binds) bound → Contains (bind_keys plan) bound
within_bind plan name [] bound all is = absurd (let less : is.0 < 0 = is.1 in omega arith)
within_bind plan name (first ∷ rest) bound all is =
    let parts = both_true (has_named_bind plan name first) (list_all (has_named_bind plan name) rest) all in
    by parts.0 (of_two (bind_key name first) bound (map (bind_key name) rest) is) (λ there. within_bind plan name rest bound parts.1 there)
  where
    by : has_named_bind plan name first ≡ true → (bind_key name first ≡ bound) ⊎ Contains (map (bind_key name) rest) bound → (Contains (map (bind_key name) rest) bound → Contains (bind_keys plan) bound) → Contains (bind_keys plan) bound
    by has (inl same) more = subst (λ x. Contains (bind_keys plan) x) same (found_among name first plan.frontends has)
    by has (inr there) more = more there

within : (plan : Plan) (frontends : List Frontend) (bound : BindKey) → list_all (has_binds_of plan) frontends ≡ true → Contains (flat_map bind_keys_in frontends) bound → Contains (bind_keys plan) bound
within plan [] bound all is = absurd (let less : is.0 < 0 = is.1 in omega arith)
within plan (first ∷ rest) bound all is =
    let parts = both_true (has_binds_of plan first) (list_all (has_binds_of plan) rest) all in
    by parts.0 (Contains-append_cases (bind_keys_in first) (flat_map bind_keys_in rest) bound is) (λ there. within plan rest bound parts.1 there)
  where
    by : has_binds_of plan first ≡ true → Contains (bind_keys_in first) bound ⊎ Contains (flat_map bind_keys_in rest) bound → (Contains (flat_map bind_keys_in rest) bound → Contains (bind_keys plan) bound) → Contains (bind_keys plan) bound
    by has (inl here) more = within_bind plan first.name first.binds bound has here
    by has (inr there) more = more there

bind_within : (plan : Plan) (name : List ℕ) (binds : List Bind) → ((bound : BindKey) → Contains (map (bind_key name) binds) bound → Contains (bind_keys plan) bound) → list_all (has_named_bind plan name) binds ≡ true
bind_within plan name [] all = refl
bind_within plan name (first ∷ rest) all =
    let here : has_named_bind plan name first ≡ true = among_found name first plan.frontends (all (bind_key name first) (first_one (bind_key name first) (map (bind_key name) rest))) in
    let more : list_all (has_named_bind plan name) rest ≡ true = bind_within plan name rest (λ bound is. all bound (one_later (bind_key name first) bound (map (bind_key name) rest) is)) in
    rw (here, more) refl

all_within : (plan : Plan) (frontends : List Frontend) → ((bound : BindKey) → Contains (flat_map bind_keys_in frontends) bound → Contains (bind_keys plan) bound) → list_all (has_binds_of plan) frontends ≡ true
all_within plan [] all = refl
all_within plan (first ∷ rest) all =
    let here : has_binds_of plan first ≡ true = bind_within plan first.name first.binds (λ bound is. all bound (Contains-append_left (bind_keys_in first) (flat_map bind_keys_in rest) bound is)) in
    let more : list_all (has_binds_of plan) rest ≡ true = all_within plan rest (λ bound is. all bound (Contains-append_right (bind_keys_in first) (flat_map bind_keys_in rest) bound is)) in
    rw (here, more) refl

-- the test says whether they are
pub decides_bound : (plan other : Plan) → (has_all_binds plan other ≡ true) ↔ ((bound : BindKey) → Contains (bind_keys other) bound → Contains (bind_keys plan) bound)
decides_bound plan other = (λ all bound is. within plan other.frontends bound all is, λ all. all_within plan other.frontends all)

pub both_ways : (a b : Plan) (r : Bool) → r ≡ (has_all_binds a b && has_all_binds b a) → (r ≡ true) ↔ SameBinds a b
both_ways a b r both = (
  λ is bound. (let parts = both_true (has_all_binds a b) (has_all_binds b a) (sym both ∙ is) in ((decides_bound b a).0 parts.1 bound, (decides_bound a b).0 parts.0 bound)),
  λ same. both ∙ rw ((decides_bound a b).1 (λ bound is. (same bound).1 is), (decides_bound b a).1 (λ bound is. (same bound).0 is)) refl,
)
