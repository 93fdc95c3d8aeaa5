-- What is known of connections.
use Rattle.std.proofs.Common.{◌≡◌, ℕ, Bool, true, false, Option, Some, None, refl, ap, sym, ◌∙◌, cond, [], ◌++◌, append-nil, arith}
use Rattle.std.specs.Prelude.{◌==◌, ◌&&◌, option_map, if◌then◌else◌}
use Rattle.std.specs.BTreeMap.{get, is_at, BTreeMap, UpdatesBy}
use Rattle.std.specs.Ordering.{nat_cmp, ordering_then, is_eq}
use Rattle.std.specs.declared.cmp.Ordering.{Ordering}
use Rattle.std.specs.declared.cmp.Ordering.TheVariants.{Less, Equal, Greater}
use Rattle.std.proofs.lemmas.Bool.Decides.{nat_tests}
use Rattle.addr_core.specs.declared.addr.Endpoint.{Endpoint}
use Rattle.conn_model.specs.declared.event.ConnId.{ConnId}
use Rattle.conn_model.specs.declared.reply.Said.{Said}
use Rattle.conn_model.specs.Words.{is_conn}
use Rattle.audit_core.specs.Ended.{known_on, line_on}
use Rattle.audit_core.specs.Printing.{name_cmp, name_of, with_known, Noted}
use Rattle.audit_core.specs.declared.journal.Known.{Known}
use Rattle.audit_core.specs.declared.journal.Name.{Name}

pub ext : {A B : Type 0} → (f g : A → B) → ((x : A) → f x ≡ g x) → f ≡ g
ext f g same = λ i x. same x i

-- ---- names

cmp_eq : (a b : ℕ) → is_eq (nat_cmp a b) ≡ (a == b)
cmp_eq a b = grind (arith, nat_tests)

then_eq : (a b : Ordering) → is_eq (ordering_then a b) ≡ (is_eq a && is_eq b)
then_eq Less b = refl
then_eq Equal b = refl
then_eq Greater b = refl

pub name_same : (id other : ConnId) → is_at (name_cmp (name_of id)) (name_of other) ≡ is_conn other.frontend other.serial id
name_same id other = then_eq (nat_cmp id.frontend other.frontend) (nat_cmp id.serial other.serial) ∙ both (cmp_eq id.frontend other.frontend) (cmp_eq id.serial other.serial)
  where
    both : {a b c d : Bool} → a ≡ b → c ≡ d → (a && c) ≡ (b && d)
    both {a} {b} {c} {d} first second = rw (first, second) refl

-- a map with one name more, or without it
pub updated : (m n : BTreeMap Name Known) (id : ConnId) (what : Option Known) → UpdatesBy name_cmp (name_cmp (name_of id)) m n what
    → (λ other. get name_cmp n (name_of other)) ≡ with_known id what (λ other. get name_cmp m (name_of other))
updated m n id what is = ext _ _ (λ other. is.0 (name_of other) ∙ ap (λ b. cond b what (get name_cmp m (name_of other))) (name_same id other))

and_true : (a b : Bool) → (a && b) ≡ true → (a ≡ true) × (b ≡ true)
and_true true b is = (refl, is)
and_true false b is = absurd (cc)

same_conn : (id other : ConnId) → is_conn other.frontend other.serial id ≡ true → id ≡ other
same_conn id other is =
    let both = and_true (id.frontend == other.frontend) (id.serial == other.serial) is in
    let first = both.0 in
    let second = both.1 in
    let frontend : id.frontend ≡ other.frontend = grind (arith, nat_tests, first) in
    let serial : id.serial ≡ other.serial = grind (arith, nat_tests, second) in
    let a : id ≡ record { frontend = other.frontend; serial = id.serial } = ap (λ n. record { frontend = n; serial = id.serial }) frontend in
    a ∙ ap (λ n. record { frontend = other.frontend; serial = n }) serial

-- ---- one connection

-- what is known of a connection is changed by what was
pub with_own : (known : ConnId → Option Known) (id : ConnId) (change : Option Known → Option Known)
    → with_known id (change (known id)) known ≡ (λ other. if is_conn other.frontend other.serial id then change (known other) else known other)
with_own known id change = ext _ _ (λ other. by other (is_conn other.frontend other.serial id) refl)
  where
    by : (other : ConnId) (b : Bool) → is_conn other.frontend other.serial id ≡ b
        → with_known id (change (known id)) known other ≡ (if is_conn other.frontend other.serial id then change (known other) else known other)
    by other true same = rw same (ap (λ who. change (known who)) (same_conn id other same))
    by other false apart = rw apart refl

pub kept_known : (known : ConnId → Option Known) (id : ConnId) → known ≡ (λ other. if is_conn other.frontend other.serial id then known other else known other)
kept_known known id = ext _ _ (λ other. by other (is_conn other.frontend other.serial id))
  where
    by : (other : ConnId) (b : Bool) → known other ≡ (if b then known other else known other)
    by other true = refl
    by other false = refl

pub known_twice : (known : ConnId → Option Known) (id : ConnId) (first last : Option Known) → with_known id last (with_known id first known) ≡ with_known id last known
known_twice known id first last = ext _ _ (λ other. by other (is_conn other.frontend other.serial id) refl)
  where
    by : (other : ConnId) (b : Bool) → is_conn other.frontend other.serial id ≡ b → with_known id last (with_known id first known) other ≡ with_known id last known other
    by other true same = rw same refl
    by other false apart = rw apart refl

-- ---- what is noted

pub offer_noted : (new mid old : Noted) (id : ConnId) (before : Option Known) (known : Known) (offer : Endpoint × ℕ) → Some known ≡ before
    → mid ≡ record { known = with_known id None old.known; unsent = old.unsent }
    → new ≡ record { known = with_known id (Some (record { peer = known.peer; offered = Some offer })) mid.known; unsent = mid.unsent }
    → new ≡ record { known = with_known id (option_map (λ k. record { peer = k.peer; offered = Some offer }) before) old.known; unsent = old.unsent }
offer_noted new mid old id before known offer was mid_is new_is =
    let offered : Option Known = Some (record { peer = known.peer; offered = Some offer }) in
    new_is
    ∙ ap (λ m. record { known = with_known id offered m.known; unsent = m.unsent }) mid_is
    ∙ ap (λ w. record { known = w; unsent = old.unsent }) (known_twice old.known id None offered)
    ∙ ap (λ b. record { known = with_known id (option_map (λ k. record { peer = k.peer; offered = Some offer }) b) old.known; unsent = old.unsent }) was

-- a reply that ends nothing
pub said_noted : (new old : Noted) (id : ConnId) (change : Option Known → Option Known) (peer : Option Endpoint) (said : Said)
    → known_on old.known peer said ≡ (λ other. if is_conn other.frontend other.serial id then change (old.known other) else old.known other) → line_on old.known peer said ≡ []
    → new ≡ record { known = with_known id (change (old.known id)) old.known; unsent = old.unsent }
    → new ≡ record { known = known_on old.known peer said; unsent = old.unsent ++ line_on old.known peer said }
said_noted new old id change peer said known line new_is =
    new_is
    ∙ ap (λ w. record { known = w; unsent = old.unsent }) (with_own old.known id change ∙ sym known)
    ∙ ap (λ xs. record { known = known_on old.known peer said; unsent = xs }) (sym (append-nil old.unsent) ∙ ap (λ xs. old.unsent ++ xs) (sym line))
