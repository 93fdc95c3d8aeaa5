-- No side is overdue before its first end.
use Rattle.std.proofs.Common.{inl, inr, ℕ, ◌≡◌, ◌<◌, ◌≤◌, ◌+◌, ◌⊎◌, ◌∙◌, ap, sym, subst, Bool, true, false, refl, arith}
use Rattle.std.specs.Prelude.{IsTrue, nat_le, min, ◌==◌, ◌&&◌, not, None, if◌then◌else◌}
use Rattle.std.proofs.lemmas.Bool.Decides.{nat_tests}
use Rattle.link_core.specs.declared.idle.Side.{Side}
use Rattle.link_core.specs.Idle.{GoesOn, due_of, is_overdue, overdue, first_end}

last_fails : (a b c : Bool) → c ≡ false → (a && b && c) ≡ false
last_fails true true c is = is
last_fails true false c is = refl
last_fails false b c is = refl

middle_fails : (a b c : Bool) → b ≡ false → (a && b && c) ≡ false
middle_fails true b c is = ap (λ b. b && c) is
middle_fails false b c is = refl

is_later : (due moment : ℕ) → moment < due → nat_le due moment ≡ false
is_later due moment before = grind (arith, nat_tests)

bound : (now moment since limit later : ℕ) (waited : Bool) → moment < min 0xFFFF_FFFF_FFFF_FFFF ((if waited then min since now else now) + limit)
    → (IsTrue waited × (later ≡ since)) ⊎ (now ≤ later) → moment < min 0xFFFF_FFFF_FFFF_FFFF (later + limit)
bound now moment since limit later true before (inl (t, is)) = grind (arith, nat_tests)
bound now moment since limit later true before (inr begun) = grind (arith, nat_tests)
bound now moment since limit later false before (inl (t, is)) = grind (arith, nat_tests)
bound now moment since limit later false before (inr begun) = grind (arith, nat_tests)

-- A side goes on without being overdue until then.
pub still : (now moment : ℕ) (side later : Side) → moment < first_end now side → GoesOn now side later → is_overdue moment later ≡ false
still now moment side later before goes = by (side.limit == 0) refl before
  where
    by : (none : Bool) → (side.limit == 0) ≡ none
        → moment < (if none then 0xFFFF_FFFF_FFFF_FFFF else min 0xFFFF_FFFF_FFFF_FFFF ((if side.is_waited_for then min side.since now else now) + side.limit))
        → is_overdue moment later ≡ false
    by true is earlier = middle_fails later.is_waited_for (not (later.limit == 0)) (nat_le (due_of later) moment) (ap (λ n. not (n == 0)) goes.limit ∙ ap not is)
    by false is earlier = last_fails later.is_waited_for (not (later.limit == 0)) (nat_le (due_of later) moment) (is_later (due_of later) moment (subst (λ n. moment < min 0xFFFF_FFFF_FFFF_FFFF (later.since + n)) (sym goes.limit) (bound now moment side.since side.limit later.since side.is_waited_for earlier goes.since)))

neither : (moment : ℕ) (client server : Side) → is_overdue moment client ≡ false → is_overdue moment server ≡ false → overdue moment client server ≡ None
neither moment client server quiet also = rw (quiet, also) refl

least_left : (moment a b : ℕ) → moment < min a b → moment < a
least_left moment a b before = grind (arith, nat_tests)

least_right : (moment a b : ℕ) → moment < min a b → moment < b
least_right moment a b before = grind (arith, nat_tests)

pub both_still : (now moment : ℕ) (client server later_client later_server : Side) → moment < min (first_end now client) (first_end now server)
    → GoesOn now client later_client → GoesOn now server later_server → overdue moment later_client later_server ≡ None
both_still now moment client server later_client later_server before goes also =
    neither moment later_client later_server
    (still now moment client later_client (least_left moment (first_end now client) (first_end now server) before) goes)
    (still now moment server later_server (least_right moment (first_end now client) (first_end now server) before) also)
