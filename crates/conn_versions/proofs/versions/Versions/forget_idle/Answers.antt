use Rattle.std.proofs.Common.{◌≡◌, ℕ, true, false, Some, length, refl, sym, ap, ◌∙◌, arith}
use Rattle.std.specs.Prelude.{nat_lt, not, IsSome, ◌==◌, ◌||◌}
use Rattle.std.specs.Option.{option_map_or}
use Rattle.std.proofs.lemmas.Bool.{eq-eqb, false≢true}
use Rattle.conn_model.specs.Answer.{version_at}
use Rattle.conn_model.specs.Words.{newest}
use Rattle.conn_model.proofs.Lists.{or_left}
use Rattle.conn_model.proofs.Versions.{newest-filter}
use Rattle.conn_versions.specs.Judged.{in_use, is_in_use, judged_of}
use Rattle.conn_versions.proofs.Judged.{all_pass, idle_left, idle_less, no_versions, other_number, still_passes}
use Rattle.conn_versions.proofs.versions.Versions.forget_idle.Goals as goal

pub loop-number-preserved : goal.loop-number-preserved
loop-number-preserved c =
    let force = c.in-Some.newest.now.number in
    let old = c.args.self.now in
    let now = c.loop-number.self in
    let number = c.in-Some-first_idle.number in
    let idle = c.in-Some-first_idle.ensures.some in
    let less = idle_less now.versions number idle.0 in
    let is = ap length c.forget.ensures.versions in
    let no_more = c.loop-number.invariant.no_more in
    let was : is_in_use (judged_of old) force number ≡ false = ap (λ n. (number == force) || nat_lt 0 n) (sym (c.loop-number.invariant.judged number idle.0)) ∙ idle.1 in
    record {
      left = ap (in_use (judged_of old) force) c.forget.ensures.versions ∙ idle_left (is_in_use (judged_of old) force) now.versions number was ∙ c.loop-number.invariant.left;
      counts = c.forget.ensures.counts ∙ c.loop-number.invariant.counts;
      judged = λ other some.
          let kept = still_passes (λ n. not (n == number)) now.versions other (rw c.forget.ensures.versions at some) in
          c.forget.ensures.judged other (other_number other number kept.0) ∙ c.loop-number.invariant.judged other kept.1;
      no_more = omega (arith, less, is, no_more);
      fewer = λ some. omega (arith, less, is, no_more);
      same = λ none. absurd (false≢true (sym none));
    }

pub loop-number-smaller : goal.loop-number-smaller
loop-number-smaller c =
    let less = idle_less c.loop-number.self.versions c.in-Some-first_idle.number c.in-Some-first_idle.ensures.some.0 in
    let is = ap length c.forget.ensures.versions in
    omega (arith, less, is)

pub returns-in_default-clause-versions : goal.returns-in_default-clause-versions
returns-in_default-clause-versions c =
    rw (no_versions c.args.self.now.versions (ap newest (sym c.as_slice.ensures.versions) ∙ sym c.in_default.ensures)) refl

pub returns-then-is_settled-clause-versions : goal.returns-then-is_settled-clause-versions
returns-then-is_settled-clause-versions c =
    let old = c.args.self.now in
    sym (all_pass (is_in_use (judged_of old) (option_map_or (λ version. version.number) (newest old.versions) 0)) old.versions (c.is_settled.ensures c.if-is_settled.true))

-- what is left is in use
each_left : (c : goal.After-settle-arg-1) → (number : ℕ) → IsSome (version_at c.loop-number.self.versions number) →
    is_in_use (judged_of c.args.self.now) c.in-Some.newest.now.number number ≡ true
each_left c number some =
    ap (λ n. (number == c.in-Some.newest.now.number) || nat_lt 0 n) (sym (c.loop-number.invariant.judged number some)) ∙ c.in_default-first_idle.ensures.none number some

pub settle-requires : goal.settle-requires
settle-requires c = λ number some.
    let version = c.in-Some.newest.now in
    let force = version.number in
    let old = c.args.self.now in
    let now = c.loop-number.self in
    let test = is_in_use (judged_of old) force in
    let there : newest old.versions ≡ Some version = ap newest (sym c.as_slice.ensures.versions) ∙ sym c.in-Some.ensures in
    let stays : test force ≡ true = or_left (force == force) (nat_lt 0 (judged_of old force)) (eq-eqb force force refl) in
    let last : newest now.versions ≡ Some version =
    ap newest (sym (all_pass test now.versions (each_left c)) ∙ c.loop-number.invariant.left) ∙ newest-filter (λ v. test v.number) old.versions version there stays in
    ap (λ o. is_in_use (judged_of now) (option_map_or (λ v. v.number) o 0) number) last ∙ c.in_default-first_idle.ensures.none number some

pub returns-clause-versions : goal.returns-clause-versions
returns-clause-versions c =
    let force = c.in-Some.newest.now.number in
    let old = c.args.self.now in
    let there : newest old.versions ≡ Some c.in-Some.newest.now = ap newest (sym c.as_slice.ensures.versions) ∙ sym c.in-Some.ensures in
    let each : (number : ℕ) → IsSome (version_at c.loop-number.self.versions number) → is_in_use (judged_of old) force number ≡ true =
    λ number some. ap (λ n. (number == force) || nat_lt 0 n) (sym (c.loop-number.invariant.judged number some)) ∙ c.in_default-first_idle.ensures.none number some in
    ap (λ v. v.versions) c.settle.ensures
    ∙ sym (all_pass (is_in_use (judged_of old) force) c.loop-number.self.versions each) ∙ c.loop-number.invariant.left
    ∙ ap (λ o. in_use (judged_of old) (option_map_or (λ version. version.number) o 0) old.versions) (sym there)
