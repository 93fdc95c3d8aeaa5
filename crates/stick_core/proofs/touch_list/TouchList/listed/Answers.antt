use Rattle.std.proofs.Common.{◌≡◌, Some, take, sym, ap, ◌∙◌, ◌++◌, ◌∷◌, [], arith}
use Rattle.std.specs.Prelude.{slice_get}
use Rattle.stick_core.specs.Entries.{living}
use Rattle.stick_core.specs.Places.{ranked}
use Rattle.stick_core.specs.PlainEntries.{plain}
use Rattle.stick_core.proofs.PlaceLemmas.{step-below, step-list, step-missing, step-next}
use Rattle.stick_core.proofs.RingLemmas.{has-at}
use Rattle.stick_core.proofs.touch_list.TouchList.listed.Goals as goal
use Rattle.stick_core.proofs.touch_list.TouchList.listed.Goals.{in-Some+in_ok-push_living, in_default}

pub entry_at_place-entry-requires : goal.entry_at_place-entry-requires
entry_at_place-entry-requires c =
    step-below c.self.inside.index.entries c.self.inside.touched c.self.inside.free c.loop.counter c.in-Some.place c.self.invariant (sym c.loop.invariant.1 ∙ c.in-Some.is)

pub next-next-requires : goal.next-next-requires
next-next-requires c = has-at c.self.inside.touched.order c.loop.counter c.in-Some.place (sym c.loop.invariant.1 ∙ c.in-Some.is)

pub loop-preserved : goal.loop-preserved
loop-preserved c =
    elim c.match-next.branch [
      | in-Some+in_ok-push_living w ↦
          let entries = c.self.inside.index.entries in
          let touched = c.self.inside.touched in
          let at : slice_get touched.order c.loop.counter ≡ Some w.in-Some.place = sym c.loop.invariant.1 ∙ w.in-Some.is in (
            ap (λ l. l.items) w.list-is ∙ w.in_ok-push_living.ensures
                ∙ ap (λ l. l ++ plain (living c.args.expire c.args.moment (w.entry_at_place-entry.result ∷ []))) c.loop.invariant.0
                ∙ ap (λ e. plain (living c.args.expire c.args.moment (ranked entries (take c.loop.counter touched.order))) ++ plain (living c.args.expire c.args.moment (e ∷ []))) w.entry_at_place-entry.ensures
                ∙ step-list c.args.expire c.args.moment entries touched c.loop.counter w.in-Some.place at,
            w.next-is ∙ w.next-next.ensures ∙ step-next entries touched c.self.inside.free c.loop.counter w.in-Some.place c.self.invariant at,
          )
      | in_default w ↦
          absurd (step-missing c.self.inside.index.entries c.self.inside.touched c.self.inside.free c.loop.counter c.self.invariant
          (omega (arith, c.loop-test.true, c.len-end.ensures))
          (sym c.loop.invariant.1 ∙ w.in_default.is))
    ]
