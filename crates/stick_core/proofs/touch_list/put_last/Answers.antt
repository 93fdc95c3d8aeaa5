use Rattle.std.proofs.Common.{sym, ap, subst, ◌∙◌}
use Rattle.stick_core.specs.Entries.{is_free}
use Rattle.stick_core.specs.Ring.{Ranking, Lacks}
use Rattle.stick_core.proofs.RingLemmas.{lacks-itself}
use Rattle.stick_core.proofs.PlaceLemmas.{free-has, free-lacks}
use Rattle.stick_core.proofs.touch_list.put_last.Goals as goal

pub leave-requires-clause-has : goal.leave-requires-clause-has
leave-requires-clause-has c = λ is.
    free-has c.args.index.now.entries c.args.touched.now c.args.free.now c.args.place c.requires.kept c.requires.place
    (ap is_free (sym c.entry_at_place-was_free.ensures) ∙ is)

pub leave-requires-clause-lacks : goal.leave-requires-clause-lacks
leave-requires-clause-lacks c = λ is.
    free-lacks c.args.index.now.entries c.args.touched.now c.args.free.now c.args.place c.requires.kept
    (ap is_free (sym c.entry_at_place-was_free.ensures) ∙ is)

pub join-requires-clause-lacks : goal.join-requires-clause-lacks
join-requires-clause-lacks c =
    let P : Ranking → Type 0 = λ r. Lacks c.args.place r.order in
    subst P (sym c.leave.ensures) (lacks-itself c.args.place c.args.free.now.order)
