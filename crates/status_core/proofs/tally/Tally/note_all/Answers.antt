use Rattle.std.proofs.Common.{◌≡◌, take, sym, ap, ◌∙◌}
use Rattle.std.proofs.lemmas.List.Sums.{fold_more}
use Rattle.status_core.specs.Tally.{all_counted, counted}
use Rattle.status_core.proofs.tally.Tally.note_all.Goals as goal

pub loop-entry-preserved : goal.loop-entry-preserved
loop-entry-preserved c =
    c.note.ensures ∙ ap (λ d. counted d c.entry-item.result) c.loop-entry.invariant
    ∙ ap (counted (all_counted c.args.self.now.decisions (take c.loop-entry.entry-index c.args.entries.now))) c.entry-item.is
    ∙ sym (fold_more counted c.args.self.now.decisions c.args.entries.now c.loop-entry.entry-index c.entry-item.result c.loop-entry-test.true)
