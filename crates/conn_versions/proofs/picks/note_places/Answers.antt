use Rattle.std.proofs.Common.{◌≡◌, ◌<◌, true, length, ◌∙◌}
use Rattle.slot_core.specs.Counts.{named_at}
use Rattle.slot_core.proofs.CountLemmas.{still_named}
use Rattle.list_core.proofs.Items.{length-set}
use Rattle.conn_versions.proofs.Identities.{below_all, note_more}
use Rattle.conn_versions.proofs.picks.note_places.Goals as goal

pub loop-ix-preserved : goal.loop-ix-preserved
loop-ix-preserved c =
    rw c.note.ensures (record {
      many = length-set c.loop-ix.named _ true ∙ c.loop-ix.invariant.many;
      noted = note_more c.loop-ix.named c.args.places.now c.loop-ix.ix-index (record { place = 0 }) c.loop-ix-test.true c.loop-ix.invariant.noted;
      still_named = λ place is. still_named _ c.loop-ix.named place (c.loop-ix.invariant.still_named place is);
    })

pub returns-clause-noted : goal.returns-clause-noted
returns-clause-noted c =
    below_all (λ ix. ix.place < length c.loop-ix.named → named_at ix.place c.loop-ix.named ≡ true) c.args.places.now c.loop-ix.ix-index c.loop-ix.invariant.noted c.loop-ix-test.false
