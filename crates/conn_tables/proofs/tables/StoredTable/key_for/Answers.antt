use Rattle.std.proofs.Common.{ap, ◌∙◌}
use Rattle.stick_core.specs.Listing.{passed}
use Rattle.stick_core.specs.PlainEntries.{plain, tracked_key}
use Rattle.conn_model.specs.Tables.{trackers}
use Rattle.conn_tables.proofs.tables.StoredTable.key_for.Goals as goal

pub returns : goal.returns
returns c = λ moment tracks agree.
    let stored = c.args.self.now in
    let entries = plain (passed moment stored.entries).entries in
    c.key_for.ensures.plain_value moment (trackers tracks stored.id) agree
    ∙ ap (λ kind. tracked_key (trackers tracks stored.id) kind stored.entries.size entries c.args.addr.now) c.requires.kind
    ∙ ap (λ size. tracked_key (trackers tracks stored.id) stored.table.kind size entries c.args.addr.now) c.requires.size
