use Rattle.std.proofs.Common.{◌≡◌, Some, ap, ◌∙◌}
use Rattle.stick_core.specs.Listing.{passed}
use Rattle.stick_core.specs.PlainEntries.{plain, with_tracking, with_trackings}
use Rattle.conn_model.specs.Tables.{trackers}
use Rattle.conn_tables.proofs.TableLemmas.{shown_same, token_is}
use Rattle.conn_tables.proofs.tables.StoredTable.track.Goals as goal

pub returns-clause-plain : goal.returns-clause-plain
returns-clause-plain c = λ tracks counted.
    let stored = c.args.self.now in
    let spare = c.requires.stored.0 in
    let first = c.requires.key.0 in
    let token : c.in-Ok-Some.field-0 ≡ Some c.args.key.now =
    token_is c.args.moment first stored spare c.in-Ok-Some.field-0 c.args.key.now c.args.key.now c.requires.stored.1 (c.in-Ok-Some.ensures.plain_key (trackers first stored.id) c.requires.key.1) c.requires.key.2 in
    let was = plain (passed c.args.moment stored.entries).entries in
    ap plain (shown_same c.args.moment c.track.new.self c.in-Ok-Some.ensures.shown (ap (λ t. t.clock) c.in-Ok-Some.ensures.same))
    ∙ c.in-Ok-Some.ensures.plain_entries (trackers tracks stored.id) counted
    ∙ ap (λ o. with_trackings c.args.moment (trackers tracks stored.id) stored.entries.size o was) token
    ∙ ap (λ n. with_tracking c.args.moment (trackers tracks stored.id) n c.args.key.now was) c.requires.stored.1.size
