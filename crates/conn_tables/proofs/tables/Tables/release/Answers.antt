use Rattle.std.proofs.Common.{sym, ap, ◌∙◌, ◌++◌, map}
use Rattle.conn_model.specs.Tables.{without_tracks}
use Rattle.conn_tables.specs.Tables.{plain_table}
use Rattle.conn_tables.specs.Tracks.{track_on}
use Rattle.conn_tables.proofs.TableLemmas.{without-append}
use Rattle.conn_tables.proofs.tables.Tables.release.Goals as goal

pub returns-clause-plain : goal.returns-clause-plain
returns-clause-plain c =
    let clock = c.args.self.now.clock in
    let one = c.release_one.new.self in
    let two = c.release_one-2.new.self in
    c.release_one-3.ensures.plain 2
    ∙ ap (λ moment. without_tracks moment (track_on 2 c.args.tracks.sc2) (map (plain_table two.clock) two.tables)) (c.release_one-2.ensures.clock ∙ c.release_one.ensures.clock)
    ∙ ap (without_tracks clock (track_on 2 c.args.tracks.sc2))
    (c.release_one-2.ensures.plain 1
    ∙ ap (λ moment. without_tracks moment (track_on 1 c.args.tracks.sc1) (map (plain_table one.clock) one.tables)) c.release_one.ensures.clock
    ∙ ap (without_tracks clock (track_on 1 c.args.tracks.sc1)) (c.release_one.ensures.plain 0))
    ∙ sym (without-append clock (track_on 0 c.args.tracks.sc0 ++ track_on 1 c.args.tracks.sc1) (track_on 2 c.args.tracks.sc2) (map (plain_table c.args.self.now.clock) c.args.self.now.tables)
    ∙ ap (without_tracks clock (track_on 2 c.args.tracks.sc2)) (without-append clock (track_on 0 c.args.tracks.sc0) (track_on 1 c.args.tracks.sc1) (map (plain_table c.args.self.now.clock) c.args.self.now.tables)))
