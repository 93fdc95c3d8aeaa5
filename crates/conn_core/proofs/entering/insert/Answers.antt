use Rattle.rule_engine.specs.Meaning.{present}
use Rattle.conn_core.proofs.EnterLemmas.{has_entered, open_once, possible_once, sorted_once, tracking_once}
use Rattle.conn_core.proofs.entering.insert.Goals as goal

pub track_all-requires-clause-there : goal.track_all-requires-clause-there
track_all-requires-clause-there c = open_once c.args.rows.now c.pass.new.self c.args.id c.requires.coming.0 c.args.arrival.now c.requires.coming.1
    (has_entered c.args.rows.now c.reserve.new.self c.insert.new.self c.pass.new.self c.args.id c.requires.coming.0 c.args.arrival.now c.requires.coming.1 c.in_ok-reserve.ensures.room c.in_ok-reserve.ensures.same c.in_ok-_serial.ensures.ok c.pass.ensures)

pub track_all-requires-clause-sorted : goal.track_all-requires-clause-sorted
track_all-requires-clause-sorted c = sorted_once c.args.rows.now c.pass.new.self c.args.id c.requires.coming.0 c.args.arrival.now c.requires.coming.1
    (has_entered c.args.rows.now c.reserve.new.self c.insert.new.self c.pass.new.self c.args.id c.requires.coming.0 c.args.arrival.now c.requires.coming.1 c.in_ok-reserve.ensures.room c.in_ok-reserve.ensures.same c.in_ok-_serial.ensures.ok c.pass.ensures)

pub track_all-requires-clause-can : goal.track_all-requires-clause-can
track_all-requires-clause-can c = possible_once c.args.rows.now c.pass.new.self c.args.id c.requires.coming.0 c.args.arrival.now c.args.tracks.now c.requires.coming.1
    (has_entered c.args.rows.now c.reserve.new.self c.insert.new.self c.pass.new.self c.args.id c.requires.coming.0 c.args.arrival.now c.requires.coming.1 c.in_ok-reserve.ensures.room c.in_ok-reserve.ensures.same c.in_ok-_serial.ensures.ok c.pass.ensures) c.requires.can

pub returns-clause-ok : goal.returns-clause-ok
returns-clause-ok c =
    tracking_once c.args.rows.now c.pass.new.self c.track_all.new.rows c.args.id c.requires.coming.0 c.args.arrival.now (present c.args.tracks.now) c.requires.coming.1
    (has_entered c.args.rows.now c.reserve.new.self c.insert.new.self c.pass.new.self c.args.id c.requires.coming.0 c.args.arrival.now c.requires.coming.1 c.in_ok-reserve.ensures.room c.in_ok-reserve.ensures.same c.in_ok-_serial.ensures.ok c.pass.ensures) c.track_all.ensures.frontends
    c.track_all.ensures.versions c.track_all.ensures.tables c.track_all.ensures.down
