use Rattle.std.proofs.Common.{sym, ◌∙◌}
use Rattle.std.specs.Prelude.{◌==◌}
use Rattle.plan_types.specs.declared.track.Track.{Track}
use Rattle.rule_engine.specs.Meaning.{present}
use Rattle.conn_core.proofs.CountingLemmas.{found_first, found_next}
use Rattle.conn_core.proofs.facts.RuleFacts.own_track.Goals as goal

pub returns-in-Some : goal.returns-in-Some
returns-in-Some c =
    sym (found_first (λ (track : Track). track.counter == c.args.counter) (present c.args.self.now.own) (present c.args.tracks.now) c.in-Some.track (sym c.track_by.ensures ∙ c.in-Some.is))

pub returns-in-None : goal.returns-in-None
returns-in-None c =
    c.track_by-in-None.ensures
    ∙ sym (found_next (λ (track : Track). track.counter == c.args.counter) (present c.args.self.now.own) (present c.args.tracks.now) (sym c.track_by.ensures ∙ c.in-None.is))
