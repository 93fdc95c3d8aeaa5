use Rattle.std.proofs.Common.{◌≡◌, ◌++◌, drop}
use Rattle.std.specs.List.{flat_map}
use Rattle.event_text.specs.Replies.{track_text}
use Rattle.event_text.proofs.replies.write_tracks.Given as goal

abbrev pub invariant-loop-track : goal.invariant-loop-track
invariant-loop-track l = l.out.items ++ flat_map track_text (drop l.track-index l.tracks) ≡ l.initial.out.items ++ flat_map track_text l.tracks
