-- What a direction carries.
use Rattle.std.proofs.Common.{◌≡◌, ℕ, List, [], Option, sym, subst}
use Rattle.relay_core.specs.Flow.{Held}
use Rattle.relay_core.specs.Law.{HasCarried, Stream}
use Rattle.relay_core.specs.Relay.{stream_of}
use Rattle.relay_core.proofs.Runs.{carries_nothing, has_carried_both}

pub carried_nothing : (a : Stream) → HasCarried a a
carried_nothing a = ([], [], carries_nothing a)

-- one burst more
pub carried_more : (a : Stream) (left more : Option (List ℕ)) (flow next : Held) (held written : Option (List ℕ)) → HasCarried a (stream_of left flow held)
    → HasCarried (stream_of left flow held) (stream_of more next written) → HasCarried a (stream_of more next written)
carried_more a left more flow next held written first then = has_carried_both a (stream_of left flow held) (stream_of more next written) first then

-- the end of the writing, which writes nothing
pub carried_ended : (a : Stream) (left : Option (List ℕ)) (flow : Held) (held ended : Option (List ℕ)) → ended ≡ held → HasCarried a (stream_of left flow held) → HasCarried a (stream_of left flow ended)
carried_ended a left flow held ended same carried = subst (λ w. HasCarried a (stream_of left flow w)) (sym same) carried
