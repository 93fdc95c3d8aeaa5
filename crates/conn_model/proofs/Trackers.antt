-- How often a key is tracked, in two lists.
use Rattle.std.proofs.Common.{◌≡◌, ◌+◌, List, ◌++◌, length, ap, ◌∙◌}
use Rattle.std.specs.Prelude.{filter}
use Rattle.std.proofs.lemmas.List.{length-append}
use Rattle.std.proofs.lemmas.List.Elements.{filter-append}
use Rattle.addr_core.specs.declared.addr.Addr.{Addr}
use Rattle.plan_types.specs.declared.track.TableId.{TableId}
use Rattle.plan_types.specs.declared.track.Track.{Track}
use Rattle.conn_model.specs.Tables.{is_of, trackers}

pub trackers-append : (a b : List Track) (id : TableId) (key : Addr) → trackers (a ++ b) id key ≡ trackers a id key + trackers b id key
trackers-append a b id key = ap length (filter-append (is_of id key) a b) ∙ length-append (filter (is_of id key) a) (filter (is_of id key) b)
