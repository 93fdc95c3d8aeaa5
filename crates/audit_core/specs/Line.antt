-- The line of a connection that ended.
use Rattle.std.specs.Prelude.{ℕ, List, [], ◌++◌, codes, Option, Some, None}
use Rattle.text_core.specs.Decimal.{decimal}
use Rattle.addr_core.specs.Text.{endpoint_text}
use Rattle.addr_core.specs.declared.addr.Endpoint.{Endpoint}
use Rattle.conn_model.specs.declared.event.ConnId.{ConnId}
use Rattle.conn_model.specs.declared.event.OwnedEvent.{OwnedEvent}
use Rattle.conn_model.specs.declared.event.OwnedEvent.TheVariants.{Accept}
use Rattle.conn_model.specs.declared.reply.Said.{Said}
use Rattle.conn_model.specs.declared.reply.Said.TheVariants.{Wait, Offer, Refuse, Up, Closed, Reloaded, Marked}
use Rattle.event_text.specs.Script.{id_text, why_text}
use Rattle.event_text.specs.Replies.{cause_text}

-- the peer of an event that is an accept
abbrev pub event_peer : OwnedEvent → Option Endpoint
event_peer (Accept listener real) = Some real.source
event_peer event = None

-- the connection and its peer
abbrev pub front_text : ConnId → Endpoint → List ℕ
front_text id peer = codes "conn " ++ id_text id ++ codes " real " ++ endpoint_text peer ++ codes " "

-- the source that was judged and the line of the server, if one was offered
abbrev pub offer_text : Option (Endpoint × ℕ) → List ℕ
offer_text None = []
offer_text (Some offer) = codes "src " ++ endpoint_text offer.0 ++ codes " line " ++ decimal offer.1 ++ codes " "

-- the line of a reply that ends a connection
abbrev pub audit_text : Endpoint → Option (Endpoint × ℕ) → Said → Option (List ℕ)
audit_text peer offered (Wait id used) = None
audit_text peer offered (Offer id used line server to judged send) = None
audit_text peer offered (Refuse id used cause) = Some (front_text id peer ++ codes "refuse " ++ cause_text cause)
audit_text peer offered (Up id) = None
audit_text peer offered (Closed id why) = Some (front_text id peer ++ offer_text offered ++ codes "closed " ++ why_text why)
audit_text peer offered (Reloaded version) = None
audit_text peer offered (Marked line health) = None

-- what is written of a line, if there is one
abbrev pub written_line : Option (List ℕ) → List ℕ
written_line None = []
written_line (Some line) = line
