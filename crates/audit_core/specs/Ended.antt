-- What an audit writes: the line of each connection that ended, and then the counts; or the line of a fault.
use Rattle.std.specs.Prelude.{◌≡◌, ℕ, List, [], ◌∷◌, ◌++◌, codes, Option, Some, None, option_map, Result, Ok, Err, if◌then◌else◌}
use Rattle.text_core.specs.Decimal.{decimal}
use Rattle.text_core.specs.Parts.{parts, is_line_feed}
use Rattle.addr_core.specs.declared.addr.Endpoint.{Endpoint}
use Rattle.plan_types.specs.declared.plan.Plan.{Plan}
use Rattle.config_core.specs.Meaning.{meaning}
use Rattle.config_core.specs.declared.fault.OpenFault.{OpenFault}
use Rattle.conn_model.specs.declared.event.ConnId.{ConnId}
use Rattle.conn_model.specs.declared.plain.Plain.{Plain}
use Rattle.conn_model.specs.declared.reply.Said.{Said}
use Rattle.conn_model.specs.declared.reply.Said.TheVariants.{Wait, Offer, Refuse, Up, Closed, Reloaded, Marked}
use Rattle.conn_model.specs.History.{Entry, opening, speaks_to, IsLegal}
use Rattle.audit_core.specs.Audit.{fault_text}
use Rattle.audit_core.specs.Line.{audit_text, event_peer}
use Rattle.audit_core.specs.Record.{IsRecord}
use Rattle.audit_core.specs.Verdict.{counts_of, fault_at, history_on, LinePlace}
use Rattle.audit_core.specs.declared.fault.CheckFault.{CheckFault}
use Rattle.audit_core.specs.declared.fault.Checked.{Checked}
use Rattle.audit_core.specs.declared.fault.CheckKind.TheVariants.{Config}
use Rattle.audit_core.specs.declared.journal.Known.{Known}

-- what is known of a connection once an event came: of one that is accepted its peer alone
abbrev pub brought : Option Endpoint → Option Known → Option Known
brought None before = before
brought (Some peer) before = Some (record { peer = peer; offered = None })

-- what is known of a connection after a reply that speaks to it: what it was offered, and nothing once it ended
abbrev pub known_by : Option Endpoint → Option Known → Said → Option Known
known_by peer before (Wait id used) = brought peer before
known_by peer before (Offer id used line server to judged send) = option_map (λ known. record { peer = known.peer; offered = Some (judged.source, line) }) (brought peer before)
known_by peer before (Refuse id used cause) = None
known_by peer before (Up id) = before
known_by peer before (Closed id why) = None
known_by peer before (Reloaded version) = before
known_by peer before (Marked line health) = before

-- what is known of each connection after a reply
abbrev pub known_on : (ConnId → Option Known) → Option Endpoint → Said → ConnId → Option Known
known_on known peer said id = if speaks_to id.frontend id.serial said then known_by peer (known id) said else known id

-- and after a history: its peer since its accept, and its last offer, until it ends
abbrev pub known_after : List Entry → ConnId → Option Known
known_after [] id = None
known_after (e ∷ h) id = known_on (known_after h) (event_peer e.event) e.reply.said id

abbrev pub with_end : Option (List ℕ) → List ℕ
with_end None = []
with_end (Some line) = line ++ codes "\n"

-- the line of a connection of which that is known, if the reply ends it
abbrev pub line_by : Option Known → Said → List ℕ
line_by None said = []
line_by (Some known) said = with_end (audit_text known.peer known.offered said)

abbrev pub line_on : (ConnId → Option Known) → Option Endpoint → Said → List ℕ
line_on known peer (Wait id used) = []
line_on known peer (Offer id used line server to judged send) = []
line_on known peer (Refuse id used cause) = line_by (brought peer (known id)) (Refuse id used cause)
line_on known peer (Up id) = []
line_on known peer (Closed id why) = line_by (brought peer (known id)) (Closed id why)
line_on known peer (Reloaded version) = []
line_on known peer (Marked line health) = []

-- the line of each connection of a history that ended, in the order in which they did
abbrev pub ended_text : List Entry → List ℕ
ended_text [] = []
ended_text (e ∷ h) = ended_text h ++ line_on (known_after h) (event_peer e.event) e.reply.said

abbrev pub counts_text : Checked → List ℕ
counts_text counts = codes "checked " ++ decimal counts.records ++ codes " open " ++ decimal counts.live ++ codes "\n"

-- what is written of a record that is right
abbrev pub history_output : Plain → List Entry → List ℕ
history_output p h = ended_text h ++ counts_text (counts_of p h)

abbrev pub output_of : Plain → Result (List Entry) CheckFault → List ℕ
output_of p (Ok h) = history_output p h
output_of p (Err fault) = fault_text fault

-- what is written of a text if a plan is opened
abbrev pub plan_output : Plan → List ℕ → List ℕ
plan_output plan text = output_of (opening plan 0) (history_on (opening plan 0) [] 0 LinePlace.between (parts is_line_feed text))

abbrev pub output_by : Result Plan OpenFault → List ℕ → List ℕ
output_by (Ok plan) text = plan_output plan text
output_by (Err fault) text = fault_text (fault_at 0 (Config fault))

-- what an audit writes of a configuration and a record
abbrev pub audit_output : List ℕ → List ℕ → List ℕ
audit_output config text = output_by (meaning config) text

-- The text is the record of a legal history, and the lines of its connections and its counts come after what was written before.
pub record IsAudited (config text sent : List ℕ) (held : Option (List ℕ)) : Type 0 where
  pub plan : Plan
  pub history : List Entry
  pub means : meaning config ≡ Ok plan
  pub legal : IsLegal (opening plan 0) history
  pub is_record : IsRecord history (parts is_line_feed text)
  pub wrote : held ≡ Some (sent ++ history_output (opening plan 0) history)
