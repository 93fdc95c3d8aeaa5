-- What an audit writes, by the state of the check and what is known of the connections alone.
use Rattle.std.specs.Prelude.{◌≡◌, ℕ, List, [], ◌∷◌, ◌++◌, Option, Some, None, Result, Ok, Err, if◌then◌else◌}
use Rattle.std.specs.BTreeMap.{get}
use Rattle.std.specs.Ordering.{nat_cmp, ordering_then}
use Rattle.std.specs.declared.cmp.Ordering.{Ordering}
use Rattle.text_core.specs.Parts.{parts, is_line_feed}
use Rattle.addr_core.specs.declared.addr.Endpoint.{Endpoint}
use Rattle.conn_model.specs.declared.event.ConnId.{ConnId}
use Rattle.conn_model.specs.declared.reply.Reply.{Reply}
use Rattle.conn_model.specs.Words.{is_conn}
use Rattle.line_reader.specs.declared.lines.ReadFault.{ReadFault}
use Rattle.line_reader.specs.declared.lines.ReadFault.TheVariants as lines
use Rattle.replay_core.specs.declared.fault.PrintFault.{PrintFault}
use Rattle.replay_core.specs.declared.fault.PrintFault.TheVariants as prints
use Rattle.audit_core.specs.Ended.{counts_text, known_on, line_on}
use Rattle.conn_model.specs.Counts.{open_connections}
use Rattle.audit_core.specs.Standing.{Standing, on_line}
use Rattle.audit_core.specs.declared.due.Due.{Due}
use Rattle.audit_core.specs.declared.due.Due.TheVariants as dues
use Rattle.audit_core.specs.declared.fault.CheckFault.{CheckFault}
use Rattle.audit_core.specs.declared.fault.Checked.{Checked}
use Rattle.audit_core.specs.declared.journal.AuditJournal.{AuditJournal}
use Rattle.audit_core.specs.declared.journal.Known.{Known}
use Rattle.audit_core.specs.declared.journal.Name.{Name}

-- what is known of each connection, and the lines that were not yet written
pub record Noted : Type 0 where
  pub known : ConnId → Option Known
  pub unsent : List ℕ

-- names are in the order of frontends, and then of serials
abbrev pub name_cmp : Name → Name → Ordering
name_cmp a b = ordering_then (nat_cmp a.frontend b.frontend) (nat_cmp a.serial b.serial)

abbrev pub name_of : ConnId → Name
name_of id = record { frontend = id.frontend; serial = id.serial }

abbrev pub noted_in : AuditJournal → Noted
noted_in journal = record { known = λ id. get name_cmp journal.known (name_of id); unsent = journal.unsent.items }

-- that is known of the connection, and of the others what was
abbrev pub with_known : ConnId → Option Known → (ConnId → Option Known) → ConnId → Option Known
with_known id what known other = if is_conn other.frontend other.serial id then what else known other

-- the reply that has to come, with the peer of its event
abbrev pub due_reply : Due → Option (Option Endpoint × Reply)
due_reply (dues.Reply peer (Ok reply)) = Some (peer, reply)
due_reply due = None

abbrev pub known_with : (ConnId → Option Known) → Option (Option Endpoint × Reply) → ConnId → Option Known
known_with known None = known
known_with known (Some answered) = known_on known answered.0 answered.1.said

abbrev pub line_with : (ConnId → Option Known) → Option (Option Endpoint × Reply) → List ℕ
line_with known None = []
line_with known (Some answered) = line_on known answered.0 answered.1.said

-- what is noted after a reply, if there is one
abbrev pub noted_with : Noted → Option (Option Endpoint × Reply) → Noted
noted_with j answered = record { known = known_with j.known answered; unsent = j.unsent ++ line_with j.known answered }

-- nothing is noted yet
abbrev pub nothing_noted : Noted
nothing_noted = record { known = λ id. None; unsent = [] }

abbrev pub after_right : Result Standing CheckFault → List ℕ → (Standing → List ℕ) → List ℕ
after_right (Err fault) line rest = []
after_right (Ok s) line rest = line ++ rest s

-- what is written of lines, until one of them is wrong
abbrev pub output_in : Standing → (ConnId → Option Known) → List (List ℕ) → List ℕ
output_in s known [] = []
output_in s known (line ∷ lines) =
    after_right (on_line s line) (line_with known (due_reply s.due)) (λ t. output_in t (known_with known (due_reply s.due)) lines)

-- what was written, what was not yet, and what is still written of a text
abbrev pub all_output : List ℕ → Noted → Standing → List ℕ → List ℕ
all_output sent j s text = (sent ++ j.unsent) ++ output_in s j.known (parts is_line_feed text)

-- the same was written and noted in all, however much of it was written
abbrev pub Sends : List ℕ → Noted → Option (List ℕ) → Noted → Type 0
Sends sent j held k = (now : List ℕ) × (held ≡ Some now) × (now ++ k.unsent ≡ sent ++ j.unsent)

-- Of all that is to be written of a text this much was, and the rest is noted.
pub record Wrote (sent : List ℕ) (j : Noted) (s : Standing) (text : List ℕ) (held : Option (List ℕ)) (k : Noted) : Type 0 where
  pub now : List ℕ
  pub is_held : held ≡ Some now
  pub same : now ++ k.unsent ≡ all_output sent j s text

-- What was read of a text was written, or is noted; what is kept of it and what is left still have to be.
pub record Writes (sent : List ℕ) (j : Noted) (s : Standing) (text : List ℕ) (left held : Option (List ℕ)) (k : Noted) (t : Standing) (kept : List ℕ) : Type 0 where
  pub now : List ℕ
  pub rest : List ℕ
  pub is_held : held ≡ Some now
  pub is_left : left ≡ Some rest
  pub same : all_output now k t (kept ++ rest) ≡ all_output sent j s text

-- the fault if no line comes of a record that was right
abbrev pub second_fault : ReadFault → PrintFault
second_fault lines.TooLong = prints.Read
second_fault lines.Read = prints.Read
second_fault lines.NoMemory = prints.NoMemory

-- the counts of a check that is so far
abbrev pub counts_at : Standing → Checked
counts_at s = record { records = s.records; live = open_connections s.plain }

-- the lines of the connections of a text that ended, and its counts
abbrev pub record_output : Standing → List ℕ → Checked → List ℕ
record_output s text checked = output_in s nothing_noted.known (parts is_line_feed text) ++ counts_text checked
