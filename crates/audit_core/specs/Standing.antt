-- How far the check of a record has come, by the state of the balancer alone.
use Rattle.std.specs.Prelude.{◌≡◌, ℕ, ◌+◌, ◌<◌, ◌==◌, Bool, true, false, List, [], ◌∷◌, ◌++◌, Option, Some, Result, Ok, Err, if◌then◌else◌}
use Rattle.list_core.specs.Each.{◌>>=◌}
use Rattle.text_core.specs.Parts.{parts, is_line_feed}
use Rattle.plan_types.specs.declared.plan.Plan.{Plan}
use Rattle.config_core.specs.Meaning.{meaning}
use Rattle.conn_model.specs.History.{opening, IsWell}
use Rattle.conn_model.specs.declared.event.OwnedEvent.{OwnedEvent}
use Rattle.conn_model.specs.declared.event.OwnedEvent.TheVariants.{Reload}
use Rattle.conn_model.specs.declared.plain.Plain.{Plain}
use Rattle.conn_model.specs.declared.reply.Reply.{Reply}
use Rattle.conn_model.specs.Answer.{answer_in}
use Rattle.replay_core.specs.Turns.{plain_after}
use Rattle.event_text.specs.Script.{pending_reload, text_with, with_text, EventHead, Pending}
use Rattle.conn_model.specs.Counts.{open_connections}
use Rattle.audit_core.specs.Line.{event_peer}
use Rattle.audit_core.specs.Verdict.{fault_at, head_at, reply_at, text_at}
use Rattle.audit_core.specs.declared.due.Due.{Due}
use Rattle.audit_core.specs.declared.due.Due.TheVariants as dues
use Rattle.audit_core.specs.declared.fault.Checked.{Checked}
use Rattle.audit_core.specs.declared.fault.CheckFault.{CheckFault}
use Rattle.audit_core.specs.declared.fault.CheckKind.TheVariants.{Format}

-- the state after so many lines with so many entries, and what the next line has to be
pub record Standing : Type 0 where
  pub plain : Plain
  pub lines : ℕ
  pub records : ℕ
  pub due : Due

-- of the text that has to come, a line is missing at least
abbrev pub IsDue : Due → Type 0
IsDue dues.Event = Unit {0}
IsDue (dues.Text pending) = 0 < pending.missing
IsDue (dues.Reply peer answered) = Unit {0}

-- the next line has to be the first one of an entry
abbrev pub is_between : Due → Bool
is_between dues.Event = true
is_between (dues.Text pending) = false
is_between (dues.Reply peer answered) = false

-- after all lines of an event
abbrev pub after_event : Standing → ℕ × OwnedEvent → Standing
after_event s timed = record {
  plain = plain_after s.plain timed.0 timed.1 (answer_in s.plain timed.0 timed.1);
  lines = s.lines + 1;
  records = s.records;
  due = dues.Reply (event_peer timed.1) (answer_in s.plain timed.0 timed.1);
}

-- after a line of a reload
abbrev pub after_line : Standing → Pending → Standing
after_line s pending =
    if pending.missing == 0 then after_event s (pending.moment, Reload (text_with pending []))
    else record { plain = s.plain; lines = s.lines + 1; records = s.records; due = dues.Text pending }

-- after the first line of an event
abbrev pub after_head : Standing → EventHead → Standing
after_head s (EventHead.whole timed) = after_event s timed
after_head s (EventHead.reload moment count) = after_line s (pending_reload moment count)

-- after a reply
abbrev pub after_reply : Standing → Reply → Standing
after_reply s reply = record { plain = s.plain; lines = s.lines + 1; records = s.records + 1; due = dues.Event }

abbrev pub on_due : Standing → Due → List ℕ → Result Standing CheckFault
on_due s dues.Event line = head_at (s.lines + 1) (s.records + 1) line >>= λ head. Ok (after_head s head)
on_due s (dues.Text pending) line = text_at (s.lines + 1) line >>= λ text. Ok (after_line s (with_text pending text))
on_due s (dues.Reply peer answered) line = reply_at (s.lines + 1) answered line >>= λ reply. Ok (after_reply s reply)

-- after a line
abbrev pub on_line : Standing → List ℕ → Result Standing CheckFault
on_line s line = on_due s s.due line

-- no line has to come if the next one would be the first of an event
abbrev pub unless_due : Standing → Due → Result Standing CheckFault
unless_due s dues.Event = Ok s
unless_due s (dues.Text pending) = Err (fault_at (s.lines + 1) Format)
unless_due s (dues.Reply peer answered) = Err (fault_at (s.lines + 1) Format)

-- after all lines
abbrev pub at_end : Standing → Result Standing CheckFault
at_end s = unless_due s s.due

-- what comes of lines
abbrev pub verdict_in : Standing → List (List ℕ) → Result Standing CheckFault
verdict_in s [] = at_end s
verdict_in s (line ∷ lines) = on_line s line >>= λ t. verdict_in t lines

-- nothing was read yet
abbrev pub start : Plain → Standing
start plain = record { plain = plain; lines = 0; records = 0; due = dues.Event }

-- a check at the opening of a configuration
abbrev pub IsStarted : List ℕ → Standing → Type 0
IsStarted config s = (plan : Plan) × (meaning config ≡ Ok plan) × IsWell (opening plan 0) × (s ≡ start (opening plan 0))

-- the counts of a standing
abbrev pub standing_counts : Result Standing CheckFault → Result Checked CheckFault
standing_counts (Ok s) = Ok (record { records = s.records; live = open_connections s.plain })
standing_counts (Err fault) = Err fault

-- What was read of the text comes to what is kept of it comes to from another standing on, whatever follows.
pub record Reaches (s : Standing) (text : List ℕ) (left : Option (List ℕ)) (t : Standing) (kept : List ℕ) : Type 0 where
  pub got : List ℕ
  pub rest : List ℕ
  pub is_left : left ≡ Some rest
  pub is_read : text ≡ got ++ rest
  pub same : (more : List ℕ) → verdict_in t (parts is_line_feed (kept ++ more)) ≡ verdict_in s (parts is_line_feed (got ++ more))
