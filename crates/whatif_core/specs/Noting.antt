-- What is written of the decisions of a record, and what its journal keeps.
use Rattle.std.specs.Prelude.{◌≡◌, ℕ, Bool, List, [], ◌++◌, Option, Some, None}
use Rattle.std.specs.BTreeMap.{get}
use Rattle.text_core.specs.Parts.{parts, is_line_feed}
use Rattle.addr_core.specs.declared.addr.Endpoint.{Endpoint}
use Rattle.conn_model.specs.declared.event.ConnId.{ConnId}
use Rattle.audit_core.specs.Printing.{name_cmp, name_of}
use Rattle.whatif_core.specs.declared.journal.WhatifJournal.{WhatifJournal}
use Rattle.whatif_core.specs.declared.turn.Turn.{Turn}
use Rattle.whatif_core.specs.Lines.{report_of_record, report_on_lines, Both}
use Rattle.whatif_core.specs.Sums.{no_sums, sums_with, Sums}
use Rattle.whatif_core.specs.Reporting.{peers_on, shown, turn_line, written_of, Report}

-- whether the lines are left out, the peers of the connections that wait, the lines that were not yet written, and what
-- was counted
pub record Noted : Type 0 where
  pub summary : Bool
  pub peers : ConnId → Option Endpoint
  pub unsent : List ℕ
  pub sums : Sums

abbrev pub noted_in : WhatifJournal → Noted
noted_in journal = record {
  summary = journal.summary;
  peers = λ id. get name_cmp journal.peers (name_of id);
  unsent = journal.unsent.items;
  sums = journal.tally;
}

-- an empty journal
abbrev pub nothing_noted : Bool → Noted
nothing_noted summary = record { summary = summary; peers = λ id. None; unsent = []; sums = no_sums }

-- the journal after what both decided, if they decided anything
abbrev pub noted_with : Noted → Option Turn → Noted
noted_with j None = j
noted_with j (Some turn) = record {
  summary = j.summary;
  peers = peers_on j.peers turn;
  unsent = j.unsent ++ shown j.summary (turn_line j.peers turn);
  sums = sums_with j.sums turn;
}

-- the report so far, of which that was written and that is in the journal
abbrev pub report_from : List ℕ → Noted → Both → Report
report_from sent j s = record { trial = s.trial; peers = j.peers; text = sent ++ j.unsent; sums = j.sums }

-- the report so far, and then of a text
abbrev pub whole_report : List ℕ → Noted → Both → List ℕ → Report
whole_report sent j s text = report_on_lines j.summary s.checked (report_from sent j s) (parts is_line_feed text)

-- the same in all, however much of it was written
pub record Sends (sent : List ℕ) (j : Noted) (held : Option (List ℕ)) (k : Noted) : Type 0 where
  pub now : List ℕ
  pub is_held : held ≡ Some now
  pub same : now ++ k.unsent ≡ sent ++ j.unsent

-- This much of the report of a text was written, and the rest is in the journal.
pub record Wrote (sent : List ℕ) (j : Noted) (s : Both) (text : List ℕ) (held : Option (List ℕ)) (k : Noted) (t : Both) : Type 0 where
  pub now : List ℕ
  pub is_held : held ≡ Some now
  pub same : report_from now k t ≡ whole_report sent j s text

-- What was read of a text was reported; what is kept of it and what is left still has to be.
pub record Writes (sent : List ℕ) (j : Noted) (s : Both) (text : List ℕ) (left held : Option (List ℕ)) (k : Noted) (t : Both) (kept : List ℕ) : Type 0 where
  pub now : List ℕ
  pub rest : List ℕ
  pub is_held : held ≡ Some now
  pub is_left : left ≡ Some rest
  pub same : whole_report now k t (kept ++ rest) ≡ whole_report sent j s text

-- The whole report of a text was written, with its counts, and so often anything differs.
pub record Printed (summary : Bool) (s : Both) (text sent : List ℕ) (held : Option (List ℕ)) (differing : ℕ) : Type 0 where
  pub wrote : held ≡ Some (sent ++ written_of (report_of_record summary s text))
  pub counts : differing ≡ (report_of_record summary s text).sums.differing
