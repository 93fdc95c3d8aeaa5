-- How far a record was read, played and written.
use Rattle.std.proofs.Common.{◌≡◌, ℕ, Bool, List, [], ◌++◌, Option, Some, Result, Ok, Err, ap, subst, sym, ◌∙◌, append_assoc, append-nil}
use Rattle.std.specs.Prelude.{IfOk, OnOk}
use Rattle.text_core.specs.Parts.{parts, is_line_feed}
use Rattle.line_reader.specs.Lines.{GivesLastLine, GivesLine, GivesNothing, LineState}
use Rattle.replay_core.specs.Replay.{IsFront}
use Rattle.replay_core.proofs.ReadLemmas.{all_left, given_line}
use Rattle.whatif_core.specs.Lines.{both_on, report_of_record, report_on_lines, turn_at, Both}
use Rattle.whatif_core.specs.Noting.{whole_report, noted_with, nothing_noted, report_from, Noted, Printed, Sends, Writes, Wrote}
use Rattle.whatif_core.specs.Sums.{sums_text}
use Rattle.whatif_core.specs.Reporting.{empty_report, written_of, Report}
use Rattle.whatif_core.proofs.ReportLemmas.{earlier_report, line_report, lines_prefixed, prefixed}

pub writes_start : (sent : List ℕ) (j : Noted) (s : Both) (text : List ℕ) (left held : Option (List ℕ)) (kept : List ℕ) → kept ≡ [] → left ≡ Some text → held ≡ Some sent
    → Writes sent j s text left held j s kept
writes_start sent j s text left held kept none is_left is_held =
    record { now = sent; rest = text; is_held = is_held; is_left = is_left; same = ap (λ xs. whole_report sent j s (xs ++ text)) none }

writes_line : (sent : List ℕ) (j : Noted) (s : Both) (text : List ℕ) (left held : Option (List ℕ)) (k : Noted) (t u : Both) (old new : LineState) (less : Option (List ℕ))
    → Writes sent j s text left held k t old.kept → GivesLine old new left less → both_on t new.line ≡ Ok u → Writes sent j s text less held (noted_with k (turn_at t new.line)) u new.kept
writes_line sent j s text left held k t u old new less writes gives step =
    let taken = given_line writes.rest left less old new writes.is_left gives in
    let same =
    line_report writes.now k t u new.line (parts is_line_feed (new.kept ++ taken.0)) step
    ∙ ap (λ ls. report_on_lines k.summary t.checked (report_from writes.now k t) ls) (sym taken.2)
    ∙ writes.same in
    record { now = writes.now; rest = taken.0; is_held = writes.is_held; is_left = taken.1; same = same }

pub writes_sent : (sent : List ℕ) (j : Noted) (s : Both) (text : List ℕ) (left held less : Option (List ℕ)) (k l : Noted) (t : Both) (kept : List ℕ)
    → Writes sent j s text left held k t kept → ((now : List ℕ) → held ≡ Some now → Sends now k less l) → l ≡ record k { unsent = l.unsent } → Writes sent j s text left less l t kept
writes_sent sent j s text left held less k l t kept writes sends others =
    let after = sends writes.now writes.is_held in
    let lines = parts is_line_feed (kept ++ writes.rest) in
    record {
      now = after.now;
      rest = writes.rest;
      is_held = after.is_held;
      is_left = writes.is_left;
      same =
          ap (λ m. report_on_lines m.summary t.checked (record { trial = t.trial; peers = m.peers; text = after.now ++ l.unsent; sums = m.sums }) lines) others
          ∙ ap (λ xs. report_on_lines k.summary t.checked (record { trial = t.trial; peers = k.peers; text = xs; sums = k.sums }) lines) after.same
          ∙ writes.same;
    }

-- the same, with the journal of a line
pub writes_taken : (sent : List ℕ) (j : Noted) (s : Both) (text : List ℕ) (left held : Option (List ℕ)) (k l : Noted) (t u : Both) (old new : LineState) (less : Option (List ℕ))
    → Writes sent j s text left held k t old.kept → GivesLine old new left less → both_on t new.line ≡ Ok u → l ≡ noted_with k (turn_at t new.line) → Writes sent j s text less held l u new.kept
writes_taken sent j s text left held k l t u old new less writes gives step noted =
    subst (λ n. Writes sent j s text less held n u new.kept) (sym noted) (writes_line sent j s text left held k t u old new less writes gives step)

-- the end after the last line feed
pub wrote_end : (sent : List ℕ) (j : Noted) (s : Both) (text : List ℕ) (left held : Option (List ℕ)) (k : Noted) (t : Both) (old new : LineState) (less : Option (List ℕ))
    → Writes sent j s text left held k t old.kept → GivesNothing old new left less → Wrote sent j s text held k t
wrote_end sent j s text left held k t old new less writes gives = record {
  now = writes.now;
  is_held = writes.is_held;
  same =
      ap (whole_report writes.now k t) (sym (ap (λ xs. old.kept ++ xs) (all_left writes.rest left less gives.bytes writes.is_left gives.moved).0 ∙ gives.is_empty))
      ∙ writes.same;
}

-- the last line
wrote_last : (sent : List ℕ) (j : Noted) (s : Both) (text : List ℕ) (left held : Option (List ℕ)) (k : Noted) (t u : Both) (old new : LineState) (less : Option (List ℕ))
    → Writes sent j s text left held k t old.kept → GivesLastLine old new left less → both_on t new.line ≡ Ok u → Wrote sent j s text held (noted_with k (turn_at t new.line)) u
wrote_last sent j s text left held k t u old new less writes gives step = record {
  now = writes.now;
  is_held = writes.is_held;
  same =
      line_report writes.now k t u new.line [] step
      ∙ ap (λ ls. report_on_lines k.summary t.checked (report_from writes.now k t) ls) (sym gives.is_line)
      ∙ ap (whole_report writes.now k t) (sym (ap (λ xs. old.kept ++ xs) (all_left writes.rest left less gives.bytes writes.is_left gives.moved).0))
      ∙ writes.same;
}

pub wrote_taken : (sent : List ℕ) (j : Noted) (s : Both) (text : List ℕ) (left held : Option (List ℕ)) (k l : Noted) (t u : Both) (old new : LineState) (less : Option (List ℕ))
    → Writes sent j s text left held k t old.kept → GivesLastLine old new left less → both_on t new.line ≡ Ok u → l ≡ noted_with k (turn_at t new.line) → Wrote sent j s text held l u
wrote_taken sent j s text left held k l t u old new less writes gives step noted =
    subst (λ n. Wrote sent j s text held n u) (sym noted) (wrote_last sent j s text left held k t u old new less writes gives step)

-- what was written is the front of all
pub front_of : (j : Noted) (s : Both) (before first left held : Option (List ℕ)) (k : Noted) (t : Both) (kept : List ℕ)
    → ((text sent : List ℕ) → before ≡ Some text → first ≡ Some sent → Writes sent j s text left held k t kept)
    → (text sent more : List ℕ) → before ≡ Some text → first ≡ Some sent → IsFront held ((whole_report sent j s text).text ++ more)
front_of j s before first left held k t kept wrote text sent more is_left is_held =
    let writes = wrote text sent is_left is_held in
    let tail = earlier_report k.summary t.checked (report_from writes.now k t) (parts is_line_feed (kept ++ writes.rest)) in (
      writes.now,
      k.unsent ++ (tail.0 ++ more),
      writes.is_held,
      ap (λ (u : Report). u.text ++ more) (sym writes.same)
          ∙ ap (λ xs. xs ++ more) tail.1
          ∙ append_assoc (writes.now ++ k.unsent) tail.0 more
          ∙ append_assoc writes.now k.unsent (tail.0 ++ more),
    )

-- and after a part of the journal was
pub front_sent : (sent : List ℕ) (j : Noted) (s : Both) (text : List ℕ) (left held less : Option (List ℕ)) (k : Noted) (t : Both) (kept more : List ℕ)
    → Writes sent j s text left held k t kept → ((now rest : List ℕ) → held ≡ Some now → IsFront less (now ++ k.unsent ++ rest)) → IsFront less ((whole_report sent j s text).text ++ more)
front_sent sent j s text left held less k t kept more writes front =
    let tail = earlier_report k.summary t.checked (report_from writes.now k t) (parts is_line_feed (kept ++ writes.rest)) in
    subst (IsFront less)
    (sym (append_assoc (writes.now ++ k.unsent) tail.0 more) ∙ ap (λ xs. xs ++ more) (sym tail.1) ∙ ap (λ (u : Report). u.text ++ more) writes.same)
    (front writes.now (tail.0 ++ more) writes.is_held)

-- ---- what was counted

-- the whole report of a text, from an empty journal
from_nothing : (summary : Bool) (sent : List ℕ) (s : Both) (text : List ℕ) (j : Noted) → j ≡ nothing_noted summary → whole_report sent j s text ≡ prefixed sent (report_of_record summary s text)
from_nothing summary sent s text j none =
    ap (λ i. whole_report sent i s text) none ∙ lines_prefixed sent summary s.checked (empty_report s.trial) (parts is_line_feed text)

whole : (summary : Bool) (sent : List ℕ) (s : Both) (text now : List ℕ) (k : Noted) (t : Both) → report_from now k t ≡ prefixed sent (report_of_record summary s text)
    → now ++ (k.unsent ++ sums_text k.sums) ≡ sent ++ written_of (report_of_record summary s text)
whole summary sent s text now k t same =
    sym (append_assoc now k.unsent (sums_text k.sums))
    ∙ ap written_of same
    ∙ append_assoc sent (report_of_record summary s text).text (sums_text (report_of_record summary s text).sums)

-- the lines were written or are in the journal, and then the counts
pub sums_wrote : (summary : Bool) (sent : List ℕ) (s : Both) (text : List ℕ) (mid new : Option (List ℕ)) (j k : Noted) (t : Both) (differing : ℕ) → j ≡ nothing_noted summary
    → Wrote sent j s text mid k t → ((now : List ℕ) → mid ≡ Some now → new ≡ Some (now ++ (k.unsent ++ sums_text k.sums))) → differing ≡ k.sums.differing → Printed summary s text sent new differing
sums_wrote summary sent s text mid new j k t differing none wrote prints counts =
    let same = wrote.same ∙ from_nothing summary sent s text j none in
    record {
      wrote = prints wrote.now wrote.is_held ∙ ap (λ xs. Some xs) (whole summary sent s text wrote.now k t same);
      counts = counts ∙ ap (λ (u : Report). u.sums.differing) same;
    }

pub sums_front : (summary : Bool) (sent : List ℕ) (s : Both) (text : List ℕ) (mid new : Option (List ℕ)) (j k : Noted) (t : Both) → j ≡ nothing_noted summary
    → Wrote sent j s text mid k t → ((now : List ℕ) → mid ≡ Some now → IsFront new (now ++ (k.unsent ++ sums_text k.sums))) → IsFront new (sent ++ written_of (report_of_record summary s text))
sums_front summary sent s text mid new j k t none wrote prints =
    subst (IsFront new) (whole summary sent s text wrote.now k t (wrote.same ∙ from_nothing summary sent s text j none)) (prints wrote.now wrote.is_held)

-- the lines were not all written
pub lines_front : (summary : Bool) (sent : List ℕ) (s : Both) (text : List ℕ) (new : Option (List ℕ)) (j : Noted) → j ≡ nothing_noted summary
    → ((rest : List ℕ) → IsFront new ((whole_report sent j s text).text ++ rest)) → IsFront new (sent ++ written_of (report_of_record summary s text))
lines_front summary sent s text new j none front =
    let history_report = report_of_record summary s text in
    subst (IsFront new)
    (ap (λ (u : Report). u.text ++ sums_text history_report.sums) (from_nothing summary sent s text j none) ∙ append_assoc sent history_report.text (sums_text history_report.sums))
    (front (sums_text history_report.sums))

pub sends_all : (held : Option (List ℕ)) (sent : List ℕ) (j k : Noted) → held ≡ Some (sent ++ j.unsent) → k ≡ record j { unsent = [] } → Sends sent j held k
sends_all held sent j k is empty = record {
  now = sent ++ j.unsent;
  is_held = is;
  same = ap (λ n. (sent ++ j.unsent) ++ n.unsent) empty ∙ append-nil (sent ++ j.unsent);
}

-- what is not in the journal yet is written with the counts
pub sums_sent : (held : Option (List ℕ)) (sent unsent sums : List ℕ) (mid : Noted) → mid.unsent ≡ unsent ++ sums → IsFront held (sent ++ mid.unsent ++ []) → IsFront held (sent ++ (unsent ++ sums))
sums_sent held sent unsent sums mid is front = subst (IsFront held) (append-nil (sent ++ mid.unsent) ∙ ap (λ xs. sent ++ xs) is) front

-- what holds of a result by two clauses
pub ok_by_both : {T E P : Type 0} {Q R : T → Type 0} (r : Result T E) → OnOk r P → IfOk r Q → (P → (x : T) → Q x → R x) → IfOk r R
ok_by_both (Ok x) p q leads = leads p x q
ok_by_both (Err e) p q leads = tt
