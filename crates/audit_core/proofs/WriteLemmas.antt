-- How far a record was read, checked and written.
use Rattle.std.proofs.Common.{◌≡◌, ℕ, List, [], ◌∷◌, ◌++◌, Option, Some, Result, Ok, Err, refl, ap, subst, sym, ◌∙◌, append_assoc, append-nil}
use Rattle.std.specs.Prelude.{OnErr}
use Rattle.text_core.specs.Parts.{parts, is_line_feed}
use Rattle.line_reader.specs.Lines.{GivesLastLine, GivesLine, GivesNothing, LineState}
use Rattle.replay_core.specs.Replay.{IsFront}
use Rattle.audit_core.specs.Standing.{Standing, on_line, standing_counts, verdict_in}
use Rattle.audit_core.specs.Ended.{counts_text}
use Rattle.audit_core.specs.Printing.{after_right, all_output, counts_at, due_reply, known_with, line_with, noted_with, nothing_noted, output_in, record_output, Noted, Sends, Writes, Wrote}
use Rattle.audit_core.specs.declared.fault.Checked.{Checked}
use Rattle.replay_core.proofs.ReadLemmas.{all_left, given_line}

-- a right line, of which the reply was noted
step_output : (now : List ℕ) (k : Noted) (t u : Standing) (line : List ℕ) (more : List (List ℕ)) → on_line t line ≡ Ok u
    → (now ++ (noted_with k (due_reply t.due)).unsent) ++ output_in u (noted_with k (due_reply t.due)).known more ≡ (now ++ k.unsent) ++ output_in t k.known (line ∷ more)
step_output now k t u line more step =
    let written = line_with k.known (due_reply t.due) in
    let known = known_with k.known (due_reply t.due) in
    ap (λ xs. xs ++ output_in u known more) (sym (append_assoc now k.unsent written))
    ∙ append_assoc (now ++ k.unsent) written (output_in u known more)
    ∙ ap (λ r. (now ++ k.unsent) ++ after_right r written (λ v. output_in v known more)) (sym step)

pub writes_start : (sent : List ℕ) (j : Noted) (s : Standing) (text : List ℕ) (left held : Option (List ℕ)) (kept : List ℕ) → kept ≡ [] → left ≡ Some text → held ≡ Some sent
    → Writes sent j s text left held j s kept
writes_start sent j s text left held kept none is_left is_held =
    record { now = sent; rest = text; is_held = is_held; is_left = is_left; same = ap (λ xs. all_output sent j s (xs ++ text)) none }

pub writes_line : (sent : List ℕ) (j : Noted) (s : Standing) (text : List ℕ) (left held : Option (List ℕ)) (k : Noted) (t u : Standing) (old new : LineState) (less : Option (List ℕ))
    → Writes sent j s text left held k t old.kept → GivesLine old new left less → on_line t new.line ≡ Ok u → Writes sent j s text less held (noted_with k (due_reply t.due)) u new.kept
writes_line sent j s text left held k t u old new less writes gives step =
    let taken = given_line writes.rest left less old new writes.is_left gives in
    let same =
    step_output writes.now k t u new.line (parts is_line_feed (new.kept ++ taken.0)) step
    ∙ ap (λ ls. (writes.now ++ k.unsent) ++ output_in t k.known ls) (sym taken.2)
    ∙ writes.same in
    record { now = writes.now; rest = taken.0; is_held = writes.is_held; is_left = taken.1; same = same }

pub writes_sent : (sent : List ℕ) (j : Noted) (s : Standing) (text : List ℕ) (left held less : Option (List ℕ)) (k l : Noted) (t : Standing) (kept : List ℕ)
    → Writes sent j s text left held k t kept → ((now : List ℕ) → held ≡ Some now → Sends now k less l) → l.known ≡ k.known → Writes sent j s text left less l t kept
writes_sent sent j s text left held less k l t kept writes sends known =
    let after = sends writes.now writes.is_held in
    record {
      now = after.0;
      rest = writes.rest;
      is_held = after.1;
      is_left = writes.is_left;
      same =
          ap (λ xs. xs ++ output_in t l.known (parts is_line_feed (kept ++ writes.rest))) after.2
          ∙ ap (λ w. (writes.now ++ k.unsent) ++ output_in t w (parts is_line_feed (kept ++ writes.rest))) known
          ∙ writes.same;
    }

-- the same, where a journal is noted so
pub writes_taken : (sent : List ℕ) (j : Noted) (s : Standing) (text : List ℕ) (left held : Option (List ℕ)) (k l : Noted) (t u : Standing) (old new : LineState) (less : Option (List ℕ))
    → Writes sent j s text left held k t old.kept → GivesLine old new left less → on_line t new.line ≡ Ok u → l ≡ noted_with k (due_reply t.due) → Writes sent j s text less held l u new.kept
writes_taken sent j s text left held k l t u old new less writes gives step noted =
    subst (λ n. Writes sent j s text less held n u new.kept) (sym noted) (writes_line sent j s text left held k t u old new less writes gives step)

-- the end after the last line feed
pub wrote_end : (sent : List ℕ) (j : Noted) (s : Standing) (text : List ℕ) (left held : Option (List ℕ)) (k : Noted) (t : Standing) (old new : LineState) (less : Option (List ℕ))
    → Writes sent j s text left held k t old.kept → GivesNothing old new left less → Wrote sent j s text held k
wrote_end sent j s text left held k t old new less writes gives = record {
  now = writes.now;
  is_held = writes.is_held;
  same =
      sym (append-nil (writes.now ++ k.unsent))
      ∙ ap (all_output writes.now k t) (sym (ap (λ xs. old.kept ++ xs) (all_left writes.rest left less gives.bytes writes.is_left gives.moved).0 ∙ gives.is_empty))
      ∙ writes.same;
}

-- the last line
pub wrote_last : (sent : List ℕ) (j : Noted) (s : Standing) (text : List ℕ) (left held : Option (List ℕ)) (k : Noted) (t u : Standing) (old new : LineState) (less : Option (List ℕ))
    → Writes sent j s text left held k t old.kept → GivesLastLine old new left less → on_line t new.line ≡ Ok u → Wrote sent j s text held (noted_with k (due_reply t.due))
wrote_last sent j s text left held k t u old new less writes gives step = record {
  now = writes.now;
  is_held = writes.is_held;
  same =
      sym (append-nil (writes.now ++ (noted_with k (due_reply t.due)).unsent))
      ∙ step_output writes.now k t u new.line [] step
      ∙ ap (λ ls. (writes.now ++ k.unsent) ++ output_in t k.known ls) (sym gives.is_line)
      ∙ ap (all_output writes.now k t) (sym (ap (λ xs. old.kept ++ xs) (all_left writes.rest left less gives.bytes writes.is_left gives.moved).0))
      ∙ writes.same;
}

pub wrote_taken : (sent : List ℕ) (j : Noted) (s : Standing) (text : List ℕ) (left held : Option (List ℕ)) (k l : Noted) (t u : Standing) (old new : LineState) (less : Option (List ℕ))
    → Writes sent j s text left held k t old.kept → GivesLastLine old new left less → on_line t new.line ≡ Ok u → l ≡ noted_with k (due_reply t.due) → Wrote sent j s text held l
wrote_taken sent j s text left held k l t u old new less writes gives step noted =
    subst (Wrote sent j s text held) (sym noted) (wrote_last sent j s text left held k t u old new less writes gives step)

-- what was written is the front of all
pub front_of : (j : Noted) (s : Standing) (before first left held : Option (List ℕ)) (k : Noted) (t : Standing) (kept : List ℕ)
    → ((text sent : List ℕ) → before ≡ Some text → first ≡ Some sent → Writes sent j s text left held k t kept)
    → (text sent more : List ℕ) → before ≡ Some text → first ≡ Some sent → IsFront held (all_output sent j s text ++ more)
front_of j s before first left held k t kept wrote text sent more is_left is_held =
    let writes = wrote text sent is_left is_held in
    let rest = output_in t k.known (parts is_line_feed (kept ++ writes.rest)) in (
      writes.now,
      k.unsent ++ (rest ++ more),
      writes.is_held,
      ap (λ xs. xs ++ more) (sym writes.same) ∙ append_assoc (writes.now ++ k.unsent) rest more ∙ append_assoc writes.now k.unsent (rest ++ more),
    )

-- and where a part of what is noted was
pub front_sent : (sent : List ℕ) (j : Noted) (s : Standing) (text : List ℕ) (left held less : Option (List ℕ)) (k : Noted) (t : Standing) (kept more : List ℕ)
    → Writes sent j s text left held k t kept → ((now rest : List ℕ) → held ≡ Some now → IsFront less (now ++ k.unsent ++ rest)) → IsFront less (all_output sent j s text ++ more)
front_sent sent j s text left held less k t kept more writes front =
    let rest = output_in t k.known (parts is_line_feed (kept ++ writes.rest)) in
    subst (IsFront less) (sym (append_assoc (writes.now ++ k.unsent) rest more) ∙ ap (λ xs. xs ++ more) writes.same) (front writes.now (rest ++ more) writes.is_held)

-- ---- the counts

counted : (s end : Standing) (text : List ℕ) (checked : Checked) → verdict_in s (parts is_line_feed text) ≡ Ok end → standing_counts (verdict_in s (parts is_line_feed text)) ≡ Ok checked
    → counts_at end ≡ checked
counted s end text checked is counts = let both = sym (ap standing_counts is) ∙ counts in cc

whole_output : (sent : List ℕ) (s : Standing) (text : List ℕ) (checked : Checked) → all_output sent nothing_noted s text ++ counts_text checked ≡ sent ++ record_output s text checked
whole_output sent s text checked =
    ap (λ xs. (xs ++ output_in s nothing_noted.known (parts is_line_feed text)) ++ counts_text checked) (append-nil sent)
    ∙ append_assoc sent (output_in s nothing_noted.known (parts is_line_feed text)) (counts_text checked)

all_counted : (sent now unsent : List ℕ) (s end : Standing) (text : List ℕ) (checked : Checked) → now ++ unsent ≡ all_output sent nothing_noted s text → counts_at end ≡ checked
    → now ++ (unsent ++ counts_text (counts_at end)) ≡ sent ++ record_output s text checked
all_counted sent now unsent s end text checked same counts =
    sym (append_assoc now unsent (counts_text (counts_at end)))
    ∙ ap (λ xs. xs ++ counts_text (counts_at end)) same
    ∙ ap (λ n. all_output sent nothing_noted s text ++ counts_text n) counts
    ∙ whole_output sent s text checked

-- the lines were written or noted, and then the counts
pub counts_after : (P : List ℕ → Type 0) (s end : Standing) (left held mid : Option (List ℕ)) (j k : Noted) → j ≡ nothing_noted
    → ((text : List ℕ) → left ≡ Some text → verdict_in s (parts is_line_feed text) ≡ Ok end)
    → ((text sent : List ℕ) → left ≡ Some text → held ≡ Some sent → Wrote sent j s text mid k)
    → ((now : List ℕ) → mid ≡ Some now → P (now ++ (k.unsent ++ counts_text (counts_at end))))
    → (text sent : List ℕ) (checked : Checked) → left ≡ Some text → held ≡ Some sent → standing_counts (verdict_in s (parts is_line_feed text)) ≡ Ok checked → P (sent ++ record_output s text checked)
counts_after P s end left held mid j k none ends wrote prints text sent checked is_left is_held counts =
    let all = wrote text sent is_left is_held in
    let same = all.same ∙ ap (λ i. all_output sent i s text) none in
    subst P (all_counted sent all.now k.unsent s end text checked same (counted s end text checked (ends text is_left) counts)) (prints all.now all.is_held)

-- the lines were not all written
pub lines_front : (sent : List ℕ) (s : Standing) (text : List ℕ) (checked : Checked) (new : Option (List ℕ)) (j : Noted) → j ≡ nothing_noted
    → IsFront new (all_output sent j s text ++ counts_text checked) → IsFront new (sent ++ record_output s text checked)
lines_front sent s text checked new j none front =
    subst (IsFront new) (ap (λ i. all_output sent i s text ++ counts_text checked) none ∙ whole_output sent s text checked) front

-- nothing was written
pub held_front : (held : Option (List ℕ)) (sent text : List ℕ) → held ≡ Some sent → IsFront held (sent ++ text)
held_front held sent text is = (sent, text, is, refl)

-- what is not noted yet is written with the counts
pub counts_sent : (held : Option (List ℕ)) (sent unsent counts : List ℕ) (mid : Noted) → mid.unsent ≡ unsent ++ counts → IsFront held (sent ++ mid.unsent ++ []) → IsFront held (sent ++ (unsent ++ counts))
counts_sent held sent unsent counts mid is front = subst (IsFront held) (append-nil (sent ++ mid.unsent) ∙ ap (λ xs. sent ++ xs) is) front

pub sends_all : (held : Option (List ℕ)) (sent : List ℕ) (j k : Noted) → held ≡ Some (sent ++ j.unsent) → k ≡ record { known = j.known; unsent = [] } → Sends sent j held k
sends_all held sent j k is empty = (sent ++ j.unsent, is, ap (λ n. (sent ++ j.unsent) ++ n.unsent) empty ∙ append-nil (sent ++ j.unsent))

pub on_err_always : {T E P : Type 0} (r : Result T E) → P → OnErr r P
on_err_always (Ok x) p = tt
on_err_always (Err x) p = p

pub front_as : (held : Option (List ℕ)) (sent a b : List ℕ) → a ≡ b → IsFront held (sent ++ a) → IsFront held (sent ++ b)
front_as held sent a b same front = subst (λ xs. IsFront held (sent ++ xs)) same front

pub front_whole : (held : Option (List ℕ)) (sent a b : List ℕ) → a ≡ b → IsFront held (sent ++ a ++ []) → IsFront held (sent ++ b)
front_whole held sent a b same front = subst (IsFront held) (append-nil (sent ++ a) ∙ ap (λ xs. sent ++ xs) same) front
