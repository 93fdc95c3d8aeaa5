-- How far a script was read and answered.
use Rattle.std.proofs.Common.{◌≡◌, ◌⊎◌, ◌+◌, ℕ, true, List, [], ◌∷◌, ◌++◌, length, Option, Some, None, Err, refl, ap, subst, sym, ◌∙◌, append-nil, inl, inr}
use Rattle.std.specs.Prelude.{nat_lt}
use Rattle.std.specs.Io.KnownBytes.{Consumes}
use Rattle.text_core.specs.Parts.{parts, is_line_feed}
use Rattle.conn_model.specs.declared.plain.Plain.{Plain}
use Rattle.event_text.specs.Script.{Pending}
use Rattle.line_reader.specs.Lines.{ConsumesAll, Gathers, GivesLastLine, GivesLine, GivesNothing, LineState}
use Rattle.line_reader.specs.Unended.{BeginsTooLong}
use Rattle.line_reader.specs.declared.lines.ReadFault.{ReadFault}
use Rattle.line_reader.specs.declared.lines.ReadFault.TheVariants as lines
use Rattle.line_reader.specs.declared.lines.TheConstants.{MOST_LINE_BYTES}
use Rattle.replay_core.specs.Replay.{asked_at, ending, final_outcome, script_fault}
use Rattle.replay_core.specs.Turns.{outcome_in, script_outcome_in, turn}
use Rattle.replay_core.specs.Progress.{ReplayProgress, Continues, IsFrontOf, IsLineFault, total, total_of, total_of_lines}
use Rattle.replay_core.specs.Reading.{Reaches, AnswersAll, IsCut, StopsAtLine, Stops}
use Rattle.replay_core.specs.declared.fault.ReplayFault.{ReplayFault}
use Rattle.replay_core.specs.declared.fault.ReplayFault.TheVariants.{Format, TooLong, Read, Write, NoMemory}
use Rattle.replay_core.proofs.ReadLemmas.{all_left, given_on, long_test}
use Rattle.replay_core.proofs.ContinueLemmas.{front_continues, front_sent, continues_line, continues_more, continues_sent, continues_start}

-- nothing read yet
pub reaches_start : (sent : List ℕ) (s : ReplayProgress) (script : List ℕ) (left held : Option (List ℕ)) (kept : List ℕ) → kept ≡ [] → left ≡ Some script → held ≡ Some sent
    → Reaches sent s script left held s kept
reaches_start sent s script left held kept none is_left is_held =
    subst (Reaches sent s script left held s) (sym none)
    (record { got = []; rest = script; is_left = is_left; is_read = refl; continues = continues_start sent s [] held is_held })

-- more bytes
reaches_more : (sent : List ℕ) (s : ReplayProgress) (script : List ℕ) (left held : Option (List ℕ)) (t : ReplayProgress) (kept bytes : List ℕ) (less : Option (List ℕ))
    → Reaches sent s script left held t kept → Consumes left less bytes → Reaches sent s script less held t (kept ++ bytes)
reaches_more sent s script left held t kept bytes less reaches moved =
    let taken = given_on reaches.got reaches.rest script left less bytes reaches.is_read reaches.is_left moved in
    let continues = continues_more sent s reaches.got held t kept bytes reaches.continues in
    record { got = reaches.got ++ bytes; rest = taken.0; is_left = taken.1; is_read = taken.2; continues = continues }

-- the same bytes, in other places
reaches_gathered : (sent : List ℕ) (s : ReplayProgress) (script : List ℕ) (left held : Option (List ℕ)) (t : ReplayProgress) (old new : LineState) (less : Option (List ℕ))
    → Reaches sent s script left held t old.kept → Gathers old new left less → Reaches sent s script less held t (new.line ++ new.kept)
reaches_gathered sent s script left held t old new less reaches gathers =
    subst (Reaches sent s script less held t) gathers.same (reaches_more sent s script left held t old.kept gathers.bytes less reaches gathers.moved)

-- a line more
pub reaches_line : (sent : List ℕ) (s : ReplayProgress) (script : List ℕ) (left held : Option (List ℕ)) (t u : ReplayProgress) (old new : LineState) (less : Option (List ℕ))
    → Reaches sent s script left held t old.kept → GivesLine old new left less
    → ((now : List ℕ) (more : List (List ℕ)) → total_of_lines now u more ≡ total_of_lines now t (new.line ∷ more)) → Reaches sent s script less held u new.kept
reaches_line sent s script left held t u old new less reaches gives step =
    let more : Reaches sent s script less held t (old.kept ++ gives.bytes) = reaches_more sent s script left held t old.kept gives.bytes less reaches gives.moved in
    record {
      got = more.got;
      rest = more.rest;
      is_left = more.is_left;
      is_read = more.is_read;
      continues = continues_line sent s more.got held t u (old.kept ++ gives.bytes) new.line new.kept more.continues gives.begins step;
    }

-- answers written
pub reaches_sent : (sent : List ℕ) (s : ReplayProgress) (script : List ℕ) (left held : Option (List ℕ)) (t : ReplayProgress) (kept : List ℕ) (new : Option (List ℕ)) (u : ReplayProgress)
    → Reaches sent s script left held t kept → ((now more : List ℕ) → held ≡ Some now → Continues now t more new u more) → Reaches sent s script left new u kept
reaches_sent sent s script left held t kept new u reaches step = record {
  got = reaches.got;
  rest = reaches.rest;
  is_left = reaches.is_left;
  is_read = reaches.is_read;
  continues = continues_sent sent s reaches.got held t kept new u reaches.continues step;
}

pub cut_reaches : (sent : List ℕ) (s : ReplayProgress) (script : List ℕ) (left held : Option (List ℕ)) (t : ReplayProgress) (kept : List ℕ) → Reaches sent s script left held t kept
    → IsCut sent s script left held
cut_reaches sent s script left held t kept reaches = record {
  got = reaches.got;
  rest = reaches.rest;
  is_left = reaches.is_left;
  is_read = reaches.is_read;
  front = front_continues sent s reaches.got held t kept reaches.continues;
}

-- a write that failed
pub stops_write : (sent : List ℕ) (s : ReplayProgress) (script : List ℕ) (left held : Option (List ℕ)) (t u : ReplayProgress) (kept : List ℕ) (new : Option (List ℕ)) (fault : ReplayFault) → fault ≡ Write
    → Reaches sent s script left held t kept → ((now more : List ℕ) → held ≡ Some now → IsFrontOf now t more new) → Stops sent s script left new u fault
stops_write sent s script left held t u kept new fault is reaches front =
    subst (Stops sent s script left new u) (sym is)
    (record {
      got = reaches.got;
      rest = reaches.rest;
      is_left = reaches.is_left;
      is_read = reaches.is_read;
      front = front_sent sent s reaches.got held t kept new reaches.continues front;
    })

stops_by : (sent : List ℕ) (s : ReplayProgress) (script : List ℕ) (left held : Option (List ℕ)) (u : ReplayProgress) (fault : ReplayFault) → IsLineFault fault
    → StopsAtLine sent s script left held u (Some fault) → Stops sent s script left held u fault
stops_by sent s script left held u (Format line) kind stopped = stopped
stops_by sent s script left held u (TooLong line) kind stopped = stopped
stops_by sent s script left held u fault kind stopped = absurd kind

-- what was read comes to a fault
stops_so : (sent : List ℕ) (s : ReplayProgress) (script : List ℕ) (left held : Option (List ℕ)) (t u : ReplayProgress) (kept : List ℕ) (fault : ReplayFault) → (reaches : Reaches sent s script left held t kept)
    → ((more : List ℕ) → total reaches.continues.now u (final_outcome (Some fault)) ≡ total_of reaches.continues.now t (kept ++ more)) → StopsAtLine sent s script left held u (Some fault)
stops_so sent s script left held t u kept fault reaches stop = record {
  got = reaches.got;
  rest = reaches.rest;
  now = reaches.continues.now;
  is_left = reaches.is_left;
  is_read = reaches.is_read;
  is_held = reaches.continues.is_held;
  same = λ more only. stop more ∙ reaches.continues.same more;
}

-- a line that ends it
pub stops_line : (sent : List ℕ) (s : ReplayProgress) (script : List ℕ) (left held : Option (List ℕ)) (t u : ReplayProgress) (old new : LineState) (less : Option (List ℕ)) (fault : ReplayFault)
    → Reaches sent s script left held t old.kept → GivesLine old new left less
    → ((fault ≡ NoMemory) ⊎ (IsLineFault fault × ((now : List ℕ) (more : List (List ℕ)) → total now u (final_outcome (Some fault)) ≡ total_of_lines now t (new.line ∷ more))))
    → Stops sent s script less held u fault
stops_line sent s script left held t u old new less fault reaches gives (inl is) =
    subst (Stops sent s script less held u) (sym is)
    (cut_reaches sent s script less held t (old.kept ++ gives.bytes) (reaches_more sent s script left held t old.kept gives.bytes less reaches gives.moved))
stops_line sent s script left held t u old new less fault reaches gives (inr stop) =
    let more : Reaches sent s script less held t (old.kept ++ gives.bytes) = reaches_more sent s script left held t old.kept gives.bytes less reaches gives.moved in
    stops_by sent s script less held u fault stop.0
    (stops_so sent s script less held t u (old.kept ++ gives.bytes) fault more
    (λ next. stop.1 more.continues.now (parts is_line_feed (new.kept ++ next)) ∙ ap (total_of_lines more.continues.now t) (sym (gives.begins next))))

-- all bytes
all_read : (sent : List ℕ) (s : ReplayProgress) (script : List ℕ) (left held : Option (List ℕ)) (t : ReplayProgress) (kept bytes : List ℕ) (less : Option (List ℕ))
    → (reaches : Reaches sent s script left held t kept) → ConsumesAll left less bytes → total_of reaches.continues.now t (kept ++ bytes) ≡ total_of sent s script
all_read sent s script left held t kept bytes less reaches moved =
    let all = all_left reaches.rest left less bytes reaches.is_left moved in
    reaches.continues.same bytes ∙ ap (total_of sent s) (sym (reaches.is_read ∙ ap (λ xs. reaches.got ++ xs) all.0))

-- the end after the last line feed
ended_by : (sent : List ℕ) (s : ReplayProgress) (script : List ℕ) (left held : Option (List ℕ)) (t : ReplayProgress) (old new : LineState) (less : Option (List ℕ)) (fault : Option ReplayFault)
    → Reaches sent s script left held t old.kept → GivesNothing old new left less → ending t.reload t.before ≡ final_outcome fault → AnswersAll sent s script held t fault
ended_by sent s script left held t old new less fault reaches gives end = record {
  now = reaches.continues.now;
  is_held = reaches.continues.is_held;
  same = ap (total reaches.continues.now t) (sym end) ∙ ap (total_of reaches.continues.now t) (sym gives.is_empty)
      ∙ all_read sent s script left held t old.kept gives.bytes less reaches gives.moved;
}

pub done_end : (sent : List ℕ) (s : ReplayProgress) (script : List ℕ) (left held : Option (List ℕ)) (t : ReplayProgress) (old new : LineState) (less : Option (List ℕ))
    → Reaches sent s script left held t old.kept → GivesNothing old new left less → ending t.reload t.before ≡ final_outcome None → (less ≡ Some []) × AnswersAll sent s script held t None
done_end sent s script left held t old new less reaches gives end =
    ((all_left reaches.rest left less gives.bytes reaches.is_left gives.moved).1, ended_by sent s script left held t old new less None reaches gives end)

-- the last line
done_by : (sent : List ℕ) (s : ReplayProgress) (script : List ℕ) (left held : Option (List ℕ)) (t u : ReplayProgress) (old new : LineState) (less : Option (List ℕ)) (fault : Option ReplayFault)
    → Reaches sent s script left held t old.kept → GivesLastLine old new left less
    → ((now : List ℕ) → total now u (final_outcome fault) ≡ total_of_lines now t (new.line ∷ [])) → AnswersAll sent s script held u fault
done_by sent s script left held t u old new less fault reaches gives step = record {
  now = reaches.continues.now;
  is_held = reaches.continues.is_held;
  same = step reaches.continues.now ∙ ap (total_of_lines reaches.continues.now t) (sym gives.is_line) ∙ all_read sent s script left held t old.kept gives.bytes less reaches gives.moved;
}

pub done_last : (sent : List ℕ) (s : ReplayProgress) (script : List ℕ) (left held : Option (List ℕ)) (t u : ReplayProgress) (old new : LineState) (less : Option (List ℕ))
    → Reaches sent s script left held t old.kept → GivesLastLine old new left less
    → ((now : List ℕ) → total now u (final_outcome None) ≡ total_of_lines now t (new.line ∷ [])) → (less ≡ Some []) × AnswersAll sent s script held u None
done_last sent s script left held t u old new less reaches gives step =
    ((all_left reaches.rest left less gives.bytes reaches.is_left gives.moved).1, done_by sent s script left held t u old new less None reaches gives step)

-- a fault once all of the script was read
stops_after_all : (sent : List ℕ) (s : ReplayProgress) (script : List ℕ) (held : Option (List ℕ)) (u : ReplayProgress) (less : Option (List ℕ)) (fault : ReplayFault) → IsLineFault fault → less ≡ Some []
    → AnswersAll sent s script held u (Some fault) → Stops sent s script less held u fault
stops_after_all sent s script held u less fault kind is done =
    stops_by sent s script less held u fault kind
    (record {
      got = script;
      rest = [];
      now = done.now;
      is_left = is;
      is_read = sym (append-nil script);
      is_held = done.is_held;
      same = λ more only. done.same ∙ ap (total_of sent s) (sym (ap (λ xs. script ++ xs) (only refl) ∙ append-nil script));
    })

-- a line that is missing at the end
pub stops_end : (sent : List ℕ) (s : ReplayProgress) (script : List ℕ) (left held : Option (List ℕ)) (t : ReplayProgress) (old new : LineState) (less : Option (List ℕ)) (fault : ReplayFault)
    → Reaches sent s script left held t old.kept → GivesNothing old new left less → IsLineFault fault × (ending t.reload t.before ≡ final_outcome (Some fault))
    → Stops sent s script less held t fault
stops_end sent s script left held t old new less fault reaches gives stop =
    stops_after_all sent s script held t less fault stop.0 (all_left reaches.rest left less gives.bytes reaches.is_left gives.moved).1
    (ended_by sent s script left held t old new less (Some fault) reaches gives stop.1)

-- a fault in the last line, or after it
pub stops_last : (sent : List ℕ) (s : ReplayProgress) (script : List ℕ) (left held : Option (List ℕ)) (t u : ReplayProgress) (old new : LineState) (less : Option (List ℕ)) (fault : ReplayFault)
    → Reaches sent s script left held t old.kept → GivesLastLine old new left less
    → ((fault ≡ NoMemory) ⊎ (IsLineFault fault × ((now : List ℕ) → total now u (final_outcome (Some fault)) ≡ total_of_lines now t (new.line ∷ []))))
    → Stops sent s script less held u fault
stops_last sent s script left held t u old new less fault reaches gives (inl is) =
    let all = all_left reaches.rest left less gives.bytes reaches.is_left gives.moved in
    let read : script ≡ reaches.got ++ gives.bytes = reaches.is_read ∙ ap (λ xs. reaches.got ++ xs) all.0 in
    subst (Stops sent s script less held u) (sym is)
    (record {
      got = reaches.got ++ gives.bytes;
      rest = [];
      is_left = all.1;
      is_read = read ∙ sym (append-nil (reaches.got ++ gives.bytes));
      front = front_continues sent s (reaches.got ++ gives.bytes) held t (old.kept ++ gives.bytes) (continues_more sent s reaches.got held t old.kept gives.bytes reaches.continues);
    })
stops_last sent s script left held t u old new less fault reaches gives (inr stop) =
    stops_after_all sent s script held u less fault stop.0 (all_left reaches.rest left less gives.bytes reaches.is_left gives.moved).1
    (done_by sent s script left held t u old new less (Some fault) reaches gives stop.1)

asked_too_long : (reload : Option Pending) (number : ℕ) (line : List ℕ) → nat_lt MOST_LINE_BYTES (length line) ≡ true → asked_at reload number line ≡ Err (TooLong number)
asked_too_long reload number line long = rw long refl

-- a line that is too long
too_long : (p : Plain) (reload : Option Pending) (before : ℕ) (bytes : List ℕ) → BeginsTooLong bytes → (more : List ℕ)
    → final_outcome (Some (TooLong (before + 1))) ≡ script_outcome_in p reload before (bytes ++ more)
too_long p reload before bytes begins more =
    let first = begins more in
    let turned : turn p (asked_at reload (before + 1) first.0) (λ q next. outcome_in q next (before + 1) first.1) ≡ final_outcome (Some (TooLong (before + 1))) =
    ap (λ a. turn p a (λ q next. outcome_in q next (before + 1) first.1)) (asked_too_long reload (before + 1) first.0 (long_test (length first.0) first.3)) in
    sym (ap (outcome_in p reload before) first.2 ∙ turned)

-- no next line
pub stops_reading : (sent : List ℕ) (s : ReplayProgress) (script : List ℕ) (left held : Option (List ℕ)) (t : ReplayProgress) (old new : LineState) (less : Option (List ℕ)) (fault : ReadFault)
    → Reaches sent s script left held t old.kept → Gathers old new left less → (fault ≡ lines.TooLong → BeginsTooLong (new.line ++ new.kept))
    → Stops sent s script less held t (script_fault (t.before + 1) fault)
stops_reading sent s script left held t old new less lines.TooLong reaches gathers long =
    let more : Reaches sent s script less held t (new.line ++ new.kept) = reaches_gathered sent s script left held t old new less reaches gathers in
    stops_so sent s script less held t t (new.line ++ new.kept) (TooLong (t.before + 1)) more
    (λ next. ap (total more.continues.now t) (too_long t.plain t.reload t.before (new.line ++ new.kept) (long refl) next))
stops_reading sent s script left held t old new less lines.Read reaches gathers long =
    (new.line ++ new.kept, reaches_gathered sent s script left held t old new less reaches gathers)
stops_reading sent s script left held t old new less lines.NoMemory reaches gathers long =
    cut_reaches sent s script less held t (new.line ++ new.kept) (reaches_gathered sent s script left held t old new less reaches gathers)
