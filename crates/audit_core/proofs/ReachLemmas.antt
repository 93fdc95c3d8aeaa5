-- How far a record was read and checked.
use Rattle.std.proofs.Common.{◌≡◌, ◌⊎◌, ◌+◌, ℕ, true, List, [], ◌∷◌, ◌++◌, length, Option, Some, Result, Ok, Err, refl, ap, subst, sym, ◌∙◌, append_assoc, inl, inr}
use Rattle.std.specs.Prelude.{nat_lt}
use Rattle.std.specs.Io.KnownBytes.{Consumes}
use Rattle.list_core.specs.Each.{◌>>=◌}
use Rattle.text_core.specs.Parts.{parts, is_line_feed}
use Rattle.line_reader.specs.Lines.{ConsumesAll, Gathers, GivesLastLine, GivesLine, GivesNothing, LineState}
use Rattle.line_reader.specs.Unended.{BeginsTooLong}
use Rattle.line_reader.specs.declared.lines.ReadFault.{ReadFault}
use Rattle.line_reader.specs.declared.lines.ReadFault.TheVariants as lines
use Rattle.line_reader.specs.declared.lines.TheConstants.{MOST_LINE_BYTES}
use Rattle.replay_core.proofs.ReadLemmas.{all_left, given_on, long_test}
use Rattle.audit_core.specs.Verdict.{fault_at}
use Rattle.audit_core.specs.Standing.{Reaches, Standing, at_end, on_due, on_line, verdict_in}
use Rattle.audit_core.specs.Check.{IsLineFault, Stops, reading_fault}
use Rattle.audit_core.specs.declared.due.Due.{Due}
use Rattle.audit_core.specs.declared.due.Due.TheVariants as dues
use Rattle.audit_core.specs.declared.fault.CheckFault.{CheckFault}
use Rattle.audit_core.specs.declared.fault.CheckKind.{CheckKind}
use Rattle.audit_core.specs.declared.fault.CheckKind.TheVariants.{NoMemory, Read, TooLong, Config}

-- nothing read yet
pub reaches_start : (s : Standing) (text : List ℕ) (left : Option (List ℕ)) (kept : List ℕ) → kept ≡ [] → left ≡ Some text → Reaches s text left s kept
reaches_start s text left kept none is_left =
    subst (Reaches s text left s) (sym none) (record { got = []; rest = text; is_left = is_left; is_read = refl; same = λ more. refl })

-- more bytes
reaches_more : (s : Standing) (text : List ℕ) (left : Option (List ℕ)) (t : Standing) (kept bytes : List ℕ) (less : Option (List ℕ))
    → Reaches s text left t kept → Consumes left less bytes → Reaches s text less t (kept ++ bytes)
reaches_more s text left t kept bytes less reaches moved =
    let taken = given_on reaches.got reaches.rest text left less bytes reaches.is_read reaches.is_left moved in
    record {
      got = reaches.got ++ bytes;
      rest = taken.0;
      is_left = taken.1;
      is_read = taken.2;
      same = λ more.
          ap (λ xs. verdict_in t (parts is_line_feed xs)) (append_assoc kept bytes more) ∙ reaches.same (bytes ++ more)
          ∙ ap (λ xs. verdict_in s (parts is_line_feed xs)) (sym (append_assoc reaches.got bytes more));
    }

-- what comes of a line that is right, and the rest
goes_on : (t u : Standing) (line : List ℕ) (more : List (List ℕ)) → on_line t line ≡ Ok u → verdict_in t (line ∷ more) ≡ verdict_in u more
goes_on t u line more step = ap (λ r. r >>= λ v. verdict_in v more) step

-- what comes of a line that is wrong
goes_wrong : (t : Standing) (line : List ℕ) (more : List (List ℕ)) (fault : CheckFault) → on_line t line ≡ Err fault → verdict_in t (line ∷ more) ≡ Err fault
goes_wrong t line more fault step = ap (λ r. r >>= λ v. verdict_in v more) step

-- a line more
pub reaches_line : (s : Standing) (text : List ℕ) (left : Option (List ℕ)) (t u : Standing) (old new : LineState) (less : Option (List ℕ))
    → Reaches s text left t old.kept → GivesLine old new left less → on_line t new.line ≡ Ok u → Reaches s text less u new.kept
reaches_line s text left t u old new less reaches gives step =
    let more : Reaches s text less t (old.kept ++ gives.bytes) = reaches_more s text left t old.kept gives.bytes less reaches gives.moved in
    record {
      got = more.got;
      rest = more.rest;
      is_left = more.is_left;
      is_read = more.is_read;
      same = λ next.
          sym (goes_on t u new.line (parts is_line_feed (new.kept ++ next)) step) ∙ ap (verdict_in t) (sym (gives.begins next)) ∙ more.same next;
    }

-- what the whole text comes to
whole : (s : Standing) (text : List ℕ) (left : Option (List ℕ)) (t : Standing) (kept : List ℕ) → (reaches : Reaches s text left t kept)
    → verdict_in s (parts is_line_feed text) ≡ verdict_in t (parts is_line_feed (kept ++ reaches.rest))
whole s text left t kept reaches = ap (λ xs. verdict_in s (parts is_line_feed xs)) reaches.is_read ∙ sym (reaches.same reaches.rest)

stops_by : (s : Standing) (text : List ℕ) (kind : CheckKind) (line : ℕ) → IsLineFault kind → verdict_in s (parts is_line_feed text) ≡ Err (fault_at line kind) → Stops s text kind line
stops_by s text NoMemory line is wrong = absurd is
stops_by s text Read line is wrong = absurd is
stops_by s text (Config fault) line is wrong = absurd is
stops_by s text kind line is wrong = wrong

-- a fault that ends a check: want of memory, or what is wrong
abbrev pub IsWrong : Result Standing CheckFault → CheckFault → Type 0
IsWrong step fault = (fault ≡ fault_at 0 NoMemory) ⊎ (IsLineFault fault.kind × (step ≡ Err fault))

without_memory : (s : Standing) (text : List ℕ) (fault : CheckFault) → fault ≡ fault_at 0 NoMemory → Stops s text fault.kind fault.line
without_memory s text fault is =
    let none : Stops s text (fault_at 0 NoMemory).kind (fault_at 0 NoMemory).line = refl in
    subst (λ f. Stops s text f.kind f.line) (sym is) none

pub wrong_line : (s : Standing) (text : List ℕ) (left : Option (List ℕ)) (t : Standing) (old new : LineState) (less : Option (List ℕ)) (fault : CheckFault)
    → Reaches s text left t old.kept → GivesLine old new left less → on_line t new.line ≡ Err fault → verdict_in s (parts is_line_feed text) ≡ Err fault
wrong_line s text left t old new less fault reaches gives wrong =
    let more : Reaches s text less t (old.kept ++ gives.bytes) = reaches_more s text left t old.kept gives.bytes less reaches gives.moved in
    whole s text less t (old.kept ++ gives.bytes) more ∙ ap (verdict_in t) (gives.begins more.rest)
    ∙ goes_wrong t new.line (parts is_line_feed (new.kept ++ more.rest)) fault wrong

-- a line that is wrong
pub stops_line : (s : Standing) (text : List ℕ) (left : Option (List ℕ)) (t : Standing) (old new : LineState) (less : Option (List ℕ)) (fault : CheckFault)
    → Reaches s text left t old.kept → GivesLine old new left less → IsWrong (on_line t new.line) fault → Stops s text fault.kind fault.line
stops_line s text left t old new less fault reaches gives (inl is) = without_memory s text fault is
stops_line s text left t old new less fault reaches gives (inr wrong) =
    stops_by s text fault.kind fault.line wrong.0 (wrong_line s text left t old new less fault reaches gives wrong.1)

-- all bytes
all_read : (s : Standing) (text : List ℕ) (left : Option (List ℕ)) (t : Standing) (kept bytes : List ℕ) (less : Option (List ℕ))
    → Reaches s text left t kept → ConsumesAll left less bytes → verdict_in s (parts is_line_feed text) ≡ verdict_in t (parts is_line_feed (kept ++ bytes))
all_read s text left t kept bytes less reaches moved =
    whole s text left t kept reaches ∙ ap (λ xs. verdict_in t (parts is_line_feed (kept ++ xs))) (all_left reaches.rest left less bytes reaches.is_left moved).0

-- the end after the last line feed
pub done_end : (s : Standing) (text : List ℕ) (left : Option (List ℕ)) (t : Standing) (old new : LineState) (less : Option (List ℕ))
    → Reaches s text left t old.kept → GivesNothing old new left less → verdict_in s (parts is_line_feed text) ≡ at_end t
done_end s text left t old new less reaches gives =
    all_read s text left t old.kept gives.bytes less reaches gives.moved ∙ ap (λ xs. verdict_in t (parts is_line_feed xs)) gives.is_empty

last_read : (s : Standing) (text : List ℕ) (left : Option (List ℕ)) (t : Standing) (old new : LineState) (less : Option (List ℕ))
    → Reaches s text left t old.kept → GivesLastLine old new left less → verdict_in s (parts is_line_feed text) ≡ verdict_in t (new.line ∷ [])
last_read s text left t old new less reaches gives =
    all_read s text left t old.kept gives.bytes less reaches gives.moved ∙ ap (verdict_in t) gives.is_line

-- the last line
pub done_last : (s : Standing) (text : List ℕ) (left : Option (List ℕ)) (t u : Standing) (old new : LineState) (less : Option (List ℕ))
    → Reaches s text left t old.kept → GivesLastLine old new left less → on_line t new.line ≡ Ok u → verdict_in s (parts is_line_feed text) ≡ at_end u
done_last s text left t u old new less reaches gives step = last_read s text left t old new less reaches gives ∙ goes_on t u new.line [] step

pub wrong_last : (s : Standing) (text : List ℕ) (left : Option (List ℕ)) (t : Standing) (old new : LineState) (less : Option (List ℕ)) (fault : CheckFault)
    → Reaches s text left t old.kept → GivesLastLine old new left less → on_line t new.line ≡ Err fault → verdict_in s (parts is_line_feed text) ≡ Err fault
wrong_last s text left t old new less fault reaches gives wrong = last_read s text left t old new less reaches gives ∙ goes_wrong t new.line [] fault wrong

-- a fault in the last line
pub stops_last : (s : Standing) (text : List ℕ) (left : Option (List ℕ)) (t : Standing) (old new : LineState) (less : Option (List ℕ)) (fault : CheckFault)
    → Reaches s text left t old.kept → GivesLastLine old new left less → IsWrong (on_line t new.line) fault → Stops s text fault.kind fault.line
stops_last s text left t old new less fault reaches gives (inl is) = without_memory s text fault is
stops_last s text left t old new less fault reaches gives (inr wrong) =
    stops_by s text fault.kind fault.line wrong.0 (wrong_last s text left t old new less fault reaches gives wrong.1)

-- the text ends where a reply has to be
pub stops_end : (s : Standing) (text : List ℕ) (t : Standing) (fault : CheckFault) → verdict_in s (parts is_line_feed text) ≡ at_end t → IsLineFault fault.kind → at_end t ≡ Err fault
    → Stops s text fault.kind fault.line
stops_end s text t fault all kind is = stops_by s text fault.kind fault.line kind (all ∙ is)

too_long : (t : Standing) (line : List ℕ) → nat_lt MOST_LINE_BYTES (length line) ≡ true → on_line t line ≡ Err (fault_at (t.lines + 1) TooLong)
too_long t line long = by t.due
  where
    by : (due : Due) → on_due t due line ≡ Err (fault_at (t.lines + 1) TooLong)
    by dues.Event = rw long refl
    by (dues.Text pending) = rw long refl
    by (dues.Reply peer answered) = rw long refl

-- no next line
pub stops_reading : (s : Standing) (text : List ℕ) (left : Option (List ℕ)) (t : Standing) (old new : LineState) (less : Option (List ℕ)) (fault : ReadFault)
    → Reaches s text left t old.kept → Gathers old new left less → (fault ≡ lines.TooLong → BeginsTooLong (new.line ++ new.kept))
    → Stops s text (reading_fault (t.lines + 1) fault).kind (reading_fault (t.lines + 1) fault).line
stops_reading s text left t old new less lines.Read reaches gathers long = refl
stops_reading s text left t old new less lines.NoMemory reaches gathers long = refl
stops_reading s text left t old new less lines.TooLong reaches gathers long =
    let more : Reaches s text less t (new.line ++ new.kept) =
    subst (Reaches s text less t) gathers.same (reaches_more s text left t old.kept gathers.bytes less reaches gathers.moved) in
    let first = long refl more.rest in
    whole s text less t (new.line ++ new.kept) more ∙ ap (verdict_in t) first.2
    ∙ goes_wrong t first.0 first.1 (fault_at (t.lines + 1) TooLong) (too_long t first.0 (long_test (length first.0) first.3))
