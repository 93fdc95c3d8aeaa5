-- Why a record that was right cannot be read again.
use Rattle.std.proofs.Common.{◌≡◌, ◌⊎◌, ℕ, List, ◌++◌, Option, Result, Ok, Err, refl, sym, ◌∙◌, inl, inr}
use Rattle.text_core.specs.Parts.{parts, is_line_feed}
use Rattle.line_reader.specs.Lines.{Gathers, GivesLastLine, GivesLine, LineState}
use Rattle.line_reader.specs.Unended.{BeginsTooLong}
use Rattle.line_reader.specs.declared.lines.ReadFault.{ReadFault}
use Rattle.line_reader.specs.declared.lines.ReadFault.TheVariants as lines
use Rattle.replay_core.specs.declared.fault.PrintFault.{PrintFault}
use Rattle.replay_core.specs.declared.fault.PrintFault.TheVariants as prints
use Rattle.audit_core.specs.Printing.{second_fault}
use Rattle.audit_core.specs.Standing.{Reaches, Standing, at_end, on_line, verdict_in}
use Rattle.audit_core.specs.declared.fault.CheckFault.{CheckFault}
use Rattle.audit_core.proofs.ReachLemmas.{stops_reading, wrong_last, wrong_line}

-- want of memory, or a fault of the record
abbrev pub IsAgain : PrintFault → Result Standing CheckFault → Type 0
IsAgain f found = (f ≡ prints.NoMemory) ⊎ ((f ≡ prints.Read) × (fault : CheckFault) × (found ≡ Err fault))

-- a record that is right has none
never : (f : PrintFault) (whole found : Result Standing CheckFault) (end : Standing) → ((fault : CheckFault) → found ≡ Err fault → whole ≡ Err fault) → IsAgain f found → f ≡ prints.Read → whole ≡ Ok end → ⊥
never f whole found end leads (inl none) read right = let both = sym none ∙ read in cc
never f whole found end leads (inr wrong) read right = let both = sym (leads wrong.1 wrong.2) ∙ right in cc

pub never_line : (f : PrintFault) (s : Standing) (text : List ℕ) (left : Option (List ℕ)) (t : Standing) (old new : LineState) (less : Option (List ℕ)) (end : Standing)
    → Reaches s text left t old.kept → GivesLine old new left less → IsAgain f (on_line t new.line) → f ≡ prints.Read → verdict_in s (parts is_line_feed text) ≡ Ok end → ⊥
never_line f s text left t old new less end reaches gives again read right =
    never f (verdict_in s (parts is_line_feed text)) (on_line t new.line) end (λ fault wrong. wrong_line s text left t old new less fault reaches gives wrong) again read right

pub never_last : (f : PrintFault) (s : Standing) (text : List ℕ) (left : Option (List ℕ)) (t : Standing) (old new : LineState) (less : Option (List ℕ)) (end : Standing)
    → Reaches s text left t old.kept → GivesLastLine old new left less → IsAgain f (on_line t new.line) → f ≡ prints.Read → verdict_in s (parts is_line_feed text) ≡ Ok end → ⊥
never_last f s text left t old new less end reaches gives again read right =
    never f (verdict_in s (parts is_line_feed text)) (on_line t new.line) end (λ fault wrong. wrong_last s text left t old new less fault reaches gives wrong) again read right

pub never_end : (f : PrintFault) (s : Standing) (text : List ℕ) (u end : Standing) → verdict_in s (parts is_line_feed text) ≡ at_end u → IsAgain f (at_end u) → f ≡ prints.Read
    → verdict_in s (parts is_line_feed text) ≡ Ok end → ⊥
never_end f s text u end all again read right = never f (verdict_in s (parts is_line_feed text)) (at_end u) end (λ fault wrong. all ∙ wrong) again read right

-- where no line comes, the reader gave up
pub spent_reading : (Q : Type 0) (s : Standing) (text : List ℕ) (left : Option (List ℕ)) (t : Standing) (old new : LineState) (less : Option (List ℕ)) (fault : ReadFault) (end : Standing)
    → Reaches s text left t old.kept → Gathers old new left less → (fault ≡ lines.TooLong → BeginsTooLong (new.line ++ new.kept)) → (fault ≡ lines.Read → Q)
    → second_fault fault ≡ prints.Read → verdict_in s (parts is_line_feed text) ≡ Ok end → Q
spent_reading Q s text left t old new less lines.Read end reaches gathers long gave_up read right = gave_up refl
spent_reading Q s text left t old new less lines.NoMemory end reaches gathers long gave_up read right = absurd (cc)
spent_reading Q s text left t old new less lines.TooLong end reaches gathers long gave_up read right =
    let wrong = stops_reading s text left t old new less lines.TooLong reaches gathers long in
    let both = sym wrong ∙ right in absurd (cc)
