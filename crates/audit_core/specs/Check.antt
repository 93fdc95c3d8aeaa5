-- How a check of a record ends.
use Rattle.std.specs.Prelude.{◌≡◌, ℕ, List, Ok, Err}
use Rattle.plan_types.specs.declared.plan.Plan.{Plan}
use Rattle.config_core.specs.Meaning.{meaning}
use Rattle.audit_core.specs.Standing.{Standing, verdict_in}
use Rattle.text_core.specs.Parts.{parts, is_line_feed}
use Rattle.audit_core.specs.Verdict.{fault_at, verdict}
use Rattle.line_reader.specs.declared.lines.ReadFault.{ReadFault}
use Rattle.line_reader.specs.declared.lines.ReadFault.TheVariants as lines
use Rattle.audit_core.specs.declared.fault.CheckFault.{CheckFault}
use Rattle.audit_core.specs.declared.fault.CheckKind.{CheckKind}
use Rattle.audit_core.specs.declared.fault.CheckKind.TheVariants.{Format, WrongReply, NoMemory, Read, TooLong, Config}

-- the first faulty line of the text and its kind, unless the configuration is refused, or the device or memory failed
abbrev pub IsFaultOf : List ℕ → List ℕ → CheckKind → ℕ → Type 0
IsFaultOf config text Format line = (plan : Plan) × (meaning config ≡ Ok plan) × (verdict plan text ≡ Err (fault_at line Format))
IsFaultOf config text WrongReply line = (plan : Plan) × (meaning config ≡ Ok plan) × (verdict plan text ≡ Err (fault_at line WrongReply))
IsFaultOf config text TooLong line = (plan : Plan) × (meaning config ≡ Ok plan) × (verdict plan text ≡ Err (fault_at line TooLong))
IsFaultOf config text NoMemory line = line ≡ 0
IsFaultOf config text Read line = line ≡ 0
IsFaultOf config text (Config fault) line = (line ≡ 0) × (meaning config ≡ Err fault)

-- the fault is one of a line
abbrev pub IsLineFault : CheckKind → Type 0
IsLineFault Format = Unit {0}
IsLineFault WrongReply = Unit {0}
IsLineFault TooLong = Unit {0}
IsLineFault NoMemory = ⊥
IsLineFault Read = ⊥
IsLineFault (Config fault) = ⊥

-- how the lines of a text end early
abbrev pub Stops : Standing → List ℕ → CheckKind → ℕ → Type 0
Stops s text Format line = verdict_in s (parts is_line_feed text) ≡ Err (fault_at line Format)
Stops s text WrongReply line = verdict_in s (parts is_line_feed text) ≡ Err (fault_at line WrongReply)
Stops s text TooLong line = verdict_in s (parts is_line_feed text) ≡ Err (fault_at line TooLong)
Stops s text NoMemory line = line ≡ 0
Stops s text Read line = line ≡ 0
Stops s text (Config fault) line = ⊥

-- the fault is one of the reader
abbrev pub IsRead : CheckKind → Type 0
IsRead Read = Unit {0}
IsRead kind = ⊥

-- the fault if no line comes
abbrev pub reading_fault : ℕ → ReadFault → CheckFault
reading_fault at lines.TooLong = fault_at at TooLong
reading_fault at lines.Read = fault_at 0 Read
reading_fault at lines.NoMemory = fault_at 0 NoMemory

-- the fault is not one of what was handed in: the device or memory failed
abbrev pub IsOutside : CheckKind → Type 0
IsOutside Format = ⊥
IsOutside WrongReply = ⊥
IsOutside TooLong = ⊥
IsOutside NoMemory = Unit {0}
IsOutside Read = Unit {0}
IsOutside (Config fault) = ⊥
