-- What an audit finds, and how it writes a fault.
use Rattle.std.specs.Prelude.{◌≡◌, ℕ, List, ◌++◌, codes, Option, Some, None, Ok}
use Rattle.text_core.specs.Decimal.{decimal}
use Rattle.plan_types.specs.declared.plan.Plan.{Plan}
use Rattle.config_core.specs.Meaning.{meaning}
use Rattle.audit_core.specs.Verdict.{verdict}
use Rattle.audit_core.specs.Check.{IsFaultOf}
use Rattle.audit_core.specs.declared.fault.Checked.{Checked}
use Rattle.audit_core.specs.declared.fault.CheckFault.{CheckFault}
use Rattle.audit_core.specs.declared.fault.CheckKind.{CheckKind}
use Rattle.audit_core.specs.declared.fault.CheckKind.TheVariants.{Format, WrongReply, NoMemory, Read, TooLong, Config}

abbrev pub kind_name : CheckKind → List ℕ
kind_name Format = codes "Format"
kind_name WrongReply = codes "WrongReply"
kind_name NoMemory = codes "NoMemory"
kind_name Read = codes "Read"
kind_name TooLong = codes "TooLong"
kind_name (Config fault) = codes "Config"

-- the line of a fault
abbrev pub fault_text : CheckFault → List ℕ
fault_text fault = codes "line " ++ decimal fault.line ++ codes ": " ++ kind_name fault.kind ++ codes "\n"

-- nothing is wrong with the text, or this is
abbrev pub Finds : List ℕ → List ℕ → Option CheckFault → Type 0
Finds config text None = (plan : Plan) × (checked : Checked) × (meaning config ≡ Ok plan) × (verdict plan text ≡ Ok checked)
Finds config text (Some fault) = IsFaultOf config text fault.kind fault.line
