use Rattle.std.proofs.Common.{ap, subst, sym, ◌≤◌, ◌∙◌, length, take}
use Rattle.text_core.specs.Parts.{parts, is_line_feed}
use Rattle.audit_core.specs.Record.{history_text}
use Rattle.audit_core.specs.Verdict.{verdict, IsWithinLimits}
use Rattle.audit_core.proofs.CutLemmas.{cut_late, written_right}
use Rattle.audit_core.proofs.laws.what_is_written_is_found_right.Goals as goal

pub returns-clause-whole : goal.returns-clause-whole
returns-clause-whole c = λ plan text written within.
    ap (verdict plan) written.appended
    ∙ written_right plan written.history written.legal written.handed_in (subst (λ t. IsWithinLimits (parts is_line_feed t)) written.appended within)

pub returns-clause-cut : goal.returns-clause-cut
returns-clause-cut c = λ plan text written within fault wrong.
    let front = take written.appended.0 (history_text written.history) in
    subst (λ t. length (parts is_line_feed t) ≤ fault.line) (sym written.appended.1)
    (cut_late plan written.history written.appended.0 fault written.legal written.handed_in within (ap (verdict plan) (sym written.appended.1) ∙ wrong))
