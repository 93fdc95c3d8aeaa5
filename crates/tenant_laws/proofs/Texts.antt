-- No text has a server line in two backends.
use Rattle.std.specs.Prelude.{ℕ, Bool, true, false, List, [], length, Option, Some, None, Result, Ok, Err, refl, nat_lt, ◌≤◌, ◌≡◌}
use Rattle.std.proofs.Common.{sym, ap, subst, arith}
use Rattle.std.proofs.lemmas.Bool.Decides.{nat_tests}
use Rattle.list_core.specs.Each.{IsRead}
use Rattle.list_core.proofs.EachLaws.{each_ok}
use Rattle.text_core.specs.Parts.{parts, is_line_feed}
use Rattle.conf_text.specs.declared.line.TheConstants.{MOST_BYTES}
use Rattle.conf_text.specs.declared.line.Line.{Line}
use Rattle.conf_text.specs.declared.line.LineFault.{LineFault}
use Rattle.conf_text.specs.Lines.{lines_of, next_line, text_too_long, AreLines}
use Rattle.conf_line.specs.declared.fault.ConfFault.{ConfFault}
use Rattle.conf_tree.specs.declared.tree.ConfigLine.{ConfigLine}
use Rattle.conf_tree.specs.Config.{items_in, items_of, text_fault}
use Rattle.conf_tree.specs.Rising.{Rises}
use Rattle.conf_tree.proofs.RisingLemmas.{rises_in}
use Rattle.plan_types.specs.Lines.{LinesDiffer}
use Rattle.plan_types.specs.declared.plan.Plan.{Plan}
use Rattle.plan_core.specs.declared.fault.PlanFault.{PlanFault}
use Rattle.plan_core.specs.Compiled.{plan_faults, plan_of, plan_or, plan_with}
use Rattle.plan_core.specs.Proxies.{proxies}
use Rattle.plan_core.specs.Faults.{least}
use Rattle.plan_core.proofs.LineLemmas.{lines_differ}
use Rattle.config_core.specs.Meaning.{meaning, meant, opened}
use Rattle.conn_model.proofs.Replies.{bind-ok}

lines-read : (text : List ℕ) (lines : List Line) → lines_of text ≡ Ok lines → AreLines text lines
lines-read text lines is = by (nat_lt MOST_BYTES (length text)) refl
  where
    by : (b : Bool) → nat_lt MOST_BYTES (length text) ≡ b → AreLines text lines
    by true e = absurd (let wrong : Err text_too_long ≡ Ok lines = rw e at is in cc)
    by false e =
        let fits : length text ≤ MOST_BYTES = grind (arith, nat_tests) in
        let more = each_ok next_line [] (parts is_line_feed text) lines (rw e at is) in
        (fits, subst (λ ys. IsRead next_line (parts is_line_feed text) ys) (sym more.1) more.2)

items-lines : (text : List ℕ) (plan : Plan) (items : List ConfigLine) → items_of text ≡ Ok items → opened (plan_of items) ≡ Ok plan → LinesDiffer plan
items-lines text plan items read is =
    let one = bind-ok (text_fault (lines_of text)) (λ lines. items_in lines) items read in
    let lines : List Line = one.0 in
    planned (least (plan_faults items)) is (rises_in text lines items (lines-read text lines (unfaulted (lines_of text) lines one.1)) one.2)
  where
    unfaulted : (r : Result (List Line) LineFault) (lines : List Line) → text_fault r ≡ Ok lines → r ≡ Ok lines
    unfaulted (Ok ls) lines e = let same : ls ≡ lines = cc in ap Ok same
    unfaulted (Err fault) lines e = absurd (let wrong : text_fault (Err fault) ≡ Ok lines = e in cc)

    planned : (o : Option PlanFault) → opened (plan_or (proxies [] items) o) ≡ Ok plan → Rises items → LinesDiffer plan
    planned None e rises = let same : plan_with (proxies [] items) ≡ plan = cc in lines_differ items plan rises (ap (λ (x : Plan). x.backends) (sym same))
    planned (Some fault) e rises = absurd (let wrong : opened (Err fault) ≡ Ok plan = e in cc)

pub text-lines : (text : List ℕ) (plan : Plan) → meaning text ≡ Ok plan → LinesDiffer plan
text-lines text plan is = by (items_of text) refl is
  where
    by : (r : Result (List ConfigLine) ConfFault) → items_of text ≡ r → meant r ≡ Ok plan → LinesDiffer plan
    by (Err fault) e m = absurd (let wrong : meant (Err fault) ≡ Ok plan = m in cc)
    by (Ok items) e m = items-lines text plan items e m
