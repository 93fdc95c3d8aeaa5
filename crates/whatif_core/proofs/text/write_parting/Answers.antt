use Rattle.std.proofs.Common.{◌++◌, ◌∙◌, None, false, ap, append_assoc, sym}
use Rattle.std.specs.Prelude.{codes}
use Rattle.std.proofs.lemmas.Result.{on_ok_weaker}
use Rattle.whatif_core.specs.Reporting.{parting_text, where_text}
use Rattle.whatif_core.proofs.text.write_parting.Goals as goal

pub returns-in_ok-write_where : goal.returns-in_ok-write_where
returns-in_ok-write_where c =
    let out = c.args.out.now.items in
    let moment = c.args.moment in
    let id = c.args.id.now in
    let text = codes ": was moved, would be closed failed\n" in
    on_ok_weaker c.write_text.result
    (λ is. is ∙ ap (λ xs. xs ++ text) c.in_ok-write_where.ensures ∙ append_assoc out (where_text moment id None) text ∙ sym (ap (λ b. out ++ parting_text moment id b c.args.saved) c.if-lost.true))
    c.write_text.ensures

pub returns-in_ok-write_where-2 : goal.returns-in_ok-write_where-2
returns-in_ok-write_where-2 c =
    let out = c.args.out.now.items in
    let moment = c.args.moment in
    let id = c.args.id.now in
    let text = codes ": was closed failed, would be moved\n" in
    on_ok_weaker c.write_text-then-saved.result
    (λ is.
    is
    ∙ ap (λ xs. xs ++ text) c.in_ok-write_where-2.ensures
    ∙ append_assoc out (where_text moment id None) text
    ∙ sym (ap (λ b. out ++ parting_text moment id b c.args.saved) c.if-lost.false ∙ ap (λ b. out ++ parting_text moment id false b) c.if-saved.true))
    c.write_text-then-saved.ensures
