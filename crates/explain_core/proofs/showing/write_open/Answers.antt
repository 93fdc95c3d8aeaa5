use Rattle.std.proofs.Common.{◌≡◌, ℕ, List, ◌++◌, ap, ◌∙◌, append_assoc}
use Rattle.std.specs.Prelude.{codes, if◌then◌else◌}
use Rattle.text_core.specs.Decimal.{decimal}
use Rattle.explain_core.proofs.OnceLemmas.{on_ok}
use Rattle.explain_core.proofs.showing.write_open.Goals as goal

pub returns : goal.returns
returns c =
    let word : List ℕ = codes ", " ++ decimal c.args.connections in
    let tail : List ℕ = if c.args.is_picked then codes " open: picked\n" else codes " open\n" in
    on_ok c.write_either.result (c.write_either.new.out.items ≡ c.write_number.new.out.items ++ tail) (c.write_either.new.out.items ≡ c.args.out.now.items ++ (word ++ tail))
    (λ e. e ∙ ap (λ xs. xs ++ tail) c.in_ok-write_number.ensures ∙ append_assoc c.args.out.now.items word tail) c.write_either.ensures
