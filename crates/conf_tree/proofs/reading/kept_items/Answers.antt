use Rattle.std.proofs.Common.{◌≡◌, ◌+◌, [], ◌∷◌, ◌++◌, drop, Ok, ◌∙◌, ap, sym}
use Rattle.std.proofs.lemmas.List.{drop_more}
use Rattle.std.proofs.lemmas.List.Elements.{filter-append}
use Rattle.list_core.proofs.EachLaws.{each_more}
use Rattle.conf_tree.specs.Config.{has_effect, item_after, with_effect, next_item}
use Rattle.conf_tree.proofs.reading.kept_items.Goals as goal

pub loop-line-preserved : goal.loop-line-preserved
loop-line-preserved c =
    let all = c.loop-line.invariant.0 in
    let item = c.in_ok-item.item in
    let there : drop c.loop-line.line-index c.args.lines.now ≡ c.line-item.result ∷ drop (c.loop-line.line-index + 1) c.args.lines.now =
    drop_more c.args.lines.now c.loop-line.line-index c.line-item.result c.loop-line-test.true ∙ ap (λ l. l ∷ drop (c.loop-line.line-index + 1) c.args.lines.now) (sym c.line-item.is) in
    let reads : next_item all c.line-item.result ≡ Ok item = ap (λ xs. item_after xs c.line-item.result) (sym c.loop-line.invariant.1) ∙ c.in_ok-item.ensures.gives in (
      all ++ item ∷ [],
      c.in_ok-kept.ensures ∙ ap (λ xs. xs ++ with_effect (item ∷ [])) c.loop-line.invariant.1 ∙ sym (filter-append (λ i. has_effect i.statement) all (item ∷ [])),
      each_more next_item all c.args.lines.now c.loop-line.line-index c.line-item.result item there reads ∙ c.loop-line.invariant.2,
    )
