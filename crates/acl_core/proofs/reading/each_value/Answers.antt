use Rattle.std.proofs.Common.{◌≡◌, ◌+◌, ◌∷◌, drop, ◌∙◌, ap, sym}
use Rattle.std.proofs.lemmas.List.{drop_more}
use Rattle.list_core.proofs.EachLaws.{each_more}
use Rattle.acl_core.specs.Reading.{value_of}
use Rattle.acl_core.proofs.reading.each_value.Goals.{then-is_empty+in_ok-reserve_exact-in-Ok, else-is_empty}
use Rattle.acl_core.proofs.reading.each_value.Goals as goal

pub loop-word-preserved : goal.loop-word-preserved
loop-word-preserved c =
    let there : drop c.loop-word.word-index c.args.words.now ≡ c.word-item.result ∷ drop (c.loop-word.word-index + 1) c.args.words.now =
    drop_more c.args.words.now c.loop-word.word-index c.word-item.result c.loop-word-test.true ∙ ap (λ w. w ∷ drop (c.loop-word.word-index + 1) c.args.words.now) (sym c.word-item.is) in
    let same : c.if-is_empty.patterns.items ≡ c.loop-word.patterns.items =
    elim c.if-is_empty.branch [
      | then-is_empty+in_ok-reserve_exact-in-Ok w ↦ ap (λ v. v.items) w.patterns-is ∙ w.reserve_exact.ensures.items
      | else-is_empty w ↦ ap (λ v. v.items) w.patterns-is
    ] in
    rw (c.in_ok-push-in-Ok.ensures.items, same)
    (each_more (λ done w. value_of c.args.form w) c.loop-word.patterns.items c.args.words.now c.loop-word.word-index c.word-item.result c.in-Ok.pattern there (sym c.value.ensures ∙ c.in-Ok.is) ∙ c.loop-word.invariant)
