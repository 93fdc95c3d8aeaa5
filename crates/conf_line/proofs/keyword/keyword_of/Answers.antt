use Rattle.std.proofs.Common.{◌∙◌, sym}
use Rattle.std.specs.Str.{bytes_eq}
use Rattle.conf_line.specs.declared.keyword.Keyword.TheVariants.{Unknown}
use Rattle.conf_line.specs.Keywords.{keyword_of}
use Rattle.conf_line.proofs.TableLemmas.{passed}
use Rattle.conf_line.proofs.keyword.keyword_of.Goals as goal

pub loop-text-preserved : goal.loop-text-preserved
loop-text-preserved c =
    passed (λ text. bytes_eq c.args.word.now text.now) Unknown _ c.loop-text.text-index _ (keyword_of c.args.word.now) c.loop-text-test.true (sym c.is.ensures ∙ c.if-is.false) c.loop-text.invariant
