use Rattle.std.proofs.Common.{◌≡◌, drop}
use Rattle.std.specs.Str.{bytes_eq}
use Rattle.conf_line.specs.declared.keyword.Keyword.TheVariants.{Unknown}
use Rattle.conf_line.specs.Keywords.{keyword_of}
use Rattle.conf_line.proofs.TableLemmas.{looked_up}
use Rattle.conf_line.proofs.keyword.keyword_of.Given as goal

abbrev pub invariant-loop-text : goal.invariant-loop-text
invariant-loop-text l = looked_up (λ text. bytes_eq l.word text.now) Unknown (drop l.text-index l.text-items) ≡ keyword_of l.word
