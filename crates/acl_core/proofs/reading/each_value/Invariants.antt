use Rattle.std.proofs.Common.{◌≡◌, [], drop}
use Rattle.list_core.specs.Each.{each}
use Rattle.acl_core.specs.Reading.{value_of}
use Rattle.acl_core.proofs.reading.each_value.Given as goal

abbrev pub invariant-loop-word : goal.invariant-loop-word
invariant-loop-word l = each (λ done w. value_of l.form w) l.patterns.items (drop l.word-index l.words) ≡ each (λ done w. value_of l.form w) [] l.words
