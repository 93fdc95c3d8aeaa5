-- The networks that a source address is looked for in.
use Rattle.std.specs.Prelude.{Bool, true, false, List, [], ◌∷◌, ◌++◌, if◌then◌else◌}
use Rattle.addr_core.specs.Prefix.{Prefix}
use Rattle.acl_core.specs.declared.criterion.Criterion.{Criterion}
use Rattle.acl_core.specs.declared.criterion.Criterion.TheVariants.{Source}
use Rattle.acl_core.specs.declared.criterion.Pattern.{Pattern}
use Rattle.acl_core.specs.declared.criterion.Pattern.TheVariants.{Network, Within, Compared}
use Rattle.acl_core.specs.TestValue.{TestValue}

-- the networks among patterns, in their order; other patterns have no address
abbrev pub networks : List Pattern → List Prefix
networks [] = []
networks (Network net ∷ rest) = net ∷ networks rest
networks (Within least most ∷ rest) = networks rest
networks (Compared operator bound ∷ rest) = networks rest

-- the criterion is the source address
abbrev pub is_source : Criterion → Bool
is_source Source = true
is_source criterion = false

-- a test of the source address
abbrev pub is_of_source : TestValue → Bool
is_of_source test = is_source test.criterion

-- the networks of all tests of the source address
abbrev pub source_networks : List TestValue → List Prefix
source_networks [] = []
source_networks (test ∷ rest) = if is_of_source test then networks test.patterns ++ source_networks rest else source_networks rest
