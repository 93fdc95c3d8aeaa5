use Rattle.std.proofs.Common.{◌≡◌, length}
use Rattle.stick_core.specs.Index.{chain_of, IsChained}
use Rattle.stick_core.proofs.index.chain_all.Given as goal

abbrev pub invariant-loop-place : goal.invariant-loop-place
invariant-loop-place l =
    (l.chains ≡ record l.initial.chains { chains = l.chains.chains })
    × (length l.chains.chains ≡ length l.initial.chains.chains)
    × IsChained (chain_of l.hash l.count) l.entries l.chains.chains l.place
