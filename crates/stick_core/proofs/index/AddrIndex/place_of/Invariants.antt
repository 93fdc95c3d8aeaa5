use Rattle.std.proofs.Common.{◌≡◌}
use Rattle.std.specs.Prelude.{slice_get}
use Rattle.stick_core.specs.Chains.{chain_at}
use Rattle.stick_core.proofs.IndexLemmas.{HaveOthers}
use Rattle.stick_core.proofs.index.AddrIndex.place_of.Given as goal

abbrev pub invariant-loop : goal.invariant-loop
invariant-loop l =
    (l.next ≡ slice_get (chain_at l.self-inside.chains.chains l.chain) l.counter)
    × HaveOthers l.key l.self-inside.entries.items (chain_at l.self-inside.chains.chains l.chain) l.counter
