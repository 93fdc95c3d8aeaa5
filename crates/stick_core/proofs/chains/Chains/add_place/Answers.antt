use Rattle.std.specs.Prelude.{min, vec_capacity, vec_len}
use Rattle.std.proofs.Common.{◌<◌, ◌-◌, ◌≤◌, length, sym, ap, subst, ◌∙◌, arith}
use Rattle.stick_core.specs.Chains.{no_ends}
use Rattle.stick_core.specs.Links.{end}
use Rattle.stick_core.proofs.ChainLemmas.{IsGrown, grown}
use Rattle.stick_core.proofs.chains.Chains.add_place.Goals as goal

-- one link more changes no chain
all : (c : goal.After-len) → IsGrown c.self.inside.ends.items c.self.inside.links.items c.push_reserved.new.self.items
all c =
    let room : 0 < min end (vec_capacity c.self.inside.links) - vec_len c.self.inside.links = subst (λ n. 0 < n) (sym (ap (λ t. t.spare) c.self.view_is)) c.requires in
    let small : length c.push_reserved.new.self.items ≤ end = omega (arith, room, c.push_reserved.ensures.len, c.push_reserved.new.self.ok) in
    grown c.self.inside.ends.items c.self.inside.links.items c.push_reserved.new.self.items no_ends c.self.invariant.0 c.push_reserved.ensures.items small

pub invariant_of-self : goal.invariant_of-self
invariant_of-self c =
    let room : 0 < min end (vec_capacity c.self.inside.links) - vec_len c.self.inside.links = subst (λ n. 0 < n) (sym (ap (λ t. t.spare) c.self.view_is)) c.requires in
    ((all c).linked, omega (arith, room, c.push_reserved.ensures.len))

pub returns-clause-chains : goal.returns-clause-chains
returns-clause-chains c = (all c).chains ∙ ap (λ t. t.chains) c.self.view_is
