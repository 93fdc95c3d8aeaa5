use Rattle.std.specs.Prelude.{min, vec_capacity, vec_len}
use Rattle.std.proofs.Common.{◌≡◌, ◌-◌, sym, subst, List, [], ◌∷◌, ◌++◌, ℕ, ◌≤◌, ◌<◌, eqb, cond, length, length-append, refl, ap, ◌∙◌, arith}
use Rattle.std.proofs.lemmas.List.{get_or_append_left}
use Rattle.stick_core.specs.Links.{end, nowhere, link_at, after_of, before_of, ordered}
use Rattle.stick_core.specs.declared.links.Link.{Link}
use Rattle.stick_core.specs.Ring.{IsRing}
use Rattle.stick_core.proofs.RingLemmas.{ring-more, walked, ring_is}
use Rattle.stick_core.proofs.order.Order.add_place.Goals as goal

same : (ends l : Link) (links : List Link) (q : ℕ) → q < length links → link_at ends (links ++ l ∷ []) q ≡ link_at ends links q
same ends l links q less = ap (λ x. cond (eqb q end) ends x) (get_or_append_left links (l ∷ []) nowhere q less)

more : (ends l : Link) (links new : List Link) → new ≡ links ++ l ∷ [] → IsRing (after_of ends links) (before_of ends links) (length links) end (ordered ends links)
    → IsRing (after_of ends new) (before_of ends new) (length new) end (ordered ends links)
more ends l links new is ring =
    rw is (ring-more (after_of ends links) (before_of ends links) (after_of ends (links ++ l ∷ [])) (before_of ends (links ++ l ∷ [])) (length links) (length (links ++ l ∷ [])) end (ordered ends links) ring
    (omega (arith, length-append links (l ∷ []))) (λ q less. ap (λ k. k.after) (same ends l links q less)) (λ q less. ap (λ k. k.before) (same ends l links q less)) refl refl)

pub invariant_of-self : goal.invariant_of-self
invariant_of-self c =
    let ends = c.self.inside.ends in
    let new = c.push_reserved.new.self.items in
    let room : 0 < min end (vec_capacity c.self.inside.links) - vec_len c.self.inside.links = subst (λ n. 0 < n) (sym (ap (λ t. t.spare) c.self.view_is)) c.requires in
    let small : length new ≤ end = omega (arith, room, c.len.ensures, c.len.type_inv, c.push_reserved.new.self.ok) in (
      ring_is (after_of ends new) (before_of ends new) (length new) (length new) end (ordered ends c.self.inside.links.items)
          (more ends (record { before = end; after = end }) c.self.inside.links.items new c.push_reserved.ensures.items c.self.invariant.0) refl small,
      omega (arith, small, c.push_reserved.new.self.ok),
    )

pub returns-clause-order : goal.returns-clause-order
returns-clause-order c =
    let ends = c.self.inside.ends in
    let new = c.push_reserved.new.self.items in
    let room : 0 < min end (vec_capacity c.self.inside.links) - vec_len c.self.inside.links = subst (λ n. 0 < n) (sym (ap (λ t. t.spare) c.self.view_is)) c.requires in
    let small : length new ≤ end = omega (arith, room, c.len.ensures, c.len.type_inv, c.push_reserved.new.self.ok) in
    walked (after_of ends new) (before_of ends new) (length new) (length new) end (ordered ends c.self.inside.links.items)
    (more ends (record { before = end; after = end }) c.self.inside.links.items new c.push_reserved.ensures.items c.self.invariant.0) refl small ∙ ap (λ t. t.order) c.self.view_is
