use Rattle.std.proofs.Common.{◌≡◌, List, ℕ, ◌≤◌, ◌<◌, length, inl, sym, ap, subst, ◌∙◌, arith}
use Rattle.stick_core.specs.Links.{end, link_at, after_of, before_of, ordered}
use Rattle.stick_core.specs.Ring.{Has, next_of}
use Rattle.stick_core.proofs.RingLemmas.{ring_has, next_none, next_some}
use Rattle.stick_core.proofs.order.Order.next.Goals as goal

pub overflow_cast-place : goal.overflow_cast-place
overflow_cast-place c =
    let ends = c.self.inside.ends in
    let links = c.self.inside.links.items in
    let P : List ℕ → Type 0 = λ l. Has c.args.place l in
    let has : Has c.args.place (ordered ends links) = subst P (sym (ap (λ t. t.order) c.self.view_is)) c.requires in
    let less : c.args.place < length links = ring_has (after_of ends links) (before_of ends links) (length links) end c.args.place (ordered ends links) c.self.invariant.0 has in
    omega (arith, less, c.self.invariant.1, c.self.inside.links.ok)

pub link_at_place-link-requires : goal.link_at_place-link-requires
link_at_place-link-requires c =
    let ends = c.self.inside.ends in
    let links = c.self.inside.links.items in
    let P : List ℕ → Type 0 = λ l. Has c.args.place l in
    let has : Has c.args.place (ordered ends links) = subst P (sym (ap (λ t. t.order) c.self.view_is)) c.requires in
    rw c.as_slice.ensures.value (inl (ring_has (after_of ends links) (before_of ends links) (length links) end c.args.place (ordered ends links) c.self.invariant.0 has))

pub returns-then-link : goal.returns-then-link
returns-then-link c =
    let ends = c.self.inside.ends in
    let links = c.self.inside.links.items in
    let P : List ℕ → Type 0 = λ l. Has c.args.place l in
    let here : ordered ends links ≡ c.args.self.now.order = ap (λ t. t.order) c.self.view_is in
    let has : Has c.args.place (ordered ends links) = subst P (sym here) c.requires in
    let small : length links ≤ end = omega (arith, c.self.invariant.1, c.self.inside.links.ok) in
    let found : c.link_at_place-link.result ≡ link_at ends links c.args.place = c.link_at_place-link.ensures ∙ ap (λ l. link_at ends l c.args.place) c.as_slice.ensures.value in
    let is : after_of ends links c.args.place ≡ end = sym (ap (λ l. l.after) found) ∙ c.if-link.true in
    next_none (after_of ends links) (before_of ends links) (length links) c.args.place end (ordered ends links) c.self.invariant.0 small has is ∙ ap (next_of c.args.place) here

pub returns-else-link : goal.returns-else-link
returns-else-link c =
    let ends = c.self.inside.ends in
    let links = c.self.inside.links.items in
    let P : List ℕ → Type 0 = λ l. Has c.args.place l in
    let here : ordered ends links ≡ c.args.self.now.order = ap (λ t. t.order) c.self.view_is in
    let has : Has c.args.place (ordered ends links) = subst P (sym here) c.requires in
    let small : length links ≤ end = omega (arith, c.self.invariant.1, c.self.inside.links.ok) in
    let found : c.link_at_place-link.result ≡ link_at ends links c.args.place = c.link_at_place-link.ensures ∙ ap (λ l. link_at ends l c.args.place) c.as_slice.ensures.value in
    next_some (after_of ends links) (before_of ends links) (length links) c.args.place end c.link_at_place-link.result.after (ordered ends links) c.self.invariant.0 small has (sym (ap (λ l. l.after) found)) c.if-link.false ∙ ap (next_of c.args.place) here
