use Rattle.std.proofs.Common.{List, ℕ, ◌<◌, length, sym, ap, subst, arith}
use Rattle.stick_core.specs.Links.{end, after_of, before_of, ordered}
use Rattle.stick_core.specs.Ring.{Has}
use Rattle.stick_core.proofs.RingLemmas.{ring_has}
use Rattle.stick_core.proofs.order.Order.remove.Goals as goal

pub overflow_cast-place : goal.overflow_cast-place
overflow_cast-place c =
    let ends = c.self.inside.ends in
    let links = c.self.inside.links.items in
    let P : List ℕ → Type 0 = λ l. Has c.args.place l in
    let has : Has c.args.place (ordered ends links) = subst P (sym (ap (λ t. t.order) c.self.view_is)) c.requires in
    let less : c.args.place < length links = ring_has (after_of ends links) (before_of ends links) (length links) end c.args.place (ordered ends links) c.self.invariant.0 has in
    omega (arith, less, c.self.invariant.1, c.self.inside.links.ok)
