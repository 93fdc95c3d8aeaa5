use Rattle.std.proofs.Common.{◌≡◌, ◌≢◌, ◌≤◌, ℕ, length, inl, ap, ◌∙◌}
use Rattle.stick_core.specs.Links.{end, after_of, before_of, ordered}
use Rattle.stick_core.specs.Ring.{Lacks, without, IsRing}
use Rattle.stick_core.proofs.RingLemmas.{Unlinked, unlinked, not_its_after, not_its_before, ring_has, ring_after, ring_before, ring-without, walked, ring_is}
use Rattle.stick_core.proofs.links.unlink.Goals as goal

pub link_at_place-link-requires : goal.link_at_place-link-requires
link_at_place-link-requires c = inl (ring_has (after_of c.args.ends.now c.args.links.now) (before_of c.args.ends.now c.args.links.now) (length c.args.links.now) end c.args.place (ordered c.args.ends.now c.args.links.now) c.requires.linked c.requires.has)

pub set_after-requires : goal.set_after-requires
set_after-requires c =
    rw c.link_at_place-link.ensures (ring_before (after_of c.args.ends.now c.args.links.now) (before_of c.args.ends.now c.args.links.now) (length c.args.links.now) end c.args.place (ordered c.args.ends.now c.args.links.now) c.requires.linked c.requires.has)

pub set_before-requires : goal.set_before-requires
set_before-requires c =
    rw (c.link_at_place-link.ensures, c.set_after.ensures.len) (ring_after (after_of c.args.ends.now c.args.links.now) (before_of c.args.ends.now c.args.links.now) (length c.args.links.now) end c.args.place (ordered c.args.ends.now c.args.links.now) c.requires.linked c.requires.has)

pub returns-clause-linked : goal.returns-clause-linked
returns-clause-linked c =
    let small : length c.args.links.now ≤ end = c.requires.fits in
    let isx : c.link_at_place-link.result.before ≡ before_of c.args.ends.now c.args.links.now c.args.place = ap (λ l. l.before) c.link_at_place-link.ensures in
    let isy : c.link_at_place-link.result.after ≡ after_of c.args.ends.now c.args.links.now c.args.place = ap (λ l. l.after) c.link_at_place-link.ensures in
    let u : Unlinked (after_of c.args.ends.now c.args.links.now) (before_of c.args.ends.now c.args.links.now) (after_of c.set_before.new.ends c.set_before.new.links) (before_of c.set_before.new.ends c.set_before.new.links) c.args.place =
    unlinked (after_of c.args.ends.now c.args.links.now) (before_of c.args.ends.now c.args.links.now) (after_of c.set_after.new.ends c.set_after.new.links) (before_of c.set_after.new.ends c.set_after.new.links) (after_of c.set_before.new.ends c.set_before.new.links) (before_of c.set_before.new.ends c.set_before.new.links) c.args.place c.link_at_place-link.result.before c.link_at_place-link.result.after isx isy
    c.set_after.ensures.here c.set_after.ensures.apart c.set_after.ensures.before c.set_before.ensures.here c.set_before.ensures.apart c.set_before.ensures.after in
    let ring : IsRing (after_of c.set_before.new.ends c.set_before.new.links) (before_of c.set_before.new.ends c.set_before.new.links) (length c.args.links.now) end (without c.args.place (ordered c.args.ends.now c.args.links.now)) = ring-without (after_of c.args.ends.now c.args.links.now) (before_of c.args.ends.now c.args.links.now) (after_of c.set_before.new.ends c.set_before.new.links) (before_of c.set_before.new.ends c.set_before.new.links) (length c.args.links.now) end c.args.place (ordered c.args.ends.now c.args.links.now) c.requires.linked small c.requires.has u in
    let len : length c.set_before.new.links ≡ length c.args.links.now = c.set_before.ensures.len ∙ c.set_after.ensures.len in
    ring_is (after_of c.set_before.new.ends c.set_before.new.links) (before_of c.set_before.new.ends c.set_before.new.links) (length c.args.links.now) (length c.set_before.new.links) end (without c.args.place (ordered c.args.ends.now c.args.links.now)) ring len small

pub returns-clause-order : goal.returns-clause-order
returns-clause-order c =
    let small : length c.args.links.now ≤ end = c.requires.fits in
    let isx : c.link_at_place-link.result.before ≡ before_of c.args.ends.now c.args.links.now c.args.place = ap (λ l. l.before) c.link_at_place-link.ensures in
    let isy : c.link_at_place-link.result.after ≡ after_of c.args.ends.now c.args.links.now c.args.place = ap (λ l. l.after) c.link_at_place-link.ensures in
    let u : Unlinked (after_of c.args.ends.now c.args.links.now) (before_of c.args.ends.now c.args.links.now) (after_of c.set_before.new.ends c.set_before.new.links) (before_of c.set_before.new.ends c.set_before.new.links) c.args.place =
    unlinked (after_of c.args.ends.now c.args.links.now) (before_of c.args.ends.now c.args.links.now) (after_of c.set_after.new.ends c.set_after.new.links) (before_of c.set_after.new.ends c.set_after.new.links) (after_of c.set_before.new.ends c.set_before.new.links) (before_of c.set_before.new.ends c.set_before.new.links) c.args.place c.link_at_place-link.result.before c.link_at_place-link.result.after isx isy
    c.set_after.ensures.here c.set_after.ensures.apart c.set_after.ensures.before c.set_before.ensures.here c.set_before.ensures.apart c.set_before.ensures.after in
    let ring : IsRing (after_of c.set_before.new.ends c.set_before.new.links) (before_of c.set_before.new.ends c.set_before.new.links) (length c.args.links.now) end (without c.args.place (ordered c.args.ends.now c.args.links.now)) = ring-without (after_of c.args.ends.now c.args.links.now) (before_of c.args.ends.now c.args.links.now) (after_of c.set_before.new.ends c.set_before.new.links) (before_of c.set_before.new.ends c.set_before.new.links) (length c.args.links.now) end c.args.place (ordered c.args.ends.now c.args.links.now) c.requires.linked small c.requires.has u in
    let len : length c.set_before.new.links ≡ length c.args.links.now = c.set_before.ensures.len ∙ c.set_after.ensures.len in
    walked (after_of c.set_before.new.ends c.set_before.new.links) (before_of c.set_before.new.ends c.set_before.new.links) (length c.args.links.now) (length c.set_before.new.links) end (without c.args.place (ordered c.args.ends.now c.args.links.now)) ring len small

-- a place that is not in the ring is next to none of it
apart-before : (c : goal.After-links-2-1) (q : ℕ) → q ≢ end → Lacks q (ordered c.args.ends.now c.args.links.now) → q ≢ c.link_at_place-link.result.before
apart-before c q differ lacks is =
    not_its_before (after_of c.args.ends.now c.args.links.now) (before_of c.args.ends.now c.args.links.now) (length c.args.links.now) end c.args.place q (ordered c.args.ends.now c.args.links.now) c.requires.linked c.requires.has differ lacks
    (is ∙ ap (λ l. l.before) c.link_at_place-link.ensures)

apart-after : (c : goal.After-links-2-1) (q : ℕ) → q ≢ end → Lacks q (ordered c.args.ends.now c.args.links.now) → q ≢ c.link_at_place-link.result.after
apart-after c q differ lacks is =
    not_its_after (after_of c.args.ends.now c.args.links.now) (before_of c.args.ends.now c.args.links.now) (length c.args.links.now) end c.args.place q (ordered c.args.ends.now c.args.links.now) c.requires.linked c.requires.has differ lacks
    (is ∙ ap (λ l. l.after) c.link_at_place-link.ensures)

pub returns-clause-others : goal.returns-clause-others
returns-clause-others c = record {
  after = λ q differ lacks new. c.set_before.ensures.after q ∙ c.set_after.ensures.apart q (apart-before c q differ lacks);
  before = λ q differ lacks new. c.set_before.ensures.apart q (apart-after c q differ lacks) ∙ c.set_after.ensures.before q;
}
