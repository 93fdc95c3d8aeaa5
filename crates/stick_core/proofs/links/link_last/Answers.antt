use Rattle.std.proofs.Common.{◌≡◌, ◌≢◌, ℕ, List, [], ◌∷◌, ◌++◌, ◌≤◌, length, refl, subst, ◌∙◌, arith}
use Rattle.stick_core.specs.Links.{end, after_of, before_of, ordered}
use Rattle.stick_core.specs.Ring.{Lacks, IsRing}
use Rattle.stick_core.proofs.RingLemmas.{Linked, lacks-split, linked, not_its_end, not_its_last, ring_last, ring-push, walked, ring_is}
use Rattle.stick_core.proofs.links.link_last.Goals as goal

pub set_after-requires : goal.set_after-requires
set_after-requires c = ring_last (after_of c.args.ends.now c.args.links.now) (before_of c.args.ends.now c.args.links.now) (length c.args.links.now) end (ordered c.args.ends.now c.args.links.now) c.requires.linked

-- the ring once the place is its last
pushed : (c : goal.After-links-4-1) → IsRing (after_of c.set_before-2.new.ends c.set_before-2.new.links) (before_of c.set_before-2.new.ends c.set_before-2.new.links) (length c.args.links.now) end (ordered c.args.ends.now c.args.links.now ++ c.args.place ∷ [])
pushed c =
    let small : length c.args.links.now ≤ end = c.requires.fits in
    let apart_last : c.args.place ≢ c.args.ends.now.before = not_its_last (after_of c.args.ends.now c.args.links.now) (before_of c.args.ends.now c.args.links.now) (length c.args.links.now) end c.args.place (ordered c.args.ends.now c.args.links.now) c.requires.linked small c.requires.place c.requires.lacks in
    let apart_end : c.args.place ≢ end = λ is. omega (arith, is, c.requires.place, small) in
    let l : Linked (after_of c.args.ends.now c.args.links.now) (before_of c.args.ends.now c.args.links.now) (after_of c.set_before-2.new.ends c.set_before-2.new.links) (before_of c.set_before-2.new.ends c.set_before-2.new.links) c.args.place end =
    linked (after_of c.args.ends.now c.args.links.now) (before_of c.args.ends.now c.args.links.now) (after_of c.set_after.new.ends c.set_after.new.links) (before_of c.set_after.new.ends c.set_after.new.links) (after_of c.set_before.new.ends c.set_before.new.links) (before_of c.set_before.new.ends c.set_before.new.links) (after_of c.set_after-2.new.ends c.set_after-2.new.links) (before_of c.set_after-2.new.ends c.set_after-2.new.links) (after_of c.set_before-2.new.ends c.set_before-2.new.links) (before_of c.set_before-2.new.ends c.set_before-2.new.links) c.args.place end c.args.ends.now.before refl apart_end apart_last
    c.set_after.ensures.here c.set_after.ensures.apart c.set_after.ensures.before
    c.set_before.ensures.here c.set_before.ensures.apart c.set_before.ensures.after
    c.set_after-2.ensures.here c.set_after-2.ensures.apart c.set_after-2.ensures.before
    c.set_before-2.ensures.here c.set_before-2.ensures.apart c.set_before-2.ensures.after in
    ring-push (after_of c.args.ends.now c.args.links.now) (before_of c.args.ends.now c.args.links.now) (after_of c.set_before-2.new.ends c.set_before-2.new.links) (before_of c.set_before-2.new.ends c.set_before-2.new.links) (length c.args.links.now) end c.args.place (ordered c.args.ends.now c.args.links.now) c.requires.linked small c.requires.place c.requires.lacks l

-- as many links as before
as_long : (c : goal.After-links-4-1) → length c.set_before-2.new.links ≡ length c.args.links.now
as_long c = c.set_before-2.ensures.len ∙ c.set_after-2.ensures.len ∙ c.set_before.ensures.len ∙ c.set_after.ensures.len

pub returns-clause-linked : goal.returns-clause-linked
returns-clause-linked c =
    ring_is (after_of c.set_before-2.new.ends c.set_before-2.new.links) (before_of c.set_before-2.new.ends c.set_before-2.new.links) (length c.args.links.now) (length c.set_before-2.new.links) end (ordered c.args.ends.now c.args.links.now ++ c.args.place ∷ []) (pushed c) (as_long c) c.requires.fits

pub returns-clause-order : goal.returns-clause-order
returns-clause-order c =
    walked (after_of c.set_before-2.new.ends c.set_before-2.new.links) (before_of c.set_before-2.new.ends c.set_before-2.new.links) (length c.args.links.now) (length c.set_before-2.new.links) end (ordered c.args.ends.now c.args.links.now ++ c.args.place ∷ []) (pushed c) (as_long c) c.requires.fits

apart-last : (c : goal.After-links-4-1) (q : ℕ) → q ≢ end → Lacks q (ordered c.args.ends.now c.args.links.now) → q ≢ c.args.ends.now.before
apart-last c q differ lacks =
    not_its_end (after_of c.args.ends.now c.args.links.now) (before_of c.args.ends.now c.args.links.now) (length c.args.links.now) end q (ordered c.args.ends.now c.args.links.now) c.requires.linked differ lacks

pub returns-clause-others : goal.returns-clause-others
returns-clause-others c =
    let small : length c.args.links.now ≤ end = c.requires.fits in
    let order : ordered c.set_before-2.new.ends c.set_before-2.new.links ≡ ordered c.args.ends.now c.args.links.now ++ c.args.place ∷ [] =
    walked (after_of c.set_before-2.new.ends c.set_before-2.new.links) (before_of c.set_before-2.new.ends c.set_before-2.new.links) (length c.args.links.now) (length c.set_before-2.new.links) end (ordered c.args.ends.now c.args.links.now ++ c.args.place ∷ []) (pushed c) (as_long c) small in
    let split : (q : ℕ) → Lacks q (ordered c.set_before-2.new.ends c.set_before-2.new.links) → (q ≢ c.args.place) × Lacks q (ordered c.args.ends.now c.args.links.now) =
    λ q lacks. let P : List ℕ → Type 0 = λ l. Lacks q l in lacks-split q c.args.place (ordered c.args.ends.now c.args.links.now) (subst P order lacks) in
    record {
      after = λ q differ lacks new. let it = split q new in
          c.set_before-2.ensures.after q ∙ c.set_after-2.ensures.apart q it.0 ∙ c.set_before.ensures.after q ∙ c.set_after.ensures.apart q (apart-last c q differ it.1);
      before = λ q differ lacks new. let it = split q new in
          c.set_before-2.ensures.apart q it.0 ∙ c.set_after-2.ensures.before q ∙ c.set_before.ensures.apart q differ ∙ c.set_after.ensures.before q;
    }
