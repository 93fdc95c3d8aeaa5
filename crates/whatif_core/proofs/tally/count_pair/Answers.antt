use Rattle.std.proofs.Common.{◌≡◌, ◌∙◌, ◌++◌, ◌∷◌, [], ap, sym, position, Some, None, arith}
use Rattle.whatif_core.specs.Sums.{has_text}
use Rattle.whatif_core.proofs.TallyLemmas.{pair_there, pair_within, pairs_new}
use Rattle.whatif_core.proofs.tally.count_pair.Goals as goal

pub index_mut-pair-requires : goal.index_mut-pair-requires
index_mut-pair-requires c =
    let found : position (has_text c.args.text.items) c.args.pairs.now.items ≡ Some c.in-Some.place = rw (sym c.as_slice.ensures.value, sym c.as_slice-2.ensures.value) (sym c.place_of.ensures ∙ c.in-Some.is) in
    let within = pair_within c.args.text.items c.args.pairs.now.items c.in-Some.place found in
    omega (arith, within, c.args.pairs.now.ok.0)

pub returns-in-Some : goal.returns-in-Some
returns-in-Some c =
    let found : position (has_text c.args.text.items) c.args.pairs.now.items ≡ Some c.in-Some.place = rw (sym c.as_slice.ensures.value, sym c.as_slice-2.ensures.value) (sym c.place_of.ensures ∙ c.in-Some.is) in
    pair_there c.args.text.items c.args.pairs.now.items c.in-Some.place c.index_mut-pair.result.now c.one_more-pair.result found c.index_mut-pair.ensures.value c.one_more-pair.ensures

pub returns-in_ok-push-in-None : goal.returns-in_ok-push-in-None
returns-in_ok-push-in-None c =
    let none : position (has_text c.args.text.items) c.args.pairs.now.items ≡ None = rw (sym c.as_slice.ensures.value, sym c.as_slice-2.ensures.value) (sym c.place_of.ensures ∙ c.in-None.is) in
    c.in_ok-push-in-None.ensures.items ∙ ap (λ x. c.args.pairs.now.items ++ x ∷ []) (ap (λ text. record { text = text; count = 1 }) c.of.ensures) ∙ sym (pairs_new c.args.text.items c.args.pairs.now.items none)
