use Rattle.std.proofs.Common.{◌≡◌, ◌<◌, List, Some, length, ap, sym, subst, ◌∙◌, arith}
use Rattle.std.specs.Prelude.{slice_get}
use Rattle.std.specs.List.{position}
use Rattle.std.proofs.lemmas.Option.{slice_get_within, slice_get-get_or}
use Rattle.conn_model.specs.declared.plain.Listener.{Listener}
use Rattle.conn_model.specs.declared.plain.Plain.{Plain}
use Rattle.conn_model.specs.History.{opening}
use Rattle.conn_core.specs.Machine.{AreSound}
use Rattle.explain_core.specs.Listeners.{IsBest}
use Rattle.explain_core.proofs.OpeningLemmas.{copied, few_listeners, has_name, number_within, some_listener, takes}
use Rattle.explain_core.proofs.explaining.find_listener.Goals as goal

-- the listeners of the copy are those of the state
listeners_are : (p copy : Plain) {listeners : List Listener} → listeners ≡ copy.listeners → copy ≡ p → listeners ≡ p.listeners
listeners_are p copy all same = all ∙ ap (λ (q : Plain). q.listeners) same

sound_at : (p : Plain) (q : Plain) → p ≡ q → AreSound p.versions → AreSound q.versions
sound_at p q same sound = subst (λ (s : Plain). AreSound s.versions) same sound

pub unreachable-requires : goal.unreachable-requires
unreachable-requires c =
    let plan = c.requires.0 in
    let opens = c.requires.1 in
    let sound : AreSound (opening plan 0).versions = sound_at c.args.core.now (opening plan 0) opens c.in_ok-plain.ensures.plans in
    let found = copied c.args.core.now c.in_ok-plain.plain c.args.name.now _ c.as_slice.ensures c.in_ok-plain.ensures.plain c.in-Some.ensures in
    let here : position (has_name c.args.name.now) (opening plan 0).frontends ≡ Some c.in-Some.frontend = subst (λ (q : Plain). position (has_name c.args.name.now) q.frontends ≡ Some c.in-Some.frontend) opens found in
    let all : c.as_slice-listeners.result.now ≡ (opening plan 0).listeners = listeners_are c.args.core.now c.in_ok-plain.plain c.as_slice-listeners.ensures c.in_ok-plain.ensures.plain ∙ ap (λ (q : Plain). q.listeners) opens in
    some_listener plan sound.0 c.in-Some.frontend (number_within plan c.args.name.now c.in-Some.frontend here)
    (λ other listener there of. c.in_default-listener_number.ensures.none other listener (ap (λ (xs : List Listener). slice_get xs other) all ∙ there) of)

within : (c : goal.In-Some-listener_number) → c.in-Some-listener_number.number < length c.as_slice-listeners.result.now
within c = slice_get_within c.as_slice-listeners.result.now c.in-Some-listener_number.number c.in-Some-listener_number.ensures.some.0 c.in-Some-listener_number.ensures.some.1.there

few : (c : goal.In-Some-listener_number) → c.in-Some-listener_number.number < 4096
few c =
    let plan = c.requires.0 in
    let opens = c.requires.1 in
    let sound : AreSound (opening plan 0).versions = sound_at c.args.core.now (opening plan 0) opens c.in_ok-plain.ensures.plans in
    let all : c.as_slice-listeners.result.now ≡ (opening plan 0).listeners = listeners_are c.args.core.now c.in_ok-plain.plain c.as_slice-listeners.ensures c.in_ok-plain.ensures.plain ∙ ap (λ (q : Plain). q.listeners) opens in
    let count : length c.as_slice-listeners.result.now ≡ length (opening plan 0).listeners = ap (λ (xs : List Listener). length xs) all in
    let most = few_listeners plan sound.0 in
    let inside = within c in
    omega (arith, count, most, inside)

pub overflow_cast-result : goal.overflow_cast-result
overflow_cast-result c = let less = few c in omega (arith, less)

pub offset_bounds-listeners-number : goal.offset_bounds-listeners-number
offset_bounds-listeners-number c = let less = few c in omega (arith, less)

pub bounds-listeners-number : goal.bounds-listeners-number
bounds-listeners-number c = within c

pub returns : goal.returns
returns c =
    let number = c.in-Some-listener_number.number in
    let all : c.as_slice-listeners.result.now ≡ c.args.core.now.listeners = listeners_are c.args.core.now c.in_ok-plain.plain c.as_slice-listeners.ensures c.in_ok-plain.ensures.plain in
    let best = c.in-Some-listener_number.ensures.some in
    let inside : number < length c.as_slice-listeners.result.now = slice_get_within c.as_slice-listeners.result.now number best.0 best.1.there in
    let found = copied c.args.core.now c.in_ok-plain.plain c.args.name.now _ c.as_slice.ensures c.in_ok-plain.ensures.plain c.in-Some.ensures in
    record {
      found = (
        ap (λ (xs : List Listener). slice_get xs number) (sym all) ∙ slice_get-get_or c.as_slice-listeners.result.now number _ inside,
        takes c.args.core.now c.args.name.now c.args.real c.in-Some.frontend number best.0 found
            (subst (λ (xs : List Listener). IsBest xs c.in-Some.frontend c.args.real.destination number best.0) all
            (subst (λ local. IsBest c.as_slice-listeners.result.now c.in-Some.frontend local number best.0) c.destination.ensures.value best.1)),
      );
    }
