use Rattle.std.proofs.Common.{◌≡◌, ◌<◌, None, length, ap, sym, ◌∙◌, arith, subst}
use Rattle.std.specs.List.{position}
use Rattle.slot_core.specs.Counts.{is_of, open_at, IdentitiesDiffer}
use Rattle.slot_core.proofs.CountLemmas.{last-named, named-pushed, now_named, place_identity, still_named}
use Rattle.list_core.proofs.Items.{found}
use Rattle.slot_core.proofs.AddLemmas.{IsAdded, at_end, in_place}
use Rattle.std.proofs.lemmas.Option.{slice_get_within}
use Rattle.slot_core.proofs.slots.Slots.add.Goals as goal

-- The identity has a place.

pub returns-in-Some-clause-there : goal.returns-in-Some-clause-there
returns-in-Some-clause-there c =
    place_identity c.args.identity.now c.args.self.now c.in-Some.place
    (sym c.find.ensures ∙ c.in-Some.is)

pub returns-in-Some-clause-named : goal.returns-in-Some-clause-named
returns-in-Some-clause-named c =
    let item = found (is_of c.args.identity.now) c.args.self.now c.in-Some.place
    (sym c.find.ensures ∙ c.in-Some.is) in
    let less : c.in-Some.place < length c.args.self.now = slice_get_within c.args.self.now c.in-Some.place item.0 item.1 in
    let many = c.requires in
    rw c.note.ensures (now_named c.in-Some.place c.args.named.now (omega (arith, less, many)))

pub returns-in-Some-clause-still_named : goal.returns-in-Some-clause-still_named
returns-in-Some-clause-still_named c = rw c.note.ensures (λ place is. still_named c.in-Some.place c.args.named.now place is)

-- It is given one that is free.

free_place : (c : goal.After-note-in-Some-free) → c.in-Some-free.place < length c.args.self.now
free_place c = rw (← c.self.view_is, ← c.as_slice.ensures.value) c.in-Some-free.ensures.found

replaced : (c : goal.After-note-in-Some-free) → IsAdded c.args.identity.now c.in-Some-free.place c.args.self.now c.args.named.now c.replace.new.self
replaced c =
    let same = c.as_slice.ensures.value ∙ c.self.view_is in
    let new : position (is_of c.args.identity.now) c.args.self.now ≡ None =
    sym c.find.ensures ∙ c.in_default.is in
    rw c.in_ok-replace.ensures.ok
    (in_place c.args.identity.now c.in-Some-free.place c.args.self.now c.args.named.now (free_place c) c.in-Some-free.ensures.unnamed (ap (open_at c.in-Some-free.place) (sym same) ∙ c.in-Some-free.ensures.closed)
    new (subst IdentitiesDiffer c.self.view_is c.self.invariant.apart))

pub returns-in-Some-free-clause-there : goal.returns-in-Some-free-clause-there
returns-in-Some-free-clause-there c = (replaced c).there

pub returns-in-Some-free-clause-named : goal.returns-in-Some-free-clause-named
returns-in-Some-free-clause-named c =
    let less = free_place c in
    let many = c.requires in
    rw (c.note-in-Some-free.ensures, c.free.ensures.same) (now_named c.in-Some-free.place c.args.named.now (omega (arith, less, many)))

pub returns-in-Some-free-clause-still_named : goal.returns-in-Some-free-clause-still_named
returns-in-Some-free-clause-still_named c = rw (c.note-in-Some-free.ensures, c.free.ensures.same) (λ place is. still_named c.in-Some-free.place c.args.named.now place is)

pub returns-in-Some-free-clause-apart : goal.returns-in-Some-free-clause-apart
returns-in-Some-free-clause-apart c = (replaced c).apart

pub returns-in-Some-free-clause-kept : goal.returns-in-Some-free-clause-kept
returns-in-Some-free-clause-kept c = (replaced c).kept

pub returns-in-Some-free-clause-open_kept : goal.returns-in-Some-free-clause-open_kept
returns-in-Some-free-clause-open_kept c = (replaced c).open_kept

pub returns-in-Some-free-clause-open : goal.returns-in-Some-free-clause-open
returns-in-Some-free-clause-open c = (replaced c).open_as_before

pub returns-in-Some-free-clause-open_in : goal.returns-in-Some-free-clause-open_in
returns-in-Some-free-clause-open_in c = (replaced c).total_as_before

-- It is the last.

last : (c : goal.After-push_reserved) → c.len-place.result ≡ length c.args.self.now
last c = c.len-place.ensures ∙ c.self.inside.counts.ok.0 ∙ ap length c.self.view_is

pushed : (c : goal.After-push_reserved) → IsAdded c.args.identity.now c.len-place.result c.args.self.now c.args.named.now c.push.new.self
pushed c =
    let new : position (is_of c.args.identity.now) c.args.self.now ≡ None =
    sym c.find.ensures ∙ c.in_default.is in
    rw (c.in_ok-push.ensures.ok, last c) (at_end c.args.identity.now c.args.self.now c.args.named.now c.requires new (subst IdentitiesDiffer c.self.view_is c.self.invariant.apart))

pub returns-clause-there : goal.returns-clause-there
returns-clause-there c = (pushed c).there

pub returns-clause-named : goal.returns-clause-named
returns-clause-named c =
    let at : c.len-place.result ≡ length c.args.named.now = last c ∙ sym c.requires in
    rw (c.push_reserved.ensures.items, c.try_reserve.ensures.items, c.named.view_is, c.free.ensures.same, at) (last-named c.args.named.now)

pub returns-clause-still_named : goal.returns-clause-still_named
returns-clause-still_named c =
    rw (c.push_reserved.ensures.items, c.try_reserve.ensures.items, c.named.view_is, c.free.ensures.same) (λ place is. named-pushed c.args.named.now place is)

pub returns-clause-apart : goal.returns-clause-apart
returns-clause-apart c = (pushed c).apart

pub returns-clause-kept : goal.returns-clause-kept
returns-clause-kept c = (pushed c).kept

pub returns-clause-open_kept : goal.returns-clause-open_kept
returns-clause-open_kept c = (pushed c).open_kept

pub returns-clause-open : goal.returns-clause-open
returns-clause-open c = (pushed c).open_as_before

pub returns-clause-open_in : goal.returns-clause-open_in
returns-clause-open_in c = (pushed c).total_as_before
