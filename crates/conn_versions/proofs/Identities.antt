-- Where a server is counted.
use Rattle.std.proofs.Common.{◌≡◌, ℕ, zero, suc, ◌<◌, ◌≤◌, ◌+◌, Bool, true, false, List, [], ◌∷◌, ◌++◌, length, Option, Some, None, refl, sym, ap, ◌∙◌, arith, subst, inl, inr, ◌⊎◌}
use Rattle.std.specs.Prelude.{find, get_or, slice_get, slice_set}
use Rattle.std.specs.Option.{option_map, option_map_or}
use Rattle.std.proofs.lemmas.Bool.{cases_eq}
use Rattle.std.proofs.lemmas.Option.{slice_get-get_or, slice_get_within}
use Rattle.proxy_types.specs.declared.server.ServerIdentity.{ServerIdentity}
use Rattle.proxy_types.specs.ServerIdentity.{same_server}
use Rattle.slot_core.specs.declared.slots.Count.{Count}
use Rattle.slot_core.specs.declared.slots.SlotIx.{SlotIx}
use Rattle.slot_core.specs.Counts.{is_of, identity_at, named_at, open_at, with_open, IdentitiesDiffer}
pub use Rattle.slot_core.proofs.CountLemmas.{server_is}
use Rattle.slot_core.proofs.CountLemmas.{now_named, same_server-refl, still_named as still_there, with_open-past}
use Rattle.plan_types.specs.declared.plan.Backend.{Backend}
use Rattle.plan_types.specs.declared.plan.Server.{Server}
use Rattle.conn_model.specs.Servers.{identity_in}
use Rattle.conn_model.proofs.Lists.{all-append, all-at, all-more}
use Rattle.conn_versions.specs.Versions.{open_to}
use Rattle.conn_versions.specs.Slots.{AreAtPlaces, AreNamed, AreNoted, AreSlots, KeepsPlaces}
use Rattle.list_core.proofs.Items.{length-set, one_item, push-cases, within}

-- The count of a server is found by its place.

pub find_identity : (identity : ServerIdentity) (counts : List Count) (n : ℕ) → IdentitiesDiffer counts → identity_at n counts ≡ Some identity → find (is_of identity) counts ≡ slice_get counts n
find_identity identity [] n apart there = absurd (let wrong : None ≡ Some identity = there in cc)
find_identity identity (count ∷ counts) zero apart there =
    let same : count.identity ≡ identity = one_item (Some count.identity) count.identity identity refl there in
    let passes : is_of identity count ≡ true = ap (λ i. same_server i identity) same ∙ same_server-refl identity in
    rw passes refl
find_identity identity (count ∷ counts) (suc n) apart there = by (find_identity identity counts n apart.1 there) (slice_get counts n) refl
  where
    by : find (is_of identity) counts ≡ slice_get counts n → (o : Option Count) → slice_get counts n ≡ o → find (is_of identity) (count ∷ counts) ≡ slice_get counts n
    by more None e = absurd (let wrong : None ≡ Some identity = sym (ap (option_map (λ c. c.identity)) e) ∙ there in cc)
    by more (Some other) e =
        let same : other.identity ≡ identity = one_item (Some other.identity) other.identity identity refl (sym (ap (option_map (λ c. c.identity)) e) ∙ there) in
        let differs : is_of identity count ≡ false = ap (same_server count.identity) (sym same) ∙ all-at (λ c. same_server count.identity c.identity ≡ false) counts n other apart.0 e in
        rw differs more

-- so its open connections are those of the server
pub open_there : (identity : ServerIdentity) (counts : List Count) (n : ℕ) → IdentitiesDiffer counts → identity_at n counts ≡ Some identity → open_at n counts ≡ open_to counts identity
open_there identity counts n apart there = ap (λ o. option_map_or (λ c. c.connections) o 0) (sym (find_identity identity counts n apart there))

pub identity_within : (counts : List Count) (n : ℕ) (identity : ServerIdentity) → identity_at n counts ≡ Some identity → n < length counts
identity_within [] n identity there = absurd (let wrong : None ≡ Some identity = there in cc)
identity_within (count ∷ counts) zero identity there = omega arith
identity_within (count ∷ counts) (suc n) identity there = let less : n < length counts = identity_within counts n identity there in omega (arith, less)

-- A count that changes stays in its place.

pub identity-changed : (f : ℕ → ℕ) (n : ℕ) (counts : List Count) (m : ℕ) → identity_at m (with_open f n counts) ≡ identity_at m counts
identity-changed f n [] m = refl
identity-changed f zero (count ∷ counts) zero = refl
identity-changed f zero (count ∷ counts) (suc m) = refl
identity-changed f (suc n) (count ∷ counts) zero = ap (identity_at 0) (with_open-past f n count counts)
identity-changed f (suc n) (count ∷ counts) (suc m) = ap (identity_at (suc m)) (with_open-past f n count counts) ∙ identity-changed f n counts m

-- Servers that are added.

pub keeps_all : (counts : List Count) (named : List Bool) → IdentitiesDiffer counts → length named ≡ length counts → KeepsPlaces counts named counts named
keeps_all counts named apart many = record {
  apart = apart;
  many = many;
  named = λ place is. is;
  kept = λ place is. refl;
  open_kept = λ place some. refl;
  open_as_before = λ place. refl;
}

pub keeps_both : (first : List Count) (before : List Bool) (later : List Count) (between : List Bool) (last : List Count) (after : List Bool) → KeepsPlaces first before later between →
    KeepsPlaces later between last after → KeepsPlaces first before last after
keeps_both first before later between last after one other = record {
  apart = other.apart;
  many = other.many;
  named = λ place is. other.named place (one.named place is);
  kept = λ place is. other.kept place (one.named place is) ∙ one.kept place is;
  open_kept = λ place some. other.open_kept place (rw (one.open_as_before place) some) ∙ one.open_kept place some;
  open_as_before = λ place. other.open_as_before place ∙ one.open_as_before place;
}

pub still_at : (backend : Backend) (places : List SlotIx) (old : List Count) (before : List Bool) (next : List Count) (after : List Bool) → KeepsPlaces old before next after → AreNamed before places →
    AreAtPlaces old backend places → AreAtPlaces next backend places
still_at backend places old before next after keeps named at = λ n server ix there found.
    keeps.kept ix.place (all-at (λ i. named_at i.place before ≡ true) places n ix named found) ∙ at n server ix there found

pub still_named : (places : List SlotIx) (old : List Count) (before : List Bool) (next : List Count) (after : List Bool) → KeepsPlaces old before next after → AreNamed before places → AreNamed after places
still_named places old before next after keeps named =
    all-more (λ i. named_at i.place before ≡ true) (λ i. named_at i.place after ≡ true) places (λ i is. keeps.named i.place is) named

pub still_slots : (backend : Backend) (places : List SlotIx) (old : List Count) (before : List Bool) (next : List Count) (after : List Bool) → KeepsPlaces old before next after → AreNamed before places →
    AreSlots old backend places → AreSlots next backend places
still_slots backend places old before next after keeps named slots = record { many = slots.many; each = still_at backend places old before next after keeps named slots.each }

-- one place more
pub one_more_named : (places : List SlotIx) (old : List Count) (before : List Bool) (next : List Count) (after : List Bool) (ix : SlotIx) → KeepsPlaces old before next after → AreNamed before places →
    named_at ix.place after ≡ true → AreNamed after (places ++ ix ∷ [])
one_more_named places old before next after ix keeps named is =
    all-append (λ i. named_at i.place after ≡ true) places (ix ∷ []) (still_named places old before next after keeps named) (is, tt)

pub one_more_at : (backend : Backend) (places : List SlotIx) (old : List Count) (before : List Bool) (next : List Count) (after : List Bool) (server : Server) (ix : SlotIx) →
    KeepsPlaces old before next after → AreNamed before places → AreAtPlaces old backend places → slice_get backend.servers (length places) ≡ Some server →
    identity_at ix.place next ≡ Some (identity_in backend server) → AreAtPlaces next backend (places ++ ix ∷ [])
one_more_at backend places old before next after server ix keeps named at there counted = λ n other place is found. by n other place is (push-cases places ix n place found)
  where
    by : (n : ℕ) (other : Server) (place : SlotIx) → slice_get backend.servers n ≡ Some other → (slice_get places n ≡ Some place) ⊎ ((n ≡ length places) × (ix ≡ place)) →
        identity_at place.place next ≡ Some (identity_in backend other)
    by n other place is (inl earlier) = still_at backend places old before next after keeps named at n other place is earlier
    by n other place is (inr last) =
        let same : server ≡ other = one_item (slice_get backend.servers (length places)) server other there (ap (slice_get backend.servers) (sym last.0) ∙ is) in
        ap (λ p. identity_at p.place next) (sym last.1) ∙ counted ∙ ap (λ s. Some (identity_in backend s)) same

-- Places that are named one after another.

pub below_more : {X : Type 0} (P : X → Type 0) (xs : List X) (i : ℕ) (x : X) → ((n : ℕ) (y : X) → n < i → slice_get xs n ≡ Some y → P y) → slice_get xs i ≡ Some x → P x →
    (n : ℕ) (y : X) → n < i + 1 → slice_get xs n ≡ Some y → P y
below_more {X} P xs i x below there here n y less at = by (cases_eq n i)
  where
    by : (n ≡ i) ⊎ (n ≡ i → ⊥) → P y
    by (inl same) = subst P (one_item (slice_get xs i) x y there (ap (slice_get xs) (sym same) ∙ at)) here
    by (inr other) = below n y (omega (arith, less, other)) at

pub below_all : {X : Type 0} (P : X → Type 0) (xs : List X) (i : ℕ) → ((n : ℕ) (y : X) → n < i → slice_get xs n ≡ Some y → P y) → length xs ≤ i → (n : ℕ) (y : X) → slice_get xs n ≡ Some y → P y
below_all P xs i below past n y at = below n y (let less : n < length xs = slice_get_within xs n y at in omega (arith, less, past)) at

pub note_more : (named : List Bool) (places : List SlotIx) (i : ℕ) (other : SlotIx) → i < length places →
    ((n : ℕ) (ix : SlotIx) → n < i → slice_get places n ≡ Some ix → ix.place < length named → named_at ix.place named ≡ true) →
    (n : ℕ) (ix : SlotIx) → n < i + 1 → slice_get places n ≡ Some ix → ix.place < length (slice_set named (get_or places i other).place true) →
    named_at ix.place (slice_set named (get_or places i other).place true) ≡ true
note_more named places i other less below =
    below_more (λ ix. ix.place < length next → named_at ix.place next ≡ true) places i here (λ n ix early at inside. still_there here.place named ix.place (below n ix early at (rw (← same) inside)))
    (slice_get-get_or places i other less) (λ inside. now_named here.place named (rw (← same) inside))
  where
    here : SlotIx
    here = get_or places i other

    next : List Bool
    next = slice_set named here.place true

    same : length next ≡ length named
    same = length-set named here.place true

-- what is noted stays so
pub still_noted : (before after : List Bool) (places : List SlotIx) → length after ≡ length before → ((place : ℕ) → named_at place before ≡ true → named_at place after ≡ true) → AreNoted before places →
    AreNoted after places
still_noted before after places many still noted = λ n ix at less. still ix.place (noted n ix at (omega (arith, less, many)))

-- a place that counts a server is within, so it is named where it is noted
pub noted_named : (backend : Backend) (places : List SlotIx) (counts : List Count) (named : List Bool) → length named ≡ length counts → AreNoted named places →
    AreSlots counts backend places → AreNamed named places
noted_named backend places counts named many noted slots = all places (λ n ix at. by n ix at)
  where
    by : (n : ℕ) (ix : SlotIx) → slice_get places n ≡ Some ix → named_at ix.place named ≡ true
    by n ix at =
        let less : n < length places = slice_get_within places n ix at in
        let same = slots.many in
        let server = within backend.servers n (omega (arith, less, same)) in
        let there = identity_within counts ix.place (identity_in backend server.0) (slots.each n server.0 ix server.1 at) in
        noted n ix at (omega (arith, there, many))

    all : (ps : List SlotIx) → ((n : ℕ) (ix : SlotIx) → slice_get ps n ≡ Some ix → named_at ix.place named ≡ true) → AreNamed named ps
    all [] each = tt
    all (p ∷ ps) each = (each 0 p refl, all ps (λ n. each (suc n)))
