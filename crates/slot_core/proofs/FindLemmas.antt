-- Where a server is counted, by the total of its backend.
use Rattle.std.proofs.Common.{◌≡◌, ℕ, ◌<◌, true, false, List, length, Option, Some, None, refl, sym, ap, ◌∙◌, arith}
use Rattle.std.specs.Prelude.{slice_get, ◌≢◌}
use Rattle.std.specs.Option.{option_map}
use Rattle.std.specs.List.{position}
use Rattle.std.proofs.lemmas.Bool.{false_from_ne_true}
use Rattle.std.proofs.lemmas.Slice.Eq.{bytes_eq-Decides}
use Rattle.std.proofs.lemmas.Option.{slice_get_within}
use Rattle.list_core.proofs.Items.{absent, all-at, found, position_none, within}
use Rattle.proxy_types.specs.declared.server.ServerIdentity.{ServerIdentity}
use Rattle.slot_core.specs.declared.slots.Count.{Count}
use Rattle.slot_core.specs.declared.totals.BackendTotal.{BackendTotal}
use Rattle.slot_core.specs.Counts.{is_of, place_of}
use Rattle.slot_core.specs.Totals.{has_name, name_at, AreTotals}
use Rattle.slot_core.proofs.CountLemmas.{server_is}

-- the total of a name
named_total : (totals : List BackendTotal) (place : ℕ) (name : List ℕ) → name_at place totals ≡ Some name → (total : BackendTotal) × (slice_get totals place ≡ Some total) × (total.name ≡ name)
named_total totals place name is = by (slice_get totals place) refl is
  where
    by : (o : Option BackendTotal) → slice_get totals place ≡ o → option_map (λ total. total.name) o ≡ Some name → (total : BackendTotal) × (slice_get totals place ≡ Some total) × (total.name ≡ name)
    by None there is = absurd (cc)
    by (Some total) there is = (total, there, cc)

-- a count of another backend is not of the server
pub other_total : (counts : List Count) (backends : List ℕ) (totals : List BackendTotal) (identity : ServerIdentity) (total n place : ℕ) (count : Count) → AreTotals counts backends totals
    → position (has_name identity.backend) totals ≡ Some total → slice_get counts n ≡ Some count → slice_get backends n ≡ Some place → place ≢ total → is_of identity count ≡ false
other_total counts backends totals identity total n place count are at there of_backend differs = false_from_ne_true (is_of identity count) (λ same.
    let own = named_total totals place count.identity.backend (are.named n count place there of_backend) in
    let other = found (has_name identity.backend) totals total at in
    let name : other.0.name ≡ identity.backend = (bytes_eq-Decides other.0.name identity.backend).0 other.2 in
    let names : own.0.name ≡ other.0.name = own.2 ∙ ap (λ i. i.backend) (server_is count.identity identity same) ∙ sym name in
    let one : place ≡ total = are.numbers.apart place total own.0 other.0 own.1 other.1 names in
    differs one)

-- a server is not counted if its backend has no total
pub no_total : (counts : List Count) (backends : List ℕ) (totals : List BackendTotal) (identity : ServerIdentity) → AreTotals counts backends totals
    → position (has_name identity.backend) totals ≡ None → place_of identity counts ≡ None
no_total counts backends totals identity are none = position_none (is_of identity) counts (λ n count there. false_from_ne_true (is_of identity count) (λ same.
    let low : n < length counts = slice_get_within counts n count there in
    let many = are.many in
    let at = within backends n (omega (arith, low, many)) in
    let own = named_total totals at.0 count.identity.backend (are.named n count at.0 there at.1) in
    let other : has_name identity.backend own.0 ≡ false = all-at (λ t. has_name identity.backend t ≡ false) totals at.0 own.0 (absent (has_name identity.backend) totals none) own.1 in
    let name : own.0.name ≡ identity.backend = own.2 ∙ ap (λ i. i.backend) (server_is count.identity identity same) in
    let yes : has_name identity.backend own.0 ≡ true = (bytes_eq-Decides own.0.name identity.backend).1 name in
    let wrong : true ≡ false = sym yes ∙ other in cc))
