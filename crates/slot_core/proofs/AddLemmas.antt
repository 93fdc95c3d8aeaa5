-- What an added server leaves as it is.
use Rattle.std.proofs.Common.{◌≡◌, ℕ, ◌<◌, Bool, true, false, List, [], ◌∷◌, ◌++◌, length, None, Some, sym, ap, ◌∙◌, arith}
use Rattle.std.specs.Prelude.{slice_set}
use Rattle.std.specs.Option.{option_map}
use Rattle.std.specs.List.{position}
use Rattle.proxy_types.specs.declared.server.ServerIdentity.{ServerIdentity}
use Rattle.slot_core.specs.declared.slots.Count.{Count}
use Rattle.slot_core.specs.Counts.{closed, identity_at, is_of, named_at, open_at, open_in, IdentitiesDiffer}
use Rattle.list_core.proofs.Items.{get-set}
use Rattle.slot_core.proofs.CountLemmas.{differ-added, differ-replaced, identity-added, identity-last, identity-replaced, named-within, open-added, open-replaced, open_in-same, open_there}

pub record IsAdded (identity : ServerIdentity) (place : ℕ) (old : List Count) (named : List Bool) (next : List Count) : Type 0 where
  pub there : identity_at place next ≡ Some identity
  pub apart : IdentitiesDiffer next
  pub kept : (n : ℕ) → named_at n named ≡ true → identity_at n next ≡ identity_at n old
  pub open_kept : (n : ℕ) → 0 < open_at n old → identity_at n next ≡ identity_at n old
  pub open_as_before : (n : ℕ) → open_at n next ≡ open_at n old
  pub total_as_before : (name : List ℕ) → open_in name next ≡ open_in name old

pub in_place : (identity : ServerIdentity) (place : ℕ) (counts : List Count) (named : List Bool) → place < length counts → named_at place named ≡ false → open_at place counts ≡ 0 →
    position (is_of identity) counts ≡ None → IdentitiesDiffer counts → IsAdded identity place counts named (slice_set counts place (closed identity))
in_place identity place counts named less unnamed none new apart' = record {
  there = ap (option_map (λ c. c.identity)) (get-set counts place (closed identity) less);
  apart = differ-replaced (closed identity) place counts new apart';
  kept = λ n is. identity-replaced (closed identity) place counts n (λ same. let wrong : true ≡ false = sym is ∙ ap (λ k. named_at k named) same ∙ unnamed in cc);
  open_kept = others;
  open_as_before = open-replaced identity place counts less none;
  total_as_before = λ name. open_in-same name counts (slice_set counts place (closed identity)) (open-replaced identity place counts less none) others;
}
  where
    others : (n : ℕ) → 0 < open_at n counts → identity_at n (slice_set counts place (closed identity)) ≡ identity_at n counts
    others n some = identity-replaced (closed identity) place counts n (λ same. let here : open_at n counts ≡ 0 = ap (λ k. open_at k counts) same ∙ none in omega (arith, here, some))

pub at_end : (identity : ServerIdentity) (counts : List Count) (named : List Bool) → length named ≡ length counts → position (is_of identity) counts ≡ None → IdentitiesDiffer counts →
    IsAdded identity (length counts) counts named (counts ++ closed identity ∷ [])
at_end identity counts named many new apart' = record {
  there = identity-last (closed identity) counts;
  apart = differ-added (closed identity) counts new apart';
  kept = λ n is. identity-added (closed identity) counts n (let less : n < length named = named-within n named is in omega (arith, less, many));
  open_kept = others;
  open_as_before = open-added identity counts;
  total_as_before = λ name. open_in-same name counts (counts ++ closed identity ∷ []) (open-added identity counts) others;
}
  where
    others : (n : ℕ) → 0 < open_at n counts → identity_at n (counts ++ closed identity ∷ []) ≡ identity_at n counts
    others n some = identity-added (closed identity) counts n (open_there n counts some)
