-- Pieces of bytes, one after the other.
use Rattle.std.proofs.Common.{◌≡◌, ℕ, ◌+◌, ◌<◌, ◌≤◌, List, [], ◌∷◌, ◌++◌, length, take, drop, get_or, Bor, ◌∙◌, sym, ap, subst, arith, append_assoc, length-append}
use Rattle.std.specs.Prelude.{Result}
use Rattle.std.proofs.lemmas.List.{append-nil, take_more, drop_more, take-append-drop, take_all}
use Rattle.std.proofs.lemmas.Grind.{flat_map-append}
use Rattle.pp_v1.specs.declared.meaning.Meaning.{Meaning}
use Rattle.pp_any.specs.declared.fault.HeaderFault.{HeaderFault}
use Rattle.pp_any.specs.declared.rest.Rest.{Rest}
use Rattle.pp_any.specs.Status.{status}
use Rattle.pp_any.specs.Rest.{IsRest}
use Rattle.pp_any.specs.Fed.{bytes_of}
use Rattle.pp_any.proofs.First.{decided_once, given, given_no_wait}

abbrev Piece : Type 0
Piece = Bor (List ℕ)

pub joined_more : (pieces : List Piece) (i : ℕ) (d : Piece) → i < length pieces → bytes_of (take (i + 1) pieces) ≡ bytes_of (take i pieces) ++ (get_or pieces i d).now
joined_more pieces i d less =
    ap bytes_of (take_more pieces i d less) ∙ flat_map-append (λ piece. piece.now) (take i pieces) (get_or pieces i d ∷ [])
    ∙ ap (λ e. bytes_of (take i pieces) ++ e) (append-nil (get_or pieces i d).now)

pub joined_around : (pieces : List Piece) (i : ℕ) (d : Piece) → i < length pieces
    → bytes_of pieces ≡ bytes_of (take i pieces) ++ ((get_or pieces i d).now ++ bytes_of (drop (i + 1) pieces))
joined_around pieces i d less =
    ap bytes_of (sym (take-append-drop i pieces)) ∙ flat_map-append (λ piece. piece.now) (take i pieces) (drop i pieces)
    ∙ ap (λ e. bytes_of (take i pieces) ++ bytes_of e) (drop_more pieces i d less)

pub used_of_all : (before piece after all : List ℕ) (read used : ℕ) → all ≡ before ++ (piece ++ after) → read ≡ length before → used ≤ length piece → read + used ≤ length all
used_of_all before piece after all read used is count within =
    let whole = ap length is in
    let outer = length-append before (piece ++ after) in
    let inner = length-append piece after in
    omega arith

-- what a piece decides is decided of all of them
pub decided_by : (b before piece after all : List ℕ) (read used : ℕ) (s : Result Meaning HeaderFault) → all ≡ before ++ (piece ++ after) → read ≡ length before
    → status ((b ++ before) ++ piece) ≡ given (length (b ++ before) + used) s → status (b ++ all) ≡ given (length b + (read + used)) s
decided_by b before piece after all read used s is count found =
    let together : b ++ all ≡ ((b ++ before) ++ piece) ++ after =
    ap (λ e. b ++ e) is ∙ sym (append_assoc b before (piece ++ after)) ∙ sym (append_assoc (b ++ before) piece after) in
    let l = length-append b before in
    let number : length (b ++ before) + used ≡ length b + (read + used) = omega arith in
    ap status together
    ∙ decided_once ((b ++ before) ++ piece) after (λ waits. given_no_wait (length (b ++ before) + used) s (sym found ∙ waits))
    ∙ found ∙ ap (λ n. given n s) number

pub rest_after_piece : (b before piece more : List ℕ) (rest : Rest) → more ≡ before ++ piece → IsRest ((b ++ before) ++ piece) rest → IsRest (b ++ more) rest
rest_after_piece b before piece more rest is is_rest =
    let P : List ℕ → Type 0 = λ e. IsRest e rest in
    subst P (append_assoc b before piece ∙ ap (λ e. b ++ e) (sym is)) is_rest

pub rest_at_end : (b : List ℕ) (pieces : List Piece) (i : ℕ) (rest : Rest) → length pieces ≤ i → IsRest (b ++ bytes_of (take i pieces)) rest → IsRest (b ++ bytes_of pieces) rest
rest_at_end b pieces i rest end is_rest =
    let P : List Piece → Type 0 = λ e. IsRest (b ++ bytes_of e) rest in
    subst P (take_all i pieces end) is_rest
