-- The line of a pair is whole.
use Rattle.std.proofs.Common.{◌≡◌, ℕ, ◌+◌, ◌-◌, ◌<◌, ◌≤◌, true, false, List, [], ◌∷◌, ◌++◌, length, take, get_or, refl, ◌∙◌, sym, ap, arith, append_assoc, length-append}
use Rattle.std.specs.Prelude.{Ok, codes, ◌==◌}
use Rattle.std.specs.List.{All, join_with_byte}
use Rattle.std.proofs.lemmas.Bool.Decides.{nat_tests}
use Rattle.std.proofs.lemmas.List.{get_or-take, get_or_append_left, get_or-append-add, length-take-le}
use Rattle.std.proofs.lemmas.List.Elements.{All-append, All-cons, All-from_recursion, All-get_or}
use Rattle.text_core.specs.Decimal.{decimal}
use Rattle.addr_core.specs.PairValue.{PairValue}
use Rattle.addr_core.specs.Groups.{groups_of}
use Rattle.addr_core.specs.Text.{text_of}
use Rattle.addr_core.specs.declared.addr.Addr.{Addr}
use Rattle.addr_core.specs.declared.addr.Addr.TheVariants.{V4, V6}
use Rattle.addr_core.proofs.DottedLemmas.{decimal_all, dotted_text_all}
use Rattle.addr_core.proofs.GroupLemmas.{groups_text_all}
use Rattle.pp_v1.specs.declared.meaning.Meaning.TheVariants.{Declared}
use Rattle.pp_v1.specs.Line.{ends_line, line_meaning, line_of, line_words, protocol_text}
use Rattle.pp_any.specs.Status.{Whole, status}
use Rattle.pp_any.proofs.Lines.{line_is_whole}

-- no carriage return
abbrev IsPlain : ℕ → Type 0
IsPlain byte = (byte == 13) ≡ false

plain_digit : (b : ℕ) → 48 ≤ b → b < 58 → IsPlain b
plain_digit b low high = grind (arith, nat_tests)

plain_decimal : (n : ℕ) → All IsPlain (decimal n)
plain_decimal n = decimal_all IsPlain plain_digit n

plain_text : (addr : Addr) → All IsPlain (text_of addr)
plain_text (V4 n) = dotted_text_all IsPlain plain_digit refl n
plain_text (V6 n) = groups_text_all IsPlain (λ d. grind (arith, nat_tests)) refl (groups_of n)

plain_protocol : (addr : Addr) → All IsPlain (protocol_text addr)
plain_protocol (V4 n) = All-from_recursion IsPlain (codes "TCP4") ((refl, (refl, (refl, (refl, tt)))))
plain_protocol (V6 n) = All-from_recursion IsPlain (codes "TCP6") ((refl, (refl, (refl, (refl, tt)))))

plain_name : All IsPlain (codes "PROXY ")
plain_name = All-from_recursion IsPlain (codes "PROXY ") ((refl, (refl, (refl, (refl, (refl, (refl, tt)))))))

-- two words and the space between them
plain_both : (first rest : List ℕ) → All IsPlain first → All IsPlain rest → All IsPlain (first ++ 32 ∷ rest)
plain_both first rest here there = All-append IsPlain first (32 ∷ rest) here (All-cons IsPlain 32 rest refl there)

plain_body : (pair : PairValue) → All IsPlain (codes "PROXY " ++ join_with_byte 32 (line_words pair))
plain_body pair =
    let ports = plain_both (decimal pair.source.port) (decimal pair.destination.port) (plain_decimal pair.source.port) (plain_decimal pair.destination.port) in
    let to = plain_both (text_of pair.destination.addr) (decimal pair.source.port ++ 32 ∷ decimal pair.destination.port) (plain_text pair.destination.addr) ports in
    let from = plain_both (text_of pair.source.addr) (text_of pair.destination.addr ++ 32 ∷ (decimal pair.source.port ++ 32 ∷ decimal pair.destination.port)) (plain_text pair.source.addr) to in
    All-append IsPlain (codes "PROXY ") (join_with_byte 32 (line_words pair)) plain_name
    (plain_both (protocol_text pair.source.addr) (text_of pair.source.addr ++ 32 ∷ (text_of pair.destination.addr ++ 32 ∷ (decimal pair.source.port ++ 32 ∷ decimal pair.destination.port)))
    (plain_protocol pair.source.addr) from)

-- a line whose end has the only carriage return
ends_at_end : (body : List ℕ) → ends_line (body ++ 13 ∷ 10 ∷ []) ≡ true
ends_at_end body =
    let l : length (body ++ 13 ∷ 10 ∷ []) ≡ length body + 2 = length-append body (13 ∷ 10 ∷ []) in
    let first : length (body ++ 13 ∷ 10 ∷ []) - 2 ≡ length body + 0 = omega arith in
    let second : length (body ++ 13 ∷ 10 ∷ []) - 1 ≡ length body + 1 = omega arith in
    rw (first, second, get_or-append-add body (13 ∷ 10 ∷ []) 0 0, get_or-append-add body (13 ∷ 10 ∷ []) 1 0) refl

no_end_inside : (body : List ℕ) (k : ℕ) → All IsPlain body → 1 < k → k < length (body ++ 13 ∷ 10 ∷ []) → ends_line (take k (body ++ 13 ∷ 10 ∷ [])) ≡ false
no_end_inside body k plain more less =
    let both = length-append body (13 ∷ 10 ∷ []) in
    let l : length (take k (body ++ 13 ∷ 10 ∷ [])) ≡ k = length-take-le k (body ++ 13 ∷ 10 ∷ []) (omega arith) in
    let inside : k - 2 < length body = omega arith in
    let byte : get_or (take k (body ++ 13 ∷ 10 ∷ [])) (k - 2) 0 ≡ get_or body (k - 2) 0 =
    get_or-take k (body ++ 13 ∷ 10 ∷ []) (k - 2) 0 (omega arith) ∙ get_or_append_left body (13 ∷ 10 ∷ []) 0 (k - 2) inside in
    let plain_byte : (get_or body (k - 2) 0 == 13) ≡ false = All-get_or IsPlain body (k - 2) 0 inside plain in
    rw (l, byte, plain_byte) refl

pub v1_is_whole : (b : List ℕ) (pair : PairValue) → b ≡ line_of pair → length b ≤ 107 → line_meaning b ≡ Ok (Declared pair)
    → (c : List ℕ) → status (b ++ c) ≡ Whole (length b) (Declared pair)
v1_is_whole b pair is short says =
    let whole : b ≡ (codes "PROXY " ++ join_with_byte 32 (line_words pair)) ++ 13 ∷ 10 ∷ [] =
    is ∙ sym (append_assoc (codes "PROXY ") (join_with_byte 32 (line_words pair)) (13 ∷ 10 ∷ [])) in
    line_is_whole b (Declared pair) (record {
      line = record {
        begins = ap (λ e. take 6 e) is;
        ends = ap ends_line whole ∙ ends_at_end (codes "PROXY " ++ join_with_byte 32 (line_words pair));
        first = λ k more less.
            let l = ap length whole in
            ap (λ e. ends_line (take k e)) whole ∙ no_end_inside (codes "PROXY " ++ join_with_byte 32 (line_words pair)) k (plain_body pair) (omega arith) (omega arith);
        short = short;
      };
      says = says;
    })
