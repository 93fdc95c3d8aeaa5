-- Written lines are read again.
use Rattle.std.proofs.Common.{◌≡◌, ℕ, ◌-◌, ◌^◌, ◌<◌, ◌≤◌, true, false, List, [], ◌∷◌, ◌++◌, length, take, drop, Some, refl, ◌∙◌, ap, arith, length-append}
use Rattle.std.specs.Prelude.{◌==◌, codes, Ok}
use Rattle.std.specs.List.{All, AllByRecursion, join_with_byte}
use Rattle.std.proofs.lemmas.Bool.Decides.{nat_tests}
use Rattle.std.proofs.lemmas.List.Elements.{All-from_recursion}
use Rattle.text_core.specs.Decimal.{decimal}
use Rattle.addr_core.specs.Dotted.{dotted_text, is_empty}
use Rattle.addr_core.specs.PairValue.{PairValue}
use Rattle.addr_core.specs.Family.{same_family}
use Rattle.addr_core.specs.Groups.{groups_of, groups_text}
use Rattle.addr_core.specs.Text.{text_of, IsAddr}
use Rattle.addr_core.specs.declared.addr.Addr.{Addr}
use Rattle.addr_core.specs.declared.addr.Addr.TheVariants.{V4, V6}
use Rattle.addr_core.proofs.AddrLemmas.{addr_of_written}
use Rattle.text_core.proofs.DecimalLemmas.{are_digits_decimal, decimal_of_written}
use Rattle.addr_core.proofs.DottedLemmas.{decimal_all, dotted_text_all, some_dotted}
use Rattle.addr_core.proofs.GroupLemmas.{groups_text_all}
use Rattle.addr_core.proofs.SixLemmas.{six_text_some}
use Rattle.addr_core.proofs.SixWritten.{six_text_written}
use Rattle.text_core.proofs.CutLemmas.{split-join}
use Rattle.pp_v1.specs.declared.meaning.Meaning.TheVariants.{Declared}
use Rattle.pp_v1.specs.declared.reading.Protocol.{Protocol}
use Rattle.pp_v1.specs.declared.reading.Protocol.TheVariants.{Tcp4, Tcp6}
use Rattle.pp_v1.specs.Line.{address_of, before_end, fields_of, line_meaning, line_of, line_words, of_family, port_of, protocol_text, says, text_meaning, IsPair}

-- ---- fields

fields_say : (protocol : Protocol) (p q r s : List ℕ) (a b : Addr) (m n : ℕ) → is_empty p ≡ false → is_empty q ≡ false → is_empty r ≡ false → is_empty s ≡ false
    → address_of protocol p ≡ Ok a → address_of protocol q ≡ Ok b → port_of r ≡ Ok m → port_of s ≡ Ok n
    → fields_of protocol (p ∷ q ∷ r ∷ s ∷ []) ≡ Ok (Declared (record { source = record { addr = a; port = m }; destination = record { addr = b; port = n } }))
fields_say protocol p q r s a b m n some_p some_q some_r some_s from to first second = rw (from, to, first, second, some_p, some_q, some_r, some_s) refl

not_empty : (text : List ℕ) → 0 < length text → is_empty text ≡ false
not_empty text some = grind (arith, nat_tests)

some_decimal : (n : ℕ) → is_empty (decimal n) ≡ false
some_decimal n = not_empty (decimal n) (are_digits_decimal n).some

port_of-decimal : (n : ℕ) → n < 2 ^ 16 → port_of (decimal n) ≡ Ok n
port_of-decimal n small = rw (decimal_of_written (decimal n) 65535 n (omega arith) refl) refl

some_text : (addr : Addr) → IsAddr addr → is_empty (text_of addr) ≡ false
some_text (V4 n) fits = not_empty (dotted_text n) (some_dotted n)
some_text (V6 n) fits = not_empty (groups_text (groups_of n)) (six_text_some (groups_text (groups_of n)) n (six_text_written n fits))

words_say : (a b : Addr) (m n : ℕ) → IsAddr a → IsAddr b → m < 2 ^ 16 → n < 2 ^ 16 → same_family a b ≡ true
    → says (protocol_text a ∷ text_of a ∷ text_of b ∷ decimal m ∷ decimal n ∷ []) ≡ Ok (Declared (record { source = record { addr = a; port = m }; destination = record { addr = b; port = n } }))
words_say (V4 x) (V4 y) m n first second small short same =
    fields_say Tcp4 (text_of (V4 x)) (text_of (V4 y)) (decimal m) (decimal n) (V4 x) (V4 y) m n (some_text (V4 x) first) (some_text (V4 y) second) (some_decimal m) (some_decimal n)
    (ap (of_family Tcp4) (addr_of_written (text_of (V4 x)) (V4 x) first refl)) (ap (of_family Tcp4) (addr_of_written (text_of (V4 y)) (V4 y) second refl)) (port_of-decimal m small) (port_of-decimal n short)
words_say (V6 x) (V6 y) m n first second small short same =
    fields_say Tcp6 (text_of (V6 x)) (text_of (V6 y)) (decimal m) (decimal n) (V6 x) (V6 y) m n (some_text (V6 x) first) (some_text (V6 y) second) (some_decimal m) (some_decimal n)
    (ap (of_family Tcp6) (addr_of_written (text_of (V6 x)) (V6 x) first refl)) (ap (of_family Tcp6) (addr_of_written (text_of (V6 y)) (V6 y) second refl)) (port_of-decimal m small) (port_of-decimal n short)
words_say (V4 x) (V6 y) m n first second small short same = absurd cc
words_say (V6 x) (V4 y) m n first second small short same = absurd cc

-- ---- words

digit_no_blank : (b : ℕ) → 48 ≤ b → b < 58 → (b == 32) ≡ false
digit_no_blank b low high = grind (arith, nat_tests)

decimal_lacks : (n : ℕ) → All (λ b. (b == 32) ≡ false) (decimal n)
decimal_lacks n = decimal_all (λ b. (b == 32) ≡ false) digit_no_blank n

text_lacks : (addr : Addr) → All (λ b. (b == 32) ≡ false) (text_of addr)
text_lacks (V4 n) = dotted_text_all (λ b. (b == 32) ≡ false) digit_no_blank refl n
text_lacks (V6 n) = groups_text_all (λ b. (b == 32) ≡ false) (λ d. grind (arith, nat_tests)) refl (groups_of n)

protocol_lacks : (addr : Addr) → All (λ b. (b == 32) ≡ false) (protocol_text addr)
protocol_lacks (V4 n) = All-from_recursion (λ b. (b == 32) ≡ false) (codes "TCP4") ((refl, (refl, (refl, (refl, tt)))))
protocol_lacks (V6 n) = All-from_recursion (λ b. (b == 32) ≡ false) (codes "TCP6") ((refl, (refl, (refl, (refl, tt)))))

words_lack : (pair : PairValue) → AllByRecursion (All (λ b. (b == 32) ≡ false)) (line_words pair)
words_lack pair = (protocol_lacks pair.source.addr, (text_lacks pair.source.addr, (text_lacks pair.destination.addr, (decimal_lacks pair.source.port, (decimal_lacks pair.destination.port, tt)))))

-- ---- the line

drop_front : (xs ys : List ℕ) → drop (length xs) (xs ++ ys) ≡ ys
drop_front [] ys = refl
drop_front (x ∷ xs) ys = drop_front xs ys

take_front : (xs ys : List ℕ) → take (length xs) (xs ++ ys) ≡ xs
take_front [] ys = refl
take_front (x ∷ xs) ys = ap (λ zs. x ∷ zs) (take_front xs ys)

before_end-end : (text : List ℕ) → before_end (text ++ 13 ∷ 10 ∷ []) ≡ Some text
before_end-end text =
    let size : length (text ++ 13 ∷ 10 ∷ []) - 2 ≡ length text = omega (arith, length-append text (13 ∷ 10 ∷ [])) in
    rw (size, drop_front text (13 ∷ 10 ∷ []), take_front text (13 ∷ 10 ∷ [])) refl

between_line : (text : List ℕ) → line_meaning (codes "PROXY " ++ (text ++ 13 ∷ 10 ∷ [])) ≡ text_meaning text
between_line text = rw (before_end-end text) refl

pub line_meaning-line_of : (pair : PairValue) → IsPair pair → line_meaning (line_of pair) ≡ Ok (Declared pair)
line_meaning-line_of pair is =
    between_line (join_with_byte 32 (line_words pair))
    ∙ ap says (split-join 32 (protocol_text pair.source.addr) (text_of pair.source.addr ∷ text_of pair.destination.addr ∷ decimal pair.source.port ∷ decimal pair.destination.port ∷ []) (words_lack pair))
    ∙ words_say pair.source.addr pair.destination.addr pair.source.port pair.destination.port is.0.0 is.1.0 is.0.1 is.1.1 is.2
