-- Texts that have no space in them, and texts that have no line feed.
use Rattle.std.proofs.Common.{◌≡◌, ℕ, zero, suc, ◌/◌, ◌%◌, ◌<◌, Bool, true, false, List, [], ◌∷◌, ◌++◌, refl, subst, sym, length, arith}
use Rattle.std.specs.Prelude.{codes, slice_index, nat_le, ◌==◌}
use Rattle.std.specs.List.{list_all, list_any, All}
use Rattle.std.specs.Char.{is_ascii_digit}
use Rattle.std.proofs.lemmas.Bool.Decides.{nat_tests}
use Rattle.std.proofs.lemmas.List.Elements.{All-nil, All-cons, All-append}
use Rattle.text_core.specs.Decimal.{decimal}
use Rattle.text_core.proofs.DecimalLemmas.{are_digits_decimal}
use Rattle.addr_core.specs.Text.{endpoint_text, host_text, text_of}
use Rattle.addr_core.specs.declared.addr.Addr.{Addr}
use Rattle.addr_core.specs.declared.addr.Addr.TheVariants.{V4, V6}
use Rattle.addr_core.specs.declared.addr.Endpoint.{Endpoint}
use Rattle.addr_core.specs.Groups.{groups_of}
use Rattle.addr_core.proofs.GroupLemmas.{groups_text_all}
use Rattle.conn_model.specs.declared.event.ConnId.{ConnId}
use Rattle.conn_model.specs.declared.event.Why.{Why}
use Rattle.conn_model.specs.declared.event.Why.TheVariants.{Done, Fault, Stopped, Failed, ClientTimeout, ServerTimeout}
use Rattle.hex.specs.Hex.{encode_lower, encode_with, lower_digits}
use Rattle.event_text.specs.Script.{bytes_text, id_text, is_mark, why_text, health_text}
use Rattle.conn_model.specs.declared.event.Health.{Health}
use Rattle.conn_model.specs.declared.event.Health.TheVariants.{Down, Up}

-- no byte is the mark
abbrev pub Lacks : ℕ → List ℕ → Type 0
Lacks mark text = All (λ b. is_mark mark b ≡ false) text

-- A mark that comes before the dash among the characters, and so before all that a word is written with.
pub record IsAside (mark : ℕ) : Type 0 where
  pub some : 0 < mark
  pub low : mark < 45

pub one_lacks : (mark b : ℕ) → is_mark mark b ≡ false → Lacks mark (b ∷ [])
one_lacks mark b is = All-cons (λ c. is_mark mark c ≡ false) b [] is (All-nil (λ c. is_mark mark c ≡ false))

pub both_lack : (mark : ℕ) (xs ys : List ℕ) → Lacks mark xs → Lacks mark ys → Lacks mark (xs ++ ys)
both_lack mark xs ys first second = All-append (λ b. is_mark mark b ≡ false) xs ys first second

pub and_lacks : (mark b : ℕ) (xs : List ℕ) → is_mark mark b ≡ false → Lacks mark xs → Lacks mark (b ∷ xs)
and_lacks mark b xs is rest = All-cons (λ c. is_mark mark c ≡ false) b xs is rest

pub text_lacks : (mark : ℕ) (text : List ℕ) → list_any (is_mark mark) text ≡ false → Lacks mark text
text_lacks mark [] none = All-nil (λ b. is_mark mark b ≡ false)
text_lacks mark (b ∷ text) none = by (is_mark mark b) refl (λ h. text_lacks mark text h)
  where
    by : (t : Bool) → is_mark mark b ≡ t → (list_any (is_mark mark) text ≡ false → Lacks mark text) → Lacks mark (b ∷ text)
    by true is rest = let wrong = rw is at none in absurd cc
    by false is rest = and_lacks mark b text is (rest (rw is at none))

-- bytes from the dash on
abbrev is_high : ℕ → Bool
is_high b = nat_le 45 b

high_differs : (mark b : ℕ) → IsAside mark → is_high b ≡ true → is_mark mark b ≡ false
high_differs mark b aside high = let low = aside.low in grind (arith, nat_tests)

pub word_lacks : (mark : ℕ) → IsAside mark → (text : List ℕ) → list_all (λ b. nat_le 45 b) text ≡ true → Lacks mark text
word_lacks mark aside [] all = All-nil (λ b. is_mark mark b ≡ false)
word_lacks mark aside (b ∷ text) all = by (is_high b) refl (λ h. word_lacks mark aside text h)
  where
    by : (t : Bool) → is_high b ≡ t → (list_all (λ b. nat_le 45 b) text ≡ true → Lacks mark text) → Lacks mark (b ∷ text)
    by true is rest = and_lacks mark b text (high_differs mark b aside is) (rest (rw is at all))
    by false is rest = let wrong = rw is at all in absurd cc

-- a byte that is no digit is not among digits
digits_lack : (mark : ℕ) → mark < 48 → (text : List ℕ) → list_all is_ascii_digit text ≡ true → Lacks mark text
digits_lack mark low [] all = All-nil (λ b. is_mark mark b ≡ false)
digits_lack mark low (b ∷ text) all = by (is_ascii_digit b) refl (λ h. digits_lack mark low text h)
  where
    by : (t : Bool) → is_ascii_digit b ≡ t → (list_all is_ascii_digit text ≡ true → Lacks mark text) → Lacks mark (b ∷ text)
    by true is rest = All-cons (λ b. is_mark mark b ≡ false) b text (grind (arith, nat_tests)) (rest (rw is at all))
    by false is rest = let wrong = rw is at all in absurd cc

pub decimal_lacks : (mark n : ℕ) → mark < 48 → Lacks mark (decimal n)
decimal_lacks mark n low = digits_lack mark low (decimal n) (are_digits_decimal n).digits

pub number_lacks : (mark n : ℕ) → IsAside mark → Lacks mark (decimal n)
number_lacks mark n aside = decimal_lacks mark n (let low = aside.low in omega (arith, low))

-- the dot, the colon and the brackets of addresses
pub sign_lacks : (mark b : ℕ) → IsAside mark → 45 < b → is_mark mark b ≡ false
sign_lacks mark b aside high = let low = aside.low in grind (arith, nat_tests)

pub addr_lacks : (mark : ℕ) → IsAside mark → (addr : Addr) → Lacks mark (text_of addr)
addr_lacks mark aside (V4 n) =
    let dot : is_mark mark 46 ≡ false = sign_lacks mark 46 aside (omega arith) in
    both_lack mark _ _ (number_lacks mark _ aside) (and_lacks mark 46 _ dot
    (both_lack mark _ _ (number_lacks mark _ aside) (and_lacks mark 46 _ dot
    (both_lack mark _ _ (number_lacks mark _ aside) (and_lacks mark 46 _ dot (number_lacks mark _ aside))))))
addr_lacks mark aside (V6 n) =
    let low = aside.low in
    groups_text_all (λ b. is_mark mark b ≡ false) (λ d. grind (arith, nat_tests)) (sign_lacks mark 58 aside (omega arith)) (groups_of n)

host_lacks : (mark : ℕ) → IsAside mark → (addr : Addr) → Lacks mark (host_text addr)
host_lacks mark aside (V4 n) = addr_lacks mark aside (V4 n)
host_lacks mark aside (V6 n) =
    and_lacks mark 91 (text_of (V6 n) ++ 93 ∷ []) (sign_lacks mark 91 aside (omega arith))
    (both_lack mark (text_of (V6 n)) (93 ∷ []) (addr_lacks mark aside (V6 n)) (one_lacks mark 93 (sign_lacks mark 93 aside (omega arith))))

pub endpoint_lacks : (mark : ℕ) → IsAside mark → (endpoint : Endpoint) → Lacks mark (endpoint_text endpoint)
endpoint_lacks mark aside endpoint =
    both_lack mark (host_text endpoint.addr ++ codes ":") (decimal endpoint.port)
    (both_lack mark (host_text endpoint.addr) (codes ":") (host_lacks mark aside endpoint.addr) (one_lacks mark 58 (sign_lacks mark 58 aside (omega arith))))
    (number_lacks mark endpoint.port aside)

pub id_lacks : (mark : ℕ) → IsAside mark → (id : ConnId) → Lacks mark (id_text id)
id_lacks mark aside id =
    both_lack mark (decimal id.frontend ++ codes ".") (decimal id.serial)
    (both_lack mark (decimal id.frontend) (codes ".") (number_lacks mark id.frontend aside) (one_lacks mark 46 (sign_lacks mark 46 aside (omega arith))))
    (number_lacks mark id.serial aside)

pub health_lacks : (mark : ℕ) → IsAside mark → (health : Health) → Lacks mark (health_text health)
health_lacks mark aside Down = word_lacks mark aside (codes "down") refl
health_lacks mark aside Up = word_lacks mark aside (codes "up") refl

pub why_lacks : (mark : ℕ) → IsAside mark → (why : Why) → Lacks mark (why_text why)
why_lacks mark aside Done = word_lacks mark aside (codes "done") refl
why_lacks mark aside Fault = word_lacks mark aside (codes "fault") refl
why_lacks mark aside Stopped = word_lacks mark aside (codes "stopped") refl
why_lacks mark aside Failed = word_lacks mark aside (codes "failed") refl
why_lacks mark aside ClientTimeout = word_lacks mark aside (codes "client-timeout") refl
why_lacks mark aside ServerTimeout = word_lacks mark aside (codes "server-timeout") refl

-- a digit of a table of high bytes, or zero past its end
digit_lacks : (mark : ℕ) → IsAside mark → (digits : List ℕ) → list_all (λ b. nat_le 45 b) digits ≡ true → (n : ℕ) → is_mark mark (slice_index digits n) ≡ false
digit_lacks mark aside [] all n = let some = aside.some in grind (arith, nat_tests)
digit_lacks mark aside (b ∷ digits) all n = by (is_high b) refl (λ h m. digit_lacks mark aside digits h m) n
  where
    by : (t : Bool) → is_high b ≡ t → (list_all (λ b. nat_le 45 b) digits ≡ true → (m : ℕ) → is_mark mark (slice_index digits m) ≡ false) → (n : ℕ)
        → is_mark mark (slice_index (b ∷ digits) n) ≡ false
    by true is rest zero = high_differs mark b aside is
    by true is rest (suc n) = rest (rw is at all) n
    by false is rest n = let wrong = rw is at all in absurd cc

-- bytes in hexadecimal
hex_lacks : (mark : ℕ) → IsAside mark → (bytes : List ℕ) → Lacks mark (encode_lower bytes)
unfolding encode_with
hex_lacks mark aside [] = All-nil (λ b. is_mark mark b ≡ false)
hex_lacks mark aside (b ∷ bytes) =
    and_lacks mark (slice_index lower_digits (b / 16)) (slice_index lower_digits (b % 16) ∷ encode_lower bytes) (digit_lacks mark aside lower_digits refl (b / 16))
    (and_lacks mark (slice_index lower_digits (b % 16)) (encode_lower bytes) (digit_lacks mark aside lower_digits refl (b % 16)) (hex_lacks mark aside bytes))

pub text_of-bytes : (b : ℕ) (bytes : List ℕ) → bytes_text (b ∷ bytes) ≡ encode_lower (b ∷ bytes)
text_of-bytes b bytes = let some : (length (b ∷ bytes) == 0) ≡ false = grind (arith, nat_tests) in rw some refl

pub bytes_lack : (mark : ℕ) → IsAside mark → (bytes : List ℕ) → Lacks mark (bytes_text bytes)
bytes_lack mark aside [] = word_lacks mark aside (codes "-") refl
bytes_lack mark aside (b ∷ bytes) = subst (Lacks mark) (sym (text_of-bytes b bytes)) (hex_lacks mark aside (b ∷ bytes))
