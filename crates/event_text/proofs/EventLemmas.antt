-- The line that writes an event hands it in.
use Rattle.std.proofs.Common.{◌≡◌, ℕ, zero, suc, ◌*◌, ◌/◌, ◌%◌, ◌≤◌, ◌<◌, ◌^◌, length, Bool, true, false, eqb, List, [], ◌∷◌, Some, Ok, refl, ap, sym, ◌∙◌, append_assoc, arith}
use Rattle.std.specs.Prelude.{codes, map, option_map, slice_index, nat_lt, ◌==◌, ◌&&◌, ◌||◌}
use Rattle.std.specs.Str.{bytes_eq}
use Rattle.std.specs.Result.{result_ok}
use Rattle.std.specs.List.{list_all, list_any, slice_split, join_with_byte, AllByRecursion}
use Rattle.std.specs.Char.{is_ascii_digit}
use Rattle.std.proofs.lemmas.Bool.Decides.{nat_tests}
use Rattle.std.proofs.lemmas.List.{length-map}
use Rattle.std.proofs.lemmas.List.Splits.{slice_split_at, slice_split_none}
use Rattle.text_core.specs.Decimal.{decimal, decimal_of}
use Rattle.addr_core.specs.PairValue.{PairValue}
use Rattle.addr_core.specs.Family.{same_family}
use Rattle.addr_core.specs.Text.{endpoint_of, endpoint_text, IsEndpoint}
use Rattle.addr_core.proofs.AddrLemmas.{endpoint_of_written}
use Rattle.text_core.proofs.DecimalLemmas.{are_digits_decimal, decimal_of_written}
use Rattle.conn_model.specs.declared.event.ConnId.{ConnId}
use Rattle.conn_model.specs.declared.event.OwnedEvent.{OwnedEvent}
use Rattle.conn_model.specs.declared.event.OwnedEvent.TheVariants.{Accept, Piece, Connected, ConnectFailed, Close, Expire, Reload, Mark}
use Rattle.conn_model.specs.declared.event.TheConstants.{PIECE_LIMIT}
use Rattle.hex.specs.Hex.{encode_lower, encode_with, lower_digits, decode_sized, IsBytes}
use Rattle.hex.proofs.HexLemmas.{length-encode_with, decode_sized-encode_lower}
use Rattle.conn_model.specs.declared.event.Why.{Why}
use Rattle.conn_model.specs.declared.event.Why.TheVariants.{Done}
use Rattle.conn_model.specs.HandedIn.{IsHandedIn}
use Rattle.event_text.specs.Script.{bytes_in, bytes_of, bytes_text, ends_of, event_in_lines, event_line, event_lines, event_with, event_words, head_of, head_written, id_of, id_in, id_text, is_mark, is_upper_digit, lines_after, text_lines, why_of, why_text, wanted_of, words_of, Wanted, ◌>>=◌, health_of, health_text}
use Rattle.event_text.proofs.LackLemmas.{bytes_lack, decimal_lacks, endpoint_lacks, id_lacks, number_lacks, text_of-bytes, why_lacks, word_lacks, IsAside, Lacks, health_lacks}
use Rattle.event_text.proofs.ReloadLemmas.{bar_lines-read, lines_few, lines_joined, lines_some}
use Rattle.conn_model.specs.declared.event.Health.{Health}
use Rattle.conn_model.specs.declared.event.Health.TheVariants.{Down, Up}

or_false : (a b : Bool) → (a || b) ≡ false → (a ≡ false) × (b ≡ false)
or_false true b is = let wrong : true ≡ false = is in absurd cc
or_false false b is = (refl, is)

-- what no byte is, none at a place is
none_at : (test : ℕ → Bool) → test 0 ≡ false → (text : List ℕ) → list_any test text ≡ false → (n : ℕ) → test (slice_index text n) ≡ false
none_at test past [] none n = past
none_at test past (b ∷ text) none zero = (or_false (test b) (list_any test text) none).0
none_at test past (b ∷ text) none (suc n) = none_at test past text (or_false (test b) (list_any test text) none).1 n

-- none is of upper case
hex_lower : (bytes : List ℕ) → list_any is_upper_digit (encode_lower bytes) ≡ false
unfolding encode_with
hex_lower [] = refl
hex_lower (b ∷ bytes) = rw (none_at is_upper_digit refl lower_digits refl (b / 16), none_at is_upper_digit refl lower_digits refl (b % 16)) (hex_lower bytes)

-- a text in hexadecimal is not a dash
not_dash : (text : List ℕ) → 2 ≤ length text → bytes_eq text (codes "-") ≡ false
not_dash [] long = absurd (omega arith)
not_dash (b ∷ []) long = absurd (omega arith)
not_dash (b ∷ c ∷ text) long = by (eqb b 45)
  where
    by : (t : Bool) → (t && false) ≡ false
    by true = refl
    by false = refl

bytes_of-written : (bytes : List ℕ) → length bytes ≤ PIECE_LIMIT → IsBytes bytes → bytes_of PIECE_LIMIT (bytes_text bytes) ≡ Some bytes
bytes_of-written [] few are = refl
bytes_of-written (b ∷ bytes) few are =
    let all : List ℕ = b ∷ bytes in
    let twice : length (encode_lower all) ≡ 2 * length all = length-encode_with lower_digits all in
    let half : length (encode_lower all) / 2 ≡ length all = omega (arith, twice) in
    let some : (length (encode_lower all) == 0) ≡ false = grind (arith, nat_tests, twice) in
    let within : nat_lt PIECE_LIMIT (length (encode_lower all) / 2) ≡ false = rw half (grind (arith, nat_tests, few)) in
    let sized : bytes_in PIECE_LIMIT (encode_lower all) ≡ Some all =
    rw (hex_lower all, within) (ap result_ok (ap (decode_sized (encode_lower all)) half ∙ decode_sized-encode_lower all (length all) refl are)) in
    ap (bytes_of PIECE_LIMIT) (text_of-bytes b bytes) ∙ rw (not_dash (encode_lower all) (omega (arith, twice)), some) sized

-- words joined by spaces are read apart
words_of-joined : (word : List ℕ) (words : List (List ℕ)) → AllByRecursion (Lacks 0x20) (word ∷ words) → words_of (join_with_byte 0x20 (word ∷ words)) ≡ word ∷ words
words_of-joined word [] lack = slice_split_none (is_mark 0x20) word lack.0
words_of-joined word (next ∷ words) lack =
    slice_split_at (is_mark 0x20) word 0x20 (join_with_byte 0x20 (next ∷ words)) lack.0 refl ∙ ap (λ ws. word ∷ ws) (words_of-joined next words lack.1)

pub id_of-written : (id : ConnId) → id.frontend < 2 ^ 16 → id.serial < 2 ^ 64 → id_of (id_text id) ≡ Some id
id_of-written id small short =
    let cut : slice_split (is_mark 0x2E) (id_text id) ≡ decimal id.frontend ∷ decimal id.serial ∷ [] =
    ap (slice_split (is_mark 0x2E)) (append_assoc (decimal id.frontend) (codes ".") (decimal id.serial))
    ∙ slice_split_at (is_mark 0x2E) (decimal id.frontend) 0x2E (decimal id.serial) (decimal_lacks 0x2E id.frontend (omega arith)) refl
    ∙ ap (λ ps. decimal id.frontend ∷ ps) (slice_split_none (is_mark 0x2E) (decimal id.serial) (decimal_lacks 0x2E id.serial (omega arith))) in
    let first : decimal_of (decimal id.frontend) 0xFFFF ≡ Some id.frontend = decimal_of_written (decimal id.frontend) 0xFFFF id.frontend (omega arith) refl in
    let second : decimal_of (decimal id.serial) 0xFFFF_FFFF_FFFF_FFFF ≡ Some id.serial = decimal_of_written (decimal id.serial) 0xFFFF_FFFF_FFFF_FFFF id.serial (omega arith) refl in
    ap id_in cut ∙ rw (first, second) refl

why_of-written : (why : Why) → why_of (why_text why) ≡ Some why
why_of-written Done = refl
why_of-written why = refl

health_of-written : (health : Health) → health_of (health_text health) ≡ Some health
health_of-written Down = refl
health_of-written Up = refl

pub ends_of-written : (real : PairValue) → IsEndpoint real.source → IsEndpoint real.destination → same_family real.source.addr real.destination.addr ≡ true
    → ends_of (endpoint_text real.source) (endpoint_text real.destination) ≡ Some real
ends_of-written real first second same =
    let source : endpoint_of (endpoint_text real.source) ≡ Ok real.source = endpoint_of_written (endpoint_text real.source) real.source first refl in
    let destination : endpoint_of (endpoint_text real.destination) ≡ Ok real.destination = endpoint_of_written (endpoint_text real.destination) real.destination second refl in
    rw (source, destination, same) refl

-- no word has the mark in it
pub words_lack : (mark : ℕ) → IsAside mark → (moment : ℕ) (event : OwnedEvent)
    → (word : List ℕ) × (words : List (List ℕ)) × (event_words moment event ≡ word ∷ words) × AllByRecursion (Lacks mark) (word ∷ words)
words_lack mark aside moment (Accept listener real) = (
  _,
  _,
  refl,
  (
    number_lacks mark moment aside,
    (word_lacks mark aside (codes "accept") refl, (number_lacks mark listener aside, (endpoint_lacks mark aside real.source, (endpoint_lacks mark aside real.destination, tt)))),
  ),
)
words_lack mark aside moment (Close id why) =
    (_, _, refl, (number_lacks mark moment aside, (word_lacks mark aside (codes "close") refl, (id_lacks mark aside id, (why_lacks mark aside why, tt)))))
words_lack mark aside moment (Piece id bytes) =
    (_, _, refl, (number_lacks mark moment aside, (word_lacks mark aside (codes "piece") refl, (id_lacks mark aside id, (bytes_lack mark aside bytes, tt)))))
words_lack mark aside moment (Connected id) =
    (_, _, refl, (number_lacks mark moment aside, (word_lacks mark aside (codes "connected") refl, (id_lacks mark aside id, tt))))
words_lack mark aside moment (ConnectFailed id) =
    (_, _, refl, (number_lacks mark moment aside, (word_lacks mark aside (codes "failed") refl, (id_lacks mark aside id, tt))))
words_lack mark aside moment (Expire id) =
    (_, _, refl, (number_lacks mark moment aside, (word_lacks mark aside (codes "expire") refl, (id_lacks mark aside id, tt))))
words_lack mark aside moment (Reload text) =
    (_, _, refl, (number_lacks mark moment aside, (word_lacks mark aside (codes "reload") refl, (number_lacks mark (length (text_lines text)) aside, tt))))
words_lack mark aside moment (Mark backend server health) =
    (_, _, refl, (number_lacks mark moment aside, (word_lacks mark aside (codes "server") refl, (number_lacks mark backend aside, (number_lacks mark server aside, (health_lacks mark aside health, tt))))))

space : IsAside 0x20
space = record { some = omega arith; low = omega arith }

words_of-line : (moment : ℕ) (event : OwnedEvent) → words_of (event_line moment event) ≡ event_words moment event
words_of-line moment event =
    let parts = words_lack 0x20 space moment event in
    ap (λ ws. words_of (join_with_byte 0x20 ws)) parts.2 ∙ words_of-joined parts.0 parts.1 parts.3 ∙ sym parts.2

head_of-words : (moment : ℕ) (event : OwnedEvent) → moment < 2 ^ 64 → IsHandedIn event → head_of (event_words moment event) ≡ Some (head_written moment event)
head_of-words moment (Accept listener real) short given =
    let at : decimal_of (decimal moment) 0xFFFF_FFFF_FFFF_FFFF ≡ Some moment = decimal_of_written (decimal moment) 0xFFFF_FFFF_FFFF_FFFF moment (omega arith) refl in
    let number : decimal_of (decimal listener) 0xFFFF ≡ Some listener = decimal_of_written (decimal listener) 0xFFFF listener (omega (arith, given.0)) refl in
    rw (at, number, ends_of-written real given.1 given.2 given.3) refl
head_of-words moment (Close id why) short given =
    let at : decimal_of (decimal moment) 0xFFFF_FFFF_FFFF_FFFF ≡ Some moment = decimal_of_written (decimal moment) 0xFFFF_FFFF_FFFF_FFFF moment (omega arith) refl in
    rw (at, id_of-written id given.0 given.1, why_of-written why) refl
head_of-words moment (Piece id bytes) short given =
    let at : decimal_of (decimal moment) 0xFFFF_FFFF_FFFF_FFFF ≡ Some moment = decimal_of_written (decimal moment) 0xFFFF_FFFF_FFFF_FFFF moment (omega arith) refl in
    rw (at, id_of-written id given.0.0 given.0.1, bytes_of-written bytes given.1 given.2) refl
head_of-words moment (Connected id) short given =
    let at : decimal_of (decimal moment) 0xFFFF_FFFF_FFFF_FFFF ≡ Some moment = decimal_of_written (decimal moment) 0xFFFF_FFFF_FFFF_FFFF moment (omega arith) refl in
    rw (at, id_of-written id given.0 given.1) refl
head_of-words moment (ConnectFailed id) short given =
    let at : decimal_of (decimal moment) 0xFFFF_FFFF_FFFF_FFFF ≡ Some moment = decimal_of_written (decimal moment) 0xFFFF_FFFF_FFFF_FFFF moment (omega arith) refl in
    rw (at, id_of-written id given.0 given.1) refl
head_of-words moment (Expire id) short given =
    let at : decimal_of (decimal moment) 0xFFFF_FFFF_FFFF_FFFF ≡ Some moment = decimal_of_written (decimal moment) 0xFFFF_FFFF_FFFF_FFFF moment (omega arith) refl in
    rw (at, id_of-written id given.0 given.1) refl
head_of-words moment (Reload text) short given =
    let at : decimal_of (decimal moment) 0xFFFF_FFFF_FFFF_FFFF ≡ Some moment = decimal_of_written (decimal moment) 0xFFFF_FFFF_FFFF_FFFF moment (omega arith) refl in
    let count = length (text_lines text) in
    let lines : decimal_of (decimal count) 0xFFFF_FFFF_FFFF_FFFF ≡ Some count = decimal_of_written (decimal count) 0xFFFF_FFFF_FFFF_FFFF count (omega (arith, given.1, lines_few text)) refl in
    let some : (count == 0) ≡ false = grind (arith, nat_tests, lines_some text) in
    rw (at, lines, some) refl
head_of-words moment (Mark backend server health) short given =
    let at : decimal_of (decimal moment) 0xFFFF_FFFF_FFFF_FFFF ≡ Some moment = decimal_of_written (decimal moment) 0xFFFF_FFFF_FFFF_FFFF moment (omega arith) refl in
    let number : decimal_of (decimal backend) 0xFFFF ≡ Some backend = decimal_of_written (decimal backend) 0xFFFF backend (omega (arith, given.0)) refl in
    let place : decimal_of (decimal server) 0xFFFF ≡ Some server = decimal_of_written (decimal server) 0xFFFF server (omega (arith, given.1)) refl in
    rw (at, number, place, health_of-written health) refl

-- the first line that writes an event says which it is
pub head_of-line : (line : List ℕ) (moment : ℕ) (event : OwnedEvent) → moment < 2 ^ 64 → IsHandedIn event → line ≡ event_line moment event
    → head_of (words_of line) ≡ Some (head_written moment event)
head_of-line line moment event short given is =
    ap (λ l. head_of (words_of l)) is ∙ ap head_of (words_of-line moment event) ∙ head_of-words moment event short given

-- with the lines after it
all_of-lines : (moment : ℕ) (event : OwnedEvent) → IsHandedIn event → event_with (head_written moment event) (lines_after event) ≡ Some (moment, event)
all_of-lines moment (Reload text) given =
    let lines = text_lines text in
    let same : (length (map (λ line. 0x7C ∷ line) lines) == length lines) ≡ true = grind (arith, nat_tests, length-map lines (λ line. 0x7C ∷ line)) in
    rw (same, bar_lines-read text given.0, lines_joined text) refl
all_of-lines moment event given = refl

-- the lines that write an event hand it in
pub event_of-lines : (moment : ℕ) (event : OwnedEvent) → moment < 2 ^ 64 → IsHandedIn event → event_in_lines (event_lines moment event) ≡ Some (moment, event)
event_of-lines moment event short given =
    ap (λ head. head >>= λ h. event_with h (lines_after event)) (head_of-line (event_line moment event) moment event short given refl) ∙ all_of-lines moment event given

-- digits are not the word of a question
digits_differ : (text : List ℕ) → list_all is_ascii_digit text ≡ true → bytes_eq text (codes "ask") ≡ false
digits_differ [] all = refl
digits_differ (b ∷ text) all = by (is_ascii_digit b) refl
  where
    by : (t : Bool) → is_ascii_digit b ≡ t → bytes_eq (b ∷ text) (codes "ask") ≡ false
    by true is = let differs : eqb b 97 ≡ false = grind (arith, nat_tests) in rw differs refl
    by false is = let wrong = rw is at all in absurd cc

wanted_of-words : (moment : ℕ) (event : OwnedEvent) → moment < 2 ^ 64 → IsHandedIn event → wanted_of (event_words moment event) ≡ Some (Wanted.reply (head_written moment event))
wanted_of-words moment (Accept listener real) short given =
    rw (digits_differ (decimal moment) (are_digits_decimal moment).digits) (ap (option_map (λ head. Wanted.reply head)) (head_of-words moment (Accept listener real) short given))
wanted_of-words moment (Close id why) short given =
    rw (digits_differ (decimal moment) (are_digits_decimal moment).digits) (ap (option_map (λ head. Wanted.reply head)) (head_of-words moment (Close id why) short given))
wanted_of-words moment (Piece id bytes) short given =
    rw (digits_differ (decimal moment) (are_digits_decimal moment).digits) (ap (option_map (λ head. Wanted.reply head)) (head_of-words moment (Piece id bytes) short given))
wanted_of-words moment (Connected id) short given =
    rw (digits_differ (decimal moment) (are_digits_decimal moment).digits) (ap (option_map (λ head. Wanted.reply head)) (head_of-words moment (Connected id) short given))
wanted_of-words moment (ConnectFailed id) short given =
    rw (digits_differ (decimal moment) (are_digits_decimal moment).digits) (ap (option_map (λ head. Wanted.reply head)) (head_of-words moment (ConnectFailed id) short given))
wanted_of-words moment (Expire id) short given =
    rw (digits_differ (decimal moment) (are_digits_decimal moment).digits) (ap (option_map (λ head. Wanted.reply head)) (head_of-words moment (Expire id) short given))
wanted_of-words moment (Reload text) short given =
    rw (digits_differ (decimal moment) (are_digits_decimal moment).digits) (ap (option_map (λ head. Wanted.reply head)) (head_of-words moment (Reload text) short given))
wanted_of-words moment (Mark backend server health) short given =
    rw (digits_differ (decimal moment) (are_digits_decimal moment).digits) (ap (option_map (λ head. Wanted.reply head)) (head_of-words moment (Mark backend server health) short given))

-- and wants an answer to it
pub wanted_of-line : (line : List ℕ) (moment : ℕ) (event : OwnedEvent) → moment < 2 ^ 64 → IsHandedIn event → line ≡ event_line moment event
    → wanted_of (words_of line) ≡ Some (Wanted.reply (head_written moment event))
wanted_of-line line moment event short given is =
    ap (λ l. wanted_of (words_of l)) is ∙ ap wanted_of (words_of-line moment event) ∙ wanted_of-words moment event short given
