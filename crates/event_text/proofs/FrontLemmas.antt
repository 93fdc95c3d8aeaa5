-- What lines begin with.
use Rattle.std.proofs.Common.{◌≡◌, ℕ, suc, ◌+◌, ◌-◌, ◌*◌, ◌^◌, ◌<◌, ◌≤◌, Bool, true, false, List, [], ◌∷◌, ◌++◌, Option, Some, None, length, take, drop, get_or, refl, ◌∙◌, sym, ap, arith, append_assoc}
use Rattle.std.specs.Prelude.{◌↔◌, ◌≢◌, codes, option_map, IsTrue}
use Rattle.std.specs.List.{join_with_byte, list_all}
use Rattle.std.specs.Str.{bytes_eq}
use Rattle.std.proofs.lemmas.Bool.Decides.{same_from_decides}
use Rattle.std.proofs.lemmas.Slice.Eq.{bytes_eq-Decides}
use Rattle.std.specs.Char.{is_ascii_digit}
use Rattle.std.proofs.Math.Nat.{pow-le-pow_right}
use Rattle.std.proofs.Math.Seq.{drop-cons}
use Rattle.std.proofs.lemmas.List.{take-append-drop, take_all, take_rest, length-take}
use Rattle.text_core.specs.Decimal.{decimal, decimal_of, has_leading_zero, value_of}
use Rattle.text_core.proofs.DecimalLemmas.{decimal-value_of, decimal_of_written}
use Rattle.text_core.proofs.CutLemmas.{split_first}
use Rattle.std.proofs.lemmas.List.Splits.{join_with_byte-slice_split, slice_split_at, slice_split_none}
use Rattle.addr_core.specs.PairValue.{PairValue}
use Rattle.addr_core.specs.Family.{same_family}
use Rattle.addr_core.specs.Text.{endpoint_text, IsEndpoint}
use Rattle.conn_model.specs.declared.event.ConnId.{ConnId}
use Rattle.conn_model.specs.declared.event.OwnedEvent.{OwnedEvent}
use Rattle.conn_model.specs.declared.event.OwnedEvent.TheVariants.{Accept}
use Rattle.conn_model.specs.HandedIn.{IsId}
use Rattle.event_text.specs.Script.{accept_of, bare_event_of, close_of, event_by_verb, head_by_verb, EventHead, event_on, id_of, id_text, is_mark, piece_of, words_of, ◌>>=◌}
use Rattle.event_text.specs.Fronts.{ends_in, event_after, head_after, id_alone, id_first, number_first}
use Rattle.event_text.proofs.EventLemmas.{ends_of-written, id_of-written}
use Rattle.event_text.proofs.LongLemmas.{close_long, piece_long}
use Rattle.event_text.proofs.LackLemmas.{decimal_lacks, endpoint_lacks, id_lacks, IsAside}

-- digits before a mark are the number
pub number_found : (text : List ℕ) (at number mark : ℕ) → at < length text → 0 < at → get_or text at 0 ≡ mark
    → list_all is_ascii_digit (take at text) ≡ true → has_leading_zero (take at text) ≡ false → number ≡ value_of (take at text)
    → text ≡ decimal number ++ mark ∷ take (length text - (at + 1)) (drop (at + 1) text)
number_found text at number mark within some found digits plain is =
    let front : decimal (value_of (take at text)) ≡ take at text = decimal-value_of (take at text) (omega (arith, length-take at text)) digits plain in
    let next : suc at ≡ at + 1 = omega arith in
    sym (take-append-drop at text)
    ∙ ap (λ xs. take at text ++ xs) (drop-cons text at 0 within ∙ ap (λ k. get_or text at 0 ∷ drop k text) next)
    ∙ ap (λ b. take at text ++ b ∷ drop (at + 1) text) found
    ∙ ap (λ xs. xs ++ mark ∷ drop (at + 1) text) (sym front ∙ ap (λ n. decimal n) (sym is))
    ∙ ap (λ xs. decimal number ++ mark ∷ xs) (sym (take_rest text (at + 1)))

-- a digit after at most 18 others
pub one_digit_fits : (at number digit : ℕ) → at ≤ 18 → number < 10 ^ at → digit ≤ 9 → number * 10 + digit < 2 ^ 64
one_digit_fits at number digit few small one =
    let power : 10 ^ at ≤ 10 ^ 18 = pow-le-pow_right (omega arith) few in
    omega (arith, power)

-- a word that begins with a text of its length is that text
pub same_word : (r : Bool) (word text : List ℕ) → length word ≡ length text → IsTrue r ↔ take (length text) word ≡ text → r ≡ bytes_eq word text
same_word r word text long is =
    let all : take (length text) word ≡ word = take_all (length text) word (omega (arith, long)) in
    same_from_decides r (bytes_eq word text) (λ yes. sym all ∙ is.0 yes, λ same. is.1 (all ∙ same)) (bytes_eq-Decides word text)

-- ---- the first of some words

space : IsAside 0x20
space = record { some = omega arith; low = omega arith }

more_numbers : (most : ℕ) (word rest : List ℕ) → number_first most (word ∷ words_of rest) ≡ option_map (λ number. (number, words_of rest)) (decimal_of word most)
more_numbers most word rest = let parts = split_first (is_mark 0x20) rest in rw parts.2 refl

more_ids : (word rest : List ℕ) → id_first (word ∷ words_of rest) ≡ option_map (λ id. (id, words_of rest)) (id_of word)
more_ids word rest = let parts = split_first (is_mark 0x20) rest in rw parts.2 refl

-- a number and a space
pub number_found_first : (most number : ℕ) (text rest : List ℕ) → number ≤ most → text ≡ decimal number ++ 0x20 ∷ rest
    → Some (number, words_of rest) ≡ number_first most (words_of text)
number_found_first most number text rest small is = sym (
    ap (λ t. number_first most (words_of t)) is
    ∙ ap (number_first most) (slice_split_at (is_mark 0x20) (decimal number) 0x20 rest (decimal_lacks 0x20 number (omega arith)) refl)
    ∙ more_numbers most (decimal number) rest
    ∙ ap (option_map (λ n. (n, words_of rest))) (decimal_of_written (decimal number) most number small refl)
    )

-- a word and a space
pub number_cut_first : (most : ℕ) (text word rest : List ℕ) (read : Option ℕ) → words_of text ≡ word ∷ words_of rest → read ≡ decimal_of word most
    → option_map (λ number. (number, words_of rest)) read ≡ number_first most (words_of text)
number_cut_first most text word rest read cut is =
    sym (ap (number_first most) cut ∙ more_numbers most word rest ∙ ap (option_map (λ n. (n, words_of rest))) (sym is))

pub id_found_first : (id : ConnId) (text rest : List ℕ) → IsId id → text ≡ id_text id ++ 0x20 ∷ rest → Some (id, words_of rest) ≡ id_first (words_of text)
id_found_first id text rest fits is = sym (
    ap (λ t. id_first (words_of t)) is
    ∙ ap id_first (slice_split_at (is_mark 0x20) (id_text id) 0x20 rest (id_lacks 0x20 space id) refl)
    ∙ more_ids (id_text id) rest
    ∙ ap (option_map (λ i. (i, words_of rest))) (id_of-written id fits.0 fits.1)
    )

pub id_cut_first : (text word rest : List ℕ) (read : Option ConnId) → words_of text ≡ word ∷ words_of rest → read ≡ id_of word
    → option_map (λ id. (id, words_of rest)) read ≡ id_first (words_of text)
id_cut_first text word rest read cut is = sym (ap id_first cut ∙ more_ids word rest ∙ ap (option_map (λ i. (i, words_of rest))) (sym is))

-- the name of a connection alone
pub id_found_alone : (id : ConnId) (text : List ℕ) → IsId id → text ≡ id_text id → Some id ≡ id_alone (words_of text)
id_found_alone id text fits is = sym (
    ap (λ t. id_alone (words_of t)) is
    ∙ ap id_alone (slice_split_none (is_mark 0x20) (id_text id) (id_lacks 0x20 space id))
    ∙ id_of-written id fits.0 fits.1
    )

pub id_alone_long : (text word rest : List ℕ) → words_of text ≡ word ∷ words_of rest → None ≡ id_alone (words_of text)
id_alone_long text word rest cut = let parts = split_first (is_mark 0x20) rest in rw (cut, parts.2) refl

-- two endpoints alone
pub ends_found : (real : PairValue) (text : List ℕ) → IsEndpoint real.source → IsEndpoint real.destination → same_family real.source.addr real.destination.addr ≡ true
    → text ≡ endpoint_text real.source ++ 0x20 ∷ endpoint_text real.destination → Some real ≡ ends_in (words_of text)
ends_found real text first second same is = sym (
    ap (λ t. ends_in (words_of t)) is
    ∙ ap ends_in (slice_split_at (is_mark 0x20) (endpoint_text real.source) 0x20 (endpoint_text real.destination) (endpoint_lacks 0x20 space real.source) refl)
    ∙ ap (λ ws. ends_in (endpoint_text real.source ∷ ws)) (slice_split_none (is_mark 0x20) (endpoint_text real.destination) (endpoint_lacks 0x20 space real.destination))
    ∙ ends_of-written real first second same
    )

pub ends_long : (a b text : List ℕ) → None ≡ ends_in (a ∷ b ∷ words_of text)
ends_long a b text = let parts = split_first (is_mark 0x20) text in rw parts.2 refl

-- ---- what follows the first word

same_pair : {A B : Type 0} (p q : A × B) → ◌≡◌ {A = Option (A × B)} (Some p) (Some q) → (p.0 ≡ q.0) × (p.1 ≡ q.1)
same_pair p q is = let same : p ≡ q = cc in (ap (λ x. x.0) same, ap (λ x. x.1) same)

pub accept_some : (words rest : List (List ℕ)) (number : ℕ) (read : Option PairValue) → Some (number, rest) ≡ number_first 0xFFFF words → read ≡ ends_in rest
    → option_map (λ real. Accept number real) read ≡ accept_of words
accept_some [] rest number read is ends = absurd cc
accept_some (a ∷ []) rest number read is ends = absurd cc
accept_some (a ∷ b ∷ words) rest number read is ends = by (decimal_of a 0xFFFF) refl
  where
    all : (more : List (List ℕ)) → decimal_of a 0xFFFF ≡ Some number → read ≡ ends_in (b ∷ more) → option_map (λ real. Accept number real) read ≡ accept_of (a ∷ b ∷ more)
    all [] first two = rw two refl
    all (c ∷ []) first two = rw (first, sym two) (each read)
      where
        each : (r : Option PairValue) → option_map (λ real. Accept number real) r ≡ (r >>= λ real. Some (Accept number real))
        each None = refl
        each (Some real) = refl
    all (c ∷ d ∷ more) first two = rw two refl

    by : (r : Option ℕ) → decimal_of a 0xFFFF ≡ r → option_map (λ real. Accept number real) read ≡ accept_of (a ∷ b ∷ words)
    by None first = let wrong : Some (number, rest) ≡ None = rw first at is in absurd cc
    by (Some n) first =
        let same = same_pair (number, rest) (n, b ∷ words) (rw first at is) in
        all words (first ∙ ap (λ m. Some m) (sym same.0)) (ends ∙ ap ends_in same.1)

-- the words whose first one names a connection
id_first_is : (words rest : List (List ℕ)) (id : ConnId) → Some (id, rest) ≡ id_first words → (word : List ℕ) × (words ≡ word ∷ rest) × (id_of word ≡ Some id)
id_first_is [] rest id is = absurd cc
id_first_is (a ∷ []) rest id is = absurd cc
id_first_is (a ∷ b ∷ words) rest id is = by (id_of a) refl
  where
    by : (r : Option ConnId) → id_of a ≡ r → (word : List ℕ) × (a ∷ b ∷ words ≡ word ∷ rest) × (id_of word ≡ Some id)
    by None first = let wrong : Some (id, rest) ≡ None = rw first at is in absurd cc
    by (Some i) first =
        let same = same_pair (id, rest) (i, b ∷ words) (rw first at is) in
        (a, ap (λ ws. a ∷ ws) (sym same.1), first ∙ ap (λ m. Some m) (sym same.0))

pub close_more : (words rest : List (List ℕ)) (id : ConnId) (a text : List ℕ) → Some (id, rest) ≡ id_first words → rest ≡ a ∷ words_of text → None ≡ close_of words
close_more words rest id a text is more =
    let first = id_first_is words rest id is in
    sym (ap (λ ws. close_of ws) (first.1 ∙ ap (λ ws. first.0 ∷ ws) more) ∙ close_long first.0 a text)

pub piece_more : (words rest : List (List ℕ)) (id : ConnId) (a text : List ℕ) → Some (id, rest) ≡ id_first words → rest ≡ a ∷ words_of text → None ≡ piece_of words
piece_more words rest id a text is more =
    let first = id_first_is words rest id is in
    sym (ap (λ ws. piece_of ws) (first.1 ∙ ap (λ ws. first.0 ∷ ws) more) ∙ piece_long first.0 a text)

pub bare_some : (verb : List ℕ) (words : List (List ℕ)) (id : ConnId) → Some id ≡ id_alone words → event_on verb id ≡ bare_event_of verb words
bare_some verb [] id is = absurd cc
bare_some verb (a ∷ []) id is = rw (sym is) refl
bare_some verb (a ∷ b ∷ words) id is = absurd cc

-- ---- verbs

pub accept_verb : (text rest : List ℕ) → text ≡ codes "accept " ++ rest → accept_of (words_of rest) ≡ event_after (words_of text)
accept_verb text rest is = sym (ap (λ t. event_after (words_of t)) is)

pub piece_verb : (text rest : List ℕ) → text ≡ codes "piece " ++ rest → piece_of (words_of rest) ≡ event_after (words_of text)
piece_verb text rest is = sym (ap (λ t. event_after (words_of t)) is)

pub connected_verb : (text rest : List ℕ) → text ≡ codes "connected " ++ rest → bare_event_of (codes "connected") (words_of rest) ≡ event_after (words_of text)
connected_verb text rest is = sym (ap (λ t. event_after (words_of t)) is)

pub close_verb : (text rest : List ℕ) → text ≡ codes "close " ++ rest → close_of (words_of rest) ≡ event_after (words_of text)
close_verb text rest is = sym (ap (λ t. event_after (words_of t)) is)

-- a text that does not begin with a verb and a space has another first word
pub other_verb : (text verb rest word : List ℕ) → words_of text ≡ verb ∷ words_of rest → take (length (word ++ 0x20 ∷ [])) text ≢ word ++ 0x20 ∷ [] → bytes_eq verb word ≡ false
other_verb text verb rest word cut begins = by (bytes_eq verb word) refl
  where
    take_front : (xs ys : List ℕ) → take (length xs) (xs ++ ys) ≡ xs
    take_front [] ys = refl
    take_front (x ∷ xs) ys = ap (λ zs. x ∷ zs) (take_front xs ys)

    by : (b : Bool) → bytes_eq verb word ≡ b → bytes_eq verb word ≡ false
    by false is = is
    by true is =
        let same : verb ≡ word = (bytes_eq-Decides verb word).0 is in
        let parts = split_first (is_mark 0x20) rest in
        let more : List ℕ = join_with_byte 0x20 (parts.0 ∷ parts.1) in
        let whole : text ≡ word ++ 0x20 ∷ more =
        sym (join_with_byte-slice_split 0x20 text) ∙ ap (λ words. join_with_byte 0x20 words) (cut ∙ ap (λ v. v ∷ words_of rest) same ∙ ap (λ words. word ∷ words) parts.2) in
        absurd (begins (ap (λ t. take (length (word ++ 0x20 ∷ [])) t) (whole ∙ sym (append_assoc word (0x20 ∷ []) more)) ∙ take_front (word ++ 0x20 ∷ []) more))

no_event : (verb : List ℕ) (words : List (List ℕ)) → event_by_verb (114 ∷ verb) words ≡ None
no_event verb [] = refl
no_event verb (name ∷ []) = by (id_of name) refl
  where
    by : (r : Option ConnId) → id_of name ≡ r → event_by_verb (114 ∷ verb) (name ∷ []) ≡ None
    by None read = rw read refl
    by (Some id) read = rw read refl
no_event verb (name ∷ next ∷ words) = refl

-- one that does is no event's, and a reload's by its whole verb alone
pub not_event : (moment : ℕ) (text verb : List ℕ) (words : List (List ℕ)) → get_or text 0 0 ≡ 114 → words_of text ≡ verb ∷ words → bytes_eq verb (codes "reload") ≡ false
    → None ≡ head_after moment (words_of text)
not_event moment [] verb words first cut other = absurd (omega (arith, first))
not_event moment (b ∷ text) verb words first cut other =
    let parts = split_first (is_mark 0x20) text in
    let whole : words_of (b ∷ text) ≡ (114 ∷ parts.0) ∷ parts.1 = rw (first, parts.2) refl in
    let same = sym cut ∙ whole in
    let begins : verb ≡ 114 ∷ parts.0 = cc in
    rw whole (rw (ap (λ v. bytes_eq v (codes "reload")) (sym begins) ∙ other, no_event parts.0 parts.1) refl)

-- the words of an event are not those of a reload
pub whole_event : (moment : ℕ) (words : List (List ℕ)) (event : OwnedEvent) → Some event ≡ event_after words → Some (EventHead.whole (moment, event)) ≡ head_after moment words
whole_event moment [] event is = absurd (let wrong : Some event ≡ None = is in cc)
whole_event moment (verb ∷ words) event is = by (bytes_eq verb (codes "reload")) refl
  where
    by : (b : Bool) → bytes_eq verb (codes "reload") ≡ b → Some (EventHead.whole (moment, event)) ≡ head_by_verb moment verb words
    by false other = rw (other, sym is) refl
    by true same =
        let verb_is : verb ≡ codes "reload" = (bytes_eq-Decides verb (codes "reload")).0 same in
        absurd (let wrong : Some event ≡ None = is ∙ ap (λ v. event_by_verb v words) verb_is ∙ no_event (codes "eload") words in cc)
