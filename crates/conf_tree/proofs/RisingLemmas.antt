-- The lines of a configuration's items rise: the item of line n is the n-th.
use Rattle.std.proofs.Common.{◌≡◌, get_or, ℕ, zero, suc, ◌+◌, ◌<◌, ◌≤◌, Bool, true, false, not, nat_lt, List, [], ◌∷◌, length, take, Some, Result, Ok, Err, refl, sym, ap, subst, ◌∙◌, if◌then◌else◌}
use Rattle.std.specs.Prelude.{slice_get}
use native.Mathlib.Omega.{arith}
use Rattle.std.specs.List.{list_all, list_any}
use Rattle.std.proofs.lemmas.Option.{slice_get_within, slice_get-get_or}
use Rattle.list_core.specs.Each.{◌>>=◌, each, IsRead}
use Rattle.list_core.proofs.EachLaws.{each_ok}
use Rattle.conf_text.specs.Parts.{parts, is_line_feed, without_return, words_in}
use Rattle.conf_text.specs.declared.line.Line.{Line}
use Rattle.conf_text.specs.declared.line.LineKind.{LineKind}
use Rattle.conf_text.specs.declared.line.LineKind.TheVariants.{TooLong, TooManyWords, TooManyLines, Quoting, NotAscii}
use Rattle.conf_text.specs.Lines as texts
use Rattle.conf_line.specs.declared.fault.ConfKind.{ConfKind}
use Rattle.conf_line.specs.declared.fault.ConfFault.{ConfFault}
use Rattle.conf_tree.specs.declared.tree.ConfigLine.{ConfigLine}
use Rattle.conf_line.specs.declared.statement.LineReading.{LineReading}
use Rattle.conf_line.specs.Statements.{line_reading}
use Rattle.conf_tree.specs.Config.{place_after, place_of, known_names, check_line, line_after, at_line, item_after, has_effect, with_effect, next_item, items_in}
use Rattle.conf_tree.specs.Rising.{AreAbove, Rises}

-- Numbers of lines.

code_number : (number : ℕ) (code : List ℕ) (line : Line) → texts.judged_code number code ≡ Ok line → line.number ≡ number
code_number number code line is = by (nat_lt 64 (length (words_in code))) (nat_lt 65535 number) (list_any texts.is_quoting code) (not (list_all texts.is_plain code)) is
  where
    by : (a b c d : Bool) → (if a then Err TooManyWords else if b then Err TooManyLines else if c then Err Quoting else if d then Err NotAscii else Ok (record { number = number; words = words_in code })) ≡ Ok line
        → line.number ≡ number
    by true b c d e = absurd cc
    by false true c d e = absurd cc
    by false false true d e = absurd cc
    by false false false true e = absurd cc
    by false false false false e = let same : record { number = number; words = words_in code } ≡ line = cc in ap (λ l. l.number) (sym same)

line_number : (number : ℕ) (text : List ℕ) (line : Line) → texts.judged_line number text ≡ Ok line → line.number ≡ number
line_number number text line is = by (nat_lt 2048 (length text)) is
  where
    by : (long : Bool) → (if long then Err TooLong else texts.judged_code number (texts.code_in text)) ≡ Ok line → line.number ≡ number
    by true e = absurd cc
    by false e = code_number number (texts.code_in text) line e

next_number : (before : List Line) (part : List ℕ) (line : Line) → texts.next_line before part ≡ Ok line → line.number ≡ length before + 1
next_number before part line is = by (texts.judged_line (length before + 1) (without_return part)) refl
  where
    by : (r : Result Line LineKind) → texts.judged_line (length before + 1) (without_return part) ≡ r → line.number ≡ length before + 1
    by (Err kind) r = let wrong : texts.at_line (length before + 1) (Err kind) ≡ Ok line = rw r at is in absurd cc
    by (Ok l) r =
        let same : texts.at_line (length before + 1) (Ok l) ≡ Ok line = rw r at is in
        let eq : l ≡ line = cc in
        line_number (length before + 1) (without_return part) line (r ∙ ap (λ x. Ok x) eq)

length_take : {X : Type 0} (n : ℕ) (xs : List X) → n < length xs → length (take n xs) ≡ n
length_take zero xs less = refl
length_take (suc n) [] less = absurd (omega arith)
length_take (suc n) (x ∷ xs) less = ap (λ m. suc m) (length_take n xs (omega arith))

-- the line of that index
numbered : (text : List (List ℕ)) (all : List Line) → IsRead texts.next_line text all → (i : ℕ) (line : Line) → slice_get all i ≡ Some line → line.number ≡ i + 1
numbered text all read i line there =
    let within : i < length all = slice_get_within all i line there in
    let inside : i < length text = subst (λ n. i < n) read.0 within in
    next_number (take i all) (get_or text i []) line (read.1 i (get_or text i []) line (slice_get-get_or text i [] inside) there)
    ∙ ap (λ n. n + 1) (length_take i all within)

-- Lines of items.

judged_at : (items : List ConfigLine) (line : Line) (item : ConfigLine) → line_after items line ≡ Ok item → item.line ≡ line.number
judged_at items line item is = by (line_reading (place_after items).kind (known_names items) line.words) is
  where
    then_allowed : (reading : LineReading) (r : Result (Unit {0}) ConfKind)
        → (r >>= λ u. Ok (record { line = line.number; place = place_of (place_after items) (length items) reading.statement; statement = reading.statement })) ≡ Ok item → item.line ≡ line.number
    then_allowed reading (Err kind) e = absurd cc
    then_allowed reading (Ok u) e =
        let same : record { line = line.number; place = place_of (place_after items) (length items) reading.statement; statement = reading.statement } ≡ item = cc in ap (λ i. i.line) (sym same)

    by : (r : Result LineReading ConfKind) → (r >>= λ reading. (check_line items (place_of (place_after items) (length items) reading.statement) reading >>= λ u.
        Ok (record { line = line.number; place = place_of (place_after items) (length items) reading.statement; statement = reading.statement }))) ≡ Ok item → item.line ≡ line.number
    by (Err kind) e = absurd cc
    by (Ok reading) e = then_allowed reading (check_line items (place_of (place_after items) (length items) reading.statement) reading) e

item_line : (items : List ConfigLine) (line : Line) (item : ConfigLine) → item_after items line ≡ Ok item → item.line ≡ line.number
item_line items line item is = by (line_after items line) refl
  where
    by : (r : Result ConfigLine ConfKind) → line_after items line ≡ r → item.line ≡ line.number
    by (Err kind) r = let wrong : at_line {X = ConfigLine} line.number (Err kind) ≡ Ok item = rw r at is in absurd cc
    by (Ok x) r =
        let same : at_line line.number (Ok x) ≡ Ok item = rw r at is in
        let eq : x ≡ item = cc in
        judged_at items line item (r ∙ ap (λ y. Ok y) eq)

-- the item of that index
item_number : (all : List Line) (items : List ConfigLine) → IsRead next_item all items → ((i : ℕ) (line : Line) → slice_get all i ≡ Some line → line.number ≡ i + 1)
    → (i : ℕ) (item : ConfigLine) → slice_get items i ≡ Some item → item.line ≡ 0 + (i + 1)
item_number [] items read numbers i item there = absurd (let within : i < length items = slice_get_within items i item there in let none : length items ≡ 0 = read.0 in (omega arith))
item_number (first ∷ all) items read numbers i item there =
    let within : i < length items = slice_get_within items i item there in
    let inside : i < length (first ∷ all) = subst (λ n. i < n) read.0 within in
    let line = get_or (first ∷ all) i first in
    let here : slice_get (first ∷ all) i ≡ Some line = slice_get-get_or (first ∷ all) i first inside in
    item_line (with_effect (take i items)) line item (read.1 i line item here there) ∙ numbers i line here ∙ (omega arith)

-- So they rise.

above : (n m : ℕ) (items : List ConfigLine) → ((i : ℕ) (item : ConfigLine) → slice_get items i ≡ Some item → item.line ≡ n + (i + 1)) → m ≤ n → AreAbove m items
above n m [] numbers less = tt
above n m (item ∷ rest) numbers less =
    let here : item.line ≡ n + 1 = numbers 0 item refl in
    (subst (λ l. m < l) (sym here) (omega arith), above (suc n) m rest (λ i x there. numbers (suc i) x there ∙ (omega arith)) (omega arith))

rising : (n : ℕ) (items : List ConfigLine) → ((i : ℕ) (item : ConfigLine) → slice_get items i ≡ Some item → item.line ≡ n + (i + 1)) → Rises items
rising n [] numbers = tt
rising n (item ∷ rest) numbers =
    let here : item.line ≡ n + 1 = numbers 0 item refl in
    let later : (i : ℕ) (x : ConfigLine) → slice_get rest i ≡ Some x → x.line ≡ suc n + (i + 1) = λ i x there. numbers (suc i) x there ∙ (omega arith) in
    (above (suc n) item.line rest later (omega arith), rising (suc n) rest later)

-- So do those of the lines that have an effect.

above_told : (m : ℕ) (items : List ConfigLine) → AreAbove m items → AreAbove m (with_effect items)
above_told m [] above = tt
above_told m (item ∷ rest) above = by (above_told m rest above.1) (has_effect item.statement)
  where
    by : AreAbove m (with_effect rest) → (b : Bool) → AreAbove m (if b then item ∷ with_effect rest else with_effect rest)
    by more true = (above.0, more)
    by more false = more

rises_told : (items : List ConfigLine) → Rises items → Rises (with_effect items)
rises_told [] rises = tt
rises_told (item ∷ rest) rises = by (rises_told rest rises.1) (has_effect item.statement)
  where
    by : Rises (with_effect rest) → (b : Bool) → Rises (if b then item ∷ with_effect rest else with_effect rest)
    by more true = (above_told item.line rest rises.0, more)
    by more false = more

pub rises_in : (text : List ℕ) (lines : List Line) (items : List ConfigLine) → texts.AreLines text lines → items_in lines ≡ Ok items → Rises items
rises_in text lines items are is = by (each next_item [] lines) refl is
  where
    by : (r : Result (List ConfigLine) ConfFault) → each next_item [] lines ≡ r → (r >>= λ all. Ok (with_effect all)) ≡ Ok items → Rises items
    by (Err fault) reads is = absurd cc
    by (Ok all) reads is =
        let same : with_effect all ≡ items = cc in
        let more = each_ok next_item [] lines all reads in
        let P : List ConfigLine → Type 0 = λ ys. IsRead next_item lines ys in
        let rises : Rises all = rising 0 all (item_number lines all (subst P (sym more.1) more.2) (numbered (parts is_line_feed text) lines are.1)) in
        subst (λ ys. Rises ys) same (rises_told all rises)
