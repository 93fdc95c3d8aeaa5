-- The lines of an event under a number.
use Rattle.std.proofs.Common.{◌≡◌, ℕ, Bool, true, false, List, [], ◌∷◌, ◌++◌, length, Option, Some, None, refl, ap, sym, ◌∙◌, arith}
use Rattle.std.specs.Prelude.{◌==◌}
use Rattle.std.specs.List.{join_with_byte}
use Rattle.std.proofs.lemmas.Bool.Decides.{nat_tests}
use Rattle.conn_model.specs.declared.event.OwnedEvent.{OwnedEvent}
use Rattle.conn_model.specs.declared.event.OwnedEvent.TheVariants.{Reload}
use Rattle.event_text.specs.Script.{◌>>=◌, bar_text, bar_texts, event_with, words_of, EventHead}
use Rattle.audit_core.specs.Record.{numbered_event, numbered_head}

-- the texts of lines and of one more
pub texts_cons : (line : List ℕ) (lines : List (List ℕ)) (text : List ℕ) (texts : List (List ℕ)) → bar_text line ≡ Some text → bar_texts lines ≡ Some texts
    → bar_texts (line ∷ lines) ≡ Some (text ∷ texts)
texts_cons line lines text texts first rest = rw (first, rest) refl

pub texts_parts : (line : List ℕ) (lines texts : List (List ℕ)) → bar_texts (line ∷ lines) ≡ Some texts
    → (text : List ℕ) × (more : List (List ℕ)) × (bar_text line ≡ Some text) × (bar_texts lines ≡ Some more) × (texts ≡ text ∷ more)
texts_parts line lines texts is = by (bar_text line) refl (bar_texts lines) refl
  where
    by : (a : Option (List ℕ)) → bar_text line ≡ a → (b : Option (List (List ℕ))) → bar_texts lines ≡ b
        → (text : List ℕ) × (more : List (List ℕ)) × (bar_text line ≡ Some text) × (bar_texts lines ≡ Some more) × (texts ≡ text ∷ more)
    by None first b rest = let wrong = rw first at is in absurd (cc)
    by (Some text) first None rest = let wrong = rw (first, rest) at is in absurd (cc)
    by (Some text) first (Some more) rest =
        let it = rw (first, rest) at is in
        let same : text ∷ more ≡ texts = cc in
        (text, more, first, rest, sym same)

pub texts_push : (lines : List (List ℕ)) (line : List ℕ) (texts : List (List ℕ)) (text : List ℕ) → bar_texts lines ≡ Some texts → bar_text line ≡ Some text
    → bar_texts (lines ++ line ∷ []) ≡ Some (texts ++ text ∷ [])
texts_push [] line texts text is last =
    let none : [] ≡ texts = cc in
    texts_cons line [] text [] last refl ∙ ap (λ ts. Some (ts ++ text ∷ [])) none
texts_push (first ∷ lines) line texts text is last =
    let them = texts_parts first lines texts is in
    texts_cons first (lines ++ line ∷ []) them.0 (them.1 ++ text ∷ []) them.2 (texts_push lines line them.1 text them.3 last)
    ∙ ap (λ ts. Some (ts ++ text ∷ [])) (sym them.4)

pub texts_count : (lines texts : List (List ℕ)) → bar_texts lines ≡ Some texts → length lines ≡ length texts
texts_count [] texts is = let none : [] ≡ texts = cc in ap length none
texts_count (line ∷ lines) texts is =
    let them = texts_parts line lines texts is in
    let rest = texts_count lines them.1 them.3 in
    omega (arith, rest) ∙ ap length (sym them.4)

same_count : (n m : ℕ) → n ≡ m → (n == m) ≡ true
same_count n m is = grind (arith, nat_tests)

-- all lines of a reload
pub whole_text : (number moment count : ℕ) (first : List ℕ) (bars texts : List (List ℕ)) → numbered_head number (words_of first) ≡ Some (EventHead.reload moment count) → bar_texts bars ≡ Some texts
    → length bars ≡ count → numbered_event number (first ∷ bars) ≡ Some (moment, Reload (join_with_byte 0x0A texts))
whole_text number moment count first bars texts head are counted =
    ap (λ o. o >>= λ head. event_with head bars) head ∙ rw (same_count (length bars) count counted, are) refl

-- one that has no text
pub whole_line : (number : ℕ) (line : List ℕ) (timed : ℕ × OwnedEvent) → numbered_head number (words_of line) ≡ Some (EventHead.whole timed) → numbered_event number (line ∷ []) ≡ Some timed
whole_line number line timed head = ap (λ o. o >>= λ head. event_with head []) head

-- the lines of an event: one, or the first one of a reload and all those of its text
pub data IsWritten (number : ℕ) (timed : ℕ × OwnedEvent) (event : List (List ℕ)) : Type 0 where
  alone : (line : List ℕ) → numbered_head number (words_of line) ≡ Some (EventHead.whole timed) → event ≡ line ∷ [] → IsWritten number timed event
  with_text : (line : List ℕ) (bars texts : List (List ℕ)) (moment : ℕ) → numbered_head number (words_of line) ≡ Some (EventHead.reload moment (length bars)) → bar_texts bars ≡ Some texts
      → timed ≡ (moment, Reload (join_with_byte 0x0A texts)) → event ≡ line ∷ bars → IsWritten number timed event

counted : (n m : ℕ) → (n == m) ≡ true → n ≡ m
counted n m is = grind (arith, nat_tests)

abbrev some_head : EventHead → Option EventHead
some_head head = Some head

pub is_written : (number : ℕ) (timed : ℕ × OwnedEvent) (event : List (List ℕ)) → numbered_event number event ≡ Some timed → IsWritten number timed event
is_written number timed [] is = absurd (cc)
is_written number timed (line ∷ bars) is = by (numbered_head number (words_of line)) refl
  where
    text : (moment count : ℕ) → numbered_head number (words_of line) ≡ some_head (EventHead.reload moment count) → (b : Bool) → (length bars == count) ≡ b → (o : Option (List (List ℕ))) → bar_texts bars ≡ o
        → event_with (EventHead.reload moment count) bars ≡ Some timed → IsWritten number timed (line ∷ bars)
    text moment count head false differs o are with_bars = let wrong = rw differs at with_bars in absurd (cc)
    text moment count head true same None are with_bars = let wrong = rw (same, are) at with_bars in absurd (cc)
    text moment count head true same (Some texts) are with_bars =
        let it = rw (same, are) at with_bars in
        let is_timed : (moment, Reload (join_with_byte 0x0A texts)) ≡ timed = cc in
        IsWritten.with_text line bars texts moment (head ∙ ap (λ n. some_head (EventHead.reload moment n)) (sym (counted (length bars) count same))) are (sym is_timed) refl

    by_head : (head : EventHead) → numbered_head number (words_of line) ≡ some_head head → (lines : List (List ℕ)) → lines ≡ bars → event_with head lines ≡ Some timed → IsWritten number timed (line ∷ bars)
    by_head (EventHead.whole other) head [] all with_bars =
        let same : other ≡ timed = cc in
        IsWritten.alone line (head ∙ ap (λ t. some_head (EventHead.whole t)) same) (ap (λ ls. line ∷ ls) (sym all))
    by_head (EventHead.whole other) head (bar ∷ more) all with_bars = absurd (cc)
    by_head (EventHead.reload moment count) head lines all with_bars =
        text moment count head (length bars == count) refl (bar_texts bars) refl (rw all at with_bars)

    by : (o : Option EventHead) → numbered_head number (words_of line) ≡ o → IsWritten number timed (line ∷ bars)
    by None head = let wrong = rw head at is in absurd (cc)
    by (Some head) found = by_head head found bars refl (rw found at is)
