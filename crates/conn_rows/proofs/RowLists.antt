-- A list of rows, each under its serial.
use Rattle.std.proofs.Common.{◌≡◌, ℕ, ◌+◌, ◌<◌, List, [], ◌∷◌, ◌++◌, length, Some, Result, Ok, Err, refl, sym, ap, ◌∙◌, subst}
use Rattle.std.specs.Prelude.{filter, find, not, OnErr, OnOk}
use Rattle.std.specs.List.{AllByRecursion}
use Rattle.std.proofs.lemmas.List.{length-map}
use Rattle.keyed_list.specs.Entries as keyed
use Rattle.keyed_list.specs.Entries.{item_at, items_of, with_item, without, AreKept, AreNumbered, IsFew}
use Rattle.keyed_list.proofs.EntryLemmas.{all-append, all-filter, all-front, kept-front, kept-with_item, kept-without}
use Rattle.keyed_list.proofs.ItemLemmas.{item_at-is, number-found, numbered-with_item, total-taken, with_item-is, without-is}
use Rattle.conn_model.specs.Counts.{total}
use Rattle.conn_rows.specs.declared.row.StoredRow.{StoredRow}
use Rattle.conn_rows.specs.Listed.{AreListed}
use Rattle.conn_rows.specs.Stored.{has_serial, with_stored}

-- What is seen of the entries.

pub found : (serial : ℕ) (es : List (ℕ × StoredRow)) → AreListed es → item_at serial es ≡ find (has_serial serial) (items_of es)
found serial es known = item_at-is (λ row. row.serial) serial es known.numbered

pub left : (serial : ℕ) (es : List (ℕ × StoredRow)) → AreListed es → items_of (without serial es) ≡ filter (λ row. not (has_serial serial row)) (items_of es)
left serial es known = without-is (λ row. row.serial) serial es known.numbered

pub changed : (serial : ℕ) (row : StoredRow) (change : StoredRow → StoredRow) (es : List (ℕ × StoredRow)) → AreListed es → item_at serial es ≡ Some row → items_of (with_item serial es (change row)) ≡ with_stored serial change (items_of es)
changed serial row change es known there = with_item-is (λ row. row.serial) serial row change es known.numbered known.kept.rise there

pub few-items : (es : List (ℕ × StoredRow)) → AreListed es → IsFew (length (items_of es))
few-items es known = subst IsFew (sym (length-map es (λ e. e.1))) known.kept.few

total-same : (worth : StoredRow → ℕ) (rows : List StoredRow) → keyed.total worth rows ≡ total worth rows
total-same worth [] = refl
total-same worth (row ∷ rows) = ap (λ n. worth row + n) (total-same worth rows)

pub counted : (es new' : List (ℕ × StoredRow)) (serial : ℕ) (row : StoredRow) → ((worth : ℕ × StoredRow → ℕ) → keyed.total worth new' + worth (serial, row) ≡ keyed.total worth es) →
    (worth : StoredRow → ℕ) → total worth (items_of new') + worth row ≡ total worth (items_of es)
counted es new' serial row counts worth =
    ap (λ n. n + worth row) (sym (total-same worth (items_of new'))) ∙ total-taken es new' serial row counts worth ∙ total-same worth (items_of es)

-- a serial above those of all rows is above all keys
pub below-keys : (serial : ℕ) (es : List (ℕ × StoredRow)) → AreNumbered (λ row. row.serial) es → AllByRecursion (λ row. row.serial < serial) (items_of es) → AllByRecursion (λ e. e.0 < serial) es
below-keys serial [] own below = tt
below-keys serial (e ∷ es) own below = (subst (λ n. n < serial) (sym own.0) below.0, below-keys serial es own.1 below.1)

-- What is always true of the entries stays so.

pub listed-with : (serial : ℕ) (row next : StoredRow) (es new' : List (ℕ × StoredRow)) → new' ≡ with_item serial es next → item_at serial es ≡ Some row → next.serial ≡ row.serial → AreListed es → AreListed new'
listed-with serial row next es new' is there same known = record {
  numbered = subst (λ es. AreNumbered (λ row. row.serial) es) (sym is) (numbered-with_item (λ row. row.serial) serial next es (same ∙ number-found (λ row. row.serial) serial row es known.numbered there) known.numbered);
  kept = kept-with_item serial next es new' is known.kept;
}

pub listed-without : (serial : ℕ) (es new' : List (ℕ × StoredRow)) → new' ≡ without serial es → AreListed es → AreListed new'
listed-without serial es new' is known = record {
  numbered = subst (λ es. AreNumbered (λ row. row.serial) es) (sym is) (all-filter (λ e. e.0 ≡ e.1.serial) (λ e. not (keyed.has_key serial e)) es known.numbered);
  kept = kept-without serial es new' is known.kept;
}

pub listed-front : (es new' : List (ℕ × StoredRow)) (e : ℕ × StoredRow) → es ≡ new' ++ e ∷ [] → AreListed es → AreListed new'
listed-front es new' e is known = record {
  numbered = all-front (λ e. e.0 ≡ e.1.serial) new' (e ∷ []) (subst (λ es. AreNumbered (λ row. row.serial) es) is known.numbered);
  kept = kept-front es new' e is known.kept;
}

-- one more, if it was added
pub listed-push : {X E : Type 0} (result : Result X E) (row : StoredRow) (es new' : List (ℕ × StoredRow)) → OnOk result (new' ≡ es ++ (row.serial, row) ∷ []) → OnErr result (new' ≡ es) →
    keyed.Rise (λ e. e.0) new' → IsFew (length new') → AreListed es → AreListed new'
listed-push (Ok x) row es new' ok err rise few known = record {
  numbered = subst (λ es. AreNumbered (λ row. row.serial) es) (sym ok) (all-append (λ e. e.0 ≡ e.1.serial) es ((row.serial, row) ∷ []) known.numbered (refl, tt));
  kept = record { rise = rise; few = few };
}
listed-push (Err e) row es new' ok err rise few known = subst (λ es. AreListed es) (sym err) known
