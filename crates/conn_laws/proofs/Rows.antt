-- The open connections of a frontend after one entry.
use Rattle.std.proofs.Common.{◌≡◌, ◌⊎◌, inl, inr, ℕ, Bool, true, false, List, [], ◌∷◌, ◌++◌, Option, Some, None, refl, ap, sym, ◌∙◌}
use Rattle.std.specs.Prelude.{◌==◌, not, map, filter, find, slice_get, option_map}
use Rattle.std.proofs.lemmas.Bool.{eqb-true}
use Rattle.conn_model.specs.declared.event.ConnId.{ConnId}
use Rattle.conn_model.specs.declared.plain.FrontendRows.{FrontendRows}
use Rattle.conn_model.specs.declared.plain.Plain.{Plain}
use Rattle.conn_model.specs.declared.plain.Row.{Row}
use Rattle.conn_model.specs.Answer.{row_at, row_in}
use Rattle.conn_model.specs.History.{Entry, after, arrivals, frontend_after, has_ended, row_after}
use Rattle.conn_model.specs.Words.{map_from}
use Rattle.conn_model.proofs.Lists.{get-from_zero}
use Rattle.conn_laws.proofs.Present.{at_numbered}

-- ---- rows by their serials

abbrev pub found : ℕ → List Row → Option Row
found serial rows = find (λ row. row.serial == serial) rows

pub contrary : (b : Bool) (A : Type 0) → b ≡ true → b ≡ false → A
contrary b A is not_is = absurd (let wrong : true ≡ false = sym is ∙ not_is in cc)

pub found_mapped : (serial : ℕ) (change : Row → Row) → ((row : Row) → (change row).serial ≡ row.serial) → (rows : List Row) → found serial (map change rows) ≡ option_map change (found serial rows)
found_mapped serial change keeps [] = refl
found_mapped serial change keeps (row ∷ rows) = by (row.serial == serial) refl (found_mapped serial change keeps rows)
  where
    by : (b : Bool) → (row.serial == serial) ≡ b → found serial (map change rows) ≡ option_map change (found serial rows) → found serial (map change (row ∷ rows)) ≡ option_map change (found serial (row ∷ rows))
    by true is rest = let here : ((change row).serial == serial) ≡ true = ap (λ n. n == serial) (keeps row) ∙ is in rw (here, is) refl
    by false is rest = let there : ((change row).serial == serial) ≡ false = ap (λ n. n == serial) (keeps row) ∙ is in rw (there, is) rest

pub found_serial : (serial : ℕ) (rows : List Row) (row : Row) → found serial rows ≡ Some row → row.serial ≡ serial
found_serial serial [] row is = absurd (let wrong : None ≡ Some row = is in cc)
found_serial serial (other ∷ rows) row is = by (other.serial == serial) refl is (found_serial serial rows row)
  where
    by : (b : Bool) → (other.serial == serial) ≡ b → found serial (other ∷ rows) ≡ Some row → (found serial rows ≡ Some row → row.serial ≡ serial) → row.serial ≡ serial
    by true here there later = let same : Some other ≡ Some row = rw here at there in let one : other ≡ row = cc in ap (λ (r : Row). r.serial) (sym one) ∙ eqb-true other.serial serial here
    by false here there later = later (rw here at there)

pub found_filtered : (serial : ℕ) (test : ℕ → Bool) (rows : List Row) (row : Row) → found serial (filter (λ r. test r.serial) rows) ≡ Some row → (test serial ≡ true) × (found serial rows ≡ Some row)
found_filtered serial test [] row is = absurd (let wrong : None ≡ Some row = is in cc)
found_filtered serial test (other ∷ rows) row is = by (test other.serial) refl (other.serial == serial) refl is (found_filtered serial test rows row)
  where
    by : (a : Bool) → test other.serial ≡ a → (b : Bool) → (other.serial == serial) ≡ b → found serial (filter (λ r. test r.serial) (other ∷ rows)) ≡ Some row →
        (found serial (filter (λ r. test r.serial) rows) ≡ Some row → (test serial ≡ true) × (found serial rows ≡ Some row)) → (test serial ≡ true) × (found serial (other ∷ rows) ≡ Some row)
    by true keeps true here there later = (ap test (sym (eqb-true other.serial serial here)) ∙ keeps, let same : Some other ≡ Some row = rw (keeps, here) at there in rw here same)
    by true keeps false here there later = let rest = later (rw (keeps, here) at there) in (rest.0, rw here rest.1)
    by false drops true here there later =
        let rest = later (rw drops at there) in
        let not_kept : test serial ≡ false = ap test (sym (eqb-true other.serial serial here)) ∙ drops in
        contrary (test serial) ((test serial ≡ true) × (found serial (other ∷ rows) ≡ Some row)) rest.0 not_kept
    by false drops false here there later = let rest = later (rw drops at there) in (rest.0, rw here rest.1)

pub found_appended : (serial : ℕ) (xs ys : List Row) (row : Row) → found serial (xs ++ ys) ≡ Some row → (found serial xs ≡ Some row) ⊎ (found serial ys ≡ Some row)
found_appended serial [] ys row is = inr is
found_appended serial (other ∷ xs) ys row is = by (other.serial == serial) refl is (found_appended serial xs ys row)
  where
    by : (b : Bool) → (other.serial == serial) ≡ b → found serial (other ∷ xs ++ ys) ≡ Some row → (found serial (xs ++ ys) ≡ Some row → (found serial xs ≡ Some row) ⊎ (found serial ys ≡ Some row)) → (found serial (other ∷ xs) ≡ Some row) ⊎ (found serial ys ≡ Some row)
    by true here there later = inl (let same : Some other ≡ Some row = rw here at there in rw here same)
    by false here there later = elim (later (rw here at there)) [
      | inl before_it ↦ inl (rw here before_it)
      | inr after_it ↦ inr after_it
    ]

-- ---- frontends by their numbers

pub one_item : {X : Type 0} (o : Option X) (x y : X) → o ≡ Some x → o ≡ Some y → x ≡ y
one_item o x y left right = let same : Some x ≡ Some y = sym left ∙ right in cc

-- a frontend after an entry was there before
pub record Before (p : Plain) (e : Entry) (number : ℕ) (next : FrontendRows) : Type 0 where
  pub own : FrontendRows
  pub there : slice_get p.frontends number ≡ Some own
  pub is : next ≡ frontend_after p (e ∷ []) number own

pub before : (p : Plain) (e : Entry) (number : ℕ) (next : FrontendRows) → slice_get (after p (e ∷ [])).frontends number ≡ Some next → Before p e number next
before p e number next there =
    let own = at_numbered (frontend_after p (e ∷ [])) 0 p.frontends number next there in
    record {
      own = own.0;
      there = own.1;
      is = one_item (slice_get (map_from (frontend_after p (e ∷ [])) 0 p.frontends) number) next (frontend_after p (e ∷ []) number own.0) there
          (get-from_zero (frontend_after p (e ∷ [])) p.frontends number own.0 own.1);
    }

-- ---- one open connection

-- a connection that is open after an entry: its row is that of one that was open before, or that came, as the entry leaves it
pub record RowBefore (p : Plain) (e : Entry) (id : ConnId) (row : Row) : Type 0 where
  pub own : FrontendRows
  pub there : slice_get p.frontends id.frontend ≡ Some own
  pub old : Row
  pub first : (row_at p.frontends id ≡ Some old) ⊎ (found id.serial (arrivals p id.frontend (e ∷ [])) ≡ Some old)
  pub serial : old.serial ≡ id.serial
  pub is : row ≡ row_after p id.frontend (e ∷ []) old

mapped_some : (change : Row → Row) (o : Option Row) (row : Row) → option_map change o ≡ Some row → (old : Row) × (o ≡ Some old) × (row ≡ change old)
mapped_some change None row is = absurd (let wrong : None ≡ Some row = is in cc)
mapped_some change (Some old) row is = (old, refl, let same : Some (change old) ≡ Some row = is in cc)

pub row_before : (p : Plain) (e : Entry) (id : ConnId) (row : Row) → row_at (after p (e ∷ [])).frontends id ≡ Some row → RowBefore p e id row
row_before p e id row is = by (slice_get (after p (e ∷ [])).frontends id.frontend) refl
  where
    of : (next : FrontendRows) → slice_get (after p (e ∷ [])).frontends id.frontend ≡ Some next → RowBefore p e id row
    of next there =
        let was = before p e id.frontend next there in
        let came : List Row = arrivals p id.frontend (e ∷ []) in
        let live : List Row = filter (λ r. not (has_ended id.frontend (e ∷ []) r.serial)) (was.own.rows ++ came) in
        let now : found id.serial (frontend_after p (e ∷ []) id.frontend was.own).rows ≡ Some row =
        ap (λ (f : FrontendRows). found id.serial f.rows) (sym was.is) ∙ sym (ap (row_in id.serial) there) ∙ is in
        let got = mapped_some (row_after p id.frontend (e ∷ [])) (found id.serial live) row (sym (found_mapped id.serial (row_after p id.frontend (e ∷ [])) (λ r. refl) live) ∙ now) in
        let kept = found_filtered id.serial (λ n. not (has_ended id.frontend (e ∷ []) n)) (was.own.rows ++ came) got.0 got.1 in
        record {
          own = was.own;
          there = was.there;
          old = got.0;
          first = elim (found_appended id.serial was.own.rows came got.0 kept.1) [
            | inl there_before ↦ inl (ap (row_in id.serial) was.there ∙ there_before)
            | inr new ↦ inr new
          ];
          serial = found_serial id.serial (was.own.rows ++ came) got.0 kept.1;
          is = got.2;
        }

    by : (o : Option FrontendRows) → slice_get (after p (e ∷ [])).frontends id.frontend ≡ o → RowBefore p e id row
    by None none = absurd (let wrong : None ≡ Some row = sym (ap (row_in id.serial) none) ∙ is in cc)
    by (Some next) there = of next there
