-- What the lines of a text are, line by line.
use Rattle.std.proofs.Common.{◌≡◌, ℕ, ◌≤◌, ◌<◌, Bool, true, false, List, [], ◌∷◌, not, length, Result, Ok, Err, refl, sym, subst, inl, inr, arith, nat_lt, if◌then◌else◌}
use Rattle.std.specs.Prelude.{◌&&◌}
use Rattle.std.specs.List.{list_all, list_any}
use Rattle.std.proofs.lemmas.Bool.Decides.{nat_tests}
use Rattle.list_core.specs.Each.{each, IsRead}
use Rattle.list_core.proofs.EachLaws.{each_ok, each_err}
use Rattle.text_core.specs.Parts.{parts, is_line_feed}
use Rattle.conf_text.specs.declared.line.TheConstants.{MOST_BYTES}
use Rattle.conf_text.specs.Lines.{is_quoting, is_plain, is_allowed, check_bytes, lines_of, next_line, text_too_long, AreLines, IsTextFault}
use Rattle.conf_text.specs.declared.line.Line.{Line}
use Rattle.conf_text.specs.declared.line.LineFault.{LineFault}

long : (n : ℕ) → nat_lt MOST_BYTES n ≡ true → MOST_BYTES < n
long n test = grind (arith, nat_tests)

short : (n : ℕ) → nat_lt MOST_BYTES n ≡ false → n ≤ MOST_BYTES
short n test = grind (arith, nat_tests)

-- by whether the text is too long
read_by : List ℕ → Bool → Result (List Line) LineFault
read_by text b = if b then Err text_too_long else each next_line [] (parts is_line_feed text)

pub each_line : (text : List ℕ) (lines : List Line) → lines_of text ≡ Ok lines → AreLines text lines
each_line text lines is = by (nat_lt MOST_BYTES (length text)) refl
  where
    by : (b : Bool) → nat_lt MOST_BYTES (length text) ≡ b → AreLines text lines
    by true test = let wrong : Err text_too_long ≡ Ok lines = rw test at is in absurd cc
    by false test =
        let reads : each next_line [] (parts is_line_feed text) ≡ Ok lines = rw test at is in
        let more = each_ok next_line [] (parts is_line_feed text) lines reads in
        let P : List Line → Type 0 = λ ys. IsRead next_line (parts is_line_feed text) ys in
        (short (length text) test, subst P (sym more.1) more.2)

pub first_fault : (text : List ℕ) (fault : LineFault) → lines_of text ≡ Err fault → IsTextFault text fault
first_fault text fault is = by (nat_lt MOST_BYTES (length text)) refl
  where
    by : (b : Bool) → nat_lt MOST_BYTES (length text) ≡ b → IsTextFault text fault
    by true test =
        let same : Err text_too_long ≡ Err fault = rw test at is in
        let f_is : fault ≡ text_too_long = cc in
        inl (long (length text) test, f_is)
    by false test =
        let reads : each next_line [] (parts is_line_feed text) ≡ Err fault = rw test at is in
        inr (short (length text) test, each_err next_line [] (parts is_line_feed text) fault reads)

both : (p q a : Bool) → ((p && not q) && a) ≡ true → (p ≡ true) × ((q ≡ false) × (a ≡ true))
both true false a e = (refl, (refl, e))
both true true a e = absurd (cc)
both false q a e = absurd (cc)

allowed : (code : List ℕ) → list_all is_allowed code ≡ true → (list_any is_quoting code ≡ false) × (list_all is_plain code ≡ true)
allowed [] e = (refl, refl)
allowed (b ∷ code) e =
    let first = both (is_plain b) (is_quoting b) (list_all is_allowed code) e in
    let more = allowed code first.1.1 in
    (rw (first.1.0) more.0, rw (first.0) more.1)

-- nothing is wrong with characters that are all allowed
pub nothing_wrong : (code : List ℕ) → list_all is_allowed code ≡ true → Ok tt ≡ check_bytes code
nothing_wrong code e = let all = allowed code e in rw (all.0, all.1) refl
