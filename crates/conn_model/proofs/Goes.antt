-- A legal history in two parts.
use Rattle.std.specs.Prelude.{ℕ, true, false, not, refl, List, [], filter, slice_get, Option, Some, None, Ok, IsSome, ◌≤◌, ◌<◌, ◌≡◌, ◌⊎◌, ◌∷◌, ◌++◌}
use Rattle.std.specs.List.{AllByRecursion}
use Rattle.std.specs.Option.{option_map_or}
use Rattle.std.proofs.Common.{sym, ap, ◌∙◌, subst, arith, inl, inr}
use Rattle.std.proofs.lemmas.Bool.{false≢true, cases_lt}
use Rattle.conn_model.specs.declared.plain.FrontendRows.{FrontendRows}
use Rattle.conn_model.specs.declared.plain.TableState.{TableState}
use Rattle.conn_model.specs.declared.plain.Version.{Version}
use Rattle.conn_model.specs.declared.plain.Plain.{Plain}
use Rattle.conn_model.specs.Words.{newest}
use Rattle.conn_model.specs.Answer.{answer_in}
use Rattle.conn_model.specs.Tables.{is_listed_by}
use Rattle.conn_model.specs.History.{after, arrival, arrivals, frontends_after, has_ended, in_force, needed_versions, newest_number, now_of, tables_after, tables_passed, tables_with, version_of, versions_after, versions_by, Entry, IsLegal, IsFrontendWell, IsWell, down_after, marked_by, mark_of}
use Rattle.conn_model.proofs.Lists.{all-append, all-at, all-both, all-more}
use Rattle.conn_model.proofs.Versions.{numbers-below}
use Rattle.conn_model.proofs.Parts.{now_of-append, force-append, frontends_in_parts, history_parts, is_spoken_to, newest_after, AllGoOn, ReadsAlike}
use Rattle.conn_model.proofs.Replies.{answered}
use Rattle.conn_model.proofs.Serials.{arrival-all, fresh}
use Rattle.conn_model.proofs.Kept.{absent, absent-held, alike, force-needed, held, needed_after, rises, rows-needed, IsHeld}

pub well_at : (p : Plain) → IsWell p → (number : ℕ) (own : FrontendRows) → slice_get p.frontends number ≡ Some own → IsFrontendWell p.versions own
well_at p well number own there = all-at (IsFrontendWell p.versions) p.frontends number own well.frontends there

pub newest_of : (p : Plain) → IsWell p → (v : Version) × (newest p.versions ≡ Some v)
newest_of p well = by (newest p.versions) refl well.last
  where
    by : (o : Option Version) → newest p.versions ≡ o → IsSome o → (v : Version) × (newest p.versions ≡ Some v)
    by None there is = absurd (false≢true is)
    by (Some v) there is = (v, there)

-- no version has a number above the newest
pub versions_below : (p : Plain) → IsWell p → AllByRecursion (λ version. version.number ≤ newest_number p) p.versions
versions_below p well =
    let v : (v : Version) × (newest p.versions ≡ Some v) = newest_of p well in
    let number : newest_number p ≡ v.0.number = ap (λ o. option_map_or (λ version. version.number) o 0) v.1 in
    subst (λ n. AllByRecursion (λ version. version.number ≤ n) p.versions) (sym number) (numbers-below p.versions v.0 well.rise v.1)

-- Each frontend goes on.

-- what is opened later is of the version in force, or of a later one
later_versions : (q : Plain) (g : List Entry) (number : ℕ) → IsLegal q g → AllByRecursion (λ row. newest_number q ≤ row.version) (arrivals q number g)
later_versions q [] number legal = tt
later_versions q (e ∷ g) number legal =
    all-append (λ row. newest_number q ≤ row.version) (arrivals q number g) (arrival number (now_of q.clock (e ∷ g)) (in_force (newest_number q) g) e.event e.reply.said)
    (later_versions q g number legal.0)
    (arrival-all (λ row. newest_number q ≤ row.version) (after q g) number (now_of q.clock (e ∷ g)) (in_force (newest_number q) g) e.event e.reply.said
    (answered (after q g) e.moment e.event e.reply legal.1) (λ new real here accepting. up g legal.0))
  where
    up : (g : List Entry) → IsLegal q g → newest_number q ≤ in_force (newest_number q) g
    up [] legal = omega arith
    up (e ∷ g) legal = let before = up g legal.0 in let now = rises q e g legal in omega (arith, before, now)

-- a version that is not older than the one in force
from_force : (p : Plain) → IsWell p → (h : List Entry) → IsLegal p h → (n : ℕ) → in_force (newest_number p) h ≤ n → IsHeld p h n
from_force p well h legal n le =
    elim (at_or_above (in_force (newest_number p) h) n le) [
      | inl same ↦ held p (versions_below p well) h legal n (force-needed p h n (sym same))
      | inr above ↦ absent-held p h n (absent p (versions_below p well) h legal n above)
    ]
  where
    at_or_above : (a b : ℕ) → a ≤ b → (a ≡ b) ⊎ (a < b)
    at_or_above a b le = grind (arith, cases_lt)

all_go_on : (p : Plain) → IsWell p → (g h : List Entry) → IsLegal p h → IsLegal (after p h) g → AllGoOn p g h
all_go_on p well g h legal later number own there =
    let q : Plain = after p h in
    let force : newest_number q ≡ in_force (newest_number p) h = newest_after p h in
    record {
      kept = all-more (λ row. not (has_ended number h row.serial) ≡ true → needed_after p h row.version ≡ true) (λ row. not (has_ended number h row.serial) ≡ true → ReadsAlike p h row.version) (own.rows ++ arrivals p number h)
          (λ row needed live. alike p h row.version (held p (versions_below p well) h legal row.version (needed live))) (rows-needed p h number own there);
      fresh = all-both (λ row. is_spoken_to number h row.serial ≡ false) (λ row. ReadsAlike p h row.version) (arrivals q number g)
          (fresh p g h number own there (well_at p well number own there) legal later)
          (all-more (λ row. newest_number q ≤ row.version) (λ row. ReadsAlike p h row.version) (arrivals q number g)
          (λ row le. alike p h row.version (from_force p well h legal row.version (let le' : newest_number q ≤ row.version = le in omega (arith, le', force))))
          (later_versions q g number later));
    }

-- the versions, one entry after the other
versions_in_parts : (p : Plain) → IsWell p → (g h : List Entry) → IsLegal p h → IsLegal (after p h) g → versions_after (after p h) g ≡ versions_after p (g ++ h)
versions_in_parts p well [] h legal later = refl
versions_in_parts p well (e ∷ g) h legal later =
    let before : frontends_after (after p h) g ≡ frontends_after p (g ++ h) = frontends_in_parts p g h (all_go_on p well g h legal later.0) in
    let frontends : frontends_after (after p h) (e ∷ g) ≡ frontends_after p (e ∷ (g ++ h)) = frontends_in_parts p (e ∷ g) h (all_go_on p well (e ∷ g) h legal later) in
    let versions : versions_after (after p h) g ≡ versions_after p (g ++ h) = versions_in_parts p well g h legal later.0 in
    let by' : versions_by (frontends_after (after p h) g) (in_force (newest_number (after p h)) g) (versions_after (after p h) g) e
    ≡ versions_by (frontends_after p (g ++ h)) (in_force (newest_number p) (g ++ h)) (versions_after p (g ++ h)) e =
    ap (λ fs. versions_by fs (in_force (newest_number (after p h)) g) (versions_after (after p h) g) e) before
    ∙ ap (λ n. versions_by (frontends_after p (g ++ h)) n (versions_after (after p h) g) e) (force-append p g h)
    ∙ ap (λ vs. versions_by (frontends_after p (g ++ h)) (in_force (newest_number p) (g ++ h)) vs e) versions in
    ap (λ fs. needed_versions fs (in_force (newest_number (after p h)) (e ∷ g)) (versions_by (frontends_after (after p h) g) (in_force (newest_number (after p h)) g) (versions_after (after p h) g) e)) frontends
    ∙ ap (λ n. needed_versions (frontends_after p (e ∷ (g ++ h))) n (versions_by (frontends_after (after p h) g) (in_force (newest_number (after p h)) g) (versions_after (after p h) g) e)) (force-append p (e ∷ g) h)
    ∙ ap (λ vs. needed_versions (frontends_after p (e ∷ (g ++ h))) (in_force (newest_number p) (e ∷ (g ++ h))) vs) by'

-- and the tables
tables_in_parts : (p : Plain) → IsWell p → (g h : List Entry) → IsLegal p h → IsLegal (after p h) g → tables_after (after p h) g ≡ tables_after p (g ++ h)
tables_in_parts p well [] h legal later = refl
tables_in_parts p well (e ∷ g) h legal later =
    let frontends : frontends_after (after p h) g ≡ frontends_after p (g ++ h) = frontends_in_parts p g h (all_go_on p well g h legal later.0) in
    let tables : tables_after (after p h) g ≡ tables_after p (g ++ h) = tables_in_parts p well g h legal later.0 in
    let before : versions_after (after p h) g ≡ versions_after p (g ++ h) = versions_in_parts p well g h legal later.0 in
    let now : versions_after (after p h) (e ∷ g) ≡ versions_after p (e ∷ (g ++ h)) = versions_in_parts p well (e ∷ g) h legal later in
    let clock : now_of (now_of p.clock h) (e ∷ g) ≡ now_of p.clock (e ∷ (g ++ h)) = now_of-append p.clock (e ∷ g) h in
    let all : ℕ → List Version → List Version → List FrontendRows → List TableState → List TableState =
    λ n vs us fs ts. filter (is_listed_by vs) (tables_passed n fs ts e.reply ++ tables_with (newest us) (version_of e)) in
    ap (λ n. all n (versions_after (after p h) (e ∷ g)) (versions_after (after p h) g) (frontends_after (after p h) g) (tables_after (after p h) g)) clock
    ∙ ap (λ vs. all (now_of p.clock (e ∷ (g ++ h))) vs (versions_after (after p h) g) (frontends_after (after p h) g) (tables_after (after p h) g)) now
    ∙ ap (λ us. all (now_of p.clock (e ∷ (g ++ h))) (versions_after p (e ∷ (g ++ h))) us (frontends_after (after p h) g) (tables_after (after p h) g)) before
    ∙ ap (λ fs. all (now_of p.clock (e ∷ (g ++ h))) (versions_after p (e ∷ (g ++ h))) (versions_after p (g ++ h)) fs (tables_after (after p h) g)) frontends
    ∙ ap (λ ts. all (now_of p.clock (e ∷ (g ++ h))) (versions_after p (e ∷ (g ++ h))) (versions_after p (g ++ h)) (frontends_after p (g ++ h)) ts) tables

-- and the servers that are down
down_in_parts : (p : Plain) → IsWell p → (g h : List Entry) → IsLegal p h → IsLegal (after p h) g → down_after (after p h) g ≡ down_after p (g ++ h)
down_in_parts p well [] h legal later = refl
down_in_parts p well (e ∷ g) h legal later =
    ap (λ vs. marked_by (mark_of vs e.event) (down_after (after p h) g)) (versions_in_parts p well g h legal later.0)
    ∙ ap (marked_by (mark_of (versions_after p (g ++ h)) e.event)) (down_in_parts p well g h legal later.0)

in_parts : (p : Plain) → IsWell p → (g h : List Entry) → IsLegal p h → IsLegal (after p h) g → after (after p h) g ≡ after p (g ++ h)
in_parts p well g h legal later = history_parts p g h (all_go_on p well g h legal later) (versions_in_parts p well g h legal later) (tables_in_parts p well g h legal later) (down_in_parts p well g h legal later)

-- Legality in two parts.

pub legal_first : (p : Plain) (g h : List Entry) → IsLegal p (g ++ h) → IsLegal p h
legal_first p [] h legal = legal
legal_first p (e ∷ g) h legal = legal_first p g h legal.0

pub legal_rest : (p : Plain) → IsWell p → (g h : List Entry) → IsLegal p (g ++ h) → IsLegal (after p h) g
legal_rest p well [] h legal = tt
legal_rest p well (e ∷ g) h legal =
    let rest : IsLegal (after p h) g = legal_rest p well g h legal.0 in
    (rest, subst (λ q. answer_in q e.moment e.event ≡ Ok e.reply) (sym (in_parts p well g h (legal_first p g h legal.0) rest)) legal.1)

pub legal_both : (p : Plain) → IsWell p → (g h : List Entry) → IsLegal p h → IsLegal (after p h) g → IsLegal p (g ++ h)
legal_both p well [] h legal later = legal
legal_both p well (e ∷ g) h legal later =
    (legal_both p well g h legal later.0, subst (λ q. answer_in q e.moment e.event ≡ Ok e.reply) (in_parts p well g h legal later.0) later.1)

-- the state after a legal history in two parts
pub whole_in_parts : (p : Plain) → IsWell p → (g h : List Entry) → IsLegal p (g ++ h) → after (after p h) g ≡ after p (g ++ h)
whole_in_parts p well g h legal = in_parts p well g h (legal_first p g h legal) (legal_rest p well g h legal)
