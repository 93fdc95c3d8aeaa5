-- What is kept, with one item more.
use Rattle.std.proofs.Common.{◌≡◌, ℕ, zero, suc, ◌≤◌, Bool, true, false, List, [], ◌∷◌, ◌++◌, length, drop, Some, refl, sym, ap, ◌∙◌, subst}
use native.Mathlib.Omega.{arith}
use Rattle.std.specs.List.{filter_map}
use Rattle.std.proofs.lemmas.List.{append-nil}
use Rattle.std.proofs.lemmas.List.Elements.{filter_map-append}
use Rattle.list_core.specs.Newest.{newest}
use Rattle.text_core.specs.Names.{distinct}
use Rattle.text_core.proofs.NameLemmas.{distinct-more}
use Rattle.conf_line.specs.declared.statement.Statement.{Statement}
use Rattle.conf_line.specs.declared.statement.Statement.TheVariants as statements
use Rattle.conf_line.specs.Sound.{IsSoundStatement}
use Rattle.conf_tree.specs.declared.claim.Claim.{Claim}
use Rattle.conf_tree.specs.declared.tree.ConfigLine.{ConfigLine}
use Rattle.conf_tree.specs.declared.tree.SectionPlace.{SectionPlace}
use Rattle.conf_tree.specs.Config.{place_at, place_after, place_of, section_lines, acl_name, acl_names, known_names, claim_of, claims_of}
use Rattle.conf_tree.specs.Kept.{IsKept, IsNext, names_after, last_section}
use Rattle.conf_tree.specs.Sections.{opens}
use Rattle.conf_tree.proofs.FewLemmas.{few_more}
use Rattle.conf_tree.proofs.SectionLemmas.{last_opened, last_kept, place_opened, place_kept, MayFollow, may_follow, sections_more}
use Rattle.conf_tree.proofs.SoundLemmas.{all_more, claims_more}

newest_more : {X : Type 0} (xs : List X) (x : X) → newest (xs ++ x ∷ []) ≡ Some x
newest_more [] x = refl
newest_more (y ∷ []) x = refl
newest_more (y ∷ z ∷ xs) x = newest_more (z ∷ xs) x

drop_all : {X : Type 0} (xs : List X) (x : X) → drop (length xs) (xs ++ x ∷ []) ≡ x ∷ []
drop_all [] x = refl
drop_all (y ∷ xs) x = drop_all xs x

drop_within : {X : Type 0} (n : ℕ) (xs : List X) (x : X) → n ≤ length xs → drop n (xs ++ x ∷ []) ≡ drop n xs ++ x ∷ []
drop_within zero xs x within = refl
drop_within (suc n) [] x within = absurd (omega arith)
drop_within (suc n) (y ∷ xs) x within = drop_within n xs x (omega (arith, within))

length_more : {X : Type 0} (xs : List X) (x : X) → length (xs ++ x ∷ []) ≡ suc (length xs)
length_more [] x = refl
length_more (y ∷ xs) x = ap (λ n. suc n) (length_more xs x)

last_place : (items : List ConfigLine) (item : ConfigLine) → place_after (items ++ item ∷ []) ≡ item.place
last_place items item = ap place_at (newest_more items item)

-- The section of the line after.

first_within : (items : List ConfigLine) (s : Statement) → (place_after items).first ≤ length items → (place_of (place_after items) (length items) s).first ≤ suc (length items)
first_within items statements.Global within = omega arith
first_within items statements.Defaults within = omega arith
first_within items (statements.Frontend name) within = omega arith
first_within items (statements.Backend name) within = omega arith
first_within items statement within = omega (arith, within)

place_within : (items : List ConfigLine) (item : ConfigLine) → item.place ≡ place_of (place_after items) (length items) item.statement → (place_after items).first ≤ length items →
    (place_after (items ++ item ∷ [])).first ≤ length (items ++ item ∷ [])
place_within items item is within =
    let first : (place_after (items ++ item ∷ [])).first ≡ (place_of (place_after items) (length items) item.statement).first = ap (λ p. p.first) (last_place items item ∙ is) in
    subst (λ n. n ≤ length (items ++ item ∷ [])) (sym first)
    (subst (λ n. (place_of (place_after items) (length items) item.statement).first ≤ n) (sym (length_more items item)) (first_within items item.statement within))

-- The lines of that section.

section_after : (items : List ConfigLine) (item : ConfigLine) → item.place ≡ place_of (place_after items) (length items) item.statement → (place_after items).first ≤ length items →
    section_lines (place_after items) items ≡ last_section items → section_lines (place_after (items ++ item ∷ [])) (items ++ item ∷ []) ≡ last_section (items ++ item ∷ [])
section_after items item is within same = by (opens item.statement) refl
  where
    by : (b : Bool) → opens item.statement ≡ b → section_lines (place_after (items ++ item ∷ [])) (items ++ item ∷ []) ≡ last_section (items ++ item ∷ [])
    by true opened =
        ap (λ n. drop n (items ++ item ∷ [])) (ap (λ p. p.first) (last_place items item ∙ is) ∙ place_opened (place_after items) (length items) item.statement opened)
        ∙ drop_all items item ∙ sym (last_opened items item opened)
    by false closed =
        ap (λ p. section_lines p (items ++ item ∷ [])) (last_place items item ∙ is ∙ place_kept (place_after items) (length items) item.statement closed)
        ∙ drop_within (place_after items).first items item within ∙ ap (λ lines. lines ++ item ∷ []) same ∙ sym (last_kept items item closed)

may_come : (items : List ConfigLine) (item : ConfigLine) → IsNext items item → section_lines (place_after items) items ≡ last_section items → opens item.statement ≡ false →
    MayFollow item.statement (last_section items)
may_come items item next same closed =
    subst (λ lines. MayFollow item.statement lines)
    (ap (λ p. section_lines p items) (next.place ∙ place_kept (place_after items) (length items) item.statement closed) ∙ same)
    (may_follow items item.place item.statement next.free next.room)

-- The names that are known.

-- names, where the line opens no section
same_section : (items : List ConfigLine) (item : ConfigLine) → item.place ≡ place_after items → (place_after items).first ≤ length items →
    known_names (items ++ item ∷ []) ≡ distinct (filter_map (λ i. acl_name i.statement) (section_lines (place_after items) items) ++ filter_map (λ i. acl_name i.statement) (item ∷ []))
same_section items item place within =
    ap (λ p. acl_names (drop p.first (items ++ item ∷ []))) (last_place items item ∙ place)
    ∙ ap acl_names (drop_within (place_after items).first items item within)
    ∙ ap distinct (filter_map-append (λ i. acl_name i.statement) (section_lines (place_after items) items) (item ∷ []))

-- names, where the line opens a section
new_section : (items : List ConfigLine) (item : ConfigLine) → item.place.first ≡ length items → known_names (items ++ item ∷ []) ≡ acl_names (item ∷ [])
new_section items item first =
    ap (λ n. acl_names (drop n (items ++ item ∷ []))) (ap (λ p. p.first) (last_place items item) ∙ first) ∙ ap acl_names (drop_all items item)

-- names, where the line declares none
none_more : (items : List ConfigLine) (item : ConfigLine) → item.place ≡ place_after items → (place_after items).first ≤ length items → filter_map (λ i. acl_name i.statement) (item ∷ []) ≡ [] →
    known_names (items ++ item ∷ []) ≡ known_names items
none_more items item place within none =
    same_section items item place within
    ∙ ap (λ names. distinct (filter_map (λ (i : ConfigLine). acl_name i.statement) (section_lines (place_after items) items) ++ names)) none
    ∙ ap distinct (append-nil (filter_map (λ (i : ConfigLine). acl_name i.statement) (section_lines (place_after items) items)))

names_by : (items : List ConfigLine) (line : ℕ) (place : SectionPlace) (s : Statement) → place ≡ place_of (place_after items) (length items) s → (place_after items).first ≤ length items →
    names_after (known_names items) s ≡ known_names (items ++ record { line = line; place = place; statement = s } ∷ [])
names_by items line place statements.Global is within = sym (new_section items (record { line = line; place = place; statement = statements.Global }) (ap (λ p. p.first) is))
names_by items line place statements.Defaults is within = sym (new_section items (record { line = line; place = place; statement = statements.Defaults }) (ap (λ p. p.first) is))
names_by items line place (statements.Frontend name) is within = sym (new_section items (record { line = line; place = place; statement = statements.Frontend name }) (ap (λ p. p.first) is))
names_by items line place (statements.Backend name) is within = sym (new_section items (record { line = line; place = place; statement = statements.Backend name }) (ap (λ p. p.first) is))
names_by items line place (statements.Acl name test) is within =
    sym (same_section items (record { line = line; place = place; statement = statements.Acl name test }) is within
    ∙ distinct-more (filter_map (λ i. acl_name i.statement) (section_lines (place_after items) items)) name)
names_by items line place statements.Nothing is within = sym (none_more items (record { line = line; place = place; statement = statements.Nothing }) is within refl)
names_by items line place (statements.MaxConn limit) is within = sym (none_more items (record { line = line; place = place; statement = statements.MaxConn limit }) is within refl)
names_by items line place (statements.Timeout kind ms) is within = sym (none_more items (record { line = line; place = place; statement = statements.Timeout kind ms }) is within refl)
names_by items line place (statements.Retries count) is within = sym (none_more items (record { line = line; place = place; statement = statements.Retries count }) is within refl)
names_by items line place (statements.Redispatch every) is within = sym (none_more items (record { line = line; place = place; statement = statements.Redispatch every }) is within refl)
names_by items line place (statements.DefaultBackend name) is within = sym (none_more items (record { line = line; place = place; statement = statements.DefaultBackend name }) is within refl)
names_by items line place (statements.Balance method) is within = sym (none_more items (record { line = line; place = place; statement = statements.Balance method }) is within refl)
names_by items line place (statements.Bind at proxy) is within = sym (none_more items (record { line = line; place = place; statement = statements.Bind at proxy }) is within refl)
names_by items line place (statements.Rule list action when) is within = sym (none_more items (record { line = line; place = place; statement = statements.Rule list action when }) is within refl)
names_by items line place (statements.UseBackend name when) is within = sym (none_more items (record { line = line; place = place; statement = statements.UseBackend name when }) is within refl)
names_by items line place (statements.StickTable table) is within = sym (none_more items (record { line = line; place = place; statement = statements.StickTable table }) is within refl)
names_by items line place (statements.Server server) is within = sym (none_more items (record { line = line; place = place; statement = statements.Server server }) is within refl)

-- All that is kept.

pub kept_more : (items : List ConfigLine) (item : ConfigLine) (claims more : List Claim) (known names : List (List ℕ)) → IsKept items claims known → IsNext items item →
    more ≡ claims ++ claims_of (item ∷ []) → names ≡ names_after known item.statement → IsKept (items ++ item ∷ []) more names
kept_more items item claims more known names kept next more_is names_is = record {
  taken = more_is ∙ ap (λ t. t ++ claims_of (item ∷ [])) kept.taken ∙ sym (filter_map-append (λ i. claim_of i.place i.statement) items (item ∷ []));
  names = names_is ∙ ap (λ k. names_after k item.statement) kept.names ∙ names_by items item.line item.place item.statement next.place kept.place;
  place = place_within items item next.place kept.place;
  few = few_more items item next.room kept.few;
  statements = all_more (λ i. IsSoundStatement i.statement) items item kept.statements next.sound;
  differ = claims_more items item kept.differ next.free;
  section = section_after items item next.place kept.place kept.section;
  sections = sections_more items item kept.sections (may_come items item next kept.section);
}
