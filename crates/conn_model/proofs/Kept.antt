-- A version that an open connection is of is kept, with its plan.
use Rattle.std.specs.Prelude.{ℕ, Bool, true, false, not, List, [], map, filter, find, slice_get, Option, Some, None, option_map, option_to_list, refl, ◌+◌, ◌≤◌, ◌<◌, ◌≡◌, ◌⊎◌, ◌==◌, ◌&&◌, ◌||◌, ◌∷◌, ◌++◌, if◌then◌else◌}
use Rattle.std.specs.List.{list_any, AllByRecursion}
use Rattle.std.specs.Option.{option_and_then, option_map_or, option_or}
use Rattle.std.proofs.Common.{sym, ap, ◌∙◌, arith, inl, inr, append_assoc}
use Rattle.std.proofs.lemmas.Bool.{false≢true, eqb-true, eq-eqb}
use Rattle.std.proofs.lemmas.Bool.Decides.{nat_tests}
use Rattle.plan_types.specs.declared.plan.Plan.{Plan}
use Rattle.conn_model.specs.declared.event.OwnedEvent.{OwnedEvent}
use Rattle.conn_model.specs.declared.event.OwnedEvent.TheVariants.{Reload}
use Rattle.conn_model.specs.declared.reply.Said.{Said}
use Rattle.conn_model.specs.declared.reply.Said.TheVariants.{Reloaded}
use Rattle.conn_model.specs.declared.plain.Row.{Row}
use Rattle.conn_model.specs.declared.plain.FrontendRows.{FrontendRows}
use Rattle.conn_model.specs.declared.plain.Version.{Version}
use Rattle.conn_model.specs.declared.plain.Plain.{Plain}
use Rattle.conn_model.specs.Words.{map_from}
use Rattle.conn_model.specs.History.{now_of, number_said, plan_with, version_of, in_force, newest_number, plans, plan_of, is_last, speaks_to, arrival, arrivals, has_ended, has_version, row_after, frontend_after, frontends_after, is_needed, judging_version, versions_after, with_said, with_version, after, Entry, IsLegal}
use Rattle.conn_model.proofs.Lists.{or_true, or_left, or_right, all-unfiltered, any-at, get-from_zero}
use Rattle.conn_model.proofs.Versions.{plan_pair, plan_pairs-map, plan_pairs-with, version_said, version_said-cursors, with_said-each}
use Rattle.conn_model.proofs.Replies.{answered, Says}
use Rattle.conn_model.proofs.Parts.{newest_after, ReadsAlike}
use Rattle.conn_model.proofs.Serials.{arrival-one}

-- Plans by the numbers of their versions.

abbrev pub look : List (ℕ × Plan) → ℕ → Option Plan
look pairs n = option_map (λ pair. pair.1) (find (λ pair. pair.0 == n) pairs)

pub look-append : (xs ys : List (ℕ × Plan)) (n : ℕ) → look (xs ++ ys) n ≡ option_or (look xs n) (look ys n)
look-append [] ys n = refl
look-append (x ∷ xs) ys n = by (x.0 == n) refl (look-append xs ys n)
  where
    by : (b : Bool) → (x.0 == n) ≡ b → look (xs ++ ys) n ≡ option_or (look xs n) (look ys n) → look (x ∷ (xs ++ ys)) n ≡ option_or (look (x ∷ xs) n) (look ys n)
    by true e rest = rw e refl
    by false e rest = rw e rest

-- a filter by number
look-filter : (good : ℕ → Bool) (xs : List (ℕ × Plan)) (n : ℕ) → look (filter (λ pair. good pair.0) xs) n ≡ (if good n then look xs n else None)
look-filter good [] n = by (good n)
  where
    by : (b : Bool) → look [] n ≡ (if b then look [] n else None)
    by true = refl
    by false = refl
look-filter good (x ∷ xs) n = by (good x.0) (x.0 == n) refl refl (look-filter good xs n)
  where
    by : (a b : Bool) → good x.0 ≡ a → (x.0 == n) ≡ b → look (filter (λ pair. good pair.0) xs) n ≡ (if good n then look xs n else None) →
        look (filter (λ pair. good pair.0) (x ∷ xs)) n ≡ (if good n then look (x ∷ xs) n else None)
    by true true ea eb rest = let good_n : good n ≡ true = ap good (sym (eqb-true x.0 n eb)) ∙ ea in rw (ea, eb, good_n) refl
    by true false ea eb rest = rw (ea, eb) rest
    by false true ea eb rest = let bad_n : good n ≡ false = ap good (sym (eqb-true x.0 n eb)) ∙ ea in rw (ea, bad_n) (rw bad_n at rest)
    by false false ea eb rest = rw (ea, eb) rest

-- The versions are a filter of all that were brought.

abbrev pub needed_after : Plain → List Entry → ℕ → Bool
needed_after p h n = is_needed (frontends_after p h) (in_force (newest_number p) h) n

filter-pairs : (good : ℕ → Bool) (versions : List Version) → map plan_pair (filter (λ version. good version.number) versions) ≡ filter (λ pair. good pair.0) (map plan_pair versions)
filter-pairs good [] = refl
filter-pairs good (v ∷ versions) = by (good v.number) refl (filter-pairs good versions)
  where
    by : (b : Bool) → good v.number ≡ b → map plan_pair (filter (λ version. good version.number) versions) ≡ filter (λ pair. good pair.0) (map plan_pair versions) →
        map plan_pair (filter (λ version. good version.number) (v ∷ versions)) ≡ filter (λ pair. good pair.0) (map plan_pair (v ∷ versions))
    by true e rest = rw e (ap (λ pairs. plan_pair v ∷ pairs) rest)
    by false e rest = rw e rest

-- the plan that is kept under a number, after one more entry
kept-more : (p : Plain) (e : Entry) (h : List Entry) (n : ℕ) →
    plan_of (after p (e ∷ h)) [] n ≡ (if needed_after p (e ∷ h) n then option_or (plan_of (after p h) [] n) (look (option_to_list (version_of e)) n) else None)
kept-more p e h n =
    let good : ℕ → Bool = needed_after p (e ∷ h) in
    let number : ℕ = judging_version (frontends_after p h) (in_force (newest_number p) h) e.reply.said in
    let old : List Version = with_said number e.reply.said (versions_after p h) in
    let new' : List (ℕ × Plan) = option_to_list (version_of e) in
    let said : map plan_pair old ≡ map plan_pair (versions_after p h) =
    ap (λ vs. map plan_pair vs) (with_said-each number e.reply.said (versions_after p h)) ∙ plan_pairs-map (version_said number e.reply.said) (version_said-cursors number e.reply.said) (versions_after p h) in
    let pairs : map plan_pair (versions_after p (e ∷ h)) ≡ filter (λ pair. good pair.0) (map plan_pair (versions_after p h) ++ new') =
    filter-pairs good (with_version old (version_of e)) ∙ ap (λ ps. filter (λ pair. good pair.0) ps) (plan_pairs-with old (version_of e) ∙ ap (λ ps. ps ++ new') said) in
    ap (λ ps. look ps n) pairs ∙ look-filter good (map plan_pair (versions_after p h) ++ new') n
    ∙ ap (λ o. if good n then o else None) (look-append (map plan_pair (versions_after p h)) new' n)

-- Numbers rise.

-- the version that an event and its reply bring
abbrev brought : OwnedEvent → Said → Option (ℕ × Plan)
brought event said = option_and_then (λ number. option_map (λ plan. (number, plan)) (plan_with event)) (number_said said)

brought-none : (number : Option ℕ) (r : ℕ × Plan) → option_and_then (λ number. option_map (λ (plan : Plan). (number, plan)) None) number ≡ Some r → ⊥
brought-none None r is = let wrong : None ≡ Some r = is in cc
brought-none (Some n) r is = let wrong : None ≡ Some r = is in cc

brought-number : (n : ℕ) (plan : Option Plan) (r : ℕ × Plan) → option_map (λ (plan : Plan). (n, plan)) plan ≡ Some r → r.0 ≡ n
brought-number n None r is = absurd (let wrong : None ≡ Some r = is in cc)
brought-number n (Some plan) r is = let same : (n, plan) ≡ r = let it : Some (n, plan) ≡ Some r = is in cc in ap (λ pair. pair.0) (sym same)

brought-next : (q : Plain) (event : OwnedEvent) (said : Said) → Says q event said → (r : ℕ × Plan) → brought event said ≡ Some r → r.0 ≡ newest_number q + 1
brought-next q (Reload text) said says r is =
    let it : brought (Reload text) (Reloaded (says.version.number + 1)) ≡ Some r = ap (brought (Reload text)) (sym says.says) ∙ is in
    let newest_is : newest_number q ≡ says.version.number = ap (λ o. option_map_or (λ version. version.number) o 0) says.newest_is in
    brought-number (says.version.number + 1) (plan_with (Reload text)) r it ∙ ap (λ n. n + 1) (sym newest_is)
brought-next q event said says r is = absurd (brought-none (number_said said) r is)

-- the number in force after one more entry, by whether it brings a version
pub data Turn (p : Plain) (e : Entry) (h : List Entry) : Type 0 where
  stays : version_of e ≡ None → in_force (newest_number p) (e ∷ h) ≡ in_force (newest_number p) h → Turn p e h
  turns : (plan : Plan) → version_of e ≡ Some (in_force (newest_number p) h + 1, plan) → in_force (newest_number p) (e ∷ h) ≡ in_force (newest_number p) h + 1 → Turn p e h

pub turn : (p : Plain) (e : Entry) (h : List Entry) → IsLegal p (e ∷ h) → Turn p e h
turn p e h legal = by (version_of e) refl
  where
    by : (b : Option (ℕ × Plan)) → version_of e ≡ b → Turn p e h
    by None is = stays is (ap (λ o. option_map_or (λ r. r.0) o (in_force (newest_number p) h)) is)
    by (Some (m, plan)) is =
        let next : m ≡ in_force (newest_number p) h + 1 =
        brought-next (after p h) e.event e.reply.said (answered (after p h) e.moment e.event e.reply legal.1) (m, plan) is ∙ ap (λ n. n + 1) (newest_after p h) in
        turns plan (is ∙ ap (λ k. Some (k, plan)) next) (ap (λ o. option_map_or (λ r. r.0) o (in_force (newest_number p) h)) is ∙ next)

pub rises : (p : Plain) (e : Entry) (h : List Entry) → IsLegal p (e ∷ h) → in_force (newest_number p) h ≤ in_force (newest_number p) (e ∷ h)
rises p e h legal = by (turn p e h legal)
  where
    by : Turn p e h → in_force (newest_number p) h ≤ in_force (newest_number p) (e ∷ h)
    by (stays none same) = omega (arith, same)
    by (turns plan some next) = omega (arith, next)

-- No version has a number above the one in force.

look-above : (versions : List Version) (m n : ℕ) → AllByRecursion (λ version. version.number ≤ m) versions → m < n → look (map plan_pair versions) n ≡ None
look-above [] m n below above = refl
look-above (v ∷ vs) m n below above =
    let other : (v.number == n) ≡ false = let le : v.number ≤ m = below.0 in grind (arith, nat_tests, le, above) in
    rw other (look-above vs m n below.1 above)

abbrev pub Absent : Plain → List Entry → ℕ → Type 0
Absent p h n = (plan_of (after p h) [] n ≡ None) × (plan_of p h n ≡ None)

absent-more : (p : Plain) (e : Entry) (h : List Entry) (n : ℕ) → Absent p h n → look (option_to_list (version_of e)) n ≡ None → Absent p (e ∷ h) n
absent-more p e h n before none = (
  kept-more p e h n ∙ ap (λ o. if needed_after p (e ∷ h) n then option_or o (look (option_to_list (version_of e)) n) else None) before.0
      ∙ ap (λ o. if needed_after p (e ∷ h) n then o else None) none ∙ either (needed_after p (e ∷ h) n),
  look-append (plans p h) (option_to_list (version_of e)) n ∙ ap (λ o. option_or o (look (option_to_list (version_of e)) n)) before.1 ∙ none,
)
  where
    either : (b : Bool) → (if b then look [] n else None) ≡ None
    either true = refl
    either false = refl

pub absent : (p : Plain) → AllByRecursion (λ version. version.number ≤ newest_number p) p.versions →
    (h : List Entry) → IsLegal p h → (n : ℕ) → in_force (newest_number p) h < n → Absent p h n
absent p below [] legal n above = let none : look (map plan_pair p.versions) n ≡ None = look-above p.versions (newest_number p) n below above in (none, none)
absent p below (e ∷ h) legal n above = by (turn p e h legal) (absent p below h legal.0 n)
  where
    by : Turn p e h → (in_force (newest_number p) h < n → Absent p h n) → Absent p (e ∷ h) n
    by (stays none same) before =
        let above' : in_force (newest_number p) h < n = omega (arith, above, same) in
        absent-more p e h n (before above') (ap (λ o. look (option_to_list o) n) none)
    by (turns plan some next) before =
        let above' : in_force (newest_number p) h < n = omega (arith, above, next) in
        let other : (in_force (newest_number p) h + 1 == n) ≡ false = let more : in_force (newest_number p) h + 1 < n = omega (arith, above, next) in grind (arith, nat_tests, more) in
        absent-more p e h n (before above') (ap (λ o. look (option_to_list o) n) some ∙ rw other refl)

-- What is needed was needed before, or is brought now.

-- in a list with more at the end, of which no other items pass
any_parts : {X : Type 0} (test live' live : X → Bool) (old new' : List X) → ((x : X) → live' x ≡ true → live x ≡ true) →
    list_any test (filter live' (old ++ new')) ≡ true → (list_any test (filter live old) ≡ true) ⊎ (list_any test new' ≡ true)
any_parts test live' live [] [] stay is = absurd (false≢true is)
any_parts {X} test live' live [] (x ∷ xs) stay is = by (live' x) refl (any_parts test live' live [] xs stay)
  where
    by : (b : Bool) → live' x ≡ b → (list_any test (filter live' xs) ≡ true → (false ≡ true) ⊎ (list_any test xs ≡ true)) →
        (false ≡ true) ⊎ (list_any test (x ∷ xs) ≡ true)
    by true e rest = elim (or_true (test x) (list_any test (filter live' xs)) (rw e at is)) [
      | inl here ↦ inr (or_left (test x) (list_any test xs) here)
      | inr later ↦ elim (rest later) [
        | inl no' ↦ inl no'
        | inr yes' ↦ inr (or_right (test x) (list_any test xs) yes')
      ]
    ]
    by false e rest = elim (rest (rw e at is)) [
      | inl no' ↦ inl no'
      | inr yes' ↦ inr (or_right (test x) (list_any test xs) yes')
    ]
any_parts {X} test live' live (x ∷ old) new' stay is = by (live' x) (live x) refl refl (any_parts test live' live old new' stay)
  where
    by : (b a : Bool) → live' x ≡ b → live x ≡ a → (list_any test (filter live' (old ++ new')) ≡ true → (list_any test (filter live old) ≡ true) ⊎ (list_any test new' ≡ true)) →
        (list_any test (filter live (x ∷ old)) ≡ true) ⊎ (list_any test new' ≡ true)
    by true true eb ea rest = elim (or_true (test x) (list_any test (filter live' (old ++ new'))) (rw eb at is)) [
      | inl here ↦ inl (rw ea (or_left (test x) (list_any test (filter live old)) here))
      | inr later ↦ elim (rest later) [
        | inl yes' ↦ inl (rw ea (or_right (test x) (list_any test (filter live old)) yes'))
        | inr yes' ↦ inr yes'
      ]
    ]
    by true false eb ea rest = absurd (false≢true (sym ea ∙ stay x eb))
    by false true eb ea rest = elim (rest (rw eb at is)) [
      | inl yes' ↦ inl (rw ea (or_right (test x) (list_any test (filter live old)) yes'))
      | inr yes' ↦ inr yes'
    ]
    by false false eb ea rest = elim (rest (rw eb at is)) [
      | inl yes' ↦ inl (rw ea yes')
      | inr yes' ↦ inr yes'
    ]

-- what an entry opens is of the version in force
arrival-version : (number clock version n : ℕ) (event : OwnedEvent) (said : Said) → list_any (λ row. row.version == n) (arrival number clock version event said) ≡ true → n ≡ version
arrival-version number clock version n event said is = elim (arrival-one number clock version event said) [
  | inl none ↦ absurd (false≢true (rw none at is))
  | inr one ↦ elim (or_true (version == n) false (rw one.2 at is)) [
    | inl same ↦ sym (eqb-true version n same)
    | inr no' ↦ absurd (false≢true no')
  ]
]

any-rows : (p : Plain) (h : List Entry) (number n : ℕ) (rows : List Row) → list_any (λ row. row.version == n) (map (row_after p number h) rows) ≡ list_any (λ row. row.version == n) rows
any-rows p h number n [] = refl
any-rows p h number n (row ∷ rows) = ap (λ b. (row.version == n) || b) (any-rows p h number n rows)

frontend_before : (p : Plain) (e : Entry) (h : List Entry) (n number : ℕ) (own : FrontendRows) → has_version n (frontend_after p (e ∷ h) number own) ≡ true →
    (has_version n (frontend_after p h number own) ≡ true) ⊎ (n ≡ in_force (newest_number p) h)
frontend_before p e h n number own is =
    let live : Row → Bool = λ row. not (has_ended number h row.serial) in
    let live' : Row → Bool = λ row. not (has_ended number (e ∷ h) row.serial) in
    let old : List Row = own.rows ++ arrivals p number h in
    let new' : List Row = arrival number (now_of p.clock (e ∷ h)) (in_force (newest_number p) h) e.event e.reply.said in
    let test : Row → Bool = λ row. row.version == n in
    let rows : list_any test (filter live' (old ++ new')) ≡ true =
    ap (λ xs. list_any test (filter live' xs)) (append_assoc own.rows (arrivals p number h) new')
    ∙ sym (any-rows p (e ∷ h) number n (filter live' (own.rows ++ arrivals p number (e ∷ h)))) ∙ is in
    elim (any_parts test live' live old new' (λ row. not_either (is_last e.reply.said && speaks_to number row.serial e.reply.said) (has_ended number h row.serial)) rows) [
      | inl yes' ↦ inl (any-rows p h number n (filter live old) ∙ yes')
      | inr yes' ↦ inr (arrival-version number (now_of p.clock (e ∷ h)) (in_force (newest_number p) h) n e.event e.reply.said yes')
    ]
  where
    not_either : (a b : Bool) → not (a || b) ≡ true → not b ≡ true
    not_either true b no' = absurd (false≢true no')
    not_either false b yes' = yes'

frontends_before : (p : Plain) (e : Entry) (h : List Entry) (n k : ℕ) (frontends : List FrontendRows) → list_any (has_version n) (map_from (frontend_after p (e ∷ h)) k frontends) ≡ true →
    (list_any (has_version n) (map_from (frontend_after p h) k frontends) ≡ true) ⊎ (n ≡ in_force (newest_number p) h)
frontends_before p e h n k [] is = absurd (false≢true is)
frontends_before p e h n k (own ∷ frontends) is =
    let first : Bool = has_version n (frontend_after p h k own) in
    let rest : Bool = list_any (has_version n) (map_from (frontend_after p h) (k + 1) frontends) in
    elim (or_true (has_version n (frontend_after p (e ∷ h) k own)) (list_any (has_version n) (map_from (frontend_after p (e ∷ h)) (k + 1) frontends)) is) [
      | inl here ↦ elim (frontend_before p e h n k own here) [
        | inl yes' ↦ inl (or_left first rest yes')
        | inr same ↦ inr same
      ]
      | inr later ↦ elim (frontends_before p e h n (k + 1) frontends later) [
        | inl yes' ↦ inl (or_right first rest yes')
        | inr same ↦ inr same
      ]
    ]

-- the number in force is needed
pub force-needed : (p : Plain) (h : List Entry) (n : ℕ) → n ≡ in_force (newest_number p) h → needed_after p h n ≡ true
force-needed p h n same = or_left (n == in_force (newest_number p) h) (list_any (has_version n) (frontends_after p h)) (eq-eqb n (in_force (newest_number p) h) same)

pub needed-before : (p : Plain) (e : Entry) (h : List Entry) → IsLegal p (e ∷ h) → (n : ℕ) → needed_after p (e ∷ h) n ≡ true →
    (needed_after p h n ≡ true) ⊎ (n ≡ in_force (newest_number p) h + 1)
needed-before p e h legal n is =
    elim (or_true (n == in_force (newest_number p) (e ∷ h)) (list_any (has_version n) (frontends_after p (e ∷ h))) is) [
      | inl force ↦ by (eqb-true n (in_force (newest_number p) (e ∷ h)) force) (turn p e h legal)
      | inr row ↦ elim (frontends_before p e h n 0 p.frontends row) [
        | inl yes' ↦ inl (or_right (n == in_force (newest_number p) h) (list_any (has_version n) (frontends_after p h)) yes')
        | inr same ↦ inl (force-needed p h n same)
      ]
    ]
  where
    by : n ≡ in_force (newest_number p) (e ∷ h) → Turn p e h → (needed_after p h n ≡ true) ⊎ (n ≡ in_force (newest_number p) h + 1)
    by force (stays none same) = inl (force-needed p h n (force ∙ same))
    by force (turns plan some next) = inr (force ∙ next)

-- What is needed is kept.

abbrev pub IsHeld : Plain → List Entry → ℕ → Type 0
IsHeld p h n = plan_of (after p h) [] n ≡ plan_of p h n

pub absent-held : (p : Plain) (h : List Entry) (n : ℕ) → Absent p h n → IsHeld p h n
absent-held p h n none = none.0 ∙ sym none.1

pub held : (p : Plain) → AllByRecursion (λ version. version.number ≤ newest_number p) p.versions → (h : List Entry) → IsLegal p h → (n : ℕ) → needed_after p h n ≡ true → IsHeld p h n
held p below [] legal n is = refl
held p below (e ∷ h) legal n is =
    let new' : Option Plan = look (option_to_list (version_of e)) n in
    let before : IsHeld p h n = elim (needed-before p e h legal n is) [
      | inl yes' ↦ held p below h legal.0 n yes'
      | inr next ↦ absent-held p h n (absent p below h legal.0 n (omega (arith, next)))
    ] in
    kept-more p e h n ∙ ap (λ b. if b then option_or (plan_of (after p h) [] n) new' else None) is ∙ ap (λ o. option_or o new') before
    ∙ sym (look-append (plans p h) (option_to_list (version_of e)) n)

-- The same plan from either state.

pub alike : (p : Plain) (h : List Entry) (n : ℕ) → IsHeld p h n → ReadsAlike p h n
alike p h n same [] = same
alike p h n same (e ∷ g) =
    let new' : List (ℕ × Plan) = option_to_list (version_of e) in
    look-append (plans (after p h) g) new' n ∙ ap (λ o. option_or o (look new' n)) (alike p h n same g) ∙ sym (look-append (plans p (g ++ h)) new' n)

-- The version of each open row is needed.

each-in : (rows : List Row) (frontends : List FrontendRows) (force number : ℕ) (own : FrontendRows) → slice_get frontends number ≡ Some own →
    ((n : ℕ) → list_any (λ row. row.version == n) rows ≡ true → has_version n own ≡ true) → AllByRecursion (λ row. is_needed frontends force row.version ≡ true) rows
each-in [] frontends force number own there among = tt
each-in (row ∷ rows) frontends force number own there among = (
  or_right (row.version == force) (list_any (has_version row.version) frontends)
      (any-at (has_version row.version) frontends number own there (among row.version (or_left (row.version == row.version) (list_any (λ r. r.version == row.version) rows) (eq-eqb row.version row.version refl)))),
  each-in rows frontends force number own there (λ n is. among n (or_right (row.version == n) (list_any (λ r. r.version == n) rows) is)),
)

pub open-needed : (frontends : List FrontendRows) (force number : ℕ) (own : FrontendRows) → slice_get frontends number ≡ Some own → AllByRecursion (λ row. is_needed frontends force row.version ≡ true) own.rows
open-needed frontends force number own there = each-in own.rows frontends force number own there (λ n is. is)

pub rows-needed : (p : Plain) (h : List Entry) (number : ℕ) (own : FrontendRows) → slice_get p.frontends number ≡ Some own →
    AllByRecursion (λ row. not (has_ended number h row.serial) ≡ true → needed_after p h row.version ≡ true) (own.rows ++ arrivals p number h)
rows-needed p h number own there =
    all-unfiltered (λ row. needed_after p h row.version ≡ true) (row_after p number h) (λ row. not (has_ended number h row.serial)) (own.rows ++ arrivals p number h)
    (open-needed (frontends_after p h) (in_force (newest_number p) h) number (frontend_after p h number own) (get-from_zero (frontend_after p h) p.frontends number own there))
