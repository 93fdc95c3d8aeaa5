-- Lines of which each is written once, and two lists side by side.
use Rattle.std.proofs.Common.{◌≡◌, Bool, true, false, OnOk, Result, Ok, Err, ℕ, zero, suc, ◌+◌, ◌<◌, ◌≤◌, List, [], ◌∷◌, ◌++◌, length, take, drop, get_or, Some, None, refl, sym, ap, ◌∙◌, append_assoc, append-nil, arith}
use Rattle.std.specs.Prelude.{filter, not, slice_get, codes, ◌&&◌, ◌||◌, if◌then◌else◌}
use Rattle.std.specs.List.{flat_map, list_any, zip}
use Rattle.std.specs.Str.{bytes_eq}
use Rattle.std.proofs.lemmas.List.{drop_more, take_more}
use Rattle.std.proofs.lemmas.List.Folds.{list_any-append}
use Rattle.std.proofs.lemmas.Option.{slice_get-get_or}
use Rattle.event_text.specs.Script.{ended_lines}
use Rattle.explain_core.specs.Text.{once}

-- a line is none of those
abbrev pub is_new : List (List ℕ) → List ℕ → Bool
is_new seen line = not (list_any (λ other. bytes_eq other line) seen)

-- two tests, one after the other, are one
filter-both : {X : Type 0} (p q r : X → Bool) (xs : List X) → ((x : X) → r x ≡ (q x && p x)) → filter p (filter q xs) ≡ filter r xs
filter-both p q r [] same = refl
filter-both p q r (x ∷ xs) same = by (q x) refl (p x) refl (filter-both p q r xs same)
  where
    by : (a : Bool) → q x ≡ a → (b : Bool) → p x ≡ b → filter p (filter q xs) ≡ filter r xs → filter p (filter q (x ∷ xs)) ≡ filter r (x ∷ xs)
    by true passes true here rest = let both : r x ≡ true = rw (same x, passes, here) refl in rw (passes, here, both) (ap (λ ys. x ∷ ys) rest)
    by true passes false here rest = let both : r x ≡ false = rw (same x, passes, here) refl in rw (passes, here, both) rest
    by false fails b here rest = let both : r x ≡ false = rw (same x, fails) refl in rw (fails, both) rest

not_either : (a b : Bool) → not (a || (b || false)) ≡ (not b && not a)
not_either true true = refl
not_either true false = refl
not_either false true = refl
not_either false false = refl

new_beside : (seen : List (List ℕ)) (line other : List ℕ) → is_new (seen ++ line ∷ []) other ≡ (not (bytes_eq line other) && is_new seen other)
new_beside seen line other =
    ap not (list_any-append (λ (it : List ℕ). bytes_eq it other) seen (line ∷ []))
    ∙ not_either (list_any (λ (it : List ℕ). bytes_eq it other) seen) (bytes_eq line other)

later : (seen : List (List ℕ)) (line : List ℕ) (lines : List (List ℕ)) →
    filter (is_new seen) (filter (λ other. not (bytes_eq line other)) (once lines)) ≡ filter (is_new (seen ++ line ∷ [])) (once lines)
later seen line lines = filter-both (is_new seen) (λ other. not (bytes_eq line other)) (is_new (seen ++ line ∷ [])) (once lines) (new_beside seen line)

-- a line that is among those before it is not written again
pub once_seen : (seen : List (List ℕ)) (line : List ℕ) (lines : List (List ℕ)) → list_any (λ other. bytes_eq other line) seen ≡ true →
    filter (is_new seen) (once (line ∷ lines)) ≡ filter (is_new (seen ++ line ∷ [])) (once lines)
once_seen seen line lines is =
    let old : is_new seen line ≡ false = ap not is in
    rw old (later seen line lines)

-- and another is
pub once_new : (seen : List (List ℕ)) (line : List ℕ) (lines : List (List ℕ)) → list_any (λ other. bytes_eq other line) seen ≡ false →
    filter (is_new seen) (once (line ∷ lines)) ≡ line ∷ filter (is_new (seen ++ line ∷ [])) (once lines)
once_new seen line lines is =
    let new : is_new seen line ≡ true = ap not is in
    rw new (ap (λ ls. line ∷ ls) (later seen line lines))

-- all lines are new at first
pub once_first : (lines : List (List ℕ)) → filter (is_new []) lines ≡ lines
once_first [] = refl
once_first (line ∷ lines) = ap (λ ls. line ∷ ls) (once_first lines)

-- At a place of a list.

next_is : {X : Type 0} (xs : List X) (i : ℕ) (x : X) → i < length xs → x ≡ get_or xs i x → drop i xs ≡ x ∷ drop (i + 1) xs
next_is xs i x within is = drop_more xs i x within ∙ ap (λ y. y ∷ drop (i + 1) xs) (sym is)

so_far : {X : Type 0} (xs : List X) (i : ℕ) (x : X) → i < length xs → x ≡ get_or xs i x → take (i + 1) xs ≡ take i xs ++ x ∷ []
so_far xs i x within is = take_more xs i x within ∙ ap (λ y. take i xs ++ y ∷ []) (sym is)

pub seen_at : (lines : List (List ℕ)) (i : ℕ) (line : List ℕ) → i < length lines → line ≡ get_or lines i line → list_any (λ other. bytes_eq other line) (take i lines) ≡ true →
    filter (is_new (take i lines)) (once (drop i lines)) ≡ filter (is_new (take (i + 1) lines)) (once (drop (i + 1) lines))
seen_at lines i line within is old =
    ap (λ ls. filter (is_new (take i lines)) (once ls)) (next_is lines i line within is)
    ∙ once_seen (take i lines) line (drop (i + 1) lines) old
    ∙ ap (λ seen. filter (is_new seen) (once (drop (i + 1) lines))) (sym (so_far lines i line within is))

pub new_at : (lines : List (List ℕ)) (i : ℕ) (line : List ℕ) → i < length lines → line ≡ get_or lines i line → list_any (λ other. bytes_eq other line) (take i lines) ≡ false →
    filter (is_new (take i lines)) (once (drop i lines)) ≡ line ∷ filter (is_new (take (i + 1) lines)) (once (drop (i + 1) lines))
new_at lines i line within is new =
    ap (λ ls. filter (is_new (take i lines)) (once ls)) (next_is lines i line within is)
    ∙ once_new (take i lines) line (drop (i + 1) lines) new
    ∙ ap (λ seen. line ∷ filter (is_new seen) (once (drop (i + 1) lines))) (sym (so_far lines i line within is))

-- what is written of the line at a place, and of those after it
pub once_at : (lines : List (List ℕ)) (i : ℕ) (line : List ℕ) → i < length lines → line ≡ get_or lines i line →
    ended_lines (filter (is_new (take i lines)) (once (drop i lines)))
    ≡ (if list_any (λ other. bytes_eq other line) (take i lines) then [] else line ++ codes "\n") ++ ended_lines (filter (is_new (take (i + 1) lines)) (once (drop (i + 1) lines)))
once_at lines i line within is = by (list_any (λ other. bytes_eq other line) (take i lines)) refl
  where
    by : (b : Bool) → list_any (λ other. bytes_eq other line) (take i lines) ≡ b →
        ended_lines (filter (is_new (take i lines)) (once (drop i lines)))
        ≡ (if list_any (λ other. bytes_eq other line) (take i lines) then [] else line ++ codes "\n") ++ ended_lines (filter (is_new (take (i + 1) lines)) (once (drop (i + 1) lines)))
    by true old = rw old (ap ended_lines (seen_at lines i line within is old))
    by false new = rw new (ap ended_lines (new_at lines i line within is new))

pub once_next : (lines : List (List ℕ)) (i : ℕ) (line read : List ℕ) (seen : List (List ℕ)) (out new whole : List ℕ) → i < length lines → line ≡ get_or lines i line → read ≡ line → seen ≡ take i lines →
    new ≡ out ++ (if list_any (λ other. bytes_eq other read) seen then [] else read ++ codes "\n") → out ++ ended_lines (filter (is_new (take i lines)) (once (drop i lines))) ≡ whole →
    new ++ ended_lines (filter (is_new (take (i + 1) lines)) (once (drop (i + 1) lines))) ≡ whole
once_next lines i line read seen out new whole within is reads before written known =
    let more : List ℕ = ended_lines (filter (is_new (take (i + 1) lines)) (once (drop (i + 1) lines))) in
    let here : List (List ℕ) → List ℕ → List ℕ = λ seen read. if list_any (λ other. bytes_eq other read) seen then [] else read ++ codes "\n" in
    ap (λ xs. xs ++ more) (written ∙ ap (λ xs. out ++ here xs read) before ∙ ap (λ r. out ++ here (take i lines) r) reads)
    ∙ append_assoc out (here (take i lines) line) more
    ∙ ap (λ xs. out ++ xs) (sym (once_at lines i line within is))
    ∙ known

-- Two lists side by side, from a place on.

pub zip_next : {X Y : Type 0} (xs : List X) (ys : List Y) (n : ℕ) (x : X) (y : Y) → slice_get xs n ≡ Some x → slice_get ys n ≡ Some y → zip (drop n xs) (drop n ys) ≡ (x, y) ∷ zip (drop (n + 1) xs) (drop (n + 1) ys)
zip_next [] ys n x y is there = absurd (let wrong : None ≡ Some x = is in cc)
zip_next (a ∷ xs) [] n x y is there = absurd (let wrong : None ≡ Some y = there in cc)
zip_next (a ∷ xs) (b ∷ ys) zero x y is there =
    let left : a ≡ x = let e : Some a ≡ Some x = is in cc in
    let right : b ≡ y = let e : Some b ≡ Some y = there in cc in
    ap (λ z. (z, b) ∷ zip xs ys) left ∙ ap (λ z. (x, z) ∷ zip xs ys) right
zip_next (a ∷ xs) (b ∷ ys) (suc n) x y is there =
    let next : suc n + 1 ≡ suc (n + 1) = omega arith in
    rw next (zip_next xs ys n x y is there)

pub zip_ended : {X Y : Type 0} (xs : List X) (ys : List Y) (n : ℕ) → slice_get xs n ≡ None → zip (drop n xs) (drop n ys) ≡ []
zip_ended [] ys zero none = refl
zip_ended [] ys (suc n) none = refl
zip_ended {X} (x ∷ xs) ys zero none = absurd (let wrong : Some x ≡ None = none in cc)
zip_ended (x ∷ xs) [] (suc n) none = nothing (drop n xs)
  where
    nothing : {A B : Type 0} (list : List A) → zip {K = A} {X = B} list [] ≡ []
    nothing [] = refl
    nothing (a ∷ list) = refl
zip_ended (x ∷ xs) (y ∷ ys) (suc n) none = zip_ended xs ys n none

pub zip_done : {X Y : Type 0} (xs : List X) (ys : List Y) (n : ℕ) → length ys ≤ n → zip (drop n xs) (drop n ys) ≡ []
zip_done {X} {Y} xs ys n past = rw (past_end ys n past) (nothing (drop n xs))
  where
    past_end : (list : List Y) (n : ℕ) → length list ≤ n → drop n list ≡ []
    past_end [] zero le = refl
    past_end [] (suc n) le = refl
    past_end (y ∷ list) zero le = absurd (omega (arith, le))
    past_end (y ∷ list) (suc n) le = past_end list n (omega (arith, le))

    nothing : (list : List X) → zip {K = X} {X = Y} list [] ≡ []
    nothing [] = refl
    nothing (x ∷ list) = refl

-- what is written of each pair, from a place on
pub shown_next : {T X Y : Type 0} (f : T → X × Y → List ℕ) (t u : T) → u ≡ t → (xs : List X) (ys : List Y) (n : ℕ) (x : X) (d : Y) (out new whole : List ℕ) → n < length ys → slice_get xs n ≡ Some x →
    new ≡ out ++ f u (x, get_or ys n d) → out ++ flat_map (f t) (zip (drop n xs) (drop n ys)) ≡ whole → new ++ flat_map (f t) (zip (drop (n + 1) xs) (drop (n + 1) ys)) ≡ whole
shown_next f t u same xs ys n x d out new whole within there is known =
    let more : List ℕ = flat_map (f t) (zip (drop (n + 1) xs) (drop (n + 1) ys)) in
    let next : zip (drop n xs) (drop n ys) ≡ (x, get_or ys n d) ∷ zip (drop (n + 1) xs) (drop (n + 1) ys) = zip_next xs ys n x (get_or ys n d) there (slice_get-get_or ys n d within) in
    ap (λ new. new ++ more) (is ∙ ap (λ w. out ++ f w (x, get_or ys n d)) same)
    ∙ append_assoc out (f t (x, get_or ys n d)) more
    ∙ ap (λ pairs. out ++ flat_map (f t) pairs) (sym next)
    ∙ known

pub shown_all : {P : Type 0} (f : P → List ℕ) (pairs : List P) (out whole : List ℕ) → pairs ≡ [] → out ++ flat_map f pairs ≡ whole → out ≡ whole
shown_all f pairs out whole none known = sym (append-nil out) ∙ ap (λ list. out ++ flat_map f list) (sym none) ∙ known

-- A call that succeeds.

pub on_ok : {X E : Type 0} (r : Result X E) (P Q : Type 0) → (P → Q) → OnOk r P → OnOk r Q
on_ok (Ok x) P Q more known = more known
on_ok (Err e) P Q more known = tt
