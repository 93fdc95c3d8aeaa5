-- Entries by their places, and the orders of places.
use Rattle.std.proofs.Common.{◌≡◌, ◌≢◌, ◌<◌, ◌+◌, ◌⊎◌, ℕ, zero, suc, Bool, true, false, not, cond, eqb, List, [], ◌∷◌, ◌++◌, length, map, get_or, set, take, Some, None, inl, inr, refl, sym, ap, subst, ◌∙◌, arith, length-append}
use Rattle.std.specs.Prelude.{filter, find, option_map, option_to_list, slice_get}
use Rattle.std.specs.List.{list_any}
use Rattle.std.specs.Option.{is_some}
use Rattle.std.proofs.lemmas.List.{append-nil, get_or_append_left}
use Rattle.std.proofs.lemmas.List.Elements.{filter-append}
use Rattle.std.proofs.lemmas.Option.{slice_get-get_or}
use Rattle.addr_core.specs.declared.addr.Addr.{Addr}
use Rattle.addr_core.proofs.SameLemmas.{same_addr-is}
use Rattle.stick_core.specs.declared.entries.StickEntry.{StickEntry}
use Rattle.stick_core.specs.declared.index.Counts.{Counts}
use Rattle.stick_core.specs.Entries.{is_of, is_free, is_gone, living, others, touched, without_first_free}
use Rattle.stick_core.specs.Index.{key_at, nothing, with_counts, IsNoPlaceOf, IsPlaceOf}
use Rattle.stick_core.specs.Places.{entry_at, entry_of_pair, free_at, ranked, IsKept}
use Rattle.stick_core.specs.Ring.{Ranking, Has, Lacks, Distinct, Below, without, next_of}
use Rattle.stick_core.specs.PlainEntries.{plain}
use Rattle.stick_core.proofs.ChainLemmas.{get-set, get-set-apart}
use Rattle.stick_core.proofs.IndexLemmas.{length-put}
use Rattle.stick_core.proofs.PlainLemmas.{plain-append}
use Rattle.stick_core.proofs.TouchLemmas.{gone-here, gone-past, key-found}
use Rattle.stick_core.proofs.RingLemmas.{has-at, next-at, eqb-self, eqb-is, eqb-apart, eqb-differ, lacks-itself, without-lacks, length-without, below-lacks, below-push, below-more, below-without, has-before, has-below, has-moved, has-push, once-push, once-without}

-- by what places are told apart
abbrev pub IsAt : (ℕ → Bool) → ℕ → ℕ → Type 0
IsAt test n p = (q : ℕ) → q < n → test q ≡ eqb q p

pub others-map : (f : ℕ → StickEntry) (key : Addr) (n p : ℕ) → IsAt (λ q. is_of key (f q)) n p → (xs : List ℕ) → Below n xs → others key (map f xs) ≡ map f (without p xs)
others-map f key n p at [] below = refl
others-map f key n p at (x ∷ xs) below = by (eqb x p) refl (others-map f key n p at xs below.1)
  where
    by : (t : Bool) → eqb x p ≡ t → others key (map f xs) ≡ map f (without p xs) → others key (map f (x ∷ xs)) ≡ map f (without p (x ∷ xs))
    by true is more = let of : is_of key (f x) ≡ true = at x below.0 ∙ is in rw (of, is) more
    by false is more = let of : is_of key (f x) ≡ false = at x below.0 ∙ is in rw (of, is) (ap (λ l. f x ∷ l) more)

pub find-map : (f : ℕ → StickEntry) (key : Addr) (n p : ℕ) → IsAt (λ q. is_of key (f q)) n p → (xs : List ℕ) → Below n xs → Has p xs → ((x : ℕ) → eqb x p ≡ true → x ≡ p) → ((x : ℕ) → eqb x p ≡ false → x ≢ p)
    → find (is_of key) (map f xs) ≡ Some (f p)
find-map f key n p at [] below has same apart = absurd has
find-map f key n p at (x ∷ xs) below has same apart = by (eqb x p) refl has (λ more. find-map f key n p at xs below.1 more same apart)
  where
    by : (t : Bool) → eqb x p ≡ t → Has p (x ∷ xs) → (Has p xs → find (is_of key) (map f xs) ≡ Some (f p)) → find (is_of key) (map f (x ∷ xs)) ≡ Some (f p)
    by true is has more = let of : is_of key (f x) ≡ true = at x below.0 ∙ is in rw of (ap (λ k. Some (f k)) (same x is))
    by false is (inl here) more = absurd (apart x is (sym here))
    by false is (inr there) more = let of : is_of key (f x) ≡ false = at x below.0 ∙ is in rw of (more there)

pub find-none : (f : ℕ → StickEntry) (key : Addr) (n : ℕ) → ((q : ℕ) → q < n → is_of key (f q) ≡ false) → (xs : List ℕ) → Below n xs → find (is_of key) (map f xs) ≡ None
find-none f key n at [] below = refl
find-none f key n at (x ∷ xs) below = let of : is_of key (f x) ≡ false = at x below.0 in rw of (find-none f key n at xs below.1)

-- entries that change only at a place
pub map-apart : (f g : ℕ → StickEntry) (p : ℕ) → ((q : ℕ) → q ≢ p → g q ≡ f q) → (xs : List ℕ) → Lacks p xs → map g xs ≡ map f xs
map-apart f g p same [] lacks = refl
map-apart f g p same (x ∷ xs) lacks =
    let here : g x ≡ f x = same x (λ is. lacks.0 (sym is)) in
    rw here (ap (λ l. f x ∷ l) (map-apart f g p same xs lacks.1))

pub filter-apart : (f g : ℕ → Bool) (p : ℕ) → ((q : ℕ) → q ≢ p → g q ≡ f q) → (xs : List ℕ) → Lacks p xs → filter g xs ≡ filter f xs
filter-apart f g p same [] lacks = refl
filter-apart f g p same (x ∷ xs) lacks =
    let here : g x ≡ f x = same x (λ is. lacks.0 (sym is)) in
    rw here (ap (λ l. cond (f x) (x ∷ l) l) (filter-apart f g p same xs lacks.1))

-- a place that does not pass is not among those that do
pub lacks-filter : (f : ℕ → Bool) (p : ℕ) → f p ≡ false → (xs : List ℕ) → Lacks p (filter f xs)
lacks-filter f p fails [] = tt
lacks-filter f p fails (x ∷ xs) = by (f x) refl (lacks-filter f p fails xs)
  where
    by : (t : Bool) → f x ≡ t → Lacks p (filter f xs) → Lacks p (filter f (x ∷ xs))
    by true is more = rw is ((λ same. absurd (let wrong : true ≡ false = sym is ∙ ap f (sym same) ∙ fails in cc)), more)
    by false is more = rw is more

pub has-filter : (f : ℕ → Bool) (p : ℕ) → f p ≡ true → (xs : List ℕ) → Has p xs → Has p (filter f xs)
has-filter f p passes [] has = absurd has
has-filter f p passes (x ∷ xs) has = by (f x) refl has (has-filter f p passes xs)
  where
    by : (t : Bool) → f x ≡ t → Has p (x ∷ xs) → (Has p xs → Has p (filter f xs)) → Has p (filter f (x ∷ xs))
    by true is (inl here) more = rw is (inl here)
    by true is (inr there) more = rw is (inr (more there))
    by false is (inl here) more = absurd (let wrong : true ≡ false = sym passes ∙ ap f here ∙ is in cc)
    by false is (inr there) more = rw is (more there)

-- filters that commute
pub filter-without : (f : ℕ → Bool) (p : ℕ) (xs : List ℕ) → filter f (without p xs) ≡ without p (filter f xs)
filter-without f p [] = refl
filter-without f p (x ∷ xs) = by (eqb x p) refl (f x) refl (filter-without f p xs)
  where
    by : (t : Bool) → eqb x p ≡ t → (u : Bool) → f x ≡ u → filter f (without p xs) ≡ without p (filter f xs) → filter f (without p (x ∷ xs)) ≡ without p (filter f (x ∷ xs))
    by true is true passes more = simp (is, passes) more
    by true is false passes more = simp (is, passes) more
    by false is true passes more = simp (is, passes) (ap (λ l. x ∷ l) more)
    by false is false passes more = simp (is, passes) more

pub filter-push : (f : ℕ → Bool) (xs : List ℕ) (p : ℕ) → filter f (xs ++ p ∷ []) ≡ filter f xs ++ cond (f p) (p ∷ []) []
filter-push f [] p = refl
filter-push f (x ∷ xs) p = by (f x) refl (filter-push f xs p)
  where
    by : (t : Bool) → f x ≡ t → filter f (xs ++ p ∷ []) ≡ filter f xs ++ cond (f p) (p ∷ []) [] → filter f (x ∷ (xs ++ p ∷ [])) ≡ filter f (x ∷ xs) ++ cond (f p) (p ∷ []) []
    by true is more = rw is (ap (λ l. x ∷ l) more)
    by false is more = rw is more

pub map-push : (f : ℕ → StickEntry) (xs : List ℕ) (p : ℕ) → map f (xs ++ p ∷ []) ≡ map f xs ++ f p ∷ []
map-push f [] p = refl
map-push f (x ∷ xs) p = ap (λ l. f x ∷ l) (map-push f xs p)

-- Places by the keys of an index.

pub found-entry : (es : List (Addr × Counts)) (touched free : Ranking) (key : Addr) (p : ℕ) → IsKept es touched free → IsPlaceOf key es p → find (is_of key) (ranked es touched.order) ≡ Some (entry_at es p)
found-entry es touched free key p kept its =
    find-map (entry_at es) key (length es) p its.each touched.order kept.below (kept.each p its.within) (λ x e. eqb-is x p e) (λ x e. eqb-differ x p e)

pub missing-entry : (es : List (Addr × Counts)) (touched free : Ranking) (key : Addr) → IsKept es touched free → IsNoPlaceOf key es → find (is_of key) (ranked es touched.order) ≡ None
missing-entry es touched free key kept none = find-none (entry_at es) key (length es) none touched.order kept.below

-- what is not found has no place
none-has : (f : ℕ → StickEntry) (key : Addr) (xs : List ℕ) (q : ℕ) → find (is_of key) (map f xs) ≡ None → Has q xs → is_of key (f q) ≡ false
none-has f key [] q none has = absurd has
none-has f key (x ∷ xs) q none has = by (is_of key (f x)) refl none has (none-has f key xs q)
  where
    by : (b : Bool) → is_of key (f x) ≡ b → find (is_of key) (map f (x ∷ xs)) ≡ None → Has q (x ∷ xs) → (find (is_of key) (map f xs) ≡ None → Has q xs → is_of key (f q) ≡ false) → is_of key (f q) ≡ false
    by true is none has more = absurd (let wrong : Some (f x) ≡ None = rw is at none in cc)
    by false is none (inl here) more = ap (λ k. is_of key (f k)) here ∙ is
    by false is none (inr there) more = more (rw is at none) there

pub no-place : (es : List (Addr × Counts)) (touched free : Ranking) (key : Addr) → IsKept es touched free → find (is_of key) (ranked es touched.order) ≡ None → IsNoPlaceOf key es
no-place es touched free key kept none = λ q less. none-has (entry_at es) key touched.order q none (kept.each q less)

-- more room changes nothing else
pub kept-same : (es es' : List (Addr × Counts)) (t t' f f' : Ranking) → IsKept es t f → es' ≡ es → t' ≡ record t { spare = t'.spare } → f' ≡ record f { spare = f'.spare }
    → IsKept es' t' f'
kept-same es es' t t' f f' kept same to fo =
    let order : t'.order ≡ t.order = ap (λ r. r.order) to in
    let free_order : f'.order ≡ f.order = ap (λ r. r.order) fo in
    record {
      touched_places = ap (λ r. r.places) to ∙ kept.touched_places ∙ ap length (sym same);
      free_places = ap (λ r. r.places) fo ∙ kept.free_places ∙ ap length (sym same);
      count = rw (same, order) kept.count;
      each = rw (same, order) kept.each;
      once = rw order kept.once;
      below = rw (same, order) kept.below;
      free_ones = rw (same, free_order, order) kept.free_ones;
    }

-- Writes at a place.

length-map : (f : ℕ → StickEntry) (xs : List ℕ) → length (map f xs) ≡ length xs
length-map f [] = refl
length-map f (x ∷ xs) = ap suc (length-map f xs)

pub set-entry : (es : List (Addr × Counts)) (p : ℕ) (counts : Counts) (e : StickEntry) → p < length es → e.key ≡ (entry_at es p).key → counts.cur ≡ e.cur → counts.cnt ≡ e.cnt → counts.last_touch ≡ e.last_touch → entry_at (with_counts es p counts) p ≡ e
set-entry es p counts e less key cur cnt last = ap entry_of_pair (get-set es p (key_at es p, counts) nothing less) ∙ rw (← key, cur, cnt, last) refl

pub set-entry-apart : (es : List (Addr × Counts)) (p : ℕ) (counts : Counts) (q : ℕ) → q ≢ p → entry_at (with_counts es p counts) q ≡ entry_at es q
set-entry-apart es p counts q apart = ap entry_of_pair (get-set-apart es p (key_at es p, counts) nothing q apart)

-- the free places once a place is moved to the end
pub free-moved : (es es' : List (Addr × Counts)) (p : ℕ) (xs : List ℕ) → ((q : ℕ) → q ≢ p → entry_at es' q ≡ entry_at es q)
    → filter (free_at es') (without p xs ++ p ∷ []) ≡ without p (filter (free_at es) xs) ++ cond (free_at es' p) (p ∷ []) []
free-moved es es' p xs apart =
    filter-push (free_at es') (without p xs) p
    ∙ ap (λ l. l ++ cond (free_at es' p) (p ∷ []) [])
    (filter-apart (free_at es) (free_at es') p (λ q differ. ap is_free (apart q differ)) (without p xs) (lacks-itself p xs) ∙ filter-without (free_at es) p xs)

length-ranked : (es : List (Addr × Counts)) (xs : List ℕ) → length (ranked es xs) ≡ length xs
length-ranked es xs = length-map (entry_at es) xs

-- there are as many entries as places
pub length-kept : (es : List (Addr × Counts)) (t f : Ranking) → IsKept es t f → length (ranked es t.order) ≡ length es
length-kept es t f kept = length-ranked es t.order ∙ kept.count

-- a place whose entry is changed is moved to the end
pub kept-moved : (es es' : List (Addr × Counts)) (p : ℕ) (t t' f f' : Ranking) → IsKept es t f → p < length es → length es' ≡ length es
    → ((q : ℕ) → q ≢ p → entry_at es' q ≡ entry_at es q)
    → t' ≡ record t { order = without p t.order ++ p ∷ [] }
    → f'.places ≡ f.places → f'.order ≡ without p f.order ++ cond (free_at es' p) (p ∷ []) []
    → IsKept es' t' f'
kept-moved es es' p t t' f f' kept less len apart moved fp fo =
    let order : List ℕ = without p t.order ++ p ∷ [] in
    let to : t'.order ≡ order = ap (λ r. r.order) moved in
    let tp : t'.places ≡ t.places = ap (λ r. r.places) moved in
    let has : Has p t.order = kept.each p less in
    let count : length order ≡ length t.order = omega (arith, length-append (without p t.order) (p ∷ []), length-without p t.order kept.once has) in
    let B : ℕ → Type 0 = λ n. Below n order in
    let is_below : Below (length es') order = subst B (sym len) (below-push (length es) p (without p t.order) (below-without (length es) p t.order kept.below) less) in
    record {
      touched_places = tp ∙ kept.touched_places ∙ sym len;
      free_places = fp ∙ kept.free_places ∙ sym len;
      count = ap length to ∙ count ∙ kept.count ∙ sym len;
      each = λ q q_in. rw to (has-moved q p t.order (kept.each q (omega (arith, q_in, len))));
      once = rw to (once-push p (without p t.order) (once-without p t.order kept.once) (lacks-itself p t.order));
      below = rw to is_below;
      free_ones = rw to (fo ∙ ap (λ l. without p l ++ cond (free_at es' p) (p ∷ []) []) kept.free_ones ∙ sym (free-moved es es' p t.order apart));
    }

-- the entries then
ranked-moved : (es es' : List (Addr × Counts)) (p : ℕ) (xs : List ℕ) → ((q : ℕ) → q ≢ p → entry_at es' q ≡ entry_at es q)
    → ranked es' (without p xs ++ p ∷ []) ≡ ranked es (without p xs) ++ entry_at es' p ∷ []
ranked-moved es es' p xs apart =
    map-push (entry_at es') (without p xs) p ∙ ap (λ l. l ++ entry_at es' p ∷ []) (map-apart (entry_at es) (entry_at es') p apart (without p xs) (lacks-itself p xs))

-- The entry of a key is changed.

-- what the writes then come to
pub record IsPut (es es' : List (Addr × Counts)) (t t' f f' : Ranking) (key : Addr) (e : StickEntry) : Type 0 where
  pub kept : IsKept es' t' f'
  pub entries : ranked es' t'.order ≡ others key (ranked es t.order) ++ e ∷ []
  pub len : length (ranked es' t'.order) ≡ length (ranked es t.order)

pub put : (es es' : List (Addr × Counts)) (t t' f f' : Ranking) (key : Addr) (e : StickEntry) (counts : Counts) (p : ℕ) → IsKept es t f
    → IsPlaceOf key es p → e.key ≡ key
    → counts.cur ≡ e.cur → counts.cnt ≡ e.cnt → counts.last_touch ≡ e.last_touch → es' ≡ with_counts es p counts
    → t' ≡ record t { order = without p t.order ++ p ∷ [] }
    → f' ≡ record f { order = without p f.order ++ cond (is_free e) (p ∷ []) [] }
    → IsPut es es' t t' f f' key e
put es es' t t' f f' key e counts p kept its own cur cnt last written moved freed =
    let its_key : e.key ≡ (entry_at es p).key = own ∙ sym (same_addr-is (entry_at es p).key key (its.each p its.within ∙ eqb-self p)) in
    let here : entry_at es' p ≡ e = ap (λ l. entry_at l p) written ∙ set-entry es p counts e its.within its_key cur cnt last in
    let apart : (q : ℕ) → q ≢ p → entry_at es' q ≡ entry_at es q = λ q differ. ap (λ l. entry_at l q) written ∙ set-entry-apart es p counts q differ in
    let len : length es' ≡ length es = ap length written ∙ length-put es p (key_at es p, counts) in
    let is_kept : IsKept es' t' f' =
    kept-moved es es' p t t' f f' kept its.within len apart moved (ap (λ r. r.places) freed)
    (ap (λ r. r.order) freed ∙ ap (λ x. without p f.order ++ cond (is_free x) (p ∷ []) []) (sym here)) in
    record {
      kept = is_kept;
      entries =
          ap (λ r. ranked es' r.order) moved ∙ ranked-moved es es' p t.order apart
          ∙ ap (λ l. l ++ entry_at es' p ∷ []) (sym (others-map (entry_at es) key (length es) p its.each t.order kept.below))
          ∙ ap (λ x. others key (ranked es t.order) ++ x ∷ []) here;
      len = length-kept es' t' f' is_kept ∙ len ∙ sym (length-kept es t f kept);
    }

-- and the entry of a key at its place, changed
pub record IsChanged (change : StickEntry → StickEntry) (es es' : List (Addr × Counts)) (t t' f' : Ranking) (key : Addr) : Type 0 where
  pub kept : IsKept es' t' f'
  pub entries : ranked es' t'.order ≡ touched change key (ranked es t.order)
  pub len : length (ranked es' t'.order) ≡ length (ranked es t.order)

pub change-put : (change : StickEntry → StickEntry) → ((e : StickEntry) → (change e).key ≡ e.key) → (es es' : List (Addr × Counts)) (t t' f f' : Ranking) (key : Addr) (e : StickEntry) (p : ℕ)
    → IsKept es t f → IsPlaceOf key es p → e ≡ change (entry_at es p)
    → es' ≡ with_counts es p (record { cur = e.cur; cnt = e.cnt; last_touch = e.last_touch })
    → t' ≡ record t { order = without p t.order ++ p ∷ [] }
    → f' ≡ record f { order = without p f.order ++ cond (is_free e) (p ∷ []) [] }
    → IsChanged change es es' t t' f' key
change-put change keeps es es' t t' f f' key e p kept its is written moved freed =
    let there : find (is_of key) (ranked es t.order) ≡ Some (entry_at es p) = found-entry es t f key p kept its in
    let own : e.key ≡ key = ap (λ x. x.key) is ∙ keeps (entry_at es p) ∙ key-found key (ranked es t.order) (entry_at es p) there in
    let all : IsPut es es' t t' f f' key e = put es es' t t' f f' key e (record { cur = e.cur; cnt = e.cnt; last_touch = e.last_touch }) p kept its own refl refl refl written moved freed in
    record {
      kept = all.kept;
      entries =
          all.entries ∙ ap (λ x. others key (ranked es t.order) ++ x ∷ []) is
          ∙ ap (λ o. others key (ranked es t.order) ++ option_to_list (option_map change o)) (sym there);
      len = all.len;
    }

-- where the order of the free places has a place
pub free-has : (es : List (Addr × Counts)) (t f : Ranking) (p : ℕ) → IsKept es t f → p < length es → free_at es p ≡ true → Has p f.order
free-has es t f p kept less is = rw kept.free_ones (has-filter (free_at es) p is t.order (kept.each p less))

pub free-lacks : (es : List (Addr × Counts)) (t f : Ranking) (p : ℕ) → IsKept es t f → free_at es p ≡ false → Lacks p f.order
free-lacks es t f p kept is = rw kept.free_ones (lacks-filter (free_at es) p is t.order)

-- A key is added.

-- the next place is not in the order
pub new-lacks : (es : List (Addr × Counts)) (t f : Ranking) (n : ℕ) (order : List ℕ) → IsKept es t f → n ≡ t.places → order ≡ t.order → Lacks n order
new-lacks es t f n order kept is same = rw (is ∙ kept.touched_places, same) (below-lacks (length es) (length es) t.order kept.below (omega arith))

entry-before : (es : List (Addr × Counts)) (x : Addr × Counts) (q : ℕ) → q < length es → entry_at (es ++ x ∷ []) q ≡ entry_at es q
entry-before es x q less = ap entry_of_pair (get_or_append_left es (x ∷ []) nothing q less)

map-below : (f g : ℕ → StickEntry) (n : ℕ) → ((q : ℕ) → q < n → g q ≡ f q) → (xs : List ℕ) → Below n xs → map g xs ≡ map f xs
map-below f g n same [] below = refl
map-below f g n same (x ∷ xs) below =
    let here : g x ≡ f x = same x below.0 in
    rw here (ap (λ l. f x ∷ l) (map-below f g n same xs below.1))

filter-below : (f g : ℕ → Bool) (n : ℕ) → ((q : ℕ) → q < n → g q ≡ f q) → (xs : List ℕ) → Below n xs → filter g xs ≡ filter f xs
filter-below f g n same [] below = refl
filter-below f g n same (x ∷ xs) below =
    let here : g x ≡ f x = same x below.0 in
    rw here (ap (λ l. cond (f x) (x ∷ l) l) (filter-below f g n same xs below.1))

entry-last : (es : List (Addr × Counts)) (x : Addr × Counts) → entry_at (es ++ x ∷ []) (length es) ≡ entry_of_pair x
entry-last [] x = refl
entry-last (e ∷ es) x = entry-last es x

pub record IsAdded (es es' : List (Addr × Counts)) (t t' f' : Ranking) (e : StickEntry) : Type 0 where
  pub kept : IsKept es' t' f'
  pub entries : ranked es' t'.order ≡ ranked es t.order ++ e ∷ []

pub add : (es es' : List (Addr × Counts)) (t t' f f' : Ranking) (x : Addr × Counts) → IsKept es t f → is_free (entry_of_pair x) ≡ false → es' ≡ es ++ x ∷ []
    → t'.order ≡ t.order ++ t.places ∷ [] → t'.places ≡ t.places + 1 → f'.order ≡ f.order → f'.places ≡ f.places + 1
    → IsAdded es es' t t' f' (entry_of_pair x)
add es es' t t' f f' x kept busy pushed to tp fo fp =
    let n : ℕ = length es in
    let order : t'.order ≡ t.order ++ n ∷ [] = to ∙ ap (λ k. t.order ++ k ∷ []) kept.touched_places in
    let len : length es' ≡ n + 1 = ap length pushed ∙ length-append es (x ∷ []) in
    let before : (q : ℕ) → q < n → entry_at es' q ≡ entry_at es q = λ q less. ap (λ l. entry_at l q) pushed ∙ entry-before es x q less in
    let last : entry_at es' n ≡ entry_of_pair x = ap (λ l. entry_at l n) pushed ∙ entry-last es x in
    let not_free : free_at es' n ≡ false = ap is_free last ∙ busy in
    let lacks : Lacks n t.order = below-lacks n n t.order kept.below (omega arith) in
    let same_free : filter (free_at es') t.order ≡ filter (free_at es) t.order = filter-below (free_at es) (free_at es') n (λ q less. ap is_free (before q less)) t.order kept.below in
    let frees : filter (free_at es') (t.order ++ n ∷ []) ≡ filter (free_at es) t.order =
    filter-push (free_at es') t.order n ∙ ap (λ l. l ++ cond (free_at es' n) (n ∷ []) []) same_free
    ∙ ap (λ b. filter (free_at es) t.order ++ cond b (n ∷ []) []) not_free ∙ append-nil (filter (free_at es) t.order) in
    let B : ℕ → Type 0 = λ k. Below k (t.order ++ n ∷ []) in
    let is_below : Below (length es') (t.order ++ n ∷ []) = subst B (sym len) (below-push (n + 1) n t.order (below-more n (n + 1) t.order kept.below (omega arith)) (omega arith)) in
    record {
      kept = record {
        touched_places = tp ∙ ap (λ k. k + 1) kept.touched_places ∙ sym len;
        free_places = fp ∙ ap (λ k. k + 1) kept.free_places ∙ sym len;
        count = ap length order ∙ length-append t.order (n ∷ []) ∙ ap (λ k. k + 1) kept.count ∙ sym len;
        each = λ q q_in. rw order (each q (omega (arith, q_in, len)));
        once = rw order (once-push n t.order kept.once lacks);
        below = rw order is_below;
        free_ones = rw order (fo ∙ kept.free_ones ∙ sym frees);
      };
      entries =
          ap (λ l. ranked es' l) order ∙ map-push (entry_at es') t.order n
          ∙ ap (λ l. l ++ entry_at es' n ∷ []) (map-below (entry_at es) (entry_at es') n before t.order kept.below)
          ∙ ap (λ e. ranked es t.order ++ e ∷ []) last;
    }
  where
    each : (q : ℕ) → q < length es + 1 → Has q (t.order ++ length es ∷ [])
    each q less = by (eqb q (length es)) refl
      where
        by : (b : Bool) → eqb q (length es) ≡ b → Has q (t.order ++ length es ∷ [])
        by true is = let P : ℕ → Type 0 = λ y. Has y (t.order ++ length es ∷ []) in subst P (sym (eqb-is q (length es) is)) (has-push (length es) t.order)
        by false is = let apart : q ≢ length es = eqb-differ q (length es) is in has-before q (length es) t.order (kept.each q (omega (arith, less, apart)))

-- A key is put in place of the first free one.

-- some entry is free exactly where there is a first free place
pub any-free : (es : List (Addr × Counts)) (xs : List ℕ) → is_some (slice_get (filter (free_at es) xs) 0) ≡ list_any is_free (ranked es xs)
any-free es [] = refl
any-free es (x ∷ xs) = by (free_at es x) refl (any-free es xs)
  where
    by : (t : Bool) → free_at es x ≡ t → is_some (slice_get (filter (free_at es) xs) 0) ≡ list_any is_free (ranked es xs) → is_some (slice_get (filter (free_at es) (x ∷ xs)) 0) ≡ list_any is_free (ranked es (x ∷ xs))
    by true is more = simp is refl
    by false is more = simp is more

-- the first free place is that of the first free entry
pub first-free : (es : List (Addr × Counts)) (xs : List ℕ) → option_map (entry_at es) (slice_get (filter (free_at es) xs) 0) ≡ find is_free (ranked es xs)
first-free es [] = refl
first-free es (x ∷ xs) = by (free_at es x) refl (first-free es xs)
  where
    by : (t : Bool) → free_at es x ≡ t → option_map (entry_at es) (slice_get (filter (free_at es) xs) 0) ≡ find is_free (ranked es xs)
        → option_map (entry_at es) (slice_get (filter (free_at es) (x ∷ xs)) 0) ≡ find is_free (ranked es (x ∷ xs))
    by true is more = simp is refl
    by false is more = simp is more

pub first-passes : (f : ℕ → Bool) (xs : List ℕ) (p : ℕ) → slice_get (filter f xs) 0 ≡ Some p → f p ≡ true
first-passes f [] p first = absurd (cc)
first-passes f (x ∷ xs) p first = by (f x) refl first (first-passes f xs p)
  where
    by : (t : Bool) → f x ≡ t → slice_get (filter f (x ∷ xs)) 0 ≡ Some p → (slice_get (filter f xs) 0 ≡ Some p → f p ≡ true) → f p ≡ true
    by true is first more =
        let found : Some x ≡ Some p = simp is at first in
        let same : x ≡ p = cc in
        ap f (sym same) ∙ is
    by false is first more = more (simp is at first)

-- the first free one is gone: the list without its place
pub gone-first : (es : List (Addr × Counts)) (xs : List ℕ) (p : ℕ) → Distinct xs → slice_get (filter (free_at es) xs) 0 ≡ Some p → without_first_free (ranked es xs) ≡ ranked es (without p xs)
gone-first es [] p once first = absurd (cc)
gone-first es (x ∷ xs) p once first = by (free_at es x) refl first (gone-first es xs p once.1)
  where
    by : (t : Bool) → free_at es x ≡ t → slice_get (filter (free_at es) (x ∷ xs)) 0 ≡ Some p → (slice_get (filter (free_at es) xs) 0 ≡ Some p → without_first_free (ranked es xs) ≡ ranked es (without p xs))
        → without_first_free (ranked es (x ∷ xs)) ≡ ranked es (without p (x ∷ xs))
    by true is first more =
        let found : Some x ≡ Some p = simp is at first in
        let same : x ≡ p = cc in
        let here : eqb x p ≡ true = ap (eqb x) (sym same) ∙ eqb-self x in
        let lacks : without x xs ≡ xs = without-lacks x xs once.0 in
        gone-here is_free (entry_at es x) (ranked es xs) is ∙ ap (λ l. ranked es l) (sym lacks ∙ ap (λ q. without q xs) same) ∙ rw here refl
    by false is first more =
        let passes : free_at es p ≡ true = first-passes (free_at es) (x ∷ xs) p first in
        let apart : eqb x p ≡ false = eqb-apart x p (λ same. let wrong : true ≡ false = sym passes ∙ ap (free_at es) (sym same) ∙ is in absurd (cc)) in
        gone-past is_free (entry_at es x) (ranked es xs) is ∙ ap (λ l. entry_at es x ∷ l) (more (simp is at first)) ∙ rw apart refl

has-first : (f : ℕ → Bool) (xs : List ℕ) (p : ℕ) → slice_get (filter f xs) 0 ≡ Some p → Has p (filter f xs)
has-first f xs p first = by (filter f xs) first
  where
    by : (l : List ℕ) → slice_get l 0 ≡ Some p → Has p l
    by [] first = absurd (cc)
    by (y ∷ ys) first = inl (let found : Some y ≡ Some p = first in cc)

-- the first of the free places
pub free-first : (es : List (Addr × Counts)) (t f : Ranking) (p : ℕ) → IsKept es t f → slice_get f.order 0 ≡ Some p → Has p f.order
free-first es t f p kept first = rw kept.free_ones (has-first (free_at es) t.order p (rw kept.free_ones at first))

place-below : (p n : ℕ) (xs : List ℕ) (f : ℕ → Bool) → Has p (filter f xs) → Below n xs → p < n
place-below p n [] f has below = absurd has
place-below p n (x ∷ xs) f has below = by (f x) refl has (λ more. place-below p n xs f more below.1)
  where
    here : (Has p (filter f xs) → p < n) → ((p ≡ x) ⊎ Has p (filter f xs)) → p < n
    here rest (inl same) = omega (arith, same, below.0)
    here rest (inr more) = rest more

    by : (t : Bool) → f x ≡ t → Has p (filter f (x ∷ xs)) → (Has p (filter f xs) → p < n) → p < n
    by true is has rest = here rest (rw is at has)
    by false is has rest = rest (rw is at has)

pub free-below : (es : List (Addr × Counts)) (t f : Ranking) (p : ℕ) → IsKept es t f → slice_get f.order 0 ≡ Some p → p < length es
free-below es t f p kept first = place-below p (length es) t.order (free_at es) (rw kept.free_ones at (free-first es t f p kept first)) kept.below

pub record IsReplaced (es es' : List (Addr × Counts)) (t t' f' : Ranking) (e : StickEntry) : Type 0 where
  pub kept : IsKept es' t' f'
  pub entries : ranked es' t'.order ≡ without_first_free (ranked es t.order) ++ e ∷ []

pub replace : (es es' : List (Addr × Counts)) (t t' f f' : Ranking) (x : Addr × Counts) (p : ℕ) → IsKept es t f → is_free (entry_of_pair x) ≡ false
    → slice_get f.order 0 ≡ Some p → es' ≡ set es p x
    → t' ≡ record t { order = without p t.order ++ p ∷ [] } → f' ≡ record f { order = without p f.order }
    → IsReplaced es es' t t' f' (entry_of_pair x)
replace es es' t t' f f' x p kept busy first written moved freed =
    let less : p < length es = free-below es t f p kept first in
    let here : entry_at es' p ≡ entry_of_pair x = ap (λ l. entry_at l p) written ∙ ap entry_of_pair (get-set es p x nothing less) in
    let apart : (q : ℕ) → q ≢ p → entry_at es' q ≡ entry_at es q = λ q differ. ap (λ l. entry_at l q) written ∙ ap entry_of_pair (get-set-apart es p x nothing q differ) in
    let len : length es' ≡ length es = ap length written ∙ length-put es p x in
    let not_free : free_at es' p ≡ false = ap is_free here ∙ busy in
    let is_kept : IsKept es' t' f' =
    kept-moved es es' p t t' f f' kept less len apart moved (ap (λ r. r.places) freed)
    (ap (λ r. r.order) freed ∙ sym (ap (λ b. without p f.order ++ cond b (p ∷ []) []) not_free ∙ append-nil (without p f.order))) in
    record {
      kept = is_kept;
      entries =
          ap (λ r. ranked es' r.order) moved ∙ ranked-moved es es' p t.order apart
          ∙ ap (λ l. l ++ entry_at es' p ∷ []) (sym (gone-first es t.order p kept.once (ap (λ l. slice_get l 0) (sym kept.free_ones) ∙ first)))
          ∙ ap (λ e. without_first_free (ranked es t.order) ++ e ∷ []) here;
    }

-- A walk along the order.

take-at : (xs : List ℕ) (n p : ℕ) → slice_get xs n ≡ Some p → take (suc n) xs ≡ take n xs ++ p ∷ []
take-at [] n p at = absurd (cc)
take-at (x ∷ xs) zero p at = let found : Some x ≡ Some p = at in let same : x ≡ p = cc in ap (λ y. y ∷ []) same
take-at (x ∷ xs) (suc n) p at = ap (λ l. x ∷ l) (take-at xs n p at)

-- the place after the one that is reached
pub step-next : (es : List (Addr × Counts)) (t f : Ranking) (n p : ℕ) → IsKept es t f → slice_get t.order n ≡ Some p → next_of p t.order ≡ slice_get t.order (n + 1)
step-next es t f n p kept at = next-at t.order n p kept.once at ∙ ap (slice_get t.order) (let one : suc n ≡ n + 1 = omega arith in one)

-- the entries that were passed then, without those that are gone
pub step-list : (expire moment : ℕ) (es : List (Addr × Counts)) (t : Ranking) (n p : ℕ) → slice_get t.order n ≡ Some p
    → plain (living expire moment (ranked es (take n t.order))) ++ plain (living expire moment (entry_at es p ∷ [])) ≡ plain (living expire moment (ranked es (take (n + 1) t.order)))
step-list expire moment es t n p at =
    let one : suc n ≡ n + 1 = omega arith in
    let passed : ranked es (take n t.order) ++ entry_at es p ∷ [] ≡ ranked es (take (n + 1) t.order) =
    sym (map-push (entry_at es) (take n t.order) p) ∙ ap (ranked es) (sym (take-at t.order n p at)) ∙ ap (λ k. ranked es (take k t.order)) one in
    sym (plain-append (living expire moment (ranked es (take n t.order))) (living expire moment (entry_at es p ∷ [])))
    ∙ ap plain (sym (filter-append (λ e. not (is_gone expire moment e)) (ranked es (take n t.order)) (entry_at es p ∷ [])))
    ∙ ap (λ l. plain (living expire moment l)) passed

pub step-below : (es : List (Addr × Counts)) (t f : Ranking) (n p : ℕ) → IsKept es t f → slice_get t.order n ≡ Some p → p < length es
step-below es t f n p kept at = has-below p (length es) t.order (has-at t.order n p at) kept.below

-- the walk does not end before the last entry
pub step-missing : (es : List (Addr × Counts)) (t f : Ranking) (n : ℕ) → IsKept es t f → n < length es → slice_get t.order n ≡ None → ⊥
step-missing es t f n kept less none =
    let within : n < length t.order = omega (arith, less, kept.count) in
    absurd (let wrong : None ≡ Some (get_or t.order n 0) = sym none ∙ slice_get-get_or t.order n 0 within in cc)
