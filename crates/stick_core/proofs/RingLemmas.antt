-- Taking a place out of a ring, putting one at its end, and walking it.
use Rattle.std.proofs.Common.{◌≡◌, ◌≢◌, ◌<◌, ◌≤◌, ◌+◌, ◌⊎◌, ℕ, zero, suc, Bool, true, false, cond, eqb, List, [], ◌∷◌, ◌++◌, length, Some, None, inl, inr, refl, sym, ap, subst, ◌∙◌, arith}
use Rattle.std.specs.Prelude.{slice_get}
use Rattle.std.specs.List.{IsDistinct, AllByRecursion, list_any}
use Rattle.std.proofs.lemmas.Map.Steps.{length-le_from_distinct_below}
use Rattle.std.proofs.lemmas.Bool.Decides.{nat_tests}
use Rattle.stick_core.specs.Ring.{Has, Lacks, Distinct, Below, without, Chain, walk, first_of, next_of, IsRing}

pub eqb-self : (q : ℕ) → eqb q q ≡ true
eqb-self q = grind (arith, nat_tests)

pub eqb-is : (p q : ℕ) → eqb p q ≡ true → p ≡ q
eqb-is p q e = grind (arith, nat_tests)

pub eqb-apart : (p q : ℕ) → p ≢ q → eqb p q ≡ false
eqb-apart p q n = grind (arith, nat_tests)

pub eqb-differ : (p q : ℕ) → eqb p q ≡ false → p ≢ q
eqb-differ p q e = λ is. grind (arith, nat_tests)

abbrev pub Agree : (ℕ → ℕ) → (ℕ → ℕ) → List ℕ → Type 0
Agree f g [] = Unit {0}
Agree f g (x ∷ xs) = (g x ≡ f x) × Agree f g xs

agree-apart : (f g : ℕ → ℕ) (p : ℕ) → ((q : ℕ) → q ≢ p → g q ≡ f q) → (xs : List ℕ) → Lacks p xs → Agree f g xs
agree-apart f g p same [] lacks = tt
agree-apart f g p same (x ∷ xs) lacks = (same x (λ e. lacks.0 (sym e)), agree-apart f g p same xs lacks.1)

pub frame : (a b a' b' : ℕ → ℕ) (s : ℕ) (xs : List ℕ) (e : ℕ) → Chain a b s xs e → a' s ≡ a s → Agree a a' xs → Agree b b' xs → b' e ≡ b e → Chain a' b' s xs e
frame a b a' b' s [] e c first aa ab be = (first ∙ c.0, be ∙ c.1)
frame a b a' b' s (x ∷ xs) e c first aa ab be = (first ∙ c.0, ab.0 ∙ c.1, frame a b a' b' x xs e c.2 aa.0 aa.1 ab.1 be)

-- the one before the end is in the list
not_last : (a b : ℕ → ℕ) (x : ℕ) (xs : List ℕ) (e y : ℕ) → Chain a b x xs e → y ≢ x → Lacks y xs → y ≢ b e
not_last a b x [] e y c nope lacks = λ is. nope (is ∙ c.1)
not_last a b x (z ∷ zs) e y c nope lacks = not_last a b z zs e y c.2 lacks.0 lacks.1

not_before : (a b : ℕ → ℕ) (x : ℕ) (xs : List ℕ) (e p y : ℕ) → Chain a b x xs e → Has p xs → y ≢ x → Lacks y xs → y ≢ b p
not_before a b x [] e p y c has nope lacks = absurd has
not_before a b x (z ∷ zs) e p y c (inl is) nope lacks = λ same. nope (same ∙ ap b is ∙ c.1)
not_before a b x (z ∷ zs) e p y c (inr more) nope lacks = not_before a b z zs e p y c.2 more lacks.0 lacks.1

not_next : (a b : ℕ → ℕ) (z : ℕ) (zs : List ℕ) (e y : ℕ) → Chain a b z zs e → y ≢ e → Lacks y zs → y ≢ a z
not_next a b z [] e y c nope lacks = λ is. nope (is ∙ c.0)
not_next a b z (w ∷ ws) e y c nope lacks = λ is. lacks.0 (is ∙ c.0)

not_after : (a b : ℕ → ℕ) (s : ℕ) (xs : List ℕ) (e p y : ℕ) → Chain a b s xs e → Has p xs → y ≢ e → Lacks y xs → y ≢ a p
not_after a b s [] e p y c has nope lacks = absurd has
not_after a b s (z ∷ zs) e p y c (inl is) nope lacks = λ same. not_next a b z zs e y c.2 nope lacks.1 (same ∙ ap a is)
not_after a b s (z ∷ zs) e p y c (inr more) nope lacks = not_after a b z zs e p y c.2 more nope lacks.1

-- a list that lacks a place is the same without it
pub without-lacks : (p : ℕ) (xs : List ℕ) → Lacks p xs → without p xs ≡ xs
without-lacks p [] lacks = refl
without-lacks p (x ∷ xs) lacks =
    let apart : eqb x p ≡ false = eqb-apart x p (λ e. lacks.0 (sym e)) in
    rw apart (ap (λ l. x ∷ l) (without-lacks p xs lacks.1))

-- the links once p is taken out
pub record Unlinked (a b a' b' : ℕ → ℕ) (p : ℕ) : Type 0 where
  pub after_here : a' (b p) ≡ a p
  pub after_apart : (q : ℕ) → q ≢ b p → a' q ≡ a q
  pub before_here : b' (a p) ≡ b p
  pub before_apart : (q : ℕ) → q ≢ a p → b' q ≡ b q

-- p, after s, is taken out
unlink-here : (a b a' b' : ℕ → ℕ) (p e : ℕ) → Unlinked a b a' b' p → (s : ℕ) (xs : List ℕ) → b p ≡ s → Chain a b p xs e → Distinct xs → Lacks s xs → Lacks e xs → Chain a' b' s xs e
unlink-here a b a' b' p e u s [] back c once sl el =
    (ap a' (sym back) ∙ u.after_here ∙ c.0, ap b' (sym c.0) ∙ u.before_here ∙ back)
unlink-here a b a' b' p e u s (y ∷ ys) back c once sl el =
    let not_y : (q : ℕ) → q ≢ y → q ≢ a p = λ q differ is. differ (is ∙ c.0) in
    let not_s : (q : ℕ) → q ≢ s → q ≢ b p = λ q differ is. differ (is ∙ back) in (
      ap a' (sym back) ∙ u.after_here ∙ c.0,
      ap b' (sym c.0) ∙ u.before_here ∙ back,
      frame a b a' b' y ys e c.2
          (u.after_apart y (not_s y (λ e. sl.0 (sym e))))
          (agree-apart a a' s (λ q differ. u.after_apart q (not_s q differ)) ys sl.1)
          (agree-apart b b' y (λ q differ. u.before_apart q (not_y q differ)) ys once.0)
          (u.before_apart e (not_y e el.0)),
    )

has-not : (p x : ℕ) (xs : List ℕ) → Has p (x ∷ xs) → x ≢ p → Has p xs
has-not p x xs (inl is) differ = absurd (differ (sym is))
has-not p x xs (inr more) differ = more

pub unlink : (a b a' b' : ℕ → ℕ) (p e : ℕ) → Unlinked a b a' b' p → (s : ℕ) (xs : List ℕ) → Chain a b s xs e → Has p xs → Distinct xs → Lacks s xs → Lacks e xs
    → Chain a' b' s (without p xs) e
unlink a b a' b' p e u s [] c has once sl el = absurd has
unlink a b a' b' p e u s (x ∷ xs) c has once sl el =
    by (eqb x p) refl (λ more. unlink a b a' b' p e u x xs c.2 more once.1 once.0 el.1)
  where
    by : (t : Bool) → eqb x p ≡ t → (Has p xs → Chain a' b' x (without p xs) e) → Chain a' b' s (without p (x ∷ xs)) e
    by true is more =
        let same : x ≡ p = eqb-is x p is in
        let back : b p ≡ s = ap b (sym same) ∙ c.1 in
        let P : ℕ → Type 0 = λ y. Chain a b y xs e in
        let Q : ℕ → Type 0 = λ y. Lacks y xs in
        let R : List ℕ → Type 0 = λ l. Chain a' b' s l e in
        rw is (subst R (sym (without-lacks p xs (subst Q same once.0))) (unlink-here a b a' b' p e u s xs back (subst P same c.2) once.1 sl.1 el.1))
    by false is more =
        let differ : x ≢ p = eqb-differ x p is in
        let in_rest : Has p xs = has-not p x xs has differ in
        rw is (
          u.after_apart s (not_before a b x xs e p s c.2 in_rest sl.0 sl.1) ∙ c.0,
          u.before_apart x (not_after a b x xs e p x c.2 in_rest (λ e. el.0 (sym e)) once.0) ∙ c.1,
          more in_rest,
        )

-- the links once p is put at the end
pub record Linked (a b a' b' : ℕ → ℕ) (p e : ℕ) : Type 0 where
  pub after_new : a' p ≡ e
  pub before_new : b' p ≡ b e
  pub after_last : a' (b e) ≡ p
  pub before_end : b' e ≡ p
  pub after_apart : (q : ℕ) → q ≢ p → q ≢ b e → a' q ≡ a q
  pub before_apart : (q : ℕ) → q ≢ p → q ≢ e → b' q ≡ b q

pub link : (a b a' b' : ℕ → ℕ) (p e : ℕ) → Linked a b a' b' p e → (s : ℕ) (xs : List ℕ) → Chain a b s xs e → s ≢ p → Lacks p xs → Distinct xs → Lacks s xs → Lacks e xs
    → Chain a' b' s (xs ++ p ∷ []) e
link a b a' b' p e l s [] c nope pl once sl el =
    (ap a' (sym c.1) ∙ l.after_last, l.before_new ∙ c.1, (l.after_new, l.before_end))
link a b a' b' p e l s (x ∷ xs) c nope pl once sl el = (
  l.after_apart s nope (not_last a b x xs e s c.2 sl.0 sl.1) ∙ c.0,
  l.before_apart x (λ is. pl.0 (sym is)) (λ is. el.0 (sym is)) ∙ c.1,
  link a b a' b' p e l x xs c.2 (λ is. pl.0 (sym is)) pl.1 once.1 once.0 el.1,
)

-- a walk is the list
pub walk_is : (a b : ℕ → ℕ) (s : ℕ) (xs : List ℕ) (e n : ℕ) → Chain a b s xs e → Lacks e xs → length xs ≤ n → walk a e n s ≡ xs
walk_is a b s [] e zero c el le = refl
walk_is a b s [] e (suc n) c el le = rw (c.0, eqb-self e) refl
walk_is a b s (x ∷ xs) e zero c el le = absurd (omega (arith, le))
walk_is a b s (x ∷ xs) e (suc n) c el le =
    let differ : eqb x e ≡ false = eqb-apart x e (λ is. el.0 (sym is)) in
    rw (c.0, differ) (ap (λ l. x ∷ l) (walk_is a b x xs e n c.2 el.1 (omega (arith, le))))

-- Rings.

pub below-lacks : (n e : ℕ) (xs : List ℕ) → Below n xs → n ≤ e → Lacks e xs
below-lacks n e [] below le = tt
below-lacks n e (x ∷ xs) below le = ((λ is. omega (arith, is, below.0, le)), below-lacks n e xs below.1 le)

pub has-below : (p n : ℕ) (xs : List ℕ) → Has p xs → Below n xs → p < n
has-below p n [] has below = absurd has
has-below p n (x ∷ xs) (inl is) below = omega (arith, is, below.0)
has-below p n (x ∷ xs) (inr more) below = has-below p n xs more below.1

pub lacks-without : (q p : ℕ) (xs : List ℕ) → Lacks q xs → Lacks q (without p xs)
lacks-without q p [] lacks = tt
lacks-without q p (x ∷ xs) lacks = by (eqb x p) refl (lacks-without q p xs lacks.1)
  where
    by : (t : Bool) → eqb x p ≡ t → Lacks q (without p xs) → Lacks q (without p (x ∷ xs))
    by true is more = rw is more
    by false is more = rw is (lacks.0, more)

pub once-without : (p : ℕ) (xs : List ℕ) → Distinct xs → Distinct (without p xs)
once-without p [] once = tt
once-without p (x ∷ xs) once = by (eqb x p) refl (once-without p xs once.1)
  where
    by : (t : Bool) → eqb x p ≡ t → Distinct (without p xs) → Distinct (without p (x ∷ xs))
    by true is more = rw is more
    by false is more = rw is (lacks-without x p xs once.0, more)

pub below-without : (n p : ℕ) (xs : List ℕ) → Below n xs → Below n (without p xs)
below-without n p [] below = tt
below-without n p (x ∷ xs) below = by (eqb x p) refl (below-without n p xs below.1)
  where
    by : (t : Bool) → eqb x p ≡ t → Below n (without p xs) → Below n (without p (x ∷ xs))
    by true is more = rw is more
    by false is more = rw is (below.0, more)

pub lacks-push : (q p : ℕ) (xs : List ℕ) → Lacks q xs → q ≢ p → Lacks q (xs ++ p ∷ [])
lacks-push q p [] lacks differ = (differ, tt)
lacks-push q p (x ∷ xs) lacks differ = (lacks.0, lacks-push q p xs lacks.1 differ)

pub once-push : (p : ℕ) (xs : List ℕ) → Distinct xs → Lacks p xs → Distinct (xs ++ p ∷ [])
once-push p [] once lacks = (tt, tt)
once-push p (x ∷ xs) once lacks = (lacks-push x p xs once.0 (λ is. lacks.0 (sym is)), once-push p xs once.1 lacks.1)

pub below-push : (n p : ℕ) (xs : List ℕ) → Below n xs → p < n → Below n (xs ++ p ∷ [])
below-push n p [] below less = (less, tt)
below-push n p (x ∷ xs) below less = (below.0, below-push n p xs below.1 less)

pub below-more : (n m : ℕ) (xs : List ℕ) → Below n xs → n ≤ m → Below m xs
below-more n m [] below le = tt
below-more n m (x ∷ xs) below le = (omega (arith, below.0, le), below-more n m xs below.1 le)

all_apart : (x : ℕ) (xs : List ℕ) → Lacks x xs → AllByRecursion (λ y. eqb x y ≡ false) xs
all_apart x [] lacks = tt
all_apart x (y ∷ ys) lacks = (eqb-apart x y lacks.0, all_apart x ys lacks.1)

is_distinct : (xs : List ℕ) → Distinct xs → IsDistinct eqb xs
unfolding IsDistinct
is_distinct [] once = tt
is_distinct (x ∷ xs) once = (all_apart x xs once.0, is_distinct xs once.1)

any-below : (n q : ℕ) (xs : List ℕ) → Below n xs → list_any (eqb q) xs ≡ true → q < n
any-below n q [] below any = absurd (cc)
any-below n q (x ∷ xs) below any = by (eqb q x) refl any (any-below n q xs below.1)
  where
    by : (t : Bool) → eqb q x ≡ t → list_any (eqb q) (x ∷ xs) ≡ true → (list_any (eqb q) xs ≡ true → q < n) → q < n
    by true is any more = omega (arith, eqb-is q x is, below.0)
    by false is any more = more (rw is at any)

-- a ring has no more places than there are
pub fits : (n : ℕ) (xs : List ℕ) → Distinct xs → Below n xs → length xs ≤ n
fits n xs once below = length-le_from_distinct_below xs n (is_distinct xs once) (λ q any. any-below n q xs below any)

pub walk-ring : (a b : ℕ → ℕ) (n e : ℕ) (xs : List ℕ) → IsRing a b n e xs → n ≤ e → walk a e n e ≡ xs
walk-ring a b n e xs ring le = walk_is a b e xs e n ring.chain (below-lacks n e xs ring.below le) (fits n xs ring.once ring.below)

pub ring-walk : (a b : ℕ → ℕ) (n e : ℕ) (xs : List ℕ) → IsRing a b n e xs → n ≤ e → IsRing a b n e (walk a e n e)
ring-walk a b n e xs ring le = let P : List ℕ → Type 0 = λ l. IsRing a b n e l in subst P (sym (walk-ring a b n e xs ring le)) ring

pub ring-without : (a b a' b' : ℕ → ℕ) (n e p : ℕ) (xs : List ℕ) → IsRing a b n e xs → n ≤ e → Has p xs → Unlinked a b a' b' p → IsRing a' b' n e (without p xs)
ring-without a b a' b' n e p xs ring le has u =
    let lacks : Lacks e xs = below-lacks n e xs ring.below le in
    record {
      chain = unlink a b a' b' p e u e xs ring.chain has ring.once lacks lacks;
      once = once-without p xs ring.once;
      below = below-without n p xs ring.below;
    }

pub ring-push : (a b a' b' : ℕ → ℕ) (n e p : ℕ) (xs : List ℕ) → IsRing a b n e xs → n ≤ e → p < n → Lacks p xs → Linked a b a' b' p e → IsRing a' b' n e (xs ++ p ∷ [])
ring-push a b a' b' n e p xs ring le less lacks l =
    let end_lacks : Lacks e xs = below-lacks n e xs ring.below le in
    record {
      chain = link a b a' b' p e l e xs ring.chain (λ is. omega (arith, is, less, le)) lacks ring.once end_lacks end_lacks;
      once = once-push p xs ring.once lacks;
      below = below-push n p xs ring.below less;
    }

-- where links lead from a place and to it is a place
places_after : (a b : ℕ → ℕ) (n s : ℕ) (xs : List ℕ) (e p : ℕ) → Chain a b s xs e → Below n xs → Has p xs → (a p < n) ⊎ (a p ≡ e)
places_after a b n s [] e p c below has = absurd has
places_after a b n s (x ∷ []) e p c below (inl is) = inr (ap a is ∙ c.2.0)
places_after a b n s (x ∷ (y ∷ ys)) e p c below (inl is) = inl (let to : a p ≡ y = ap a is ∙ c.2.0 in omega (arith, to, below.1.0))
places_after a b n s (x ∷ xs) e p c below (inr more) = places_after a b n x xs e p c.2 below.1 more

places_before : (a b : ℕ → ℕ) (n s : ℕ) (xs : List ℕ) (e p : ℕ) → Chain a b s xs e → Below n xs → Has p xs → (b p < n) ⊎ (b p ≡ s)
places_before a b n s [] e p c below has = absurd has
places_before a b n s (x ∷ xs) e p c below (inl is) = inr (ap b is ∙ c.1)
places_before a b n s (x ∷ xs) e p c below (inr more) = by (places_before a b n x xs e p c.2 below.1 more)
  where
    by : ((b p < n) ⊎ (b p ≡ x)) → (b p < n) ⊎ (b p ≡ s)
    by (inl less) = inl less
    by (inr is) = inl (omega (arith, is, below.0))

place_last : (a b : ℕ → ℕ) (n s : ℕ) (xs : List ℕ) (e : ℕ) → Chain a b s xs e → Below n xs → (b e < n) ⊎ (b e ≡ s)
place_last a b n s [] e c below = inr c.1
place_last a b n s (x ∷ xs) e c below = by (place_last a b n x xs e c.2 below.1)
  where
    by : ((b e < n) ⊎ (b e ≡ x)) → (b e < n) ⊎ (b e ≡ s)
    by (inl less) = inl less
    by (inr is) = inl (omega (arith, is, below.0))

pub ring_after : (a b : ℕ → ℕ) (n e p : ℕ) (xs : List ℕ) → IsRing a b n e xs → Has p xs → (a p < n) ⊎ (a p ≡ e)
ring_after a b n e p xs ring has = places_after a b n e xs e p ring.chain ring.below has

pub ring_before : (a b : ℕ → ℕ) (n e p : ℕ) (xs : List ℕ) → IsRing a b n e xs → Has p xs → (b p < n) ⊎ (b p ≡ e)
ring_before a b n e p xs ring has = places_before a b n e xs e p ring.chain ring.below has

pub ring_last : (a b : ℕ → ℕ) (n e : ℕ) (xs : List ℕ) → IsRing a b n e xs → (b e < n) ⊎ (b e ≡ e)
ring_last a b n e xs ring = place_last a b n e xs e ring.chain ring.below

pub ring_has : (a b : ℕ → ℕ) (n e p : ℕ) (xs : List ℕ) → IsRing a b n e xs → Has p xs → p < n
ring_has a b n e p xs ring has = has-below p n xs has ring.below

-- the writes that take p out, and those that put it at the end
pub unlinked : (a b a1 b1 a2 b2 : ℕ → ℕ) (p x y : ℕ) → x ≡ b p → y ≡ a p
    → a1 x ≡ y → ((q : ℕ) → q ≢ x → a1 q ≡ a q) → ((q : ℕ) → b1 q ≡ b q)
    → b2 y ≡ x → ((q : ℕ) → q ≢ y → b2 q ≡ b1 q) → ((q : ℕ) → a2 q ≡ a1 q) → Unlinked a b a2 b2 p
unlinked a b a1 b1 a2 b2 p x y isx isy here apart kept here2 apart2 kept2 = record {
  after_here = kept2 (b p) ∙ ap a1 (sym isx) ∙ here ∙ isy;
  after_apart = λ q differ. kept2 q ∙ apart q (λ is. differ (is ∙ isx));
  before_here = ap b2 (sym isy) ∙ here2 ∙ isx;
  before_apart = λ q differ. apart2 q (λ is. differ (is ∙ isy)) ∙ kept q;
}

pub linked : (a b a1 b1 a2 b2 a3 b3 a4 b4 : ℕ → ℕ) (p e x : ℕ) → x ≡ b e → p ≢ e → p ≢ x
    → a1 x ≡ p → ((q : ℕ) → q ≢ x → a1 q ≡ a q) → ((q : ℕ) → b1 q ≡ b q)
    → b2 e ≡ p → ((q : ℕ) → q ≢ e → b2 q ≡ b1 q) → ((q : ℕ) → a2 q ≡ a1 q)
    → a3 p ≡ e → ((q : ℕ) → q ≢ p → a3 q ≡ a2 q) → ((q : ℕ) → b3 q ≡ b2 q)
    → b4 p ≡ x → ((q : ℕ) → q ≢ p → b4 q ≡ b3 q) → ((q : ℕ) → a4 q ≡ a3 q) → Linked a b a4 b4 p e
linked a b a1 b1 a2 b2 a3 b3 a4 b4 p e x isx pe px h1 p1 k1 h2 p2 k2 h3 p3 k3 h4 p4 k4 = record {
  after_new = k4 p ∙ h3;
  before_new = h4 ∙ isx;
  after_last = k4 (b e) ∙ p3 (b e) (λ is. px (sym (isx ∙ is))) ∙ k2 (b e) ∙ ap a1 (sym isx) ∙ h1;
  before_end = p4 e (λ is. pe (sym is)) ∙ k3 e ∙ h2;
  after_apart = λ q qp qx. k4 q ∙ p3 q qp ∙ k2 q ∙ p1 q (λ is. qx (is ∙ isx));
  before_apart = λ q qp qe. p4 q qp ∙ k3 q ∙ p2 q qe ∙ k1 q;
}

-- a place that is not in the ring is not its last
pub not_its_last : (a b : ℕ → ℕ) (n e p : ℕ) (xs : List ℕ) → IsRing a b n e xs → n ≤ e → p < n → Lacks p xs → p ≢ b e
not_its_last a b n e p xs ring le less lacks = not_last a b e xs e p ring.chain (λ is. omega (arith, is, less, le)) lacks

pub walked : (a b : ℕ → ℕ) (n m e : ℕ) (xs : List ℕ) → IsRing a b n e xs → m ≡ n → n ≤ e → walk a e m e ≡ xs
walked a b n m e xs ring same le = ap (λ k. walk a e k e) same ∙ walk-ring a b n e xs ring le

pub ring_is : (a b : ℕ → ℕ) (n m e : ℕ) (xs : List ℕ) → IsRing a b n e xs → m ≡ n → n ≤ e → IsRing a b m e (walk a e m e)
ring_is a b n m e xs ring same le =
    let P : ℕ → Type 0 = λ k. IsRing a b k e (walk a e k e) in
    subst P (sym same) (ring-walk a b n e xs ring le)

-- links that agree on a ring, among more places
agree-below : (f g : ℕ → ℕ) (n : ℕ) → ((q : ℕ) → q < n → g q ≡ f q) → (xs : List ℕ) → Below n xs → Agree f g xs
agree-below f g n same [] below = tt
agree-below f g n same (x ∷ xs) below = (same x below.0, agree-below f g n same xs below.1)

pub ring-more : (a b a' b' : ℕ → ℕ) (n m e : ℕ) (xs : List ℕ) → IsRing a b n e xs → n ≤ m → ((q : ℕ) → q < n → a' q ≡ a q) → ((q : ℕ) → q < n → b' q ≡ b q) → a' e ≡ a e → b' e ≡ b e
    → IsRing a' b' m e xs
ring-more a b a' b' n m e xs ring le sa sb ea eb = record {
  chain = frame a b a' b' e xs e ring.chain ea (agree-below a a' n sa xs ring.below) (agree-below b b' n sb xs ring.below) eb;
  once = ring.once;
  below = below-more n m xs ring.below le;
}

first_is : (a b : ℕ → ℕ) (x : ℕ) (xs : List ℕ) (e : ℕ) → Chain a b x xs e → Lacks e xs → first_of xs ≡ cond (eqb (a x) e) None (Some (a x))
first_is a b x [] e c el = rw (c.0, eqb-self e) refl
first_is a b x (y ∷ ys) e c el =
    let differ : eqb y e ≡ false = eqb-apart y e (λ is. el.0 (sym is)) in
    rw (c.0, differ) refl

pub next_is : (a b : ℕ → ℕ) (p e s : ℕ) (xs : List ℕ) → Chain a b s xs e → Has p xs → Lacks e xs → next_of p xs ≡ cond (eqb (a p) e) None (Some (a p))
next_is a b p e s [] c has el = absurd has
next_is a b p e s (x ∷ xs) c has el = by (eqb x p) refl (λ more. next_is a b p e x xs c.2 more el.1)
  where
    by : (t : Bool) → eqb x p ≡ t → (Has p xs → next_of p xs ≡ cond (eqb (a p) e) None (Some (a p))) → next_of p (x ∷ xs) ≡ cond (eqb (a p) e) None (Some (a p))
    by true is more =
        let same : x ≡ p = eqb-is x p is in
        rw is (first_is a b x xs e c.2 el.1 ∙ ap (λ k. cond (eqb (a k) e) None (Some (a k))) same)
    by false is more = rw is (more (has-not p x xs has (eqb-differ x p is)))

pub next_none : (a b : ℕ → ℕ) (n p e : ℕ) (xs : List ℕ) → IsRing a b n e xs → n ≤ e → Has p xs → a p ≡ e → None ≡ next_of p xs
next_none a b n p e xs ring le has is = sym (next_is a b p e e xs ring.chain has (below-lacks n e xs ring.below le) ∙ rw (is, eqb-self e) refl)

pub next_some : (a b : ℕ → ℕ) (n p e q : ℕ) (xs : List ℕ) → IsRing a b n e xs → n ≤ e → Has p xs → a p ≡ q → q ≢ e → Some q ≡ next_of p xs
next_some a b n p e q xs ring le has is differ =
    let apart : eqb q e ≡ false = eqb-apart q e differ in
    sym (next_is a b p e e xs ring.chain has (below-lacks n e xs ring.below le) ∙ rw (is, apart) refl)

-- a list without a place lacks it
pub lacks-itself : (p : ℕ) (xs : List ℕ) → Lacks p (without p xs)
lacks-itself p [] = tt
lacks-itself p (x ∷ xs) = by (eqb x p) refl (lacks-itself p xs)
  where
    by : (t : Bool) → eqb x p ≡ t → Lacks p (without p xs) → Lacks p (without p (x ∷ xs))
    by true is more = rw is more
    by false is more = rw is ((λ same. eqb-differ x p is (sym same)), more)

pub length-without : (p : ℕ) (xs : List ℕ) → Distinct xs → Has p xs → length (without p xs) + 1 ≡ length xs
length-without p [] once has = absurd has
length-without p (x ∷ xs) once has = by (eqb x p) refl (λ more. length-without p xs once.1 more)
  where
    by : (t : Bool) → eqb x p ≡ t → (Has p xs → length (without p xs) + 1 ≡ length xs) → length (without p (x ∷ xs)) + 1 ≡ length (x ∷ xs)
    by true is more =
        let same : x ≡ p = eqb-is x p is in
        let Q : ℕ → Type 0 = λ y. Lacks y xs in
        let rest : without p xs ≡ xs = without-lacks p xs (subst Q same once.0) in
        let len : length (without p xs) ≡ length xs = ap length rest in
        rw is (omega (arith, len))
    by false is more =
        let len : length (without p xs) + 1 ≡ length xs = more (has-not p x xs has (eqb-differ x p is)) in
        rw is (omega (arith, len))

pub has-push : (p : ℕ) (xs : List ℕ) → Has p (xs ++ p ∷ [])
has-push p [] = inl refl
has-push p (x ∷ xs) = inr (has-push p xs)

pub has-before : (q p : ℕ) (xs : List ℕ) → Has q xs → Has q (xs ++ p ∷ [])
has-before q p [] has = absurd has
has-before q p (x ∷ xs) (inl is) = inl is
has-before q p (x ∷ xs) (inr more) = inr (has-before q p xs more)

pub has-without : (q p : ℕ) (xs : List ℕ) → q ≢ p → Has q xs → Has q (without p xs)
has-without q p [] apart has = absurd has
has-without q p (x ∷ xs) apart has = by (eqb x p) refl has (has-without q p xs apart)
  where
    by : (t : Bool) → eqb x p ≡ t → Has q (x ∷ xs) → (Has q xs → Has q (without p xs)) → Has q (without p (x ∷ xs))
    by true is (inl here) more = absurd (apart (here ∙ eqb-is x p is))
    by true is (inr there) more = rw is (more there)
    by false is (inl here) more = rw is (inl here)
    by false is (inr there) more = rw is (inr (more there))

-- a place that is moved to the end
pub has-moved : (q p : ℕ) (xs : List ℕ) → Has q xs → Has q (without p xs ++ p ∷ [])
has-moved q p xs has = by (eqb q p) refl
  where
    by : (t : Bool) → eqb q p ≡ t → Has q (without p xs ++ p ∷ [])
    by true is = let P : ℕ → Type 0 = λ y. Has y (without p xs ++ p ∷ []) in subst P (sym (eqb-is q p is)) (has-push p (without p xs))
    by false is = has-before q p (without p xs) (has-without q p xs (eqb-differ q p is) has)

-- what a list with one place more lacks
pub lacks-split : (q p : ℕ) (xs : List ℕ) → Lacks q (xs ++ p ∷ []) → (q ≢ p) × Lacks q xs
lacks-split q p [] lacks = (lacks.0, tt)
lacks-split q p (x ∷ xs) lacks = let rest : (q ≢ p) × Lacks q xs = lacks-split q p xs lacks.1 in (rest.0, (lacks.0, rest.1))

-- A place that is not in a ring is next to none of it.

pub not_its_before : (a b : ℕ → ℕ) (n e p q : ℕ) (xs : List ℕ) → IsRing a b n e xs → Has p xs → q ≢ e → Lacks q xs → q ≢ b p
not_its_before a b n e p q xs ring has apart lacks = not_before a b e xs e p q ring.chain has apart lacks

pub not_its_after : (a b : ℕ → ℕ) (n e p q : ℕ) (xs : List ℕ) → IsRing a b n e xs → Has p xs → q ≢ e → Lacks q xs → q ≢ a p
not_its_after a b n e p q xs ring has apart lacks = not_after a b e xs e p q ring.chain has apart lacks

pub not_its_end : (a b : ℕ → ℕ) (n e q : ℕ) (xs : List ℕ) → IsRing a b n e xs → q ≢ e → Lacks q xs → q ≢ b e
not_its_end a b n e q xs ring apart lacks = not_last a b e xs e q ring.chain apart lacks

agree-all : (f g : ℕ → ℕ) (xs : List ℕ) → ((q : ℕ) → Has q xs → g q ≡ f q) → Agree f g xs
agree-all f g [] same = tt
agree-all f g (x ∷ xs) same = (same x (inl refl), agree-all f g xs (λ q has. same q (inr has)))

-- links that agree on a ring and at its end
pub ring-apart : (a b a' b' : ℕ → ℕ) (n e : ℕ) (xs : List ℕ) → IsRing a b n e xs → ((q : ℕ) → Has q xs → a' q ≡ a q) → ((q : ℕ) → Has q xs → b' q ≡ b q) → a' e ≡ a e → b' e ≡ b e → IsRing a' b' n e xs
ring-apart a b a' b' n e xs ring sa sb ea eb = record {
  chain = frame a b a' b' e xs e ring.chain ea (agree-all a a' xs sa) (agree-all b b' xs sb) eb;
  once = ring.once;
  below = ring.below;
}

-- Places of a list by their number.

lacks-has : (x : ℕ) (xs : List ℕ) → Lacks x xs → Has x xs → ⊥
lacks-has x [] lacks has = has
lacks-has x (y ∷ ys) lacks (inl is) = lacks.0 is
lacks-has x (y ∷ ys) lacks (inr more) = lacks-has x ys lacks.1 more

pub has-at : (xs : List ℕ) (n p : ℕ) → slice_get xs n ≡ Some p → Has p xs
has-at [] n p at = absurd (cc)
has-at (x ∷ xs) zero p at = inl (let found : Some x ≡ Some p = at in cc)
has-at (x ∷ xs) (suc n) p at = inr (has-at xs n p at)

pub first-is : (xs : List ℕ) → first_of xs ≡ slice_get xs 0
first-is [] = refl
first-is (x ∷ xs) = refl

pub next-at : (xs : List ℕ) (n p : ℕ) → Distinct xs → slice_get xs n ≡ Some p → next_of p xs ≡ slice_get xs (suc n)
next-at [] n p once at = absurd (cc)
next-at (x ∷ xs) zero p once at =
    let found : Some x ≡ Some p = at in
    let same : x ≡ p = cc in
    let here : eqb x p ≡ true = ap (eqb x) (sym same) ∙ eqb-self x in
    rw here (first-is xs)
next-at (x ∷ xs) (suc n) p once at =
    let apart : eqb x p ≡ false = eqb-apart x p (λ same. lacks-has x xs once.0 (subst (λ y. Has y xs) (sym same) (has-at xs n p at))) in
    rw apart (next-at xs n p once.1 at)
