-- Places that chains lead to, by their keys.
use Rattle.std.proofs.Common.{◌≡◌, ◌≢◌, ◌<◌, ◌≤◌, ◌+◌, ◌⊎◌, ℕ, zero, suc, Bool, true, false, cond, eqb, List, [], ◌∷◌, ◌++◌, length, length-append, set, replicate, None, Some, inl, inr, refl, sym, ap, subst, ◌∙◌, arith}
use Rattle.std.specs.Prelude.{◌==◌, ◌*◌, ◌/◌, ◌%◌, ◌^◌, slice_get}
use Rattle.std.proofs.Common.{BuildHasherDefault, FoldHasher}
use Rattle.std.proofs.Math.Nat.{div-lt_iff_lt-mul, mod-lt, mul-lt-mul_of_pos_right}
use Rattle.std.proofs.lemmas.List.{get_or_append_left}
use Rattle.std.proofs.lemmas.Bool.Decides.{nat_tests}
use Rattle.addr_core.specs.declared.addr.Addr.{Addr}
use Rattle.addr_core.specs.Same.{same_addr}
use Rattle.addr_core.proofs.SameLemmas.{same_addr-is, same_addr-sym}
use Rattle.stick_core.specs.declared.index.Counts.{Counts}
use Rattle.stick_core.specs.Chains.{Chaining, chain_at}
use Rattle.stick_core.specs.Index.{chain_of, key_at, nothing, with_counts, HasKeysApart, IsChained, IsIndexed, IsNoPlaceOf, IsPlaceOf}
use Rattle.stick_core.specs.Ring.{Has, Lacks, without}
use Rattle.stick_core.proofs.ChainLemmas.{get-set, get-set-apart, has-lacks, lacks-if-not}
use Rattle.stick_core.proofs.RingLemmas.{eqb-differ, eqb-is, has-before, has-push, has-without, lacks-itself}

no : true ≡ false → ⊥
no is = cc

-- A key is looked for.

at-index : (xs : List ℕ) (q : ℕ) → Has q xs → (k : ℕ) × (slice_get xs k ≡ Some q)
at-index [] q has = absurd has
at-index (x ∷ xs) q (inl here) = (0, ap (λ y. Some y) (sym here))
at-index (x ∷ xs) q (inr there) = let it : (k : ℕ) × (slice_get xs k ≡ Some q) = at-index xs q there in (suc it.0, it.1)

index-below : (xs : List ℕ) (k q : ℕ) → slice_get xs k ≡ Some q → k < length xs
index-below [] k q at = absurd (cc)
index-below (x ∷ xs) zero q at = omega arith
index-below (x ∷ xs) (suc k) q at = let less : k < length xs = index-below xs k q at in omega (arith, less)

ends-below : (xs : List ℕ) (n k q : ℕ) → slice_get xs n ≡ None → slice_get xs k ≡ Some q → k < n
ends-below [] n k q ends at = absurd (cc)
ends-below (x ∷ xs) zero k q ends at = absurd (let wrong : Some x ≡ None = ends in cc)
ends-below (x ∷ xs) (suc n) zero q ends at = omega arith
ends-below (x ∷ xs) (suc n) (suc k) q ends at = let less : k < n = ends-below xs n k q ends at in omega (arith, less)

-- the places of a chain, so many of them, have another key
abbrev pub HaveOthers : Addr → List (Addr × Counts) → List ℕ → ℕ → Type 0
HaveOthers key es chain n = (k q : ℕ) → k < n → slice_get chain k ≡ Some q → same_addr (key_at es q) key ≡ false

pub one-more : (key : Addr) (es : List (Addr × Counts)) (chain : List ℕ) (n p : ℕ) → HaveOthers key es chain n → slice_get chain n ≡ Some p → same_addr (key_at es p) key ≡ false → HaveOthers key es chain (n + 1)
one-more key es chain n p others at differ k q less is = by (eqb k n) refl
  where
    by : (t : Bool) → eqb k n ≡ t → same_addr (key_at es q) key ≡ false
    by true same =
        let found : Some p ≡ Some q = sym at ∙ ap (slice_get chain) (sym (eqb-is k n same)) ∙ is in
        let equal : p ≡ q = cc in
        ap (λ y. same_addr (key_at es y) key) (sym equal) ∙ differ
    by false apart = others k q (let other : k ≢ n = eqb-differ k n apart in omega (arith, other, less)) is

no-place : (of : Addr → ℕ) (key : Addr) (es : List (Addr × Counts)) (chains : List (List ℕ)) (r n : ℕ) → IsChained of es chains (length es) → r ≡ of key → HaveOthers key es (chain_at chains r) n
    → ((k q : ℕ) → slice_get (chain_at chains r) k ≡ Some q → k < n) → IsNoPlaceOf key es
no-place of key es chains r n chained its others all q less = by (same_addr (key_at es q) key) refl
  where
    by : (t : Bool) → same_addr (key_at es q) key ≡ t → same_addr (key_at es q) key ≡ false
    by true is =
        let P : ℕ → Type 0 = λ k. Has q (chain_at chains k) in
        let at : (k : ℕ) × (slice_get (chain_at chains r) k ≡ Some q) = at-index (chain_at chains r) q (subst P (ap of (same_addr-is (key_at es q) key is) ∙ sym its) (chained.each q less)) in
        others at.0 q (all at.0 q at.1) at.1
    by false is = is

pub none-left : (of : Addr → ℕ) (key : Addr) (es : List (Addr × Counts)) (chains : List (List ℕ)) (r n : ℕ) → IsChained of es chains (length es) → r ≡ of key → HaveOthers key es (chain_at chains r) n
    → slice_get (chain_at chains r) n ≡ None → IsNoPlaceOf key es
none-left of key es chains r n chained its others ends = no-place of key es chains r n chained its others (λ k q at. ends-below (chain_at chains r) n k q ends at)

pub none-at-all : (of : Addr → ℕ) (key : Addr) (es : List (Addr × Counts)) (chains : List (List ℕ)) (r n : ℕ) → IsChained of es chains (length es) → r ≡ of key → HaveOthers key es (chain_at chains r) n
    → length (chain_at chains r) ≤ n → IsNoPlaceOf key es
none-at-all of key es chains r n chained its others most = no-place of key es chains r n chained its others (λ k q at. let less : k < length (chain_at chains r) = index-below (chain_at chains r) k q at in omega (arith, less, most))

pub its-place : (key : Addr) (es : List (Addr × Counts)) (p : ℕ) → HasKeysApart es → p < length es → same_addr (key_at es p) key ≡ true → IsPlaceOf key es p
its-place key es p apart within is = record { within = within; each = each }
  where
    each : (q : ℕ) → q < length es → same_addr (key_at es q) key ≡ eqb q p
    each q less = by (eqb q p) refl (same_addr (key_at es q) key) refl
      where
        by : (t : Bool) → eqb q p ≡ t → (u : Bool) → same_addr (key_at es q) key ≡ u → same_addr (key_at es q) key ≡ eqb q p
        by true here u its = ap (λ y. same_addr (key_at es y) key) (eqb-is q p here) ∙ is ∙ sym here
        by false here true its = absurd (eqb-differ q p here (apart q p less within (ap (same_addr (key_at es q)) (same_addr-is (key_at es p) key is) ∙ its)))
        by false here false its = its ∙ sym here

-- Places are put into chains.

pub nowhere-yet : (of : Addr → ℕ) (es : List (Addr × Counts)) (chains : List (List ℕ)) (n : ℕ) → IsChained of es chains n → (other : ℕ) → Lacks n (chain_at chains other)
nowhere-yet of es chains n chained other = lacks-if-not n (chain_at chains other) (λ has. let less : n < n = (chained.own other n has).0 in omega (arith, less))

has-push-either : (q p : ℕ) (xs : List ℕ) → Has q (xs ++ p ∷ []) → (q ≡ p) ⊎ Has q xs
has-push-either q p [] (inl is) = inl is
has-push-either q p [] (inr none) = absurd none
has-push-either q p (x ∷ xs) (inl is) = inr (inl is)
has-push-either q p (x ∷ xs) (inr more) = by (has-push-either q p xs more)
  where
    by : ((q ≡ p) ⊎ Has q xs) → (q ≡ p) ⊎ Has q (x ∷ xs)
    by (inl is) = inl is
    by (inr has) = inr (inr has)

pub one-chained : (of : Addr → ℕ) (es : List (Addr × Counts)) (chains : List (List ℕ)) (n i : ℕ) → IsChained of es chains n → i < length chains → of (key_at es n) ≡ i
    → IsChained of es (set chains i (chain_at chains i ++ n ∷ [])) (n + 1)
one-chained of es chains n i chained within its = record { each = each; own = own }
  where
    new : List (List ℕ)
    new = set chains i (chain_at chains i ++ n ∷ [])

    here : (j : ℕ) → j ≡ i → chain_at (set chains i (chain_at chains i ++ n ∷ [])) j ≡ chain_at chains i ++ n ∷ []
    here j is = ap (λ k. chain_at (set chains i (chain_at chains i ++ n ∷ [])) k) is ∙ get-set chains i (chain_at chains i ++ n ∷ []) [] within

    away : (j : ℕ) → j ≢ i → chain_at (set chains i (chain_at chains i ++ n ∷ [])) j ≡ chain_at chains j
    away j apart = get-set-apart chains i (chain_at chains i ++ n ∷ []) [] j apart

    each : (p : ℕ) → p < n + 1 → Has p (chain_at (set chains i (chain_at chains i ++ n ∷ [])) (of (key_at es p)))
    each p less = by (eqb p n) refl (eqb (of (key_at es p)) i) refl
      where
        P : List ℕ → Type 0
        P l = Has p l

        by : (t : Bool) → eqb p n ≡ t → (u : Bool) → eqb (of (key_at es p)) i ≡ u → Has p (chain_at (set chains i (chain_at chains i ++ n ∷ [])) (of (key_at es p)))
        by true is u at =
            let same : p ≡ n = eqb-is p n is in
            subst P (sym (here (of (key_at es p)) (ap (λ k. of (key_at es k)) same ∙ its)))
            (let Q : ℕ → Type 0 = λ k. Has k (chain_at chains i ++ n ∷ []) in subst Q (sym same) (has-push n (chain_at chains i)))
        by false is true at =
            let there : of (key_at es p) ≡ i = eqb-is (of (key_at es p)) i at in
            let old : Has p (chain_at chains (of (key_at es p))) = chained.each p (let apart : p ≢ n = eqb-differ p n is in omega (arith, apart, less)) in
            subst P (sym (here (of (key_at es p)) there)) (has-before p n (chain_at chains i) (subst P (ap (chain_at chains) there) old))
        by false is false at =
            subst P (sym (away (of (key_at es p)) (eqb-differ (of (key_at es p)) i at))) (chained.each p (let apart : p ≢ n = eqb-differ p n is in omega (arith, apart, less)))

    own : (j p : ℕ) → Has p (chain_at (set chains i (chain_at chains i ++ n ∷ [])) j) → (p < n + 1) × (of (key_at es p) ≡ j)
    own j p has = by (eqb j i) refl
      where
        P : List ℕ → Type 0
        P l = Has p l

        last : (j ≡ i) → (p ≡ n) ⊎ Has p (chain_at chains i) → (p < n + 1) × (of (key_at es p) ≡ j)
        last is (inl same) = (omega (arith, same), ap (λ k. of (key_at es k)) same ∙ its ∙ sym is)
        last is (inr old) = let it : (p < n) × (of (key_at es p) ≡ i) = chained.own i p old in (omega (arith, it.0), it.1 ∙ sym is)

        by : (t : Bool) → eqb j i ≡ t → (p < n + 1) × (of (key_at es p) ≡ j)
        by true is = last (eqb-is j i is) (has-push-either p n (chain_at chains i) (subst P (here j (eqb-is j i is)) has))
        by false is = let it : (p < n) × (of (key_at es p) ≡ j) = chained.own j p (subst P (away j (eqb-differ j i is)) has) in (omega (arith, it.0), it.1)

pub none-chained : (of : Addr → ℕ) (es : List (Addr × Counts)) (chains : List (List ℕ)) → ((chain place : ℕ) → Lacks place (chain_at chains chain)) → IsChained of es chains 0
none-chained of es chains empty = record {
  each = λ p less. absurd (omega (arith, less));
  own = λ j p has. absurd (has-lacks p (chain_at chains j) has (empty j p));
}

get-none : (n j : ℕ) → chain_at (replicate n []) j ≡ []
get-none zero j = refl
get-none (suc n) zero = refl
get-none (suc n) (suc j) = get-none n j

pub all-empty : (n j p : ℕ) → Lacks p (chain_at (replicate n []) j)
all-empty n j p = let P : List ℕ → Type 0 = λ l. Lacks p l in subst P (sym (get-none n j)) tt

-- the same keys
pub same-chained : (of : Addr → ℕ) (es es' : List (Addr × Counts)) (chains : List (List ℕ)) (n : ℕ) → ((q : ℕ) → q < n → key_at es' q ≡ key_at es q) → IsChained of es chains n → IsChained of es' chains n
same-chained of es es' chains n same chained = record {
  each = λ p less. let P : Addr → Type 0 = λ k. Has p (chain_at chains (of k)) in subst P (sym (same p less)) (chained.each p less);
  own = λ j p has. let it : (p < n) × (of (key_at es p) ≡ j) = chained.own j p has in (it.0, ap of (same p it.0) ∙ it.1);
}

pub same-apart : (es es' : List (Addr × Counts)) → length es' ≡ length es → ((q : ℕ) → q < length es → key_at es' q ≡ key_at es q) → HasKeysApart es → HasKeysApart es'
same-apart es es' len same apart p q p_in q_in is =
    let p_old : p < length es = omega (arith, p_in, len) in
    let q_old : q < length es = omega (arith, q_in, len) in
    apart p q p_old q_old (ap (λ k. same_addr k (key_at es q)) (sym (same p p_old)) ∙ ap (same_addr (key_at es' p)) (sym (same q q_old)) ∙ is)

-- A key is added.

pub key-before : (es : List (Addr × Counts)) (x : Addr × Counts) (q : ℕ) → q < length es → key_at (es ++ x ∷ []) q ≡ key_at es q
key-before es x q less = ap (λ e. e.0) (get_or_append_left es (x ∷ []) nothing q less)

pub key-last : (es : List (Addr × Counts)) (x : Addr × Counts) → key_at (es ++ x ∷ []) (length es) ≡ x.0
key-last [] x = refl
key-last (e ∷ es) x = key-last es x

pub pushed-apart : (key : Addr) (counts : Counts) (es : List (Addr × Counts)) → HasKeysApart es → IsNoPlaceOf key es → HasKeysApart (es ++ (key, counts) ∷ [])
pushed-apart key counts es apart none p q p_in q_in is = by (eqb p (length es)) refl (eqb q (length es)) refl
  where
    new : List (Addr × Counts)
    new = es ++ (key, counts) ∷ []

    last : (k : ℕ) → k ≡ length es → key_at (es ++ (key, counts) ∷ []) k ≡ key
    last k at = ap (λ j. key_at (es ++ (key, counts) ∷ []) j) at ∙ key-last es (key, counts)

    within : (k : ℕ) → k < length (es ++ (key, counts) ∷ []) → k ≢ length es → k < length es
    within k less differ = omega (arith, less, differ, length-append es ((key, counts) ∷ []))

    by : (t : Bool) → eqb p (length es) ≡ t → (u : Bool) → eqb q (length es) ≡ u → p ≡ q
    by true p_is true q_is = eqb-is p (length es) p_is ∙ sym (eqb-is q (length es) q_is)
    by true p_is false q_is =
        let q_old : q < length es = within q q_in (eqb-differ q (length es) q_is) in
        absurd (no (sym is ∙ ap (λ k. same_addr k (key_at (es ++ (key, counts) ∷ []) q)) (last p (eqb-is p (length es) p_is)) ∙ ap (same_addr key) (key-before es (key, counts) q q_old) ∙ same_addr-sym (key_at es q) key (none q q_old)))
    by false p_is true q_is =
        let p_old : p < length es = within p p_in (eqb-differ p (length es) p_is) in
        absurd (no (sym is ∙ ap (same_addr (key_at (es ++ (key, counts) ∷ []) p)) (last q (eqb-is q (length es) q_is)) ∙ ap (λ k. same_addr k key) (key-before es (key, counts) p p_old) ∙ none p p_old))
    by false p_is false q_is =
        let p_old : p < length es = within p p_in (eqb-differ p (length es) p_is) in
        let q_old : q < length es = within q q_in (eqb-differ q (length es) q_is) in
        apart p q p_old q_old (ap (λ k. same_addr k (key_at es q)) (sym (key-before es (key, counts) p p_old)) ∙ ap (same_addr (key_at (es ++ (key, counts) ∷ []) p)) (sym (key-before es (key, counts) q q_old)) ∙ is)

-- A key is put in the place of another.

has-in-without : (q p : ℕ) (xs : List ℕ) → Has q (without p xs) → Has q xs
has-in-without q p [] has = has
has-in-without q p (x ∷ xs) has = by (eqb x p) refl has (has-in-without q p xs)
  where
    by : (t : Bool) → eqb x p ≡ t → Has q (without p (x ∷ xs)) → (Has q (without p xs) → Has q xs) → Has q (x ∷ xs)
    by true is has more = inr (more (let P : List ℕ → Type 0 = λ l. Has q l in subst P (let same : without p (x ∷ xs) ≡ without p xs = rw is refl in same) has))
    by false is has more = split (let P : List ℕ → Type 0 = λ l. Has q l in subst P (let same : without p (x ∷ xs) ≡ x ∷ without p xs = rw is refl in same) has)
      where
        split : Has q (x ∷ without p xs) → Has q (x ∷ xs)
        split (inl here) = inl here
        split (inr there) = inr (more there)

-- what is left of the chains
pub record IsLeft (of : Addr → ℕ) (es : List (Addr × Counts)) (chains : List (List ℕ)) (n p : ℕ) : Type 0 where
  pub each : (q : ℕ) → q < n → q ≢ p → Has q (chain_at chains (of (key_at es q)))
  pub own : (j q : ℕ) → Has q (chain_at chains j) → (q < n) × (q ≢ p) × (of (key_at es q) ≡ j)

pub left : (of : Addr → ℕ) (es : List (Addr × Counts)) (chains : List (List ℕ)) (n p i : ℕ) → IsChained of es chains n → i < length chains → of (key_at es p) ≡ i
    → IsLeft of es (set chains i (without p (chain_at chains i))) n p
left of es chains n p i chained within its = record { each = each; own = own }
  where
    here : chain_at (set chains i (without p (chain_at chains i))) i ≡ without p (chain_at chains i)
    here = get-set chains i (without p (chain_at chains i)) [] within

    away : (j : ℕ) → j ≢ i → chain_at (set chains i (without p (chain_at chains i))) j ≡ chain_at chains j
    away j apart = get-set-apart chains i (without p (chain_at chains i)) [] j apart

    each : (q : ℕ) → q < n → q ≢ p → Has q (chain_at (set chains i (without p (chain_at chains i))) (of (key_at es q)))
    each q less differ = by (eqb (of (key_at es q)) i) refl (chained.each q less)
      where
        P : List ℕ → Type 0
        P l = Has q l

        by : (t : Bool) → eqb (of (key_at es q)) i ≡ t → Has q (chain_at chains (of (key_at es q))) → Has q (chain_at (set chains i (without p (chain_at chains i))) (of (key_at es q)))
        by true is old =
            let there : of (key_at es q) ≡ i = eqb-is (of (key_at es q)) i is in
            subst P (sym (ap (chain_at (set chains i (without p (chain_at chains i)))) there ∙ here)) (has-without q p (chain_at chains i) differ (subst P (ap (chain_at chains) there) old))
        by false is old = subst P (sym (away (of (key_at es q)) (eqb-differ (of (key_at es q)) i is))) old

    own : (j q : ℕ) → Has q (chain_at (set chains i (without p (chain_at chains i))) j) → (q < n) × (q ≢ p) × (of (key_at es q) ≡ j)
    own j q has = by (eqb j i) refl
      where
        P : List ℕ → Type 0
        P l = Has q l

        by : (t : Bool) → eqb j i ≡ t → (q < n) × (q ≢ p) × (of (key_at es q) ≡ j)
        by true is =
            let there : j ≡ i = eqb-is j i is in
            let new : Has q (without p (chain_at chains i)) = subst P (ap (chain_at (set chains i (without p (chain_at chains i)))) there ∙ here) has in
            let old : (q < n) × (of (key_at es q) ≡ i) = chained.own i q (has-in-without q p (chain_at chains i) new) in
            (old.0, (λ same. has-lacks p (without p (chain_at chains i)) (let Q : ℕ → Type 0 = λ k. Has k (without p (chain_at chains i)) in subst Q same new) (lacks-itself p (chain_at chains i))), old.1 ∙ sym there)
        by false is =
            let old : (q < n) × (of (key_at es q) ≡ j) = chained.own j q (subst P (away j (eqb-differ j i is)) has) in
            (old.0, (λ same. eqb-differ j i is (sym old.1 ∙ ap (λ k. of (key_at es k)) same ∙ its)), old.1)

pub left-lacks : (of : Addr → ℕ) (es : List (Addr × Counts)) (chains : List (List ℕ)) (n p : ℕ) → IsLeft of es chains n p → (j : ℕ) → Lacks p (chain_at chains j)
left-lacks of es chains n p rest j = lacks-if-not p (chain_at chains j) (λ has. (rest.own j p has).1 refl)

pub put-back : (of : Addr → ℕ) (es es' : List (Addr × Counts)) (chains : List (List ℕ)) (n p i : ℕ) → IsLeft of es chains n p → p < n → i < length chains → of (key_at es' p) ≡ i
    → ((q : ℕ) → q ≢ p → key_at es' q ≡ key_at es q) → IsChained of es' (set chains i (chain_at chains i ++ p ∷ [])) n
put-back of es es' chains n p i rest p_in within its same = record { each = each; own = own }
  where
    here : (j : ℕ) → j ≡ i → chain_at (set chains i (chain_at chains i ++ p ∷ [])) j ≡ chain_at chains i ++ p ∷ []
    here j is = ap (chain_at (set chains i (chain_at chains i ++ p ∷ []))) is ∙ get-set chains i (chain_at chains i ++ p ∷ []) [] within

    away : (j : ℕ) → j ≢ i → chain_at (set chains i (chain_at chains i ++ p ∷ [])) j ≡ chain_at chains j
    away j apart = get-set-apart chains i (chain_at chains i ++ p ∷ []) [] j apart

    each : (q : ℕ) → q < n → Has q (chain_at (set chains i (chain_at chains i ++ p ∷ [])) (of (key_at es' q)))
    each q less = by (eqb q p) refl (eqb (of (key_at es' q)) i) refl
      where
        P : List ℕ → Type 0
        P l = Has q l

        by : (t : Bool) → eqb q p ≡ t → (u : Bool) → eqb (of (key_at es' q)) i ≡ u → Has q (chain_at (set chains i (chain_at chains i ++ p ∷ [])) (of (key_at es' q)))
        by true is u at =
            let equal : q ≡ p = eqb-is q p is in
            subst P (sym (here (of (key_at es' q)) (ap (λ k. of (key_at es' k)) equal ∙ its))) (let Q : ℕ → Type 0 = λ k. Has k (chain_at chains i ++ p ∷ []) in subst Q (sym equal) (has-push p (chain_at chains i)))
        by false is true at =
            let differ : q ≢ p = eqb-differ q p is in
            let there : of (key_at es' q) ≡ i = eqb-is (of (key_at es' q)) i at in
            subst P (sym (here (of (key_at es' q)) there)) (has-before q p (chain_at chains i) (subst P (ap (λ k. chain_at chains (of k)) (sym (same q differ)) ∙ ap (chain_at chains) there) (rest.each q less differ)))
        by false is false at =
            let differ : q ≢ p = eqb-differ q p is in
            subst P (ap (λ k. chain_at chains (of k)) (sym (same q differ)) ∙ sym (away (of (key_at es' q)) (eqb-differ (of (key_at es' q)) i at))) (rest.each q less differ)

    own : (j q : ℕ) → Has q (chain_at (set chains i (chain_at chains i ++ p ∷ [])) j) → (q < n) × (of (key_at es' q) ≡ j)
    own j q has = by (eqb j i) refl
      where
        P : List ℕ → Type 0
        P l = Has q l

        kept : (k : ℕ) → Has q (chain_at chains k) → (q < n) × (of (key_at es' q) ≡ k)
        kept k old = let it : (q < n) × (q ≢ p) × (of (key_at es q) ≡ k) = rest.own k q old in (it.0, ap of (same q it.1) ∙ it.2)

        last : (j ≡ i) → (q ≡ p) ⊎ Has q (chain_at chains i) → (q < n) × (of (key_at es' q) ≡ j)
        last is (inl equal) = (omega (arith, equal, p_in), ap (λ k. of (key_at es' k)) equal ∙ its ∙ sym is)
        last is (inr old) = let it : (q < n) × (of (key_at es' q) ≡ i) = kept i old in (it.0, it.1 ∙ sym is)

        by : (t : Bool) → eqb j i ≡ t → (q < n) × (of (key_at es' q) ≡ j)
        by true is = last (eqb-is j i is) (has-push-either q p (chain_at chains i) (subst P (here j (eqb-is j i is)) has))
        by false is = kept j (subst P (away j (eqb-differ j i is)) has)

pub key-set : (es : List (Addr × Counts)) (p : ℕ) (x : Addr × Counts) → p < length es → key_at (set es p x) p ≡ x.0
key-set es p x less = ap (λ e. e.0) (get-set es p x nothing less)

pub key-set-apart : (es : List (Addr × Counts)) (p : ℕ) (x : Addr × Counts) (q : ℕ) → q ≢ p → key_at (set es p x) q ≡ key_at es q
key-set-apart es p x q differ = ap (λ e. e.0) (get-set-apart es p x nothing q differ)

pub length-put : {X : Type 0} (xs : List X) (p : ℕ) (x : X) → length (set xs p x) ≡ length xs
length-put [] p x = refl
length-put (y ∷ ys) zero x = refl
length-put (y ∷ ys) (suc p) x = ap suc (length-put ys p x)

pub replaced-apart : (key : Addr) (counts : Counts) (es : List (Addr × Counts)) (p : ℕ) → p < length es → HasKeysApart es → IsNoPlaceOf key es → HasKeysApart (set es p (key, counts))
replaced-apart key counts es p within apart none a b a_in b_in is = by (eqb a p) refl (eqb b p) refl
  where
    at : (k : ℕ) → k ≡ p → key_at (set es p (key, counts)) k ≡ key
    at k same = ap (key_at (set es p (key, counts))) same ∙ key-set es p (key, counts) within

    old : (k : ℕ) → k < length (set es p (key, counts)) → k < length es
    old k less = omega (arith, less, length-put es p (key, counts))

    by : (t : Bool) → eqb a p ≡ t → (u : Bool) → eqb b p ≡ u → a ≡ b
    by true a_is true b_is = eqb-is a p a_is ∙ sym (eqb-is b p b_is)
    by true a_is false b_is =
        absurd (no (sym is ∙ ap (λ k. same_addr k (key_at (set es p (key, counts)) b)) (at a (eqb-is a p a_is)) ∙ ap (same_addr key) (key-set-apart es p (key, counts) b (eqb-differ b p b_is)) ∙ same_addr-sym (key_at es b) key (none b (old b b_in))))
    by false a_is true b_is =
        absurd (no (sym is ∙ ap (same_addr (key_at (set es p (key, counts)) a)) (at b (eqb-is b p b_is)) ∙ ap (λ k. same_addr k key) (key-set-apart es p (key, counts) a (eqb-differ a p a_is)) ∙ none a (old a a_in)))
    by false a_is false b_is =
        apart a b (old a a_in) (old b b_in)
        (ap (λ k. same_addr k (key_at es b)) (sym (key-set-apart es p (key, counts) a (eqb-differ a p a_is))) ∙ ap (same_addr (key_at (set es p (key, counts)) a)) (sym (key-set-apart es p (key, counts) b (eqb-differ b p b_is))) ∙ is)

-- other counts at a place leave the keys
pub key-counted : (es : List (Addr × Counts)) (p : ℕ) (counts : Counts) (q : ℕ) → p < length es → key_at (with_counts es p counts) q ≡ key_at es q
key-counted es p counts q less = by (eqb q p) refl
  where
    by : (t : Bool) → eqb q p ≡ t → key_at (with_counts es p counts) q ≡ key_at es q
    by true is = let same : q ≡ p = eqb-is q p is in ap (key_at (with_counts es p counts)) same ∙ key-set es p (key_at es p, counts) less ∙ ap (key_at es) (sym same)
    by false is = key-set-apart es p (key_at es p, counts) q (eqb-differ q p is)

-- The whole index.

part-below : (number chains : ℕ) → 0 < chains → number % 2 ^ 64 * chains / 2 ^ 64 < chains
part-below number chains some =
    let less : number % 2 ^ 64 < 2 ^ 64 = mod-lt number (omega arith) in
    (div-lt_iff_lt-mul (omega arith)).1 (let more : number % 2 ^ 64 * chains < 2 ^ 64 * chains = mul-lt-mul_of_pos_right less some in omega (arith, more))

pub chain-within : (hash : BuildHasherDefault FoldHasher) (n : ℕ) (key : Addr) → 0 < n → chain_of hash n key < n
chain-within hash n key some = part-below _ n some

-- where there are entries there are chains
pub some-chains : (hash : BuildHasherDefault FoldHasher) (es : List (Addr × Counts)) (chains : Chaining) (p : ℕ) → IsIndexed hash es chains → p < length es → 0 < length chains.chains
some-chains hash es chains p indexed less = by (chains.chains) (indexed.chained.each p less)
  where
    by : (l : List (List ℕ)) → Has p (chain_at l (chain_of hash (length chains.chains) (key_at es p))) → 0 < length l
    by [] has = absurd has
    by (x ∷ xs) has = omega arith

-- the chain of a key is one that there is
pub its-within : (hash : BuildHasherDefault FoldHasher) (chains count i : ℕ) (key : Addr) → 0 < chains → count ≡ chains → i ≡ chain_of hash count key → i < chains
its-within hash chains count i key some is its =
    let within : chain_of hash count key < count = chain-within hash count key (omega (arith, some, is)) in
    omega (arith, its, within, is)

alike : (hash : BuildHasherDefault FoldHasher) (m m' : ℕ) (es es' : List (Addr × Counts)) (l l' : List (List ℕ)) (n n' : ℕ) → m' ≡ m → es' ≡ es → l' ≡ l → n' ≡ n
    → IsChained (chain_of hash m) es l n → IsChained (chain_of hash m') es' l' n'
alike hash m m' es es' l l' n n' em ees el en it =
    let A : ℕ → Type 0 = λ x. IsChained (chain_of hash x) es l n in
    let B : List (Addr × Counts) → Type 0 = λ x. IsChained (chain_of hash m') x l n in
    let C : List (List ℕ) → Type 0 = λ x. IsChained (chain_of hash m') es' x n in
    let D : ℕ → Type 0 = λ x. IsChained (chain_of hash m') es' l' x in
    subst D (sym en) (subst C (sym el) (subst B (sym ees) (subst A (sym em) it)))

apart-as : (es es' : List (Addr × Counts)) → es' ≡ es → HasKeysApart es → HasKeysApart es'
apart-as es es' same apart = let P : List (Addr × Counts) → Type 0 = λ x. HasKeysApart x in subst P (sym same) apart

pub indexed-push : (hash : BuildHasherDefault FoldHasher) (es es' : List (Addr × Counts)) (old mid new : Chaining) (key k : Addr) (counts : Counts) (i place count : ℕ)
    → IsIndexed hash es old → IsNoPlaceOf key es → k ≡ key → es' ≡ es ++ (k, counts) ∷ [] → count ≡ length old.chains → i ≡ chain_of hash count key → i < length old.chains
    → mid.chains ≡ old.chains → mid.places ≡ old.places + 1 → place ≡ old.places → new ≡ record mid { chains = set mid.chains i (chain_at mid.chains i ++ place ∷ []) }
    → IsIndexed hash es' new
indexed-push hash es es' old mid new key k counts i place count indexed none is pushed count_is its within kept grown at new_is = record {
  places = ap (λ t. t.places) new_is ∙ grown ∙ ap (λ n. n + 1) indexed.places ∙ sym len;
  chained = alike hash (length old.chains) (length new.chains) one es' more new.chains (length es + 1) (length es') (ap length chains_are ∙ length-put old.chains i last) es_are chains_are len
      (one-chained of one old.chains (length es) i (same-chained of es one old.chains (length es) (λ q less. key-before es (key, counts) q less) indexed.chained) within
      (ap of (key-last es (key, counts)) ∙ ap (λ n. chain_of hash n key) (sym count_is) ∙ sym its));
  apart = apart-as one es' es_are (pushed-apart key counts es indexed.apart none);
}
  where
    of : Addr → ℕ
    of = chain_of hash (length old.chains)

    one : List (Addr × Counts)
    one = es ++ (key, counts) ∷ []

    last : List ℕ
    last = chain_at old.chains i ++ length es ∷ []

    more : List (List ℕ)
    more = set old.chains i (chain_at old.chains i ++ length es ∷ [])

    es_are : es' ≡ es ++ (key, counts) ∷ []
    es_are = pushed ∙ ap (λ x. es ++ (x, counts) ∷ []) is

    len : length es' ≡ length es + 1
    len = ap length es_are ∙ length-append es ((key, counts) ∷ [])

    chains_are : new.chains ≡ set old.chains i (chain_at old.chains i ++ length es ∷ [])
    chains_are = ap (λ t. t.chains) new_is ∙ ap (λ l. set l i (chain_at l i ++ place ∷ [])) kept ∙ ap (λ n. set old.chains i (chain_at old.chains i ++ n ∷ [])) (at ∙ indexed.places)

pub left-over : (hash : BuildHasherDefault FoldHasher) (es : List (Addr × Counts)) (old mid : Chaining) (p i count : ℕ) → IsIndexed hash es old → p < length es → count ≡ length old.chains
    → i ≡ chain_of hash count (key_at es p) → mid ≡ record old { chains = set old.chains i (without p (chain_at old.chains i)) }
    → IsLeft (chain_of hash (length old.chains)) es mid.chains (length es) p
left-over hash es old mid p i count indexed less count_is its mid_is =
    let P : List (List ℕ) → Type 0 = λ l. IsLeft (chain_of hash (length old.chains)) es l (length es) p in
    let its_chain : i ≡ chain_of hash (length old.chains) (key_at es p) = its ∙ ap (λ n. chain_of hash n (key_at es p)) count_is in
    let within : chain_of hash (length old.chains) (key_at es p) < length old.chains = chain-within hash (length old.chains) (key_at es p) (some-chains hash es old p indexed less) in
    subst P (sym (ap (λ t. t.chains) mid_is))
    (left (chain_of hash (length old.chains)) es old.chains (length es) p i indexed.chained (omega (arith, its_chain, within)) (sym its_chain))

pub indexed-replace : (hash : BuildHasherDefault FoldHasher) (es es' : List (Addr × Counts)) (old mid new : Chaining) (key k : Addr) (counts : Counts) (p i j count : ℕ)
    → IsIndexed hash es old → p < length es → IsNoPlaceOf key es → k ≡ key → es' ≡ set es p (k, counts) → count ≡ length old.chains → i ≡ chain_of hash count (key_at es p) → j ≡ chain_of hash count key
    → mid ≡ record old { chains = set old.chains i (without p (chain_at old.chains i)) } → new ≡ record mid { chains = set mid.chains j (chain_at mid.chains j ++ p ∷ []) }
    → IsIndexed hash es' new
indexed-replace hash es es' old mid new key k counts p i j count indexed less none is put count_is its its_new mid_is new_is = record {
  places = ap (λ t. t.places) new_is ∙ ap (λ t. t.places) mid_is ∙ indexed.places ∙ sym len;
  chained = alike hash (length old.chains) (length new.chains) (set es p (key, counts)) es' (set mid.chains j (chain_at mid.chains j ++ p ∷ [])) new.chains (length es) (length es') same_length es_are (ap (λ t. t.chains) new_is) len
      (put-back (chain_of hash (length old.chains)) es (set es p (key, counts)) mid.chains (length es) p j (left-over hash es old mid p i count indexed less count_is its mid_is) less within
      (ap (chain_of hash (length old.chains)) (key-set es p (key, counts) less) ∙ sym its_chain) (λ q differ. key-set-apart es p (key, counts) q differ));
  apart = apart-as (set es p (key, counts)) es' es_are (replaced-apart key counts es p less indexed.apart none);
}
  where
    es_are : es' ≡ set es p (key, counts)
    es_are = put ∙ ap (λ x. set es p (x, counts)) is

    len : length es' ≡ length es
    len = ap length es_are ∙ length-put es p (key, counts)

    mid_length : length mid.chains ≡ length old.chains
    mid_length = ap (λ t. length t.chains) mid_is ∙ length-put old.chains i (without p (chain_at old.chains i))

    same_length : length new.chains ≡ length old.chains
    same_length = ap (λ t. length t.chains) new_is ∙ length-put mid.chains j (chain_at mid.chains j ++ p ∷ []) ∙ mid_length

    its_chain : j ≡ chain_of hash (length old.chains) key
    its_chain = its_new ∙ ap (λ n. chain_of hash n key) count_is

    within : j < length mid.chains
    within =
        let some : chain_of hash (length old.chains) key < length old.chains = chain-within hash (length old.chains) key (some-chains hash es old p indexed less) in
        omega (arith, its_chain, some, mid_length)

pub indexed-counted : (hash : BuildHasherDefault FoldHasher) (es es' : List (Addr × Counts)) (chains : Chaining) (counts : Counts) (p : ℕ) → IsIndexed hash es chains → p < length es
    → es' ≡ with_counts es p counts → IsIndexed hash es' chains
indexed-counted hash es es' chains counts p indexed less is =
    let len : length es' ≡ length es = ap length is ∙ length-put es p (key_at es p, counts) in
    let same : (q : ℕ) → key_at es' q ≡ key_at es q = λ q. ap (λ l. key_at l q) is ∙ key-counted es p counts q less in
    record {
      places = indexed.places ∙ sym len;
      chained = alike hash (length chains.chains) (length chains.chains) es' es' chains.chains chains.chains (length es) (length es') refl refl refl len
          (same-chained (chain_of hash (length chains.chains)) es es' chains.chains (length es) (λ q within. same q) indexed.chained);
      apart = same-apart es es' len (λ q within. same q) indexed.apart;
    }

pub whole : (t u : Chaining) → t.places ≡ u.places → t.spare ≡ u.spare → t ≡ record u { chains = t.chains }
whole t u p s =
    let f : ℕ → Chaining = λ n. record { chains = t.chains; places = n; spare = t.spare } in
    let g : ℕ → Chaining = λ n. record { chains = t.chains; places = u.places; spare = n } in
    ap f p ∙ ap g s

is-some : (n : ℕ) → 0 < n → (n == 0) ≡ false
is-some n some = grind (arith, nat_tests)

-- there is room only where there are chains
pub some-room : (chains room : ℕ) → 0 < cond (chains == 0) 0 room → 0 < chains
some-room zero room some = absurd (omega (arith, some))
some-room (suc n) room some = omega arith

pub room-is : (chains room more : ℕ) → more ≤ room → (chains ≡ 0 → more ≡ 0) → more ≤ cond (chains == 0) 0 room
room-is zero room more fits none = let is : more ≡ 0 = none refl in omega (arith, is)
room-is (suc n) room more fits none = let some : (suc n == 0) ≡ false = is-some (suc n) (omega arith) in rw some fits

-- no room is lost
pub room-stays : (chains chains' room room' : ℕ) → chains ≤ chains' → room ≤ room' → cond (chains == 0) 0 room ≤ cond (chains' == 0) 0 room'
room-stays zero chains' room room' more fits = omega arith
room-stays (suc n) chains' room room' more fits =
    let some : (suc n == 0) ≡ false = is-some (suc n) (omega arith) in
    let others : (chains' == 0) ≡ false = is-some chains' (omega (arith, more)) in
    rw (some, others) fits
