-- Chains that share their links: what happens to one leaves the others as they are.
use Rattle.std.proofs.Common.{◌≡◌, ◌≢◌, ◌<◌, ◌≤◌, ◌⊎◌, ℕ, zero, suc, Bool, true, false, cond, eqb, List, [], ◌∷◌, ◌++◌, length, length-append, map, get_or, set, take, drop, replicate, Some, None, inl, inr, refl, sym, ap, subst, ◌∙◌, arith}
use Rattle.std.specs.Prelude.{slice_get}
use Rattle.std.proofs.lemmas.List.{get_or_append_left}
use Rattle.stick_core.specs.declared.links.Link.{Link}
use Rattle.stick_core.specs.Chains.{AreApart, AreLinked, Chaining, chain_at, chained, no_ends}
use Rattle.stick_core.specs.Links.{after_of, before_of, end, link_at, nowhere, ordered, IsLinked, KeepsOthers}
use Rattle.stick_core.specs.Ring.{Has, Lacks, without, IsRing}
use Rattle.stick_core.proofs.RingLemmas.{eqb-apart, eqb-differ, eqb-is, has-below, lacks-push, lacks-without, ring-apart, ring-more, ring_is, walked}

pub no-order : (links : List Link) → ordered no_ends links ≡ []
no-order [] = refl
no-order (l ∷ ls) = refl

no-ring : (links : List Link) → IsLinked no_ends links
no-ring links =
    let P : List ℕ → Type 0 = λ xs. IsRing (after_of no_ends links) (before_of no_ends links) (length links) end xs in
    subst P (sym (no-order links)) (record { chain = (refl, refl); once = tt; below = tt })

-- a chain by its ends
pub chain-is : (ends links : List Link) (i : ℕ) → chain_at (chained ends links) i ≡ ordered (get_or ends i no_ends) links
chain-is [] links i = sym (no-order links)
chain-is (e ∷ es) links zero = refl
chain-is (e ∷ es) links (suc i) = chain-is es links i

pub length-chained : (ends links : List Link) → length (chained ends links) ≡ length ends
length-chained [] links = refl
length-chained (e ∷ es) links = ap suc (length-chained es links)

lacks-or-has : (q : ℕ) (xs : List ℕ) → Has q xs ⊎ Lacks q xs
lacks-or-has q [] = inr tt
lacks-or-has q (x ∷ xs) = by (eqb q x) refl (lacks-or-has q xs)
  where
    by : (t : Bool) → eqb q x ≡ t → (Has q xs ⊎ Lacks q xs) → Has q (x ∷ xs) ⊎ Lacks q (x ∷ xs)
    by true is more = inl (inl (eqb-is q x is))
    by false is (inl has) = inl (inr has)
    by false is (inr lacks) = inr (eqb-differ q x is, lacks)

pub has-lacks : (q : ℕ) (xs : List ℕ) → Has q xs → Lacks q xs → ⊥
has-lacks q [] has lacks = has
has-lacks q (x ∷ xs) (inl is) lacks = lacks.0 is
has-lacks q (x ∷ xs) (inr more) lacks = has-lacks q xs more lacks.1

-- what is not in a list is lacking
pub lacks-if-not : (q : ℕ) (xs : List ℕ) → (Has q xs → ⊥) → Lacks q xs
lacks-if-not q xs not = by (lacks-or-has q xs)
  where
    by : (Has q xs ⊎ Lacks q xs) → Lacks q xs
    by (inl has) = absurd (not has)
    by (inr lacks) = lacks

pub get-set : {X : Type 0} (xs : List X) (i : ℕ) (x d : X) → i < length xs → get_or (set xs i x) i d ≡ x
get-set [] i x d less = absurd (omega (arith, less))
get-set (y ∷ ys) zero x d less = refl
get-set (y ∷ ys) (suc i) x d less = get-set ys i x d (omega (arith, less))

pub get-set-apart : {X : Type 0} (xs : List X) (i : ℕ) (x d : X) (q : ℕ) → q ≢ i → get_or (set xs i x) q d ≡ get_or xs q d
get-set-apart [] i x d q apart = refl
get-set-apart (y ∷ ys) zero x d zero apart = absurd (apart refl)
get-set-apart (y ∷ ys) zero x d (suc q) apart = refl
get-set-apart (y ∷ ys) (suc i) x d zero apart = refl
get-set-apart (y ∷ ys) (suc i) x d (suc q) apart = get-set-apart ys i x d q (λ is. apart (ap suc is))

map-same : (f g : Link → List ℕ) (es : List Link) → ((j : ℕ) → g (get_or es j no_ends) ≡ f (get_or es j no_ends)) → map g es ≡ map f es
map-same f g [] same = refl
map-same f g (e ∷ es) same =
    let here : g e ≡ f e = same 0 in
    rw here (ap (λ l. f e ∷ l) (map-same f g es (λ j. same (suc j))))

map-set : (f g : Link → List ℕ) (es : List Link) (i : ℕ) (e : Link) (xs : List ℕ) → g e ≡ xs → ((j : ℕ) → j ≢ i → g (get_or es j no_ends) ≡ f (get_or es j no_ends)) → map g (set es i e) ≡ set (map f es) i xs
map-set f g [] i e xs is same = refl
map-set f g (y ∷ ys) zero e xs is same = rw is (ap (λ l. xs ∷ l) (map-same f g ys (λ j. same (suc j) (λ wrong. cc))))
map-set f g (y ∷ ys) (suc i) e xs is same =
    let here : g y ≡ f y = same 0 (λ wrong. cc) in
    rw here (ap (λ l. f y ∷ l) (map-set f g ys i e xs is (λ j apart. same (suc j) (λ wrong. apart (cc)))))

-- away from the end, links are the same whatever the ends
pub after-any : (e f : Link) (links : List Link) (q : ℕ) → q ≢ end → after_of e links q ≡ after_of f links q
after-any e f links q apart = let is : eqb q end ≡ false = eqb-apart q end apart in rw (is, after_of, link_at) refl

before-any : (e f : Link) (links : List Link) (q : ℕ) → q ≢ end → before_of e links q ≡ before_of f links q
before-any e f links q apart = let is : eqb q end ≡ false = eqb-apart q end apart in rw (is, before_of, link_at) refl

-- what comes of the chains where one is changed
pub record IsMoved (ends links ends' links' : List Link) (i : ℕ) (xs : List ℕ) : Type 0 where
  pub linked : AreLinked ends' links'
  pub chains : chained ends' links' ≡ set (chained ends links) i xs

pub moved : (ends links links' : List Link) (e : Link) (i : ℕ) (xs : List ℕ) → length links ≤ end → i < length ends → AreLinked ends links → length links' ≡ length links
    → IsLinked e links' → ordered e links' ≡ xs
    → ((j q : ℕ) → j ≢ i → Has q (chain_at (chained ends links) j) → Lacks q xs)
    → ((q : ℕ) → q ≢ end → Lacks q (chain_at (chained ends links) i) → Lacks q xs → after_of e links' q ≡ after_of (get_or ends i no_ends) links q)
    → ((q : ℕ) → q ≢ end → Lacks q (chain_at (chained ends links) i) → Lacks q xs → before_of e links' q ≡ before_of (get_or ends i no_ends) links q)
    → IsMoved ends links (set ends i e) links' i xs
moved ends links links' e i xs fits within linked len its order apart after before = record {
  linked = record { each = each; apart = apart_all };
  chains = chains;
}
  where
    old : ℕ → Link
    old j = get_or ends j no_ends

    ring : (j : ℕ) → j ≢ i → IsRing (after_of (old j) links') (before_of (old j) links') (length links) end (ordered (old j) links)
    ring j differ =
        ring-apart (after_of (old j) links) (before_of (old j) links) (after_of (old j) links') (before_of (old j) links') (length links) end (ordered (old j) links) (linked.each j)
        (λ q has. after-any (old j) e links' q (not_end q has) ∙ after q (not_end q has) (lacks_here q has) (lacks_new q has) ∙ after-any (old i) (old j) links q (not_end q has))
        (λ q has. before-any (old j) e links' q (not_end q has) ∙ before q (not_end q has) (lacks_here q has) (lacks_new q has) ∙ before-any (old i) (old j) links q (not_end q has))
        refl refl
      where
        member : (q : ℕ) → Has q (ordered (old j) links) → Has q (chain_at (chained ends links) j)
        member q has = let P : List ℕ → Type 0 = λ l. Has q l in subst P (sym (chain-is ends links j)) has

        not_end : (q : ℕ) → Has q (ordered (old j) links) → q ≢ end
        not_end q has is = let less : q < length links = has-below q (length links) (ordered (old j) links) has (linked.each j).below in omega (arith, is, less, fits)

        lacks_here : (q : ℕ) → Has q (ordered (old j) links) → Lacks q (chain_at (chained ends links) i)
        lacks_here q has = linked.apart j i q differ (member q has)

        lacks_new : (q : ℕ) → Has q (ordered (old j) links) → Lacks q xs
        lacks_new q has = apart j q differ (member q has)

    same : (j : ℕ) → j ≢ i → ordered (old j) links' ≡ ordered (old j) links
    same j differ = walked (after_of (old j) links') (before_of (old j) links') (length links) (length links') end (ordered (old j) links) (ring j differ) len fits

    chains : chained (set ends i e) links' ≡ set (chained ends links) i xs
    chains = map-set (λ k. ordered k links) (λ k. ordered k links') ends i e xs order same

    each : (j : ℕ) → IsLinked (get_or (set ends i e) j no_ends) links'
    each j = by (eqb j i) refl
      where
        P : Link → Type 0
        P k = IsLinked k links'

        by : (t : Bool) → eqb j i ≡ t → IsLinked (get_or (set ends i e) j no_ends) links'
        by true is = subst P (sym (ap (λ k. get_or (set ends i e) k no_ends) (eqb-is j i is) ∙ get-set ends i e no_ends within)) its
        by false is =
            let differ : j ≢ i = eqb-differ j i is in
            subst P (sym (get-set-apart ends i e no_ends j differ))
            (ring_is (after_of (old j) links') (before_of (old j) links') (length links) (length links') end (ordered (old j) links) (ring j differ) len fits)

    at : (j : ℕ) → j ≢ i → chain_at (chained (set ends i e) links') j ≡ chain_at (chained ends links) j
    at j differ = ap (λ l. chain_at l j) chains ∙ get-set-apart (chained ends links) i xs [] j differ

    at_it : chain_at (chained (set ends i e) links') i ≡ xs
    at_it = ap (λ l. chain_at l i) chains ∙ get-set (chained ends links) i xs [] (omega (arith, within, length-chained ends links))

    apart_all : AreApart (chained (set ends i e) links')
    apart_all j k q differ has = by (eqb j i) refl (eqb k i) refl
      where
        H : List ℕ → Type 0
        H l = Has q l

        L : List ℕ → Type 0
        L l = Lacks q l

        by : (t : Bool) → eqb j i ≡ t → (u : Bool) → eqb k i ≡ u → Lacks q (chain_at (chained (set ends i e) links') k)
        by true is true are = absurd (differ (eqb-is j i is ∙ sym (eqb-is k i are)))
        by true is false are =
            let other : k ≢ i = eqb-differ k i are in
            let here : Has q xs = subst H (ap (λ m. chain_at (chained (set ends i e) links') m) (eqb-is j i is) ∙ at_it) has in
            subst L (sym (at k other)) (lacks-if-not q (chain_at (chained ends links) k) (λ there. has-lacks q xs here (apart k q other there)))
        by false is true are =
            let other : j ≢ i = eqb-differ j i is in
            let there : Has q (chain_at (chained ends links) j) = subst H (at j other) has in
            subst L (sym (ap (λ m. chain_at (chained (set ends i e) links') m) (eqb-is k i are) ∙ at_it)) (apart j q other there)
        by false is false are =
            let there : Has q (chain_at (chained ends links) j) = subst H (at j (eqb-differ j i is)) has in
            subst L (sym (at k (eqb-differ k i are))) (linked.apart j k q differ there)

-- One place more, which is in no chain.

link-before : (e l : Link) (links : List Link) (q : ℕ) → q < length links → link_at e (links ++ l ∷ []) q ≡ link_at e links q
link-before e l links q less = ap (λ x. cond (eqb q end) e x) (get_or_append_left links (l ∷ []) nowhere q less)

grown-ring : (e l : Link) (links new : List Link) → new ≡ links ++ l ∷ [] → IsLinked e links → IsRing (after_of e new) (before_of e new) (length new) end (ordered e links)
grown-ring e l links new is ring =
    rw is (ring-more (after_of e links) (before_of e links) (after_of e (links ++ l ∷ [])) (before_of e (links ++ l ∷ [])) (length links) (length (links ++ l ∷ [])) end (ordered e links) ring
    (omega (arith, length-append links (l ∷ []))) (λ q less. ap (λ k. k.after) (link-before e l links q less)) (λ q less. ap (λ k. k.before) (link-before e l links q less)) refl refl)

pub record IsGrown (ends links new : List Link) : Type 0 where
  pub linked : AreLinked ends new
  pub chains : chained ends new ≡ chained ends links

pub grown : (ends links new : List Link) (l : Link) → AreLinked ends links → new ≡ links ++ l ∷ [] → length new ≤ end → IsGrown ends links new
grown ends links new l linked is fits = record {
  linked = record {
    each = λ j.
        let e = get_or ends j no_ends in
        ring_is (after_of e new) (before_of e new) (length new) (length new) end (ordered e links) (grown-ring e l links new is (linked.each j)) refl fits;
    apart = let P : List (List ℕ) → Type 0 = λ c. AreApart c in subst P (sym chains) linked.apart;
  };
  chains = chains;
}
  where
    chains : chained ends new ≡ chained ends links
    chains = map-same (λ k. ordered k links) (λ k. ordered k new) ends (λ j.
        let e = get_or ends j no_ends in
        walked (after_of e new) (before_of e new) (length new) (length new) end (ordered e links) (grown-ring e l links new is (linked.each j)) refl fits)

-- Chains without places.

get-replicate : (n j : ℕ) → get_or (replicate n no_ends) j no_ends ≡ no_ends
get-replicate zero j = refl
get-replicate (suc n) zero = refl
get-replicate (suc n) (suc j) = get-replicate n j

pub chained-none : (n : ℕ) (links : List Link) → chained (replicate n no_ends) links ≡ replicate n []
chained-none zero links = refl
chained-none (suc n) links = rw (no-order links) (ap (λ l. [] ∷ l) (chained-none n links))

pub linked-none : (n : ℕ) (links : List Link) → AreLinked (replicate n no_ends) links
linked-none n links = record {
  each = λ j. let P : Link → Type 0 = λ e. IsLinked e links in subst P (sym (get-replicate n j)) (no-ring links);
  apart = λ j k q differ has.
      let P : List ℕ → Type 0 = λ l. Has q l in
      absurd (subst P (chain-is (replicate n no_ends) links j ∙ ap (λ e. ordered e links) (get-replicate n j) ∙ no-order links) has);
}

-- A place is put at the end of a chain, or taken out.

pub get-any : {X : Type 0} (xs : List X) (i : ℕ) (d e : X) → i < length xs → get_or xs i d ≡ get_or xs i e
get-any [] i d e less = absurd (omega (arith, less))
get-any (x ∷ xs) zero d e less = refl
get-any (x ∷ xs) (suc i) d e less = get-any xs i d e (omega (arith, less))

take-front : {X : Type 0} (xs ys : List X) → take (length xs) (xs ++ ys) ≡ xs
take-front [] ys = refl
take-front (x ∷ xs) ys = ap (λ l. x ∷ l) (take-front xs ys)

-- what is written over all of a list
pub written : {X : Type 0} (old new : List X) (n : ℕ) → n ≡ length old → length new ≡ length old → take n (new ++ drop (length new) old) ≡ new
written old new n is len = ap (λ k. take k (new ++ drop (length new) old)) (is ∙ sym len) ∙ take-front new (drop (length new) old)

pub pushed : (ends links slice links' : List Link) (e e' : Link) (i place : ℕ) → length links ≤ end → i < length ends → AreLinked ends links
    → e ≡ get_or ends i no_ends → slice ≡ links → length links' ≡ length slice
    → ((j : ℕ) → Lacks place (chain_at (chained ends links) j))
    → IsLinked e' links' → ordered e' links' ≡ ordered e slice ++ place ∷ []
    → KeepsOthers e slice e' links'
    → IsMoved ends links (set ends i e') links' i (chain_at (chained ends links) i ++ place ∷ [])
pushed ends links slice links' e e' i place fits within linked is same len lacks its order others =
    moved ends links links' e' i (chain_at (chained ends links) i ++ place ∷ []) fits within linked (len ∙ ap length same) its
    (order ∙ ap (λ l. l ++ place ∷ []) here)
    (λ j q differ has. lacks-push q place (chain_at (chained ends links) i) (linked.apart j i q differ has) (λ equal. has-lacks q (chain_at (chained ends links) j) has (let P : ℕ → Type 0 = λ k. Lacks k (chain_at (chained ends links) j) in subst P (sym equal) (lacks j))))
    (λ q apart not new. others.after q apart (out q not) (now q new) ∙ ap (λ k. after_of k slice q) is ∙ ap (λ l. after_of (get_or ends i no_ends) l q) same)
    (λ q apart not new. others.before q apart (out q not) (now q new) ∙ ap (λ k. before_of k slice q) is ∙ ap (λ l. before_of (get_or ends i no_ends) l q) same)
  where
    here : ordered e slice ≡ chain_at (chained ends links) i
    here = ap (λ k. ordered k slice) is ∙ ap (λ l. ordered (get_or ends i no_ends) l) same ∙ sym (chain-is ends links i)

    out : (q : ℕ) → Lacks q (chain_at (chained ends links) i) → Lacks q (ordered e slice)
    out q not = let P : List ℕ → Type 0 = λ l. Lacks q l in subst P (sym here) not

    now : (q : ℕ) → Lacks q (chain_at (chained ends links) i ++ place ∷ []) → Lacks q (ordered e' links')
    now q new = let P : List ℕ → Type 0 = λ l. Lacks q l in subst P (sym (order ∙ ap (λ l. l ++ place ∷ []) here)) new

pub taken : (ends links slice links' : List Link) (e e' : Link) (i place : ℕ) → length links ≤ end → i < length ends → AreLinked ends links
    → e ≡ get_or ends i no_ends → slice ≡ links → length links' ≡ length slice
    → IsLinked e' links' → ordered e' links' ≡ without place (ordered e slice)
    → KeepsOthers e slice e' links'
    → IsMoved ends links (set ends i e') links' i (without place (chain_at (chained ends links) i))
taken ends links slice links' e e' i place fits within linked is same len its order others =
    moved ends links links' e' i (without place (chain_at (chained ends links) i)) fits within linked (len ∙ ap length same) its
    (order ∙ ap (without place) here)
    (λ j q differ has. lacks-without q place (chain_at (chained ends links) i) (linked.apart j i q differ has))
    (λ q apart not new. others.after q apart (out q not) (now q new) ∙ ap (λ k. after_of k slice q) is ∙ ap (λ l. after_of (get_or ends i no_ends) l q) same)
    (λ q apart not new. others.before q apart (out q not) (now q new) ∙ ap (λ k. before_of k slice q) is ∙ ap (λ l. before_of (get_or ends i no_ends) l q) same)
  where
    here : ordered e slice ≡ chain_at (chained ends links) i
    here = ap (λ k. ordered k slice) is ∙ ap (λ l. ordered (get_or ends i no_ends) l) same ∙ sym (chain-is ends links i)

    out : (q : ℕ) → Lacks q (chain_at (chained ends links) i) → Lacks q (ordered e slice)
    out q not = let P : List ℕ → Type 0 = λ l. Lacks q l in subst P (sym here) not

    now : (q : ℕ) → Lacks q (without place (chain_at (chained ends links) i)) → Lacks q (ordered e' links')
    now q new = let P : List ℕ → Type 0 = λ l. Lacks q l in subst P (sym (order ∙ ap (without place) here)) new

-- The first place of a chain.

pub first-none : (e : Link) (links : List Link) → IsLinked e links → length links ≤ end → e.after ≡ end → None ≡ slice_get (ordered e links) 0
first-none e links ring fits is = by (ordered e links) ring
  where
    by : (xs : List ℕ) → IsRing (after_of e links) (before_of e links) (length links) end xs → None ≡ slice_get xs 0
    by [] ring = refl
    by (x ∷ xs) ring =
        let to : e.after ≡ x = ring.chain.0 in
        let less : x < length links = ring.below.0 in
        absurd (omega (arith, to, less, is, fits))

pub first-some : (e : Link) (links : List Link) → IsLinked e links → e.after ≢ end → Some e.after ≡ slice_get (ordered e links) 0
first-some e links ring differ = by (ordered e links) ring
  where
    by : (xs : List ℕ) → IsRing (after_of e links) (before_of e links) (length links) end xs → Some e.after ≡ slice_get xs 0
    by [] ring = absurd (differ (let to : e.after ≡ end = ring.chain.0 in to))
    by (x ∷ xs) ring = let to : e.after ≡ x = ring.chain.0 in ap (λ k. Some k) to

-- what contracts see of other chains
pub seen : (xs ys : List (List ℕ)) (places spare : ℕ) → xs ≡ ys → ◌≡◌ {A = Chaining} (record { chains = xs; places = places; spare = spare }) (record { chains = ys; places = places; spare = spare })
seen xs ys places spare is = ap (λ l. let it : Chaining = record { chains = l; places = places; spare = spare } in it) is

-- a place of a chain is one that there is
pub has-within : (ends links : List Link) (i place : ℕ) → AreLinked ends links → Has place (chain_at (chained ends links) i) → place < length links
has-within ends links i place linked has =
    let e = get_or ends i no_ends in
    let P : List ℕ → Type 0 = λ l. Has place l in
    has-below place (length links) (ordered e links) (subst P (chain-is ends links i) has) (linked.each i).below
