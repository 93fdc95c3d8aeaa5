use Rattle.std.proofs.Common.{◌≡◌, ◌≢◌, ℕ, zero, suc, ◌<◌, ◌⊎◌, ⊎_elim, inl, inr, List, [], ◌∷◌, ◌++◌, length, get_or, Option, Some, None, subst, sym, ap, refl, ◌∙◌, append_assoc}
use Rattle.std.specs.Prelude.{slice_get}
use Rattle.std.proofs.lemmas.Option.{slice_get_within, slice_get-get_or}
use Rattle.record_core.specs.declared.record.Record.{Record}
use Rattle.desk_core.specs.declared.receipts.SettleFault.{SettleFault}
use Rattle.desk_core.specs.declared.receipts.SettleFault.TheVariants.{Missing, WrongReceipt, Twice, NotAll}
use Rattle.desk_core.specs.Receipts.{AreRecordsOf, NumbersRise, ShareNoNumber, AreReceipts, AreBelow, IsFaultOf, IsFirstFault, FirstFaultIsOne}
use Rattle.desk_core.proofs.Once.{all_here, pairs_at}

at_seam : {X : Type 0} (xs : List X) (y : X) (ys : List X) → slice_get (xs ++ y ∷ ys) (length xs) ≡ Some y
at_seam [] y ys = refl
at_seam (x ∷ xs) y ys = at_seam xs y ys

at_left : {X : Type 0} (xs ys : List X) (k : ℕ) (x : X) → slice_get xs k ≡ Some x → slice_get (xs ++ ys) k ≡ Some x
at_left [] ys k x e = let e' : None ≡ Some x = e in absurd cc
at_left (z ∷ xs) ys zero x e = e
at_left (z ∷ xs) ys (suc k) x e = at_left xs ys k x e

-- a bad receipt is not kept, whatever follows it
pub bad_not_kept : (book : ℕ → Option Record) (before : List (List Record)) (part : List Record) (r : Record) (rest : List Record) (after : List (List Record)) (f : SettleFault) → IsFaultOf book before part r f → AreReceipts book (before ++ (part ++ r ∷ rest) ∷ after) → ⊥
bad_not_kept book before part r rest after f bad h = by_fault f bad
  where
    is : book r.number ≡ Some r
    is = all_here (λ s. book s.number ≡ Some s) (part ++ r ∷ rest) (length part) r (all_here (AreRecordsOf book) (before ++ (part ++ r ∷ rest) ∷ after) (length before) (part ++ r ∷ rest) h.are_records (at_seam before (part ++ r ∷ rest) after)) (at_seam part r rest)

    above : AreBelow part r.number
    above k d l =
        let rises = all_here NumbersRise (before ++ (part ++ r ∷ rest) ∷ after) (length before) (part ++ r ∷ rest) h.rise (at_seam before (part ++ r ∷ rest) after) in
        pairs_at (λ (s t : Record). s.number < t.number) (part ++ r ∷ rest) k (length part) (get_or part k d) r rises l (at_left part (r ∷ rest) k (get_or part k d) (slice_get-get_or part k d l)) (at_seam part r rest)

    by_fault : (g : SettleFault) → IsFaultOf book before part r g → ⊥
    by_fault (Missing n) b = let e : book r.number ≡ None = ap book (sym b.0) ∙ b.1 in let no : None ≡ Some r = sym e ∙ is in cc
    by_fault (WrongReceipt n) b = ⊎_elim
        (λ (differs : book n ≢ Some r). differs (ap book b.0 ∙ is))
        (λ (low : AreBelow part n → ⊥). low (subst (AreBelow part) (sym b.0) above))
        b.2
    by_fault (Twice n) b =
        let e = b.3 in
        pairs_at ShareNoNumber (before ++ (part ++ r ∷ rest) ∷ after) e.0 (length before) e.1 (part ++ r ∷ rest) h.apart (slice_get_within before e.0 e.1 e.2) (at_left before ((part ++ r ∷ rest) ∷ after) e.0 e.1 e.2) (at_seam before (part ++ r ∷ rest) after) n e.3 (length part, r, at_seam part r rest, sym b.0)
    by_fault NotAll b = b

-- of one receipt there is one fault
pub bad_once : (book : ℕ → Option Record) (before : List (List Record)) (part : List Record) (r : Record) (f g : SettleFault) → IsFaultOf book before part r f → IsFaultOf book before part r g → f ≡ g
bad_once book before part r (Missing n) (Missing m) b c = ap (λ k. Missing k) (b.0 ∙ sym c.0)
bad_once book before part r (Missing n) (WrongReceipt m) b c = absurd (c.1 (ap book (c.0 ∙ sym b.0) ∙ b.1))
bad_once book before part r (Missing n) (Twice m) b c = let no : None ≡ Some r = sym (ap book (c.0 ∙ sym b.0) ∙ b.1) ∙ c.1 in absurd cc
bad_once book before part r (WrongReceipt n) (Missing m) b c = absurd (b.1 (ap book (b.0 ∙ sym c.0) ∙ c.1))
bad_once book before part r (WrongReceipt n) (WrongReceipt m) b c = ap (λ k. WrongReceipt k) (b.0 ∙ sym c.0)
bad_once book before part r (WrongReceipt n) (Twice m) b c = absurd (⊎_elim
    (λ (differs : book n ≢ Some r). differs (ap book (b.0 ∙ sym c.0) ∙ c.1))
    (λ (low : AreBelow part n → ⊥). low (subst (AreBelow part) (c.0 ∙ sym b.0) c.2))
    b.2)
bad_once book before part r (Twice n) (Missing m) b c = let no : None ≡ Some r = sym (ap book (b.0 ∙ sym c.0) ∙ c.1) ∙ b.1 in absurd cc
bad_once book before part r (Twice n) (WrongReceipt m) b c = absurd (⊎_elim
    (λ (differs : book m ≢ Some r). differs (ap book (c.0 ∙ sym b.0) ∙ b.1))
    (λ (low : AreBelow part m → ⊥). low (subst (AreBelow part) (b.0 ∙ sym c.0) b.2))
    c.2)
bad_once book before part r (Twice n) (Twice m) b c = ap (λ k. Twice k) (b.0 ∙ sym c.0)
bad_once book before part r NotAll g b c = absurd b
bad_once book before part r (Missing n) NotAll b c = absurd c
bad_once book before part r (WrongReceipt n) NotAll b c = absurd c
bad_once book before part r (Twice n) NotAll b c = absurd c

-- two places of a list are one, or one is before the other
abbrev Places : {X : Type 0} → List X → X → List X → List X → X → List X → Type 0
Places {X} a x b c y d = ((a ≡ c) × (x ≡ y) × (b ≡ d)) ⊎ (((m : List X) × (c ≡ a ++ x ∷ m)) ⊎ ((m : List X) × (a ≡ c ++ y ∷ m)))

places : {X : Type 0} (a : List X) (x : X) (b c : List X) (y : X) (d : List X) → a ++ x ∷ b ≡ c ++ y ∷ d → Places a x b c y d
places {X = X} [] x b [] y d e = let p : x ≡ y = cc in let q : b ≡ d = cc in inl (refl, p, q)
places {X = X} [] x b (z ∷ c) y d e = let p : x ≡ z = cc in inr (inl (c, ap (λ w. w ∷ c) (sym p)))
places {X = X} (z ∷ a) x b [] y d e = let p : z ≡ y = cc in inr (inr (a, ap (λ w. w ∷ a) p))
places {X = X} (z ∷ a) x b (w ∷ c) y d e =
    let p : z ≡ w = cc in
    let q : a ++ x ∷ b ≡ c ++ y ∷ d = cc in
    ⊎_elim
    (λ (t : (a ≡ c) × (x ≡ y) × (b ≡ d)). inl ((λ i. p i ∷ t.0 i), t.1, t.2))
    (λ (t : ((m : List X) × (c ≡ a ++ x ∷ m)) ⊎ ((m : List X) × (a ≡ c ++ y ∷ m))). ⊎_elim
    (λ (u : (m : List X) × (c ≡ a ++ x ∷ m)). inr (inl (u.0, λ i. sym p i ∷ u.1 i)))
    (λ (u : (m : List X) × (a ≡ c ++ y ∷ m)). inr (inr (u.0, λ i. p i ∷ u.1 i)))
    t)
    (places a x b c y d q)

-- neither a pass nor a part of a pass before a first bad receipt has another
clash_pass : (book : ℕ → Option Record) (passes : List (List Record)) (f g : SettleFault) (h : IsFirstFault book passes f) (k : IsFirstFault book passes g) (m : List (List Record)) → k.before ≡ h.before ++ (h.part ++ h.receipt ∷ h.rest) ∷ m → ⊥
clash_pass book passes f g h k m e =
    bad_not_kept book h.before h.part h.receipt h.rest (m ++ k.part ∷ []) f h.bad
    (subst (AreReceipts book) (ap (λ w. w ++ k.part ∷ []) e ∙ append_assoc h.before ((h.part ++ h.receipt ∷ h.rest) ∷ m) (k.part ∷ [])) k.kept)

clash_part : (book : ℕ → Option Record) (passes : List (List Record)) (f g : SettleFault) (h : IsFirstFault book passes f) (k : IsFirstFault book passes g) (m : List Record) → h.before ≡ k.before → k.part ≡ h.part ++ h.receipt ∷ m → ⊥
clash_part book passes f g h k m same e =
    bad_not_kept book h.before h.part h.receipt m [] f h.bad
    (subst (AreReceipts book) (λ i. sym same i ++ e i ∷ []) k.kept)

pub first_fault_is_one : FirstFaultIsOne
first_fault_is_one book passes f h = ((λ kept. bad_not_kept book h.before h.part h.receipt h.rest h.after f h.bad (subst (AreReceipts book) h.is kept)), one)
  where
    one : (g : SettleFault) → IsFirstFault book passes g → f ≡ g
    one g k = by_pass (places h.before (h.part ++ h.receipt ∷ h.rest) h.after k.before (k.part ++ k.receipt ∷ k.rest) k.after (sym h.is ∙ k.is))
      where
        by_part : h.before ≡ k.before → Places h.part h.receipt h.rest k.part k.receipt k.rest → f ≡ g
        by_part same (inl t) = bad_once book h.before h.part h.receipt f g h.bad (subst (λ (w : List (List Record) × List Record × Record). IsFaultOf book w.0 w.1 w.2 g) (λ i. (sym same i, sym t.0 i, sym t.1 i)) k.bad)
        by_part same (inr (inl t)) = absurd (clash_part book passes f g h k t.0 same t.1)
        by_part same (inr (inr t)) = absurd (clash_part book passes g f k h t.0 (sym same) t.1)

        by_pass : Places h.before (h.part ++ h.receipt ∷ h.rest) h.after k.before (k.part ++ k.receipt ∷ k.rest) k.after → f ≡ g
        by_pass (inl t) = by_part t.0 (places h.part h.receipt h.rest k.part k.receipt k.rest t.1)
        by_pass (inr (inl t)) = absurd (clash_pass book passes f g h k t.0 t.1)
        by_pass (inr (inr t)) = absurd (clash_pass book passes g f k h t.0 t.1)
