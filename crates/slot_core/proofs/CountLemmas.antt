-- Counts that are changed, added and replaced.
use Rattle.std.proofs.Common.{◌≡◌, ℕ, zero, suc, ◌<◌, ◌≤◌, ◌⊎◌, inl, inr, ◌+◌, ◌-◌, Bool, true, false, List, [], ◌∷◌, ◌++◌, length, Option, Some, None, get_or, refl, sym, ap, subst, ◌∙◌, arith}
use Rattle.std.specs.Prelude.{slice_get, slice_set, ◌==◌, ◌&&◌, if◌then◌else◌}
use Rattle.std.specs.Option.{option_map, option_map_or}
use Rattle.std.specs.Str.{bytes_eq}
use Rattle.std.specs.List.{position, AllByRecursion}
use Rattle.std.proofs.lemmas.Bool.{cases_eq, false_from_ne_true}
use Rattle.std.proofs.lemmas.Bool.Decides.{nat_tests}
use Rattle.std.proofs.lemmas.Option.{slice_get-get_or}
use Rattle.proxy_types.specs.declared.server.ServerIdentity.{ServerIdentity}
use Rattle.slot_core.specs.declared.slots.Count.{Count}
use Rattle.slot_core.specs.declared.slots.SlotIx.{SlotIx}
use Rattle.slot_core.specs.Counts.{is_of, place_of, closed, open_at, open_in, open_in_all, identity_at, named_at, changed, with_open, slots_at, IdentitiesDiffer}
use Rattle.list_core.proofs.Items.{absent, all-at, found, get-other, get-set, one_item, position_first}
use Rattle.proxy_types.specs.ServerIdentity.{same_server}
pub use Rattle.proxy_types.proofs.ServerLemmas.{same_server-refl, server_is}

-- so servers that differ do so both ways
other_server : (a b : ServerIdentity) → same_server a b ≡ false → same_server b a ≡ false
other_server a b differs = false_from_ne_true (same_server b a) (λ same.
    let wrong : true ≡ false = sym (same_server-refl a) ∙ ap (same_server a) (sym (server_is b a same)) ∙ differs in cc)

-- Changes of one count.

pub with_open-here : (f : ℕ → ℕ) (c : Count) (cs : List Count) → with_open f 0 (c ∷ cs) ≡ changed f c ∷ cs
with_open-here f c cs = refl

pub with_open-past : (f : ℕ → ℕ) (n : ℕ) (c : Count) (cs : List Count) → with_open f (suc n) (c ∷ cs) ≡ c ∷ with_open f n cs
with_open-past f n c cs = by (slice_get cs n) refl
  where
    by : (o : Option Count) → slice_get cs n ≡ o → with_open f (suc n) (c ∷ cs) ≡ c ∷ with_open f n cs
    by None is = rw is refl
    by (Some d) is = rw is refl

pub changed_is : (f : ℕ → ℕ) (n : ℕ) (cs : List Count) (c : Count) → slice_get cs n ≡ Some c → slice_set cs n (changed f c) ≡ with_open f n cs
changed_is f n cs c there = rw there refl

-- a count that was changed in place
pub changed_there : (f : ℕ → ℕ) (n m : ℕ) (cs counts : List Count) (c : Count) → n ≡ m → cs ≡ counts → m < length counts → c ≡ get_or cs n c
    → slice_set cs n (changed f c) ≡ with_open f m counts
changed_there f n m cs counts c same_place same lt is =
    let low : n < length cs = rw (same_place, same) lt in
    changed_is f n cs c (slice_get-get_or cs n c low ∙ ap Some (sym is)) ∙ ap (λ k. with_open f k cs) same_place ∙ ap (with_open f m) same

-- no other count is changed
pub open-changed : (f : ℕ → ℕ) (n : ℕ) (cs : List Count) → n < length cs → (m : ℕ) → open_at m (with_open f n cs) ≡ (if n == m then f (open_at m cs) else open_at m cs)
open-changed f n [] lt m = absurd (omega (arith, lt))
open-changed f zero (c ∷ cs) lt zero = refl
open-changed f zero (c ∷ cs) lt (suc m) = let e : (0 == suc m) ≡ false = grind (arith, nat_tests) in rw e refl
open-changed f (suc n) (c ∷ cs) lt zero = let e : (suc n == 0) ≡ false = grind (arith, nat_tests) in ap (open_at 0) (with_open-past f n c cs) ∙ rw e refl
open-changed f (suc n) (c ∷ cs) lt (suc m) = ap (open_at (suc m)) (with_open-past f n c cs) ∙ open-changed f n cs (omega (arith, lt)) m ∙ ap (λ b. if b then f (open_at m cs) else open_at m cs) (alike n m)
  where
    alike : (n m : ℕ) → (n == m) ≡ (suc n == suc m)
    alike n m = grind (arith, nat_tests)

pub open_there : (n : ℕ) (cs : List Count) → 0 < open_at n cs → n < length cs
open_there n [] some = absurd (omega (arith, some))
open_there zero (c ∷ cs) some = omega arith
open_there (suc n) (c ∷ cs) some = let lt : n < length cs = open_there n cs some in omega (arith, lt)

pub open-taken : (ix : SlotIx) (cs : List Count) → ix.place < length cs → (m : ℕ) → open_at m (with_open (λ n. n + 1) ix.place cs) ≡ open_at m cs + slots_at m ix
open-taken ix cs lt m = open-changed (λ n. n + 1) ix.place cs lt m ∙ by (ix.place == m) refl
  where
    by : (b : Bool) → (ix.place == m) ≡ b → (if ix.place == m then open_at m cs + 1 else open_at m cs) ≡ open_at m cs + slots_at m ix
    by true is = rw is refl
    by false is = rw is (omega arith)

pub open-given_back : (ix : SlotIx) (cs : List Count) → 0 < open_at ix.place cs → (m : ℕ) → open_at m (with_open (λ n. n - 1) ix.place cs) + slots_at m ix ≡ open_at m cs
open-given_back ix cs some m = ap (λ n. n + slots_at m ix) (open-changed (λ n. n - 1) ix.place cs (open_there ix.place cs some) m) ∙ by (ix.place == m) refl
  where
    one : (a b : ℕ) → (a == b) ≡ true → a ≡ b
    one a b e = grind (arith, nat_tests)

    by : (b : Bool) → (ix.place == m) ≡ b → (if ix.place == m then open_at m cs - 1 else open_at m cs) + slots_at m ix ≡ open_at m cs
    by true is =
        let own : 0 < open_at m cs = rw (one ix.place m is) at some in
        rw is (omega (arith, own))
    by false is = rw is (omega arith)

-- A count that is new is 0, and is the last.

pub open-added : (identity : ServerIdentity) (cs : List Count) (m : ℕ) → open_at m (cs ++ record { identity = identity; connections = 0 } ∷ []) ≡ open_at m cs
open-added identity [] zero = refl
open-added identity [] (suc m) = refl
open-added identity (c ∷ cs) zero = refl
open-added identity (c ∷ cs) (suc m) = open-added identity cs m

pub identity-added : (new : Count) (cs : List Count) (m : ℕ) → m < length cs → identity_at m (cs ++ new ∷ []) ≡ identity_at m cs
identity-added new [] m lt = absurd (omega (arith, lt))
identity-added new (c ∷ cs) zero lt = refl
identity-added new (c ∷ cs) (suc m) lt = identity-added new cs m (omega (arith, lt))

-- No two counts are of one server.

all_with : (P : ServerIdentity → Type 0) (f : ℕ → ℕ) (n : ℕ) (cs : List Count) → AllByRecursion (λ c. P c.identity) cs → AllByRecursion (λ c. P c.identity) (with_open f n cs)
all_with P f n [] all = tt
all_with P f zero (c ∷ cs) all = all
all_with P f (suc n) (c ∷ cs) all =
    let Q : List Count → Type 0 = λ l. AllByRecursion (λ c. P c.identity) l in
    subst Q (sym (with_open-past f n c cs)) (all.0, all_with P f n cs all.1)

pub differ-changed : (f : ℕ → ℕ) (n : ℕ) (cs : List Count) → IdentitiesDiffer cs → IdentitiesDiffer (with_open f n cs)
differ-changed f n [] differ = tt
differ-changed f zero (c ∷ cs) differ = differ
differ-changed f (suc n) (c ∷ cs) differ =
    let Q : List Count → Type 0 = λ l. IdentitiesDiffer l in
    subst Q (sym (with_open-past f n c cs)) (all_with (λ other. same_server c.identity other ≡ false) f n cs differ.0, differ-changed f n cs differ.1)

pub differ-added : (new : Count) (cs : List Count) → position (is_of new.identity) cs ≡ None → IdentitiesDiffer cs → IdentitiesDiffer (cs ++ new ∷ [])
differ-added new cs none differ = push cs (absent (is_of new.identity) cs none) differ
  where
    all_push : (c : Count) (cs : List Count) → AllByRecursion (λ other. same_server c.identity other.identity ≡ false) cs → same_server c.identity new.identity ≡ false
        → AllByRecursion (λ other. same_server c.identity other.identity ≡ false) (cs ++ new ∷ [])
    all_push c [] all last = (last, tt)
    all_push c (d ∷ cs) all last = (all.0, all_push c cs all.1 last)

    push : (cs : List Count) → AllByRecursion (λ c. is_of new.identity c ≡ false) cs → IdentitiesDiffer cs → IdentitiesDiffer (cs ++ new ∷ [])
    push [] all differ = (tt, tt)
    push (c ∷ cs) all differ = (all_push c cs differ.0 all.0, push cs all.1 differ.1)

-- A count that is replaced by one of a server that is new.

pub differ-replaced : (new : Count) (n : ℕ) (cs : List Count) → position (is_of new.identity) cs ≡ None → IdentitiesDiffer cs → IdentitiesDiffer (slice_set cs n new)
differ-replaced new n cs none differ = set n cs (absent (is_of new.identity) cs none) differ
  where
    others : (cs : List Count) → AllByRecursion (λ c. is_of new.identity c ≡ false) cs → AllByRecursion (λ other. same_server new.identity other.identity ≡ false) cs
    others [] all = tt
    others (c ∷ cs) all = (other_server c.identity new.identity all.0, others cs all.1)

    all_set : (c : Count) (n : ℕ) (cs : List Count) → same_server c.identity new.identity ≡ false → AllByRecursion (λ other. same_server c.identity other.identity ≡ false) cs
        → AllByRecursion (λ other. same_server c.identity other.identity ≡ false) (slice_set cs n new)
    all_set c n [] own all = tt
    all_set c zero (d ∷ cs) own all = (own, all.1)
    all_set c (suc n) (d ∷ cs) own all = (all.0, all_set c n cs own all.1)

    set : (n : ℕ) (cs : List Count) → AllByRecursion (λ c. is_of new.identity c ≡ false) cs → IdentitiesDiffer cs → IdentitiesDiffer (slice_set cs n new)
    set n [] all differ = tt
    set zero (c ∷ cs) all differ = (others cs all.1, differ.1)
    set (suc n) (c ∷ cs) all differ = (all_set c n cs all.0 differ.0, set n cs all.1 differ.1)

pub identity-replaced : (new : Count) (n : ℕ) (cs : List Count) (m : ℕ) → (m ≡ n → ⊥) → identity_at m (slice_set cs n new) ≡ identity_at m cs
identity-replaced new n cs m other = ap (option_map (λ c. c.identity)) (get-other cs n m new other)

pub open-replaced : (identity : ServerIdentity) (n : ℕ) (cs : List Count) → n < length cs → open_at n cs ≡ 0 → (m : ℕ) → open_at m (slice_set cs n (closed identity)) ≡ open_at m cs
open-replaced identity n cs there none m = by (cases_eq m n)
  where
    by : (m ≡ n) ⊎ (m ≡ n → ⊥) → open_at m (slice_set cs n (closed identity)) ≡ open_at m cs
    by (inl same) =
        ap (λ k. open_at k (slice_set cs n (closed identity))) same ∙ ap (λ o. option_map_or (λ c. c.connections) o 0) (get-set cs n (closed identity) there)
        ∙ sym none ∙ ap (λ k. open_at k cs) (sym same)
    by (inr other) = ap (λ o. option_map_or (λ c. c.connections) o 0) (get-other cs n m (closed identity) other)

pub place_identity : (identity : ServerIdentity) (counts : List Count) (n : ℕ) → place_of identity counts ≡ Some n → identity_at n counts ≡ Some identity
place_identity identity counts n is =
    let item = found (is_of identity) counts n is in
    ap (option_map (λ c. c.identity)) item.1 ∙ ap (λ i. Some i) (server_is item.0.identity identity item.2)

-- Sums of open connections.

pub open_at-in_all : (n : ℕ) (cs : List Count) → open_at n cs ≤ open_in_all cs
open_at-in_all n [] = omega arith
open_at-in_all zero (c ∷ cs) = omega arith
open_at-in_all (suc n) (c ∷ cs) = let less : open_at n cs ≤ open_in_all cs = open_at-in_all n cs in omega (arith, less)

pub open_in-in_all : (name : List ℕ) (cs : List Count) → open_in name cs ≤ open_in_all cs
open_in-in_all name [] = omega arith
open_in-in_all name (c ∷ cs) = by (bytes_eq c.identity.backend name) refl (open_in-in_all name cs)
  where
    by : (b : Bool) → bytes_eq c.identity.backend name ≡ b → open_in name cs ≤ open_in_all cs → open_in name (c ∷ cs) ≤ open_in_all (c ∷ cs)
    by true e less = rw e (omega (arith, less))
    by false e less = rw e (omega (arith, less))

none_in : (name : List ℕ) (cs : List Count) → ((m : ℕ) → open_at m cs ≡ 0) → open_in name cs ≡ 0
none_in name [] none = refl
none_in name (c ∷ cs) none = by (bytes_eq c.identity.backend name) refl (none_in name cs (λ m. none (suc m)))
  where
    by : (b : Bool) → bytes_eq c.identity.backend name ≡ b → open_in name cs ≡ 0 → open_in name (c ∷ cs) ≡ 0
    by true e rest = let own : c.connections ≡ 0 = none 0 in rw e (omega (arith, own, rest))
    by false e rest = rw e (omega (arith, rest))

-- where the counts stay, and so do the identities of those that are not 0
pub open_in-same : (name : List ℕ) (old next : List Count) → ((m : ℕ) → open_at m next ≡ open_at m old) → ((m : ℕ) → 0 < open_at m old → identity_at m next ≡ identity_at m old) →
    open_in name next ≡ open_in name old
open_in-same name [] next same kept = none_in name next same
open_in-same name (c ∷ cs) [] same kept = sym (none_in name (c ∷ cs) (λ m. sym (same m)))
open_in-same name (c ∷ cs) (d ∷ ds) same kept = by (c.connections) refl (open_in-same name cs ds (λ m. same (suc m)) (λ m some. kept (suc m) some))
  where
    own : Count → ℕ
    own e = if bytes_eq e.identity.backend name then e.connections else 0

    nothing : (e : Count) → e.connections ≡ 0 → own e ≡ 0
    nothing e none = test (bytes_eq e.identity.backend name)
      where
        test : (b : Bool) → (if b then e.connections else 0) ≡ 0
        test true = none
        test false = refl

    by : (n : ℕ) → c.connections ≡ n → open_in name ds ≡ open_in name cs → own d + open_in name ds ≡ own c + open_in name cs
    by zero none rest =
        let there : own c ≡ 0 = nothing c none in
        let here : own d ≡ 0 = nothing d (same 0 ∙ none) in
        omega (arith, there, here, rest)
    by (suc n) some rest =
        let one : Some d.identity ≡ Some c.identity = kept 0 (omega (arith, some)) in
        let identity : d.identity ≡ c.identity = one_item (Some d.identity) d.identity c.identity refl one in
        let here : own d ≡ own c = ap (λ i. if bytes_eq i.backend name then d.connections else 0) identity ∙ ap (λ k. if bytes_eq c.identity.backend name then k else 0) (same 0) in
        omega (arith, here, rest)

-- Places that are named.

pub still_named : (n : ℕ) (named : List Bool) (m : ℕ) → named_at m named ≡ true → named_at m (slice_set named n true) ≡ true
still_named n [] m is = is
still_named zero (b ∷ named) zero is = refl
still_named zero (b ∷ named) (suc m) is = is
still_named (suc n) (b ∷ named) zero is = is
still_named (suc n) (b ∷ named) (suc m) is = still_named n named m is

pub now_named : (n : ℕ) (named : List Bool) → n < length named → named_at n (slice_set named n true) ≡ true
now_named n named there = ap (λ o. option_map_or (λ is. is) o false) (get-set named n true there)

pub named-pushed : (named : List Bool) (m : ℕ) → named_at m named ≡ true → named_at m (named ++ true ∷ []) ≡ true
named-pushed [] m is = absurd (cc)
named-pushed (b ∷ named) zero is = is
named-pushed (b ∷ named) (suc m) is = named-pushed named m is

pub last-named : (named : List Bool) → named_at (length named) (named ++ true ∷ []) ≡ true
last-named [] = refl
last-named (b ∷ named) = last-named named

-- one that is named is within
pub named-within : (m : ℕ) (named : List Bool) → named_at m named ≡ true → m < length named
named-within m [] is = absurd (cc)
named-within zero (b ∷ named) is = omega arith
named-within (suc m) (b ∷ named) is = let less : m < length named = named-within m named is in omega (arith, less)

pub identity-last : (new : Count) (cs : List Count) → identity_at (length cs) (cs ++ new ∷ []) ≡ Some new.identity
identity-last new [] = refl
identity-last new (c ∷ cs) = identity-last new cs

-- a count of a server is the only one
pub position_only : (identity : ServerIdentity) (counts : List Count) (n : ℕ) (count : Count) → IdentitiesDiffer counts → slice_get counts n ≡ Some count → is_of identity count ≡ true
    → place_of identity counts ≡ Some n
position_only identity counts n count differ there is = position_first (is_of identity) counts n count there is (earlier counts n differ there)
  where
    same : count.identity ≡ identity
    same = server_is count.identity identity is

    earlier : (cs : List Count) (k : ℕ) → IdentitiesDiffer cs → slice_get cs k ≡ Some count → (m : ℕ) (y : Count) → m < k → slice_get cs m ≡ Some y → is_of identity y ≡ false
    earlier [] k differ at m y lt here = absurd (cc)
    earlier (c ∷ cs) zero differ at m y lt here = absurd (omega (arith, lt))
    earlier (c ∷ cs) (suc k) differ at zero y lt here =
        let own : c ≡ y = one (slice_get (c ∷ cs) 0) c y refl here in
        let apart : same_server c.identity count.identity ≡ false = all-at (λ other. same_server c.identity other.identity ≡ false) cs k count differ.0 at in
        rw (← own, ← same) apart
      where
        one : (o : Option Count) (x z : Count) → o ≡ Some x → o ≡ Some z → x ≡ z
        one = one_item
    earlier (c ∷ cs) (suc k) differ at (suc m) y lt here = earlier cs k differ.1 at m y (omega (arith, lt)) here
