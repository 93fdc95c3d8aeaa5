-- Totals that change as counts do.
use Rattle.std.proofs.Common.{◌≡◌, ℕ, zero, suc, ◌<◌, ◌≤◌, ◌⊎◌, inl, inr, ◌+◌, ◌-◌, ◌^◌, Bool, true, false, List, [], ◌∷◌, ◌++◌, length, Option, Some, None, get_or, refl, sym, ap, subst, ◌∙◌, arith, length-append}
use Rattle.std.specs.Prelude.{slice_get, slice_set, ◌≢◌, if◌then◌else◌}
use Rattle.std.specs.Option.{option_map, option_map_or}
use Rattle.std.specs.Str.{bytes_eq}
use Rattle.std.specs.List.{position}
use Rattle.std.proofs.lemmas.Bool.{cases_eq, eqb-true, false_from_ne_true, false≢true}
use Rattle.std.proofs.lemmas.Option.{get_or_from_slice_get, slice_get-get_or, slice_get_read, slice_get_within}
use Rattle.std.proofs.lemmas.Slice.Eq.{bytes_eq-Decides}
use Rattle.proxy_types.specs.declared.server.ServerIdentity.{ServerIdentity}
use Rattle.slot_core.specs.declared.slots.Count.{Count}
use Rattle.slot_core.specs.declared.totals.BackendTotal.{BackendTotal}
use Rattle.slot_core.specs.Counts.{closed, changed, is_of, open_at, open_in, with_open}
use Rattle.slot_core.specs.Totals.{has_name, is_unused, name_at, connections_at, servers_at, with_connections, with_servers, with_total, servers_in, AreCounts, AreTotals, AreTotalsOf, IsTotal, NamesDiffer}
use Rattle.slot_core.proofs.CountLemmas.{differ-added, differ-changed, differ-replaced, open_there}
use Rattle.list_core.proofs.Items.{absent, all-at, found, get-last, get-other, get-pushed, get-set, length-set, one_item, push-cases, set-cases, within}

-- Sums over the servers of a backend.

-- what a count adds to the sum of a name
abbrev own : (Count → ℕ) → List ℕ → Count → ℕ
own f name count = if bytes_eq count.identity.backend name then f count else 0

abbrev sum_in : (Count → ℕ) → List ℕ → List Count → ℕ
sum_in f name [] = 0
sum_in f name (count ∷ counts) = own f name count + sum_in f name counts

abbrev connections : Count → ℕ
connections count = count.connections

abbrev one : Count → ℕ
one count = 1

open-sum : (name : List ℕ) (counts : List Count) → open_in name counts ≡ sum_in connections name counts
open-sum name [] = refl
open-sum name (count ∷ counts) = ap (λ n. own connections name count + n) (open-sum name counts)

servers-sum : (name : List ℕ) (counts : List Count) → servers_in name counts ≡ sum_in one name counts
servers-sum name [] = refl
servers-sum name (count ∷ counts) = ap (λ n. own one name count + n) (servers-sum name counts)

own-same : (f : Count → ℕ) (name : List ℕ) (count : Count) → count.identity.backend ≡ name → own f name count ≡ f count
own-same f name count same = let is : bytes_eq count.identity.backend name ≡ true = (bytes_eq-Decides count.identity.backend name).1 same in rw is refl

own-other : (f : Count → ℕ) (name : List ℕ) (count : Count) → (count.identity.backend ≡ name → ⊥) → own f name count ≡ 0
own-other f name count other =
    let is : bytes_eq count.identity.backend name ≡ false =
    false_from_ne_true (bytes_eq count.identity.backend name) (λ same. other ((bytes_eq-Decides count.identity.backend name).0 same)) in
    rw is refl

sum-set : (f : Count → ℕ) (name : List ℕ) (counts : List Count) (n : ℕ) (old new : Count) → slice_get counts n ≡ Some old →
    sum_in f name (slice_set counts n new) + own f name old ≡ sum_in f name counts + own f name new
sum-set f name [] n old new there = absurd (let wrong : None ≡ Some old = there in cc)
sum-set f name (count ∷ counts) zero old new there =
    let same : count ≡ old = one_item (Some count) count old refl there in
    let is : own f name count ≡ own f name old = ap (own f name) same in
    omega (arith, is)
sum-set f name (count ∷ counts) (suc n) old new there =
    let rest : sum_in f name (slice_set counts n new) + own f name old ≡ sum_in f name counts + own f name new = sum-set f name counts n old new there in
    omega (arith, rest)

sum-pushed : (f : Count → ℕ) (name : List ℕ) (counts : List Count) (new : Count) → sum_in f name (counts ++ new ∷ []) ≡ sum_in f name counts + own f name new
sum-pushed f name [] new = omega arith
sum-pushed f name (count ∷ counts) new =
    let rest : sum_in f name (counts ++ new ∷ []) ≡ sum_in f name counts + own f name new = sum-pushed f name counts new in
    omega (arith, rest)

sum-at : (f : Count → ℕ) (name : List ℕ) (counts : List Count) (n : ℕ) (count : Count) → slice_get counts n ≡ Some count → own f name count ≤ sum_in f name counts
sum-at f name [] n count there = absurd (let wrong : None ≡ Some count = there in cc)
sum-at f name (other ∷ counts) zero count there =
    let is : own f name other ≡ own f name count = ap (own f name) (one_item (Some other) other count refl there) in
    omega (arith, is)
sum-at f name (other ∷ counts) (suc n) count there =
    let rest : own f name count ≤ sum_in f name counts = sum-at f name counts n count there in
    omega (arith, rest)

sum-none : (f : Count → ℕ) (name : List ℕ) (counts : List Count) → ((n : ℕ) (count : Count) → slice_get counts n ≡ Some count → count.identity.backend ≡ name → ⊥) → sum_in f name counts ≡ 0
sum-none f name [] none = refl
sum-none f name (count ∷ counts) none =
    let here : own f name count ≡ 0 = own-other f name count (none 0 count refl) in
    let rest : sum_in f name counts ≡ 0 = sum-none f name counts (λ n. none (suc n)) in
    omega (arith, here, rest)

-- a backend of which no server is counted has no open connection
none_open : (name : List ℕ) (counts : List Count) → servers_in name counts ≡ 0 → open_in name counts ≡ 0
none_open name [] none = refl
none_open name (count ∷ counts) none = by (bytes_eq count.identity.backend name) refl (none_open name counts)
  where
    by : (b : Bool) → bytes_eq count.identity.backend name ≡ b → (servers_in name counts ≡ 0 → open_in name counts ≡ 0) → open_in name (count ∷ counts) ≡ 0
    by true e rest = absurd (let wrong : 1 + servers_in name counts ≡ 0 = rw e at none in omega (arith, wrong))
    by false e rest = let fewer : 0 + servers_in name counts ≡ 0 = rw e at none in let less : open_in name counts ≡ 0 = rest (omega (arith, fewer)) in rw e (omega (arith, less))

pub servers-few : (name : List ℕ) (counts : List Count) → servers_in name counts ≤ length counts
servers-few name [] = omega arith
servers-few name (count ∷ counts) = by (bytes_eq count.identity.backend name) refl (servers-few name counts)
  where
    by : (b : Bool) → bytes_eq count.identity.backend name ≡ b → servers_in name counts ≤ length counts → servers_in name (count ∷ counts) ≤ length (count ∷ counts)
    by true e rest = rw e (omega (arith, rest))
    by false e rest = rw e (omega (arith, rest))

-- Totals at their places.

name-set : (totals : List BackendTotal) (q : ℕ) (old new : BackendTotal) → slice_get totals q ≡ Some old → new.name ≡ old.name → (m : ℕ) → name_at m (slice_set totals q new) ≡ name_at m totals
name-set totals q old new there same m = by (cases_eq m q)
  where
    by : (m ≡ q) ⊎ (m ≡ q → ⊥) → name_at m (slice_set totals q new) ≡ name_at m totals
    by (inl here) =
        ap (λ k. name_at k (slice_set totals q new)) here ∙ ap (option_map (λ t. t.name)) (get-set totals q new (slice_get_within totals q old there)) ∙ ap (λ n. Some n) same
        ∙ sym (ap (option_map (λ t. t.name)) there) ∙ ap (λ k. name_at k totals) (sym here)
    by (inr other) = ap (option_map (λ t. t.name)) (get-other totals q m new other)

pub with_total-is : (change : BackendTotal → BackendTotal) (q : ℕ) (totals : List BackendTotal) (total : BackendTotal) → slice_get totals q ≡ Some total →
    with_total change q totals ≡ slice_set totals q (change total)
with_total-is change q totals total there = rw there refl

-- a total that is changed in place
pub changed_total : (change : BackendTotal → BackendTotal) (q : ℕ) (totals : List BackendTotal) (total : BackendTotal) → q < length totals → total ≡ get_or totals q total →
    slice_set totals q (change total) ≡ with_total change q totals
changed_total change q totals total there is = sym (with_total-is change q totals total (slice_get-get_or totals q total there ∙ ap Some (sym is)))

-- the total of a name at a place
pub named_total : (totals : List BackendTotal) (q : ℕ) (name : List ℕ) → name_at q totals ≡ Some name → (total : BackendTotal) × (slice_get totals q ≡ Some total) × (total.name ≡ name)
named_total totals q name is = by (slice_get totals q) refl
  where
    by : (o : Option BackendTotal) → slice_get totals q ≡ o → (total : BackendTotal) × (slice_get totals q ≡ Some total) × (total.name ≡ name)
    by None e = absurd (let wrong : None ≡ Some name = sym (ap (option_map (λ t. t.name)) e) ∙ is in cc)
    by (Some total) e = (total, e, one_item (Some total.name) total.name name refl (sym (ap (option_map (λ t. t.name)) e) ∙ is))

-- no other total is of the name
pub name_only : (name : List ℕ) (totals : List BackendTotal) (n : ℕ) (total : BackendTotal) → NamesDiffer totals → slice_get totals n ≡ Some total → has_name name total ≡ true →
    position (has_name name) totals ≡ Some n
name_only name totals n total differ there is = by (position (has_name name) totals) refl
  where
    by : (o : Option ℕ) → position (has_name name) totals ≡ o → o ≡ Some n
    by None none = absurd (false≢true (sym (all-at (λ t. has_name name t ≡ false) totals n total (absent (has_name name) totals none) there) ∙ is))
    by (Some m) at =
        let first = found (has_name name) totals m at in
        let same : first.0.name ≡ total.name = (bytes_eq-Decides first.0.name name).0 first.2 ∙ sym ((bytes_eq-Decides total.name name).0 is) in
        ap (λ k. Some k) (differ m n first.0 total first.1 there same)

-- One total changes, and with it the numbers of its name.

pub one_changes : (connections_of servers_of connections_next servers_next : List ℕ → ℕ) (totals : List BackendTotal) (q : ℕ) (old new : BackendTotal) → AreTotalsOf connections_of servers_of totals → slice_get totals q ≡ Some old →
    new.name ≡ old.name → new.connections ≡ connections_next old.name → new.servers ≡ servers_next old.name →
    ((name : List ℕ) → (name ≡ old.name → ⊥) → (connections_next name ≡ connections_of name) × (servers_next name ≡ servers_of name)) → AreTotalsOf connections_next servers_next (slice_set totals q new)
one_changes connections_of servers_of connections_next servers_next totals q old new are there same now_connections now_servers others = record {
  apart = λ m n first other at found alike.
      let former = was m first (set-cases totals q m new first at) in
      let latter = was n other (set-cases totals q n new other found) in
      are.apart m n former.0 latter.0 former.1 latter.1 (former.2 ∙ alike ∙ sym latter.2);
  each = λ m total at. by m total (set-cases totals q m new total at);
}
  where
    was : (m : ℕ) (total : BackendTotal) → ((m ≡ q) × (new ≡ total)) ⊎ ((m ≢ q) × (slice_get totals m ≡ Some total)) → (t : BackendTotal) × (slice_get totals m ≡ Some t) × (t.name ≡ total.name)
    was m total (inl here) = (old, ap (slice_get totals) here.0 ∙ there, sym same ∙ ap (λ t. t.name) here.1)
    was m total (inr at) = (total, at.1, refl)

    by : (m : ℕ) (total : BackendTotal) → ((m ≡ q) × (new ≡ total)) ⊎ ((m ≢ q) × (slice_get totals m ≡ Some total)) → IsTotal connections_next servers_next total
    by m total (inl here) = subst (IsTotal connections_next servers_next) here.1 (record { open_is = now_connections ∙ ap connections_next (sym same); servers_is = now_servers ∙ ap servers_next (sym same) })
    by m total (inr at) =
        let is = are.each m total at.1 in
        let differs : total.name ≡ old.name → ⊥ = λ alike. at.0 (are.apart m q total old at.1 there alike) in
        let unchanged = others total.name differs in
        record { open_is = is.open_is ∙ sym unchanged.0; servers_is = is.servers_is ∙ sym unchanged.1 }

-- A connection more, or less.

names_stay : (f : ℕ → ℕ) (n : ℕ) (counts : List Count) (count : Count) → slice_get counts n ≡ Some count → with_open f n counts ≡ slice_set counts n (changed f count)
names_stay f n counts count there = rw there refl

pub moved : (f : ℕ → ℕ) (counts : List Count) (backends : List ℕ) (totals : List BackendTotal) (n q : ℕ) (count : Count) → AreTotals counts backends totals →
    slice_get counts n ≡ Some count → slice_get backends n ≡ Some q → f (open_in count.identity.backend counts) + count.connections ≡ open_in count.identity.backend counts + f count.connections →
    AreTotals (with_open f n counts) backends (with_total (with_connections f) q totals)
moved f counts backends totals n q count are there at same =
    rw (names_stay f n counts count there, with_total-is (with_connections f) q totals total.0 total.1)
    (record {
      many = are.many ∙ sym (length-set counts n (changed f count));
      named = λ m other place found is. named m other place (set-cases counts n m (changed f count) other found) is;
      numbers = one_changes (λ name. open_in name counts) (λ name. servers_in name counts) (λ name. open_in name next) (λ name. servers_in name next) totals q total.0 (with_connections f total.0) are.numbers total.1 refl now_open now_servers others;
    })
  where
    total : (t : BackendTotal) × (slice_get totals q ≡ Some t) × (t.name ≡ count.identity.backend)
    total = named_total totals q count.identity.backend (are.named n count q there at)

    next : List Count
    next = slice_set counts n (changed f count)

    is : IsTotal (λ name. open_in name counts) (λ name. servers_in name counts) total.0
    is = are.numbers.each q total.0 total.1

    named : (m : ℕ) (other : Count) (place : ℕ) → ((m ≡ n) × (changed f count ≡ other)) ⊎ ((m ≢ n) × (slice_get counts m ≡ Some other)) → slice_get backends m ≡ Some place →
        name_at place (slice_set totals q (with_connections f total.0)) ≡ Some other.identity.backend
    named m other place (inl here) found =
        name-set totals q total.0 (with_connections f total.0) total.1 refl place ∙ are.named n count place there (ap (slice_get backends) (sym here.0) ∙ found) ∙ ap (λ c. Some c.identity.backend) here.1
    named m other place (inr at') found = name-set totals q total.0 (with_connections f total.0) total.1 refl place ∙ are.named m other place at'.1 found

    sums : (name : List ℕ) → open_in name next + own connections name count ≡ open_in name counts + own connections name (changed f count)
    sums name =
        ap (λ k. k + own connections name count) (open-sum name next) ∙ sum-set connections name counts n count (changed f count) there
        ∙ ap (λ k. k + own connections name (changed f count)) (sym (open-sum name counts))

    same_servers : (name : List ℕ) → servers_in name next ≡ servers_in name counts
    same_servers name =
        let set = sum-set one name counts n count (changed f count) there in
        let new = servers-sum name next in
        let old = servers-sum name counts in
        omega (arith, set, new, old)

    now_open : f total.0.connections ≡ open_in total.0.name next
    now_open =
        let name : List ℕ = count.identity.backend in
        let before : own connections name count ≡ count.connections = own-same connections name count refl in
        let after : own connections name (changed f count) ≡ f count.connections = own-same connections name (changed f count) refl in
        let sum = sums name in
        let changes : f (open_in name counts) ≡ open_in name next = omega (arith, sum, before, after, same) in
        ap f (is.open_is ∙ ap (λ x. open_in x counts) total.2) ∙ changes ∙ ap (λ x. open_in x next) (sym total.2)

    now_servers : total.0.servers ≡ servers_in total.0.name next
    now_servers = is.servers_is ∙ sym (same_servers total.0.name)

    others : (name : List ℕ) → (name ≡ total.0.name → ⊥) → (open_in name next ≡ open_in name counts) × (servers_in name next ≡ servers_in name counts)
    others name other =
        let differs : count.identity.backend ≡ name → ⊥ = λ alike. other (sym alike ∙ sym total.2) in
        let before : own connections name count ≡ 0 = own-other connections name count differs in
        let after : own connections name (changed f count) ≡ 0 = own-other connections name (changed f count) differs in
        let sum = sums name in
        (omega (arith, sum, before, after), same_servers name)

-- A total of a place of a count.

pub total_at : (counts : List Count) (backends : List ℕ) (totals : List BackendTotal) (n q : ℕ) → AreTotals counts backends totals → n < length counts → slice_get backends n ≡ Some q →
    (q < length totals) × ((count : Count) × (slice_get counts n ≡ Some count) × (connections_at q totals ≡ open_in count.identity.backend counts) × (open_at n counts ≤ open_in count.identity.backend counts)
    × (servers_at q totals ≡ servers_in count.identity.backend counts) × (0 < servers_in count.identity.backend counts))
total_at counts backends totals n q are less at =
    let item = within counts n less in
    let count = item.0 in
    let name = count.identity.backend in
    let total = named_total totals q name (are.named n count q item.1 at) in
    let is = are.numbers.each q total.0 total.1 in
    let sum = sum-at connections name counts n count item.1 in
    let whole = open-sum name counts in
    let here : own connections name count ≡ count.connections = own-same connections name count refl in
    let open_here : open_at n counts ≡ count.connections = ap (λ o. option_map_or connections o 0) item.1 in
    let number = sum-at one name counts n count item.1 in
    let all = servers-sum name counts in
    let single : own one name count ≡ 1 = own-same one name count refl in (
      slice_get_within totals q total.0 total.1,
      (
        count,
        item.1,
        ap (λ o. option_map_or (λ t. t.connections) o 0) total.1 ∙ is.open_is ∙ ap (λ x. open_in x counts) total.2,
        omega (arith, sum, whole, here, open_here),
        ap (λ o. option_map_or (λ t. t.servers) o 0) total.1 ∙ is.servers_is ∙ ap (λ x. servers_in x counts) total.2,
        omega (arith, number, all, single),
      ),
    )

-- A count that is replaced, to which no connection is open, or that is added.

pub replaced : (counts : List Count) (backends : List ℕ) (totals : List BackendTotal) (n q r : ℕ) (old : Count) (identity : ServerIdentity) → AreTotals counts backends totals →
    slice_get counts n ≡ Some old → old.connections ≡ 0 → slice_get backends n ≡ Some q → name_at r totals ≡ Some identity.backend →
    AreTotals (slice_set counts n (closed identity)) (slice_set backends n r) (with_total (with_servers (λ k. k + 1)) r (with_total (with_servers (λ k. k - 1)) q totals))
replaced counts backends totals n q r old identity are there none at free =
    rw (with_total-is (with_servers (λ k. k - 1)) q totals left.0 left.1, with_total-is (with_servers (λ k. k + 1)) r fewer joined.0 joined.1)
    (record {
      many = length-set backends n r ∙ are.many ∙ sym (length-set counts n new);
      named = λ m other place found is. named m other place (set-cases counts n m new other found) (set-cases backends n m r place is);
      numbers = one_changes (λ name. open_in name counts) (λ name. servers_in name counts - own one name old) (λ name. open_in name next) (λ name. servers_in name next) fewer r joined.0 (with_servers (λ k. k + 1) joined.0)
          without joined.1 refl (joined_is.open_is ∙ sym (same_open joined.0.name)) (ap (λ k. k + 1) joined_is.servers_is ∙ more joined.0.name (sym joined.2)) (λ name other. (same_open name, same_servers name (λ alike. other (sym alike ∙ sym joined.2))));
    })
  where
    new : Count
    new = closed identity

    next : List Count
    next = slice_set counts n new

    left : (t : BackendTotal) × (slice_get totals q ≡ Some t) × (t.name ≡ old.identity.backend)
    left = named_total totals q old.identity.backend (are.named n old q there at)

    left_is : IsTotal (λ name. open_in name counts) (λ name. servers_in name counts) left.0
    left_is = are.numbers.each q left.0 left.1

    fewer : List BackendTotal
    fewer = slice_set totals q (with_servers (λ k. k - 1) left.0)

    fewer_elsewhere : (name : List ℕ) → (old.identity.backend ≡ name → ⊥) → servers_in name counts - own one name old ≡ servers_in name counts
    fewer_elsewhere name other = let none_there : own one name old ≡ 0 = own-other one name old other in omega (arith, none_there)

    without : AreTotalsOf (λ name. open_in name counts) (λ name. servers_in name counts - own one name old) fewer
    without =
        one_changes (λ name. open_in name counts) (λ name. servers_in name counts) (λ name. open_in name counts) (λ name. servers_in name counts - own one name old) totals q left.0 (with_servers (λ k. k - 1) left.0)
        are.numbers left.1 refl left_is.open_is (ap (λ k. k - 1) left_is.servers_is ∙ ap (λ k. servers_in left.0.name counts - k) (sym (own-same one left.0.name old (sym left.2))))
        (λ name other. (refl, fewer_elsewhere name (λ alike. other (sym alike ∙ sym left.2))))

    joined : (t : BackendTotal) × (slice_get fewer r ≡ Some t) × (t.name ≡ identity.backend)
    joined = named_total fewer r identity.backend (name-set totals q left.0 (with_servers (λ k. k - 1) left.0) left.1 refl r ∙ free)

    joined_is : IsTotal (λ name. open_in name counts) (λ name. servers_in name counts - own one name old) joined.0
    joined_is = without.each r joined.0 joined.1

    nothing : (f : Count → ℕ) (name : List ℕ) (count : Count) → f count ≡ 0 → own f name count ≡ 0
    nothing f name count is = test (bytes_eq count.identity.backend name)
      where
        test : (b : Bool) → (if b then f count else 0) ≡ 0
        test true = is
        test false = refl

    same_open : (name : List ℕ) → open_in name next ≡ open_in name counts
    same_open name =
        let set = sum-set connections name counts n old new there in
        let before = open-sum name counts in
        let after = open-sum name next in
        let one_side : own connections name old ≡ 0 = nothing connections name old none in
        let other_side : own connections name new ≡ 0 = nothing connections name new refl in
        omega (arith, set, before, after, one_side, other_side)

    more : (name : List ℕ) → identity.backend ≡ name → servers_in name counts - own one name old + 1 ≡ servers_in name next
    more name same =
        let set = sum-set one name counts n old new there in
        let before = servers-sum name counts in
        let after = servers-sum name next in
        let few = sum-at one name counts n old there in
        let single : own one name new ≡ 1 = own-same one name new same in
        omega (arith, set, before, after, few, single)

    same_servers : (name : List ℕ) → (identity.backend ≡ name → ⊥) → servers_in name next ≡ servers_in name counts - own one name old
    same_servers name other =
        let set = sum-set one name counts n old new there in
        let before = servers-sum name counts in
        let after = servers-sum name next in
        let few = sum-at one name counts n old there in
        let zero_new : own one name new ≡ 0 = own-other one name new other in
        omega (arith, set, before, after, few, zero_new)

    stay : (place : ℕ) → name_at place (slice_set fewer r (with_servers (λ k. k + 1) joined.0)) ≡ name_at place totals
    stay place = name-set fewer r joined.0 (with_servers (λ k. k + 1) joined.0) joined.1 refl place ∙ name-set totals q left.0 (with_servers (λ k. k - 1) left.0) left.1 refl place

    named : (m : ℕ) (other : Count) (place : ℕ) → ((m ≡ n) × (new ≡ other)) ⊎ ((m ≢ n) × (slice_get counts m ≡ Some other)) → ((m ≡ n) × (r ≡ place)) ⊎ ((m ≢ n) × (slice_get backends m ≡ Some place)) →
        name_at place (slice_set fewer r (with_servers (λ k. k + 1) joined.0)) ≡ Some other.identity.backend
    named m other place (inl here) (inl is) = stay place ∙ ap (λ k. name_at k totals) (sym is.1) ∙ free ∙ ap (λ c. Some c.identity.backend) here.1
    named m other place (inl here) (inr is) = absurd (is.0 here.0)
    named m other place (inr here) (inl is) = absurd (here.0 is.0)
    named m other place (inr here) (inr is) = stay place ∙ are.named m other place here.1 is.1

pub pushed : (counts : List Count) (backends : List ℕ) (totals : List BackendTotal) (r : ℕ) (identity : ServerIdentity) → AreTotals counts backends totals → name_at r totals ≡ Some identity.backend →
    AreTotals (counts ++ closed identity ∷ []) (backends ++ r ∷ []) (with_total (with_servers (λ k. k + 1)) r totals)
pushed counts backends totals r identity are free =
    rw (with_total-is (with_servers (λ k. k + 1)) r totals joined.0 joined.1)
    (record {
      many = length-append backends (r ∷ []) ∙ ap (λ k. k + 1) are.many ∙ sym (length-append counts (new ∷ []));
      named = λ m other place found is. named m other place (push-cases counts new m other found) (push-cases backends r m place is);
      numbers = one_changes (λ name. open_in name counts) (λ name. servers_in name counts) (λ name. open_in name next) (λ name. servers_in name next) totals r joined.0 (with_servers (λ k. k + 1) joined.0)
          are.numbers joined.1 refl (joined_is.open_is ∙ sym (same_open joined.0.name)) (ap (λ k. k + 1) joined_is.servers_is ∙ more joined.0.name (sym joined.2)) (λ name other. (same_open name, same_servers name (λ alike. other (sym alike ∙ sym joined.2))));
    })
  where
    new : Count
    new = closed identity

    next : List Count
    next = counts ++ new ∷ []

    joined : (t : BackendTotal) × (slice_get totals r ≡ Some t) × (t.name ≡ identity.backend)
    joined = named_total totals r identity.backend free

    joined_is : IsTotal (λ name. open_in name counts) (λ name. servers_in name counts) joined.0
    joined_is = are.numbers.each r joined.0 joined.1

    nothing : (name : List ℕ) → own connections name new ≡ 0
    nothing name = test (bytes_eq identity.backend name)
      where
        test : (b : Bool) → (if b then connections new else 0) ≡ connections new
        test true = refl
        test false = refl

    same_open : (name : List ℕ) → open_in name next ≡ open_in name counts
    same_open name =
        let push = sum-pushed connections name counts new in
        let before = open-sum name counts in
        let after = open-sum name next in
        let none : own connections name new ≡ 0 = nothing name in
        omega (arith, push, before, after, none)

    more : (name : List ℕ) → identity.backend ≡ name → servers_in name counts + 1 ≡ servers_in name next
    more name same =
        let push = sum-pushed one name counts new in
        let before = servers-sum name counts in
        let after = servers-sum name next in
        let single : own one name new ≡ 1 = own-same one name new same in
        omega (arith, push, before, after, single)

    same_servers : (name : List ℕ) → (identity.backend ≡ name → ⊥) → servers_in name next ≡ servers_in name counts
    same_servers name other =
        let push = sum-pushed one name counts new in
        let before = servers-sum name counts in
        let after = servers-sum name next in
        let none : own one name new ≡ 0 = own-other one name new other in
        omega (arith, push, before, after, none)

    stay : (place : ℕ) → name_at place (slice_set totals r (with_servers (λ k. k + 1) joined.0)) ≡ name_at place totals
    stay place = name-set totals r joined.0 (with_servers (λ k. k + 1) joined.0) joined.1 refl place

    named : (m : ℕ) (other : Count) (place : ℕ) → (slice_get counts m ≡ Some other) ⊎ ((m ≡ length counts) × (new ≡ other)) → (slice_get backends m ≡ Some place) ⊎ ((m ≡ length backends) × (r ≡ place)) →
        name_at place (slice_set totals r (with_servers (λ k. k + 1) joined.0)) ≡ Some other.identity.backend
    named m other place (inl here) (inl is) = stay place ∙ are.named m other place here is
    named m other place (inl here) (inr is) =
        let less : m < length counts = slice_get_within counts m other here in
        let many = are.many in
        let end = is.0 in
        absurd (omega (arith, less, many, end))
    named m other place (inr last) (inl is) =
        let less : m < length backends = slice_get_within backends m place is in
        let many = are.many in
        let end = last.0 in
        absurd (omega (arith, less, many, end))
    named m other place (inr last) (inr is) = stay place ∙ ap (λ k. name_at k totals) (sym is.1) ∙ free ∙ ap (λ c. Some c.identity.backend) last.1

-- A total for a name that is new.

-- no server of a backend of which there is no total is counted
unknown : (counts : List Count) (backends : List ℕ) (totals : List BackendTotal) (name : List ℕ) → AreTotals counts backends totals → position (has_name name) totals ≡ None →
    (n : ℕ) (count : Count) → slice_get counts n ≡ Some count → count.identity.backend ≡ name → ⊥
unknown counts backends totals name are none n count there same =
    let less : n < length counts = slice_get_within counts n count there in
    let many = are.many in
    let place = within backends n (omega (arith, less, many)) in
    let total = named_total totals place.0 count.identity.backend (are.named n count place.0 there place.1) in
    let passes : has_name name total.0 ≡ true = (bytes_eq-Decides total.0.name name).1 (total.2 ∙ same) in
    let fails : has_name name total.0 ≡ false = all-at (λ t. has_name name t ≡ false) totals place.0 total.0 (absent (has_name name) totals none) total.1 in
    let wrong : true ≡ false = sym passes ∙ fails in
    cc

unknown_open : (counts : List Count) (backends : List ℕ) (totals : List BackendTotal) (name : List ℕ) → AreTotals counts backends totals → position (has_name name) totals ≡ None → open_in name counts ≡ 0
unknown_open counts backends totals name are none = open-sum name counts ∙ sum-none connections name counts (unknown counts backends totals name are none)

unknown_servers : (counts : List Count) (backends : List ℕ) (totals : List BackendTotal) (name : List ℕ) → AreTotals counts backends totals → position (has_name name) totals ≡ None → servers_in name counts ≡ 0
unknown_servers counts backends totals name are none = servers-sum name counts ∙ sum-none one name counts (unknown counts backends totals name are none)

abbrev empty_total : List ℕ → BackendTotal
empty_total name = record { name = name; connections = 0; servers = 0 }

new_name : (totals : List BackendTotal) (name : List ℕ) (m : ℕ) (total : BackendTotal) → position (has_name name) totals ≡ None → slice_get totals m ≡ Some total → total.name ≡ name → ⊥
new_name totals name m total none there same =
    let passes : has_name name total ≡ true = (bytes_eq-Decides total.name name).1 same in
    let fails : has_name name total ≡ false = all-at (λ t. has_name name t ≡ false) totals m total (absent (has_name name) totals none) there in
    let wrong : true ≡ false = sym passes ∙ fails in
    cc

pub total_added : (counts : List Count) (backends : List ℕ) (totals : List BackendTotal) (name : List ℕ) → position (has_name name) totals ≡ None → AreTotals counts backends totals →
    AreTotals counts backends (totals ++ empty_total name ∷ [])
total_added counts backends totals name none are = record {
  many = are.many;
  named = λ m count place there at.
      let total = named_total totals place count.identity.backend (are.named m count place there at) in
      ap (option_map (λ t. t.name)) (get-pushed totals (empty_total name) place total.0 total.1) ∙ ap (λ x. Some x) total.2;
  numbers = record {
    apart = λ m n first other at found alike. differ m n first other alike (push-cases totals (empty_total name) m first at) (push-cases totals (empty_total name) n other found);
    each = λ m total at. each m total (push-cases totals (empty_total name) m total at);
  };
}
  where
    differ : (m n : ℕ) (first other : BackendTotal) → first.name ≡ other.name → (slice_get totals m ≡ Some first) ⊎ ((m ≡ length totals) × (empty_total name ≡ first)) →
        (slice_get totals n ≡ Some other) ⊎ ((n ≡ length totals) × (empty_total name ≡ other)) → m ≡ n
    differ m n first other alike (inl at) (inl found) = are.numbers.apart m n first other at found alike
    differ m n first other alike (inl at) (inr last) = absurd (new_name totals name m first none at (alike ∙ ap (λ t. t.name) (sym last.1)))
    differ m n first other alike (inr last) (inl found) = absurd (new_name totals name n other none found (sym alike ∙ ap (λ t. t.name) (sym last.1)))
    differ m n first other alike (inr last) (inr end) = last.0 ∙ sym end.0

    each : (m : ℕ) (total : BackendTotal) → (slice_get totals m ≡ Some total) ⊎ ((m ≡ length totals) × (empty_total name ≡ total)) → IsTotal (λ x. open_in x counts) (λ x. servers_in x counts) total
    each m total (inl at) = are.numbers.each m total at
    each m total (inr last) =
        subst (IsTotal (λ x. open_in x counts) (λ x. servers_in x counts)) last.1
        (record { open_is = sym (unknown_open counts backends totals name are none); servers_is = sym (unknown_servers counts backends totals name are none) })

pub total_renamed : (counts : List Count) (backends : List ℕ) (totals : List BackendTotal) (q : ℕ) (name : List ℕ) → position (has_name name) totals ≡ None → position is_unused totals ≡ Some q →
    AreTotals counts backends totals → AreTotals counts backends (slice_set totals q (empty_total name))
total_renamed counts backends totals q name none unused are = record {
  many = are.many;
  named = λ m count place there at.
      ap (option_map (λ t. t.name)) (get-other totals q place (empty_total name) (λ same. in_use m count place there at same)) ∙ are.named m count place there at;
  numbers = record {
    apart = λ m n first other at found alike. differ m n first other alike (set-cases totals q m (empty_total name) first at) (set-cases totals q n (empty_total name) other found);
    each = λ m total at. each m total (set-cases totals q m (empty_total name) total at);
  };
}
  where
    old : (t : BackendTotal) × (slice_get totals q ≡ Some t) × (is_unused t ≡ true)
    old = found is_unused totals q unused

    in_use : (m : ℕ) (count : Count) (place : ℕ) → slice_get counts m ≡ Some count → slice_get backends m ≡ Some place → place ≡ q → ⊥
    in_use m count place there at same =
        let total = named_total totals place count.identity.backend (are.named m count place there at) in
        let is : total.0 ≡ old.0 = one_item (slice_get totals q) total.0 old.0 (ap (slice_get totals) (sym same) ∙ total.1) old.1 in
        let none_there : old.0.servers ≡ 0 = eqb-true old.0.servers 0 old.2 in
        let number : old.0.servers ≡ servers_in count.identity.backend counts =
        (are.numbers.each q old.0 old.1).servers_is ∙ ap (λ x. servers_in x counts) (ap (λ t. t.name) (sym is) ∙ total.2) in
        let some = sum-at one count.identity.backend counts m count there in
        let all = servers-sum count.identity.backend counts in
        let single : own one count.identity.backend count ≡ 1 = own-same one count.identity.backend count refl in
        omega (arith, none_there, number, some, all, single)

    differ : (m n : ℕ) (first other : BackendTotal) → first.name ≡ other.name → ((m ≡ q) × (empty_total name ≡ first)) ⊎ ((m ≢ q) × (slice_get totals m ≡ Some first)) →
        ((n ≡ q) × (empty_total name ≡ other)) ⊎ ((n ≢ q) × (slice_get totals n ≡ Some other)) → m ≡ n
    differ m n first other alike (inl here) (inl there) = here.0 ∙ sym there.0
    differ m n first other alike (inl here) (inr found') = absurd (new_name totals name n other none found'.1 (sym alike ∙ ap (λ t. t.name) (sym here.1)))
    differ m n first other alike (inr at) (inl here) = absurd (new_name totals name m first none at.1 (alike ∙ ap (λ t. t.name) (sym here.1)))
    differ m n first other alike (inr at) (inr found') = are.numbers.apart m n first other at.1 found'.1 alike

    each : (m : ℕ) (total : BackendTotal) → ((m ≡ q) × (empty_total name ≡ total)) ⊎ ((m ≢ q) × (slice_get totals m ≡ Some total)) → IsTotal (λ x. open_in x counts) (λ x. servers_in x counts) total
    each m total (inl here) =
        subst (IsTotal (λ x. open_in x counts) (λ x. servers_in x counts)) here.1
        (record { open_is = sym (unknown_open counts backends totals name are none); servers_is = sym (unknown_servers counts backends totals name are none) })
    each m total (inr at) = are.numbers.each m total at.1

pub name_found : (totals : List BackendTotal) (q : ℕ) (name : List ℕ) → position (has_name name) totals ≡ Some q → name_at q totals ≡ Some name
name_found totals q name is =
    let total = found (has_name name) totals q is in
    ap (option_map (λ t. t.name)) total.1 ∙ ap (λ x. Some x) ((bytes_eq-Decides total.0.name name).0 total.2)

-- The running number of a name.

pub total_found : (counts : List Count) (backends : List ℕ) (totals : List BackendTotal) (q : ℕ) (name : List ℕ) (total : BackendTotal) → AreTotals counts backends totals →
    position (has_name name) totals ≡ Some q → total ≡ get_or totals q total → total.connections ≡ open_in name counts
total_found counts backends totals q name total are is there =
    let item = found (has_name name) totals q is in
    let same : item.0 ≡ total = sym (get_or_from_slice_get totals q item.0 total item.1) ∙ sym there in
    ap (λ t. t.connections) (sym same) ∙ (are.numbers.each q item.0 item.1).open_is ∙ ap (λ x. open_in x counts) ((bytes_eq-Decides item.0.name name).0 item.2)

pub none_found : (counts : List Count) (backends : List ℕ) (totals : List BackendTotal) (name : List ℕ) → AreTotals counts backends totals → position (has_name name) totals ≡ None → open_in name counts ≡ 0
none_found counts backends totals name are none = unknown_open counts backends totals name are none

pub no_totals : AreTotals [] [] []
no_totals = record {
  many = refl;
  named = λ m count place there at. absurd (let wrong : None ≡ Some count = there in cc);
  numbers = record {
    apart = λ m n first other at found' alike. absurd (let wrong : None ≡ Some first = at in cc);
    each = λ m total at. absurd (let wrong : None ≡ Some total = at in cc);
  };
}

-- What is kept of all counts.

pub taken : (counts : List Count) (backends : List ℕ) (totals : List BackendTotal) (n q : ℕ) → AreCounts counts backends totals → n < length counts → slice_get backends n ≡ Some q →
    AreCounts (with_open (λ k. k + 1) n counts) backends (with_total (with_connections (λ k. k + 1)) q totals)
taken counts backends totals n q are less at =
    let item = within counts n less in
    let grows : (open_in item.0.identity.backend counts + 1) + item.0.connections ≡ open_in item.0.identity.backend counts + (item.0.connections + 1) = omega arith in
    record { apart = differ-changed (λ k. k + 1) n counts are.apart; tied = moved (λ k. k + 1) counts backends totals n q item.0 are.tied item.1 at grows }

pub given_back : (counts : List Count) (backends : List ℕ) (totals : List BackendTotal) (n q : ℕ) → AreCounts counts backends totals → 0 < open_at n counts → slice_get backends n ≡ Some q →
    AreCounts (with_open (λ k. k - 1) n counts) backends (with_total (with_connections (λ k. k - 1)) q totals)
given_back counts backends totals n q are some at =
    let item = within counts n (open_there n counts some) in
    let sum = sum-at connections item.0.identity.backend counts n item.0 item.1 in
    let whole = open-sum item.0.identity.backend counts in
    let here : own connections item.0.identity.backend item.0 ≡ item.0.connections = own-same connections item.0.identity.backend item.0 refl in
    let open_here : open_at n counts ≡ item.0.connections = ap (λ o. option_map_or connections o 0) item.1 in
    let shrinks : (open_in item.0.identity.backend counts - 1) + item.0.connections ≡ open_in item.0.identity.backend counts + (item.0.connections - 1) = omega (arith, sum, whole, here, open_here, some) in
    record { apart = differ-changed (λ k. k - 1) n counts are.apart; tied = moved (λ k. k - 1) counts backends totals n q item.0 are.tied item.1 at shrinks }

pub now_replaced : (counts : List Count) (backends : List ℕ) (totals : List BackendTotal) (n q r : ℕ) (identity : ServerIdentity) → AreCounts counts backends totals → n < length counts → open_at n counts ≡ 0 →
    position (is_of identity) counts ≡ None → slice_get backends n ≡ Some q → name_at r totals ≡ Some identity.backend →
    AreCounts (slice_set counts n (closed identity)) (slice_set backends n r) (with_total (with_servers (λ k. k + 1)) r (with_total (with_servers (λ k. k - 1)) q totals))
now_replaced counts backends totals n q r identity are less none new at free =
    let item = within counts n less in
    let closed_here : item.0.connections ≡ 0 = sym (ap (λ o. option_map_or connections o 0) item.1) ∙ none in
    record { apart = differ-replaced (closed identity) n counts new are.apart; tied = replaced counts backends totals n q r item.0 identity are.tied item.1 closed_here at free }

pub now_pushed : (counts : List Count) (backends : List ℕ) (totals : List BackendTotal) (r : ℕ) (identity : ServerIdentity) → AreCounts counts backends totals → position (is_of identity) counts ≡ None →
    name_at r totals ≡ Some identity.backend → AreCounts (counts ++ closed identity ∷ []) (backends ++ r ∷ []) (with_total (with_servers (λ k. k + 1)) r totals)
now_pushed counts backends totals r identity are new free =
    record { apart = differ-added (closed identity) counts new are.apart; tied = pushed counts backends totals r identity are.tied free }

-- What is read at a place.

pub backend_at : (counts : List Count) (backends : List ℕ) (totals : List BackendTotal) (n q : ℕ) → AreTotals counts backends totals → n < length counts → q ≡ get_or backends n q → slice_get backends n ≡ Some q
backend_at counts backends totals n q are less is =
    let many = are.many in
    slice_get_read backends (length backends) n q refl (omega (arith, less, many)) is

pub count_at : (counts : List Count) (n : ℕ) (count : Count) → n < length counts → count ≡ get_or counts n count → open_at n counts ≡ count.connections
count_at counts n count less is = ap (λ o. option_map_or connections o 0) (slice_get_read counts (length counts) n count refl less is)

pub name_within : (totals : List BackendTotal) (q : ℕ) (name : List ℕ) → name_at q totals ≡ Some name → q < length totals
name_within totals q name is = let total = named_total totals q name is in slice_get_within totals q total.0 total.1

-- numbers of servers fit
pub total_few : (counts : List Count) (backends : List ℕ) (totals : List BackendTotal) (m : ℕ) → AreTotals counts backends totals → servers_at m totals ≤ length counts
total_few counts backends totals m are = by (slice_get totals m) refl
  where
    by : (o : Option BackendTotal) → slice_get totals m ≡ o → servers_at m totals ≤ length counts
    by None e = rw e (omega arith)
    by (Some total) e =
        let is = (are.numbers.each m total e).servers_is in
        let few = servers-few total.name counts in
        rw e (omega (arith, is, few))

pub left_fewer : (q m : ℕ) (totals : List BackendTotal) → servers_at m (with_total (with_servers (λ k. k - 1)) q totals) ≤ servers_at m totals
left_fewer q m totals = by (slice_get totals q) refl
  where
    by : (o : Option BackendTotal) → slice_get totals q ≡ o → servers_at m (with_total (with_servers (λ k. k - 1)) q totals) ≤ servers_at m totals
    by None e = rw e (omega arith)
    by (Some total) e = rw e (test (cases_eq m q))
      where
        test : (m ≡ q) ⊎ (m ≡ q → ⊥) → servers_at m (slice_set totals q (with_servers (λ k. k - 1) total)) ≤ servers_at m totals
        test (inl same) =
            let now : servers_at m (slice_set totals q (with_servers (λ k. k - 1) total)) ≡ total.servers - 1 =
            ap (λ o. option_map_or (λ t. t.servers) o 0) (ap (slice_get (slice_set totals q (with_servers (λ k. k - 1) total))) same ∙ get-set totals q (with_servers (λ k. k - 1) total) (slice_get_within totals q total e)) in
            let was : servers_at m totals ≡ total.servers = ap (λ o. option_map_or (λ t. t.servers) o 0) (ap (slice_get totals) same ∙ e) in
            omega (arith, now, was)
        test (inr other) =
            let now : servers_at m (slice_set totals q (with_servers (λ k. k - 1) total)) ≡ servers_at m totals =
            ap (λ o. option_map_or (λ t. t.servers) o 0) (get-other totals q m (with_servers (λ k. k - 1) total) other) in
            omega (arith, now)

pub length-with_total : (change : BackendTotal → BackendTotal) (q : ℕ) (totals : List BackendTotal) → length (with_total change q totals) ≡ length totals
length-with_total change q totals = by (slice_get totals q) refl
  where
    by : (o : Option BackendTotal) → slice_get totals q ≡ o → length (with_total change q totals) ≡ length totals
    by None e = rw e refl
    by (Some total) e = rw e (length-set totals q (change total))

pub few_fit : (n len cap : ℕ) → n ≤ len → len ≤ cap → cap < 2 ^ 63 → n < 2 ^ 64 - 1
few_fit n len cap one other less = omega arith

-- A total that is new.

pub renamed_there : (totals : List BackendTotal) (q : ℕ) (name : List ℕ) → position is_unused totals ≡ Some q → name_at q (slice_set totals q (empty_total name)) ≡ Some name
renamed_there totals q name is =
    let old = found is_unused totals q is in
    ap (option_map (λ t. t.name)) (get-set totals q (empty_total name) (slice_get_within totals q old.0 old.1))

pub added_there : (totals : List BackendTotal) (name : List ℕ) → name_at (length totals) (totals ++ empty_total name ∷ []) ≡ Some name
added_there totals name = ap (option_map (λ t. t.name)) (get-last totals (empty_total name))
