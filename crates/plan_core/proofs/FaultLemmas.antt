-- The least of some faults.
use Rattle.std.proofs.Common.{◌≡◌, ℕ, zero, suc, ◌<◌, ◌||◌, ◌&&◌, Bool, true, false, nat_lt, List, [], ◌∷◌, ◌++◌, length, slice_index_or, Option, Some, None, refl, sym, ap, ◌∙◌}
use native.Mathlib.Omega.{arith}
use Rattle.std.specs.Prelude.{◌==◌, flat_map, option_to_list, IfSome}
use Rattle.std.specs.List.{filter_map, cons_option, list_any}
use Rattle.std.proofs.lemmas.Bool.Decides.{nat_tests}
use Rattle.conf_tree.specs.declared.tree.ConfigLine.{ConfigLine}
use Rattle.plan_core.specs.declared.fault.PlanFault.{PlanFault}
use Rattle.plan_types.specs.declared.plan.Backend.{Backend}
use Rattle.plan_types.specs.declared.plan.Table.{Table}
use Rattle.plan_core.specs.declared.proxies.Proxy.{Proxy}
use Rattle.plan_core.specs.Compiled.{backends_in, plan_faults}
use Rattle.plan_core.specs.Fields.{tables_in}
use Rattle.plan_core.specs.Proxies.{is_frontend, proxies}
use Rattle.plan_core.specs.Faults.{kind_number, is_before, earlier, earliest, least, IsLeast, faults_in, faults_of}

-- Lines and kinds as numbers.

abbrev comes : ℕ → ℕ → ℕ → ℕ → Bool
comes l k m n = nat_lt l m || ((l == m) && nat_lt k n)

comes_self : (l k : ℕ) → comes l k l k ≡ false
comes_self l k = grind (arith, nat_tests)

comes_not_back : (l k m n : ℕ) → comes l k m n ≡ true → comes m n l k ≡ false
comes_not_back l k m n is = grind (arith, nat_tests)

comes_through : (l k m n p q : ℕ) → comes l k m n ≡ true → comes m n p q ≡ true → comes l k p q ≡ true
comes_through l k m n p q first second = grind (arith, nat_tests)

comes_never : (l k m n p q : ℕ) → comes l k m n ≡ false → comes m n p q ≡ false → comes l k p q ≡ false
comes_never l k m n p q first second = grind (arith, nat_tests)

-- Faults.

not_before_itself : (a : PlanFault) → is_before a a ≡ false
not_before_itself a = comes_self a.line (kind_number a.kind)

not_back : (a b : PlanFault) → is_before a b ≡ true → is_before b a ≡ false
not_back a b is = comes_not_back a.line (kind_number a.kind) b.line (kind_number b.kind) is

before_through : (a b c : PlanFault) → is_before a b ≡ true → is_before b c ≡ true → is_before a c ≡ true
before_through a b c first second = comes_through a.line (kind_number a.kind) b.line (kind_number b.kind) c.line (kind_number c.kind) first second

before_never : (a b c : PlanFault) → is_before a b ≡ false → is_before b c ≡ false → is_before a c ≡ false
before_never a b c first second = comes_never a.line (kind_number a.kind) b.line (kind_number b.kind) c.line (kind_number c.kind) first second

earlier_assoc : (a b c : PlanFault) → earlier (earlier a b) c ≡ earlier a (earlier b c)
earlier_assoc a b c = by (is_before b a) (is_before c b) (is_before c a) refl refl refl
  where
    by : (x y z : Bool) → is_before b a ≡ x → is_before c b ≡ y → is_before c a ≡ z → earlier (earlier a b) c ≡ earlier a (earlier b c)
    by true true true p q r = rw (p, q, r) refl
    by true true false p q r = absurd (let through : is_before c a ≡ true = before_through c b a q p in let wrong : true ≡ false = sym through ∙ r in cc)
    by true false z p q r = rw (p, q, p) refl
    by false true true p q r = rw (p, q, r) refl
    by false true false p q r = rw (p, q, r) refl
    by false false true p q r = absurd (let never : is_before c a ≡ false = before_never c b a q p in let wrong : false ≡ true = sym never ∙ r in cc)
    by false false false p q r = rw (q, p, r) refl

pub earliest_assoc : (a b c : Option PlanFault) → earliest (earliest a b) c ≡ earliest a (earliest b c)
earliest_assoc None b c = refl
earliest_assoc (Some a) None c = refl
earliest_assoc (Some a) (Some b) None = refl
earliest_assoc (Some a) (Some b) (Some c) = ap (λ f. Some f) (earlier_assoc a b c)

earliest_none : (a : Option PlanFault) → earliest a None ≡ a
earliest_none None = refl
earliest_none (Some a) = refl

pub least_append : (faults more : List PlanFault) → least (faults ++ more) ≡ earliest (least faults) (least more)
least_append [] more = refl
least_append (fault ∷ rest) more =
    ap (λ o. earliest (Some fault) o) (least_append rest more) ∙ sym (earliest_assoc (Some fault) (least rest) (least more))

least_cons : (fault : Option PlanFault) (rest : List PlanFault) → least (cons_option fault rest) ≡ earliest fault (least rest)
least_cons None rest = refl
least_cons (Some fault) rest = refl

-- one fault, if there is one, before others
pub one_and_more : (fault : Option PlanFault) (more : List PlanFault) → least (option_to_list fault ++ more) ≡ earliest fault (least more)
one_and_more None more = refl
one_and_more (Some fault) more = refl

pub only_one : (fault : Option PlanFault) → least (option_to_list fault) ≡ fault
only_one None = refl
only_one (Some fault) = refl

-- One more item of a loop.

pub one_more : {X : Type 0} (fault : X → Option PlanFault) (found : Option PlanFault) (x : X) (rest : List X) →
    earliest (earliest found (fault x)) (least (filter_map fault rest)) ≡ earliest found (least (filter_map fault (x ∷ rest)))
one_more fault found x rest =
    earliest_assoc found (fault x) (least (filter_map fault rest)) ∙ ap (λ o. earliest found o) (sym (least_cons (fault x) (filter_map fault rest)))

pub some_more : {X : Type 0} (faults : X → List PlanFault) (found : Option PlanFault) (x : X) (rest : List X) →
    earliest (earliest found (least (faults x))) (least (flat_map faults rest)) ≡ earliest found (least (flat_map faults (x ∷ rest)))
some_more faults found x rest =
    earliest_assoc found (least (faults x)) (least (flat_map faults rest)) ∙ ap (λ o. earliest found o) (sym (least_append (faults x) (flat_map faults rest)))

-- Where none is the least, there is none at all.

pub none_left : (faults : List PlanFault) → least faults ≡ None → faults ≡ []
none_left [] is = refl
none_left (fault ∷ rest) is = absurd (by (least rest) is)
  where
    by : (o : Option PlanFault) → earliest (Some fault) o ≡ None → ⊥
    by None e = cc
    by (Some other) e = cc

pub none_stands : (tables : List Table) (backends : List Backend) (all : List Proxy) (items : List ConfigLine) → None ≡ least (faults_of tables backends all) →
    all ≡ proxies [] items → tables ≡ tables_in all → backends ≡ backends_in all → plan_faults items ≡ []
none_stands tables backends all items none of_items of_tables of_backends =
    none_left (plan_faults items)
    (let same : faults_of tables backends all ≡ plan_faults items = rw (of_tables, of_backends, of_items) refl in ap least (sym same) ∙ sym none)

-- The least is one of all, and none comes before it.

pub least_is : (faults : List PlanFault) (fault : PlanFault) → least faults ≡ Some fault → IsLeast faults fault
least_is [] fault is = absurd cc
least_is (first ∷ rest) fault is = by (least rest) refl (λ other there. least_is rest other there)
  where
    alone : fault ≡ first → rest ≡ [] → IsLeast (first ∷ rest) fault
    alone same none = rw (same, none) ((0, omega arith, refl), λ k d less. at k d less)
      where
        at : (k : ℕ) (d : PlanFault) → k < 1 → is_before (slice_index_or (first ∷ []) k d) first ≡ false
        at zero d less = not_before_itself first
        at (suc k) d less = absurd omega arith

    here : (other : PlanFault) → fault ≡ first → is_before other first ≡ false → IsLeast rest other → IsLeast (first ∷ rest) fault
    here other same after among = rw same ((0, omega arith, refl), λ k d less. at k d less)
      where
        at : (k : ℕ) (d : PlanFault) → k < length (first ∷ rest) → is_before (slice_index_or (first ∷ rest) k d) first ≡ false
        at zero d less = not_before_itself first
        at (suc k) d less = before_never (slice_index_or rest k d) other first (among.1 k d omega arith) after

    later : (other : PlanFault) → fault ≡ other → is_before other first ≡ true → IsLeast rest other → IsLeast (first ∷ rest) fault
    later other same before among = rw same ((suc among.0.0, omega arith, among.0.2), λ k d less. at k d less)
      where
        at : (k : ℕ) (d : PlanFault) → k < length (first ∷ rest) → is_before (slice_index_or (first ∷ rest) k d) other ≡ false
        at zero d less = not_back other first before
        at (suc k) d less = among.1 k d omega arith

    chosen : (other : PlanFault) (b : Bool) → is_before other first ≡ b → least rest ≡ Some other → IsLeast rest other → IsLeast (first ∷ rest) fault
    chosen other true before there among =
        let is_other : Some (earlier first other) ≡ Some fault = ap (λ o. earliest (Some first) o) (sym there) ∙ is in
        let same : earlier first other ≡ fault = cc in
        let picked : earlier first other ≡ other = rw before refl in
        later other (sym same ∙ picked) before among
    chosen other false after there among =
        let is_first : Some (earlier first other) ≡ Some fault = ap (λ o. earliest (Some first) o) (sym there) ∙ is in
        let same : earlier first other ≡ fault = cc in
        let picked : earlier first other ≡ first = rw after refl in
        here other (sym same ∙ picked) after among

    by : (o : Option PlanFault) → least rest ≡ o → ((other : PlanFault) → least rest ≡ Some other → IsLeast rest other) → IsLeast (first ∷ rest) fault
    by None there more =
        let is_first : Some first ≡ Some fault = ap (λ o. earliest (Some first) o) (sym there) ∙ is in
        let same : first ≡ fault = cc in
        alone (sym same) (none_left rest there)
    by (Some other) there more = chosen other (is_before other first) refl there (more other there)

pub some_least : (faults : List PlanFault) (told : Option PlanFault) → told ≡ least faults → IfSome told (λ fault. IsLeast faults fault)
some_least faults None is = tt
some_least faults (Some fault) is = least_is faults fault (sym is)

pub faults_where : (tables : List Table) (backends : List Backend) (all : List Proxy) → list_any is_frontend all ≡ true → faults_of tables backends all ≡ flat_map (faults_in tables backends all) all
faults_where tables backends all is = rw is refl
