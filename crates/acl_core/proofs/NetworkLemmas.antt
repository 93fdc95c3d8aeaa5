-- What an index of networks answers for, and what it leaves.
use Rattle.std.proofs.Common.{◌≡◌, Bool, true, false, not, List, [], ◌∷◌, ◌++◌, refl, ap, sym, ◌∙◌}
use Rattle.std.specs.Prelude.{◌||◌, ◌&&◌, if◌then◌else◌}
use Rattle.std.specs.List.{list_any, list_all}
use Rattle.std.proofs.lemmas.List.Folds.{list_any-append}
use Rattle.addr_core.specs.declared.addr.Addr.{Addr}
use Rattle.addr_core.specs.Prefix.{Prefix, holds}
use Rattle.net_index.specs.Index.{has_addr}
use Rattle.acl_core.specs.declared.criterion.Criterion.{Criterion}
use Rattle.acl_core.specs.declared.criterion.Criterion.TheVariants as criteria
use Rattle.acl_core.specs.declared.criterion.Pattern.{Pattern}
use Rattle.acl_core.specs.declared.criterion.Pattern.TheVariants.{Network, Within, Compared}
use Rattle.acl_core.specs.declared.criterion.Value.{Value}
use Rattle.acl_core.specs.declared.criterion.Value.TheVariants.{Source}
use Rattle.acl_core.specs.TestValue.{TestValue}
use Rattle.acl_core.specs.Networks.{networks, is_source, is_of_source, source_networks}
use Rattle.acl_core.specs.Truth.{matches, test_holds}

-- some pattern holds an address exactly where some network among them has it
pub networks_hold : (addr : Addr) (patterns : List Pattern) → list_any (matches (Source addr)) patterns ≡ list_any (has_addr addr) (networks patterns)
networks_hold addr [] = refl
networks_hold addr (Network net ∷ rest) = ap (λ more. holds net addr || more) (networks_hold addr rest)
networks_hold addr (Within least most ∷ rest) = networks_hold addr rest
networks_hold addr (Compared operator bound ∷ rest) = networks_hold addr rest

-- a test of which an index has the networks
pub test_by_index : (worth : Criterion → Value) (addr : Addr) (test : TestValue) (index : List Prefix) → worth test.criterion ≡ Source addr → index ≡ networks test.patterns →
    list_any (has_addr addr) index ≡ test_holds worth test
test_by_index worth addr test index is kept = rw (is, kept) (sym (networks_hold addr test.patterns))

either : (a b c : Bool) → (a || (b || c)) ≡ ((a || b) || c)
either true b c = refl
either false b c = refl

between : (a b c : Bool) → (a || (b || c)) ≡ (b || (a || c))
between true true c = refl
between true false c = refl
between false b c = refl

-- one test more in front
in_front : (worth : Criterion → Value) (addr : Addr) → worth criteria.Source ≡ Source addr → (criterion : Criterion) (patterns : List Pattern) (nets : List Prefix) (more : Bool) →
    (list_any (matches (worth criterion)) patterns || (list_any (has_addr addr) nets || more))
    ≡ (list_any (has_addr addr) (if is_source criterion then networks patterns ++ nets else nets) || ((not (is_source criterion) && list_any (matches (worth criterion)) patterns) || more))
in_front worth addr is criteria.Source patterns nets more =
    rw (is, networks_hold addr patterns, list_any-append (has_addr addr) (networks patterns) nets)
    (either (list_any (has_addr addr) (networks patterns)) (list_any (has_addr addr) nets) more)
in_front worth addr is (criteria.TrackedConnections counter) patterns nets more = between _ _ more
in_front worth addr is criterion patterns nets more = between _ _ more

-- some test holds exactly where some network of those of the source address has it, or some other test holds
pub tests_hold : (worth : Criterion → Value) (addr : Addr) → worth criteria.Source ≡ Source addr → (tests : List TestValue) →
    list_any (test_holds worth) tests ≡ (list_any (has_addr addr) (source_networks tests) || list_any (λ test. not (is_of_source test) && test_holds worth test) tests)
tests_hold worth addr is [] = refl
tests_hold worth addr is (test ∷ rest) =
    ap (λ more. test_holds worth test || more) (tests_hold worth addr is rest)
    ∙ in_front worth addr is test.criterion test.patterns (source_networks rest) (list_any (λ t. not (is_of_source t) && test_holds worth t) rest)

front : (source own all more : Bool) → (source && all) ≡ true → (all ≡ true → more ≡ false) → ((not source && own) || more) ≡ false
front true own all more both later = later both
front false own all more both later = cc

-- where all are of the source address, no other one holds
pub no_other_holds : (worth : Criterion → Value) (tests : List TestValue) → list_all is_of_source tests ≡ true →
    list_any (λ test. not (is_of_source test) && test_holds worth test) tests ≡ false
no_other_holds worth [] all = refl
no_other_holds worth (test ∷ rest) all =
    front (is_of_source test) (test_holds worth test) (list_all is_of_source rest) (list_any (λ t. not (is_of_source t) && test_holds worth t) rest) all (no_other_holds worth rest)

-- Tests of which an index has the networks of those of the source address.

is_left : (a b : Bool) → a ≡ true → a ≡ (a || b)
is_left a b is = rw is refl

is_right : (a b : Bool) → a ≡ false → b ≡ (a || b)
is_right a b is = rw is refl

pub tests_by_index : (worth : Criterion → Value) (addr : Addr) (tests : List TestValue) (index : List Prefix) → worth criteria.Source ≡ Source addr → index ≡ source_networks tests →
    (list_any (has_addr addr) index || list_any (λ test. not (is_of_source test) && test_holds worth test) tests) ≡ list_any (test_holds worth) tests
tests_by_index worth addr tests index is kept = rw kept (sym (tests_hold worth addr is tests))

-- the index has the address
pub index_answers : (worth : Criterion → Value) (addr : Addr) (tests : List TestValue) (index : List Prefix) → worth criteria.Source ≡ Source addr → index ≡ source_networks tests →
    list_any (has_addr addr) index ≡ true → list_any (has_addr addr) index ≡ list_any (test_holds worth) tests
index_answers worth addr tests index is kept found = is_left _ _ found ∙ tests_by_index worth addr tests index is kept

-- it does not
pub others_answer : (worth : Criterion → Value) (addr : Addr) (tests : List TestValue) (index : List Prefix) → worth criteria.Source ≡ Source addr → index ≡ source_networks tests →
    list_any (has_addr addr) index ≡ false → list_any (λ test. not (is_of_source test) && test_holds worth test) tests ≡ list_any (test_holds worth) tests
others_answer worth addr tests index is kept missing = is_right _ _ missing ∙ tests_by_index worth addr tests index is kept

-- it does not, and there are no others
pub none_answers : (worth : Criterion → Value) (addr : Addr) (tests : List TestValue) (index : List Prefix) (all : Bool) → worth criteria.Source ≡ Source addr → index ≡ source_networks tests →
    list_any (has_addr addr) index ≡ false → all ≡ list_all is_of_source tests → all ≡ true → not all ≡ list_any (test_holds worth) tests
none_answers worth addr tests index all is kept missing same whole =
    ap not whole ∙ sym (no_other_holds worth tests (sym same ∙ whole)) ∙ others_answer worth addr tests index is kept missing
