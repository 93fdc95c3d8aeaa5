use Rattle.std.proofs.Common.{◌≡◌, ◌-◌, get_or, rules, of_calls, sym, ap, subst, ◌∙◌, arith}
use lib.Dec.{leb, ltb}
use Rattle.std.proofs.lemmas.List.Sorted.{IsPartitionedBy-leb, IsPartitionPoint-from_clause}
use Rattle.net_index.specs.declared.range.Range.{Range}
use Rattle.net_index.specs.Ranges.{covers, AreApart}
use Rattle.net_index.proofs.RangeLemmas.{decided, non_decreasing, undecided}
use Rattle.net_index.proofs.ranges.Ranges.covers.Goals as goal

pub returns-then-count-gt0 : goal.returns-then-count-gt0
returns-then-count-gt0 c =
    let items = c.deref.result.now in
    let same = c.deref.ensures.value in
    let apart : AreApart items = subst AreApart (sym same) c.self.invariant in
    let point = IsPartitionPoint-from_clause (λ (range : Range). leb range.first c.args.number) items c.partition_point-count.result c.partition_point-count.ensures.partitioned
    (IsPartitionedBy-leb (λ (range : Range). range.first) items c.args.number (non_decreasing items apart)) (λ a r f k. search (rules, of_calls)) in
    let last : c.index.result.now ≡ get_or items (c.partition_point-count.result - 1) c.index.result.now =
    c.index.ensures ∙ ap (λ xs. get_or xs (c.partition_point-count.result - 1) c.index.result.now) (sym same) in
    decided c.args.number items c.partition_point-count.result c.index.result.now apart c.partition_point-count.ensures.bound c.if-count-gt0.true point last
    ∙ ap (λ xs. covers xs c.args.number) (same ∙ c.self.view_is)

pub returns-else-count-gt0 : goal.returns-else-count-gt0
returns-else-count-gt0 c =
    let items = c.deref.result.now in
    let same = c.deref.ensures.value in
    let apart : AreApart items = subst AreApart (sym same) c.self.invariant in
    let point = IsPartitionPoint-from_clause (λ (range : Range). leb range.first c.args.number) items c.partition_point-count.result c.partition_point-count.ensures.partitioned
    (IsPartitionedBy-leb (λ (range : Range). range.first) items c.args.number (non_decreasing items apart)) (λ a r f k. search (rules, of_calls)) in
    let none : c.partition_point-count.result ≡ 0 = omega (arith, c.if-count-gt0.false) in
    ap (λ n. ltb 0 n) none ∙ undecided c.args.number items c.partition_point-count.result (record { first = 0; last = 0 }) none point
    ∙ ap (λ xs. covers xs c.args.number) (same ∙ c.self.view_is)
