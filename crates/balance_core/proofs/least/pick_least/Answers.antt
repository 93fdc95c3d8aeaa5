use Rattle.std.proofs.Common.{refl, [], sym, ◌∙◌}
use Rattle.balance_core.specs.Least.{number_of}
use Rattle.balance_core.proofs.LeastLemmas.{picked_is, lightest_is, none_lightest}
use Rattle.balance_core.proofs.least.pick_least.Goals as goal

pub returns-clause-pick : goal.returns-clause-pick
returns-clause-pick g c =
    c.number.ensures
    ∙ picked_is (g.L.Load.servers c.args.load.now) c.args.last (number_of c.lightest_of-later.result) (number_of c.lightest_of.result) c.begin_after-begin.result c.count-count.result
    c.begin_after-begin.ensures c.count-count.ensures.value (c.lightest_of-later.ensures.lightest [] refl) c.lightest_of.ensures.lightest

pub returns-clause-lightest : goal.returns-clause-lightest
returns-clause-lightest g c =
    rw (c.number.ensures
    ∙ picked_is (g.L.Load.servers c.args.load.now) c.args.last (number_of c.lightest_of-later.result) (number_of c.lightest_of.result) c.begin_after-begin.result c.count-count.result
    c.begin_after-begin.ensures c.count-count.ensures.value (c.lightest_of-later.ensures.lightest [] refl) c.lightest_of.ensures.lightest)
    (lightest_is (g.L.Load.servers c.args.load.now) c.args.last)

pub returns-clause-none : goal.returns-clause-none
returns-clause-none g c = λ none.
    none_lightest (g.L.Load.servers c.args.load.now) c.args.last
    (sym (c.number.ensures
    ∙ picked_is (g.L.Load.servers c.args.load.now) c.args.last (number_of c.lightest_of-later.result) (number_of c.lightest_of.result) c.begin_after-begin.result c.count-count.result
    c.begin_after-begin.ensures c.count-count.ensures.value (c.lightest_of-later.ensures.lightest [] refl) c.lightest_of.ensures.lightest) ∙ none)
