use Rattle.std.proofs.Common.{◌≡◌, ◌+◌, get_or, take, sym, ap, ◌∙◌, arith}
use Rattle.conn_model.specs.Counts.{total}
use Rattle.conn_rows.specs.Counts.{open_stored}
use Rattle.conn_model.proofs.Totals.{total-all, total-more}
use Rattle.conn_rows.proofs.counts.open_named.Goals as goal

pub loop-own-preserved : goal.loop-own-preserved
loop-own-preserved c =
    let more : total (open_stored c.args.name.now) (take (c.loop-own.own-index + 1) c.args.frontends.now) ≡ total (open_stored c.args.name.now) (take c.loop-own.own-index c.args.frontends.now) + (open_stored c.args.name.now) (get_or c.args.frontends.now c.loop-own.own-index c.own-item.result) =
    total-more (open_stored c.args.name.now) c.args.frontends.now c.loop-own.own-index c.own-item.result c.loop-own-test.true in
    record {
      count = ap (λ n. n + c.open_if-count.result) c.loop-own.invariant.count ∙ ap (λ n. total (open_stored c.args.name.now) (take c.loop-own.own-index c.args.frontends.now) + n) (c.open_if-count.ensures.value ∙ ap (open_stored c.args.name.now) c.own-item.is) ∙ sym more;
      few = let before = c.loop-own.invariant.few in let one = c.open_if-count.ensures.few in omega (arith, before, one);
    }

pub returns-clause-value : goal.returns-clause-value
returns-clause-value c = c.loop-own.invariant.count ∙ total-all (open_stored c.args.name.now) c.args.frontends.now c.loop-own.own-index c.loop-own-test.false
