use Rattle.std.proofs.Common.{◌∙◌, ap, length, take}
use Rattle.conn_model.specs.Counts.{total}
use Rattle.conn_rows.specs.Stored.{StoredFrontend}
use Rattle.conn_rows.proofs.Totals.{total-empty}
use Rattle.conn_rows.proofs.opening.frontends.Goals as goal

pub end_all_empty-requires : goal.end_all_empty-requires
end_all_empty-requires c =
    ap (total (λ (own : StoredFrontend). length own.rows)) (c.in-Err.ensures.err ∙ c.loop-frontend.invariant) ∙ total-empty (take c.loop-frontend.frontend-index c.args.frontends.now) c.args.last
