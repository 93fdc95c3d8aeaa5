use Rattle.std.proofs.Common.{ap, ◌∙◌, length}
use Rattle.conn_rows.specs.Stored.{StoredFrontend}
use Rattle.conn_rows.proofs.Serials.{no_rows}
use Rattle.conn_rows.proofs.frontend.FrontendState.end_empty.Goals as goal

pub end-requires : goal.end-requires
end-requires c = no_rows c.self.inside.rows (ap (λ (own : StoredFrontend). length own.rows) c.self.view_is ∙ c.requires)
