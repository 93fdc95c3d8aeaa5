use Rattle.std.proofs.Common.{ap, ◌∙◌}
use Rattle.std.specs.Prelude.{option_map}
use Rattle.conn_model.specs.Counts.{served_by}
use Rattle.conn_model.specs.Servers.{cursor_at, pick_in}
use Rattle.conn_rows.proofs.OpenTo.{none_barred}
use Rattle.conn_rows.proofs.rows.Rows.pick.Goals as goal

pub returns-clause-picked : goal.returns-clause-picked
returns-clause-picked c = λ version found kept there.
    c.pick_other.ensures.picked version found kept there
    ∙ ap (λ barred. option_map (λ turn. turn.server) (pick_in (served_by c.args.self.now.frontends) barred found (cursor_at version.cursors c.args.backend) c.args.source.now)) (none_barred c.args.self.now.down)
