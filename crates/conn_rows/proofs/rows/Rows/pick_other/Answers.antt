use Rattle.std.proofs.Common.{◌≡◌, ap, ◌∙◌}
use Rattle.std.specs.Prelude.{option_map}
use Rattle.conn_model.specs.Answer.{version_at}
use Rattle.conn_model.specs.Counts.{served_by}
use Rattle.conn_model.specs.Servers.{cursor_at, pick_in}
use Rattle.conn_rows.specs.Value.{RowsValue}
use Rattle.conn_rows.proofs.OpenTo.{picks_served}
use Rattle.conn_rows.proofs.rows.Rows.pick_other.Goals as goal
use Rattle.conn_versions.specs.Barred.{is_barred}
use Rattle.conn_versions.specs.Versions.{open_to}

seen : (c : goal.After-pick) → version_at c.self.inside.kept.versions c.args.version ≡ version_at c.args.self.now.versions c.args.version
seen c = ap (λ (v : RowsValue). version_at v.versions c.args.version) c.self.view_is

pub returns-clause-no_version : goal.returns-clause-no_version
returns-clause-no_version c = λ none. c.pick.ensures.no_version (seen c ∙ none)

pub returns-clause-no_backend : goal.returns-clause-no_backend
returns-clause-no_backend c = λ version kept none. c.pick.ensures.no_backend version (seen c ∙ kept) none

pub returns-clause-picked : goal.returns-clause-picked
returns-clause-picked c = λ version found kept there.
    c.pick.ensures.picked version found (seen c ∙ kept) there
    ∙ ap (λ down. option_map (λ turn. turn.server) (pick_in (open_to c.self.inside.kept.counts) (is_barred down c.args.lines.now) found (cursor_at version.cursors c.args.backend) c.args.source.now)) c.as_slice.ensures.value
    ∙ ap (option_map (λ turn. turn.server))
    (picks_served c.self.inside.frontends.items c.self.inside.kept c.as_slice-versions.ensures.apart c.self.invariant.served (is_barred c.self.inside.down.items c.args.lines.now) found (cursor_at version.cursors c.args.backend) c.args.source.now
    ∙ ap (λ (v : RowsValue). pick_in (served_by v.frontends) (is_barred v.down c.args.lines.now) found (cursor_at version.cursors c.args.backend) c.args.source.now) c.self.view_is)
