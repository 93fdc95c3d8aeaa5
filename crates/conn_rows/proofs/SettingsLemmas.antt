-- How a stored connection is served is how the plain one is.
use Rattle.std.proofs.Common.{◌≡◌, ℕ, Bool, true, false, List, map, Option, Some, None, refl, ap, ◌∙◌}
use Rattle.std.specs.Prelude.{slice_get, find, option_map, option_and_then}
use Rattle.conn_model.specs.declared.event.ConnId.{ConnId}
use Rattle.conn_model.specs.declared.plain.FrontendRows.{FrontendRows}
use Rattle.conn_model.specs.declared.plain.Version.{Version}
use Rattle.conn_model.specs.declared.settings.Settings.{Settings}
use Rattle.conn_model.specs.Answer.{row_in}
use Rattle.conn_model.specs.Settings.{server_line, settings_at, settings_in}
use Rattle.plan_types.specs.declared.plan.Plan.{Plan}
use Rattle.conn_rows.specs.declared.row.Stage.{Stage}
use Rattle.conn_rows.specs.declared.row.Stage.TheVariants.{Waiting, Offered}
use Rattle.conn_rows.specs.declared.row.StoredRow.{StoredRow}
use Rattle.conn_rows.specs.Stored.{StoredFrontend, assignment_in, has_serial, line_of, phase_of, phase_with, plain_frontend, plain_row, plan_at}
use Rattle.conn_rows.proofs.Plain.{find-plain, get-map}

line_is : (plan : Option Plan) (stage : Stage) → server_line (phase_of plan stage) ≡ line_of stage
line_is plan (Waiting rest) = refl
line_is plan (Offered held) = by held.is_up
  where
    by : (b : Bool) → server_line (phase_with b (assignment_in plan held.seat held.failed.items)) ≡ Some held.seat.line
    by true = refl
    by false = refl

-- those of a stored connection to the frontend of that name
abbrev pub stored_settings : List Version → List ℕ → StoredRow → Option Settings
stored_settings versions name row = settings_at versions row.version name (line_of row.stage)

abbrev pub own_settings : List Version → ℕ → StoredFrontend → Option Settings
own_settings versions serial own = option_and_then (stored_settings versions own.name) (find (has_serial serial) own.rows)

abbrev plain_settings : List Version → ℕ → FrontendRows → Option Settings
plain_settings versions serial own = option_and_then (λ row. settings_at versions row.version own.name (server_line row.phase)) (row_in serial (Some own))

own_is : (versions : List Version) (serial : ℕ) (own : StoredFrontend) → plain_settings versions serial (plain_frontend versions own) ≡ own_settings versions serial own
own_is versions serial own =
    ap (option_and_then (λ row. settings_at versions row.version own.name (server_line row.phase))) (find-plain versions serial own.rows) ∙ by (find (has_serial serial) own.rows)
  where
    by : (o : Option StoredRow) → option_and_then (λ row. settings_at versions row.version own.name (server_line row.phase)) (option_map (plain_row versions) o) ≡ option_and_then (stored_settings versions own.name) o
    by None = refl
    by (Some row) = ap (settings_at versions row.version own.name) (line_is (plan_at versions row.version) row.stage)

pub settings_is : (versions : List Version) (frontends : List StoredFrontend) (id : ConnId) →
    settings_in (map (plain_frontend versions) frontends) versions id ≡ option_and_then (own_settings versions id.serial) (slice_get frontends id.frontend)
settings_is versions frontends id =
    ap (option_and_then (plain_settings versions id.serial)) (get-map (plain_frontend versions) frontends id.frontend) ∙ by (slice_get frontends id.frontend)
  where
    by : (o : Option StoredFrontend) → option_and_then (plain_settings versions id.serial) (option_map (plain_frontend versions) o) ≡ option_and_then (own_settings versions id.serial) o
    by None = refl
    by (Some own) = own_is versions id.serial own
