-- Connections that wait.
use Rattle.std.proofs.Common.{◌≡◌, List, true, false, Option, Some, None, Ok, Err, refl, sym, ap, ◌∙◌}
use Rattle.std.specs.Prelude.{option_map}
use Rattle.pp_any.specs.declared.rest.Rest.{Rest}
use Rattle.conn_model.specs.declared.event.ConnId.{ConnId}
use Rattle.conn_model.specs.declared.reply.StepFault.TheVariants.{NoSuch, NotWaiting}
use Rattle.conn_model.specs.declared.plain.Phase.{Phase}
use Rattle.conn_model.specs.declared.plain.Phase.TheVariants.{Waiting, Offered, Up}
use Rattle.conn_model.specs.declared.plain.Row.{Row}
use Rattle.conn_model.specs.declared.plain.FrontendRows.{FrontendRows}
use Rattle.conn_model.specs.Answer.{rest_in, row_at, waiting_row}
use Rattle.conn_rows.specs.declared.row.RowSummary.{RowSummary}
use Rattle.conn_rows.specs.Summaries.{is_waiting, summary_of}

rest_of-waiting : (phase : Phase) → is_waiting phase ≡ true → (rest : Rest) × (rest_in phase ≡ Some rest)
rest_of-waiting (Waiting rest) is = (rest, refl)
rest_of-waiting (Offered assignment) is = absurd (let wrong : false ≡ true = is in cc)
rest_of-waiting (Up assignment) is = absurd (let wrong : false ≡ true = is in cc)

none-waiting : (phase : Phase) → is_waiting phase ≡ false → rest_in phase ≡ None
none-waiting (Waiting rest) is = absurd (let wrong : true ≡ false = is in cc)
none-waiting (Offered assignment) is = refl
none-waiting (Up assignment) is = refl

waits_of : (frontends : List FrontendRows) (id : ConnId) (row : Row) (rest : Rest) → row_at frontends id ≡ Some row → rest_in row.phase ≡ Some rest → waiting_row frontends id ≡ Ok (row, rest)
waits_of frontends id row rest there holds = rw (there, holds) refl

pub waits_is : (frontends : List FrontendRows) (id : ConnId) (summary : RowSummary) → option_map summary_of (row_at frontends id) ≡ Some summary → summary.waits ≡ true →
    (found : Row × Rest) × (waiting_row frontends id ≡ Ok found) × (summary ≡ summary_of found.0)
waits_is frontends id summary is waits = by (row_at frontends id) refl
  where
    by : (o : Option Row) → row_at frontends id ≡ o → (found : Row × Rest) × (waiting_row frontends id ≡ Ok found) × (summary ≡ summary_of found.0)
    by None there = absurd (let wrong : None ≡ Some summary = ap (option_map summary_of) (sym there) ∙ is in cc)
    by (Some row) there =
        let same : summary_of row ≡ summary = let e : Some (summary_of row) ≡ Some summary = ap (option_map summary_of) (sym there) ∙ is in cc in
        let rest = rest_of-waiting row.phase (ap (λ s. s.waits) same ∙ waits) in
        ((row, rest.0), waits_of frontends id row rest.0 there rest.1, sym same)

pub no_row : (frontends : List FrontendRows) (id : ConnId) → option_map summary_of (row_at frontends id) ≡ None → waiting_row frontends id ≡ Err NoSuch
no_row frontends id is = by (row_at frontends id) refl
  where
    by : (o : Option Row) → row_at frontends id ≡ o → waiting_row frontends id ≡ Err NoSuch
    by None there = rw there refl
    by (Some row) there = absurd (let wrong : Some (summary_of row) ≡ None = ap (option_map summary_of) (sym there) ∙ is in cc)

pub not_waiting : (frontends : List FrontendRows) (id : ConnId) (summary : RowSummary) → option_map summary_of (row_at frontends id) ≡ Some summary → summary.waits ≡ false →
    waiting_row frontends id ≡ Err NotWaiting
not_waiting frontends id summary is waits = by (row_at frontends id) refl
  where
    by : (o : Option Row) → row_at frontends id ≡ o → waiting_row frontends id ≡ Err NotWaiting
    by None there = absurd (let wrong : None ≡ Some summary = ap (option_map summary_of) (sym there) ∙ is in cc)
    by (Some row) there =
        let same : summary_of row ≡ summary = let e : Some (summary_of row) ≡ Some summary = ap (option_map summary_of) (sym there) ∙ is in cc in
        rw (there, none-waiting row.phase (ap (λ s. s.waits) same ∙ waits)) refl

-- a connection that has a summary is open
pub open_row : (frontends : List FrontendRows) (id : ConnId) (summary : RowSummary) → option_map summary_of (row_at frontends id) ≡ Some summary → (row : Row) × (row_at frontends id ≡ Some row)
open_row frontends id summary is = by (row_at frontends id) refl
  where
    by : (r : Option Row) → row_at frontends id ≡ r → (row : Row) × (row_at frontends id ≡ Some row)
    by None there = absurd (let wrong : None ≡ Some summary = ap (option_map summary_of) (sym there) ∙ is in cc)
    by (Some row) there = (row, there)
