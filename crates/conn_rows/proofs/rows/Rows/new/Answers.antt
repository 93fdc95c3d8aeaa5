use Rattle.std.proofs.Common.{◌≡◌, rules, sym, ap, ◌∙◌, map, [], length}
use Rattle.conn_model.specs.Counts.{total}
use Rattle.conn_tables.specs.Tables.{plain_table}
use Rattle.conn_rows.specs.Stored.{StoredFrontend}
use Rattle.conn_rows.specs.Value.{row_judged, row_on, row_slots, rows_total}
use Rattle.conn_rows.proofs.Counted.{small-empty}
use Rattle.conn_rows.proofs.Plain.{opened}
use Rattle.conn_rows.proofs.Served.{none-served}
use Rattle.conn_rows.proofs.Totals.{few-map, rows-empty, total-empty}
use Rattle.conn_rows.proofs.TablesListed.{listed-opened}
use Rattle.conn_rows.proofs.rows.Rows.new.Goals as goal

pub end_all_empty-requires : goal.end_all_empty-requires
end_all_empty-requires c =
    let all : c.in_ok-frontends.frontends.items ≡ map (λ frontend. record { name = frontend.name; serial = c.args.last; rows = [] }) c.args.plan.frontends = search rules in
    ap (total (λ (own : StoredFrontend). length own.rows)) all ∙ total-empty c.args.plan.frontends c.args.last

pub returns-in-Ok : goal.returns-in-Ok
returns-in-Ok c =
    rw c.new-in-Ok.ensures.items
    (opened c.args.plan c.args.last c.in_ok-frontends.frontends.items c.in-Ok.kept.versions c.in_ok-tables.tables (search rules) (search rules) (search rules) (search rules) c.in_ok-tables.ensures.clock)

pub invariant_of-result : goal.invariant_of-result
invariant_of-result c =
    let all : c.in_ok-frontends.frontends.items ≡ map (λ frontend. record { name = frontend.name; serial = c.args.last; rows = [] }) c.args.plan.frontends = search rules in
    record {
      rows = record {
        few = rw all (few-map c.args.plan.frontends c.args.last c.requires.frontends);
        small = rw all (small-empty c.args.plan.frontends c.args.last);
        counted = λ id key. c.in_ok-tables.ensures.counts id key ∙ sym (ap (rows_total (row_on id key)) all ∙ rows-empty (row_on id key) c.args.plan.frontends c.args.last);
      };
      served = record {
        counted = λ place. c.in-Ok.ensures.open place ∙ sym (ap (rows_total (row_slots place)) all ∙ rows-empty (row_slots place) c.args.plan.frontends c.args.last);
        judged = λ number some. c.in-Ok.ensures.judged number ∙ sym (ap (rows_total (row_judged number)) all ∙ rows-empty (row_judged number) c.args.plan.frontends c.args.last);
        slots = rw all (none-served c.in-Ok.kept c.args.plan.frontends c.args.last);
      };
      listed = listed-opened c.args.plan c.in-Ok.kept.versions (map (plain_table c.in_ok-tables.tables.clock) c.in_ok-tables.tables.tables) (search rules) (search rules);
    }
