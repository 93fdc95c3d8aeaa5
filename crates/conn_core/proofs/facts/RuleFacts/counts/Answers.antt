use Rattle.std.proofs.Common.{◌≡◌, None, Some, max, ap, sym, ◌∙◌}
use Rattle.std.specs.Prelude.{option_map}
use Rattle.std.specs.Option.{option_copied}
use Rattle.rule_engine.specs.Meaning.{present}
use Rattle.conn_model.specs.Rules.{RuleView}
use Rattle.conn_model.specs.Tables.{entry_counts, open_tracks, table_at, tables_alive}
use Rattle.conn_rows.specs.Value.{RowsValue}
use Rattle.conn_core.specs.Judging.{counts_of, facts_view}
use Rattle.conn_core.proofs.CountingLemmas.{counted_by, nothing, plan_alive, something}
use Rattle.conn_core.proofs.facts.RuleFacts.counts.Goals as goal

pub returns : goal.returns
returns c =
    let v : RuleView = facts_view c.args.self.now (present c.args.tracks.now) in
    let rows : RowsValue = c.args.self.now.rows.now in
    let now : c.max-moment.result ≡ max rows.clock c.args.self.now.moment = c.max-moment.ensures ∙ ap (λ n. max n c.args.self.now.moment) c.clock.ensures.value in
    let table = something (λ t. t.table) (table_at v.tables c.args.id) c.in_ok-table.table.now (plan_alive (max c.args.self.now.rows.now.clock c.args.self.now.moment) (open_tracks c.args.self.now.rows.now.frontends) c.args.self.now.rows.now.tables c.args.id ∙ sym c.table.ensures ∙ ap option_copied c.in_ok-table.was) in
    let before : Some (entry_counts v.tracks c.args.addr.now table.0) ≡ Some c.in_ok-counts.counts =
    ap (option_map (entry_counts v.tracks c.args.addr.now)) (sym table.1) ∙ ap (λ n. option_map (entry_counts v.tracks c.args.addr.now) (table_at (tables_alive n v.tracks rows.tables) c.args.id)) (sym now) ∙ sym c.counts.ensures.value ∙ c.in_ok-counts.was in
    ap (λ n. Some n)
    (counted_by v c.args.id c.args.addr.now table.0 c.in_ok-counts.counts c.in_ok-table.table.now.kind c.key_trackers-made.result c.saturating_add.result table.1 (cc (before)) (ap (λ t. t.kind) table.2) c.key_trackers-made.ensures.value
    c.saturating_add.ensures)
    ∙ sym (ap (option_map (counts_of v c.args.addr.now)) table.1)

pub returns-in_err-table : goal.returns-in_err-table
returns-in_err-table c =
    let v : RuleView = facts_view c.args.self.now (present c.args.tracks.now) in
    let rows : RowsValue = c.args.self.now.rows.now in
    let none : table_at v.tables c.args.id ≡ None =
    nothing (λ t. t.table) (table_at v.tables c.args.id) (plan_alive (max rows.clock c.args.self.now.moment) v.tracks rows.tables c.args.id ∙ sym c.table.ensures ∙ ap option_copied c.in_err-table.was) in
    c.from_residual.ensures ∙ sym (ap (option_map (counts_of v c.args.addr.now)) none)
