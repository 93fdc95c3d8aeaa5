use Rattle.std.proofs.Common.{◌≡◌, None, Some, max, ap, sym, ◌∙◌}
use Rattle.std.specs.Prelude.{option_map}
use Rattle.std.specs.Option.{option_copied}
use Rattle.proxy_types.specs.declared.table.Stores.{Stores}
use Rattle.rule_engine.specs.Meaning.{present}
use Rattle.conn_model.specs.declared.ask.Counts.{Counts}
use Rattle.conn_model.specs.declared.plain.TableState.{TableState}
use Rattle.conn_model.specs.Rules.{RuleView, own_track}
use Rattle.conn_model.specs.Tables.{table_at}
use Rattle.conn_rows.specs.Value.{RowsValue}
use Rattle.conn_core.specs.Judging.{counts_of, facts_view, tracked_counts}
use Rattle.conn_core.proofs.CountingLemmas.{nothing, plan_alive, something}
use Rattle.conn_core.proofs.facts.RuleFacts.tracked_counts.Goals as goal

pub returns-in_err-table : goal.returns-in_err-table
returns-in_err-table c =
    let v : RuleView = facts_view c.args.self.now (present c.args.tracks.now) in
    let rows : RowsValue = c.args.self.now.rows.now in
    let own : own_track v c.args.counter ≡ Some c.in_ok-track.track = sym c.own_track.ensures ∙ c.in_ok-track.was in
    let none : table_at v.tables c.in_ok-track.track.table ≡ None =
    nothing (λ t. t.table) (table_at v.tables c.in_ok-track.track.table)
    (plan_alive (max rows.clock c.args.self.now.moment) v.tracks rows.tables c.in_ok-track.track.table ∙ sym c.table.ensures ∙ ap option_copied c.in_err-table.was) in
    c.from_residual-in_err-table.ensures
    ∙ sym (ap (tracked_counts v) own ∙ ap (option_map (λ (table : TableState). (table.table.stores, counts_of v c.in_ok-track.track.key table))) none)

pub returns : goal.returns
returns c =
    let v : RuleView = facts_view c.args.self.now (present c.args.tracks.now) in
    let rows : RowsValue = c.args.self.now.rows.now in
    let own : own_track v c.args.counter ≡ Some c.in_ok-track.track = sym c.own_track.ensures ∙ c.in_ok-track.was in
    let table = something (λ t. t.table) (table_at v.tables c.in_ok-track.track.table) c.in_ok-table.table.now
    (plan_alive (max rows.clock c.args.self.now.moment) v.tracks rows.tables c.in_ok-track.track.table ∙ sym c.table.ensures ∙ ap option_copied c.in_ok-table.was) in
    let counted : Some (counts_of v c.in_ok-track.track.key table.0) ≡ Some c.in_ok-counts.counts =
    ap (option_map (counts_of v c.in_ok-track.track.key)) (sym table.1) ∙ sym c.counts.ensures ∙ c.in_ok-counts.was in
    let counts : counts_of v c.in_ok-track.track.key table.0 ≡ c.in_ok-counts.counts = cc counted in
    let pair : Stores → Counts → Stores × Counts = λ stores counts. (stores, counts) in
    sym (ap (tracked_counts v) own ∙ ap (option_map (λ (table : TableState). (table.table.stores, counts_of v c.in_ok-track.track.key table))) table.1
    ∙ ap (λ n. Some (pair table.0.table.stores n)) counts ∙ ap (λ t. Some (pair t.stores c.in_ok-counts.counts)) table.2)
