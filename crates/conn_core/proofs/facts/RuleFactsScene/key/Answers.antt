use Rattle.std.proofs.Common.{◌≡◌, ◌≤◌, Some, max, ap, sym, ◌∙◌, arith}
use Rattle.std.specs.Prelude.{slice_get, option_map}
use Rattle.rule_engine.specs.Meaning.{present}
use Rattle.conn_rows.specs.Value.{RowsValue}
use Rattle.conn_core.specs.Judging.{facts_view}
use Rattle.conn_core.proofs.CountingLemmas.{key_by}
use Rattle.conn_core.proofs.facts.RuleFactsScene.key.Goals as goal

pub returns : goal.returns
returns c =
    let there : slice_get c.args.self.now.version.now.tables c.args.number ≡ Some c.in_ok-id.id =
    ap (slice_get c.args.self.now.version.now.tables) (sym c.from.ensures) ∙ sym c.table_id.ensures ∙ c.in_ok-id.was in
    let rows : RowsValue = c.args.self.now.rows.now in
    let later : rows.clock ≤ max rows.clock c.args.self.now.moment = omega arith in
    sym (key_by (facts_view c.args.self.now (present c.args._tracks.now)) c.args.number c.in_ok-id.id there ∙ ap (option_map (λ key. (c.in_ok-id.id, key))) (sym (c.key_for.ensures (max rows.clock c.args.self.now.moment) later) ∙ c.in_ok-key.was))

pub returns-in_err-key : goal.returns-in_err-key
returns-in_err-key c =
    let there : slice_get c.args.self.now.version.now.tables c.args.number ≡ Some c.in_ok-id.id =
    ap (slice_get c.args.self.now.version.now.tables) (sym c.from.ensures) ∙ sym c.table_id.ensures ∙ c.in_ok-id.was in
    let rows : RowsValue = c.args.self.now.rows.now in
    let later : rows.clock ≤ max rows.clock c.args.self.now.moment = omega arith in
    c.from_residual-in_err-key.ensures
    ∙ sym (key_by (facts_view c.args.self.now (present c.args._tracks.now)) c.args.number c.in_ok-id.id there ∙ ap (option_map (λ key. (c.in_ok-id.id, key))) (sym (c.key_for.ensures (max rows.clock c.args.self.now.moment) later) ∙ c.in_err-key.was))
