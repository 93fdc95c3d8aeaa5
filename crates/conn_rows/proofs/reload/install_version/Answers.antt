use Rattle.std.proofs.Common.{◌≡◌, ◌≤◌, ◌∙◌, ◌++◌, false, Some, None, length, map, not, refl, sym, ap, subst, arith}
use Rattle.std.specs.Prelude.{filter, ◌==◌}
use Rattle.std.proofs.lemmas.Bool.Decides.{nat_tests}
use Rattle.proxy_types.specs.declared.limits.TheConstants.{MOST_TABLES}
use Rattle.conn_model.specs.Words.{newest}
use Rattle.conn_model.specs.Tables.{new_tables, written_tables}
use Rattle.conn_model.specs.History.{next_version}
use Rattle.conn_rows.proofs.Reloaded.{brought_ids, brought_is, brought_newest, taken_back, tables_earlier}
use Rattle.conn_tables.specs.Tables.{plain_table}
use Rattle.conn_versions.proofs.Judged.{none-above, not_kept}
use Rattle.conn_rows.proofs.reload.install_version.Goals as goal

pub unreachable-requires : goal.unreachable-requires
unreachable-requires c =
    let there = brought_newest c.args.kept.now.versions c.as_slice.result.now c.args.number c.args.plan (c.as_slice.ensures.versions ∙ c.in_ok-push.ensures.ok) in
    let none : newest c.as_slice.result.now ≡ None = sym c.in_default.ensures in
    let wrong : Some (next_version c.args.number (written_tables (newest c.args.kept.now.versions)) c.args.plan) ≡ None = sym there ∙ none in
    cc

pub begin-requires-clause-few : goal.begin-requires-clause-few
begin-requires-clause-few c =
    let is = brought_is c.args.kept.now.versions c.as_slice.result.now c.args.number c.args.plan c.in-Some.version.now (c.as_slice.ensures.versions ∙ c.in_ok-push.ensures.ok) c.in-Some.ensures in
    subst (λ ts. length ts ≤ MOST_TABLES) (sym (c.as_slice-2.ensures ∙ ap (λ v. v.plan.tables) is)) c.requires.sound.tables

pub begin-requires-clause-next : goal.begin-requires-clause-next
begin-requires-clause-next c =
    let is = brought_is c.args.kept.now.versions c.as_slice.result.now c.args.number c.args.plan c.in-Some.version.now (c.as_slice.ensures.versions ∙ c.in_ok-push.ensures.ok) c.in-Some.ensures in (
      written_tables (newest c.args.kept.now.versions),
      brought_ids c.args.kept.now.versions c.args.number c.args.plan c.in-Some.version.now c.as_slice-2.result.now c.as_slice-ids.result.now is c.as_slice-2.ensures c.as_slice-ids.ensures c.requires.next.written,
    )

pub begin-requires-clause-earlier : goal.begin-requires-clause-earlier
begin-requires-clause-earlier c = tables_earlier c.args.number c.args.tables.now.clock c.args.tables.now.tables c.requires.next.began

pub returns-in-Ok-clause-tables : goal.returns-in-Ok-clause-tables
returns-in-Ok-clause-tables c =
    let before = written_tables (newest c.args.kept.now.versions) in
    let is = brought_is c.args.kept.now.versions c.as_slice.result.now c.args.number c.args.plan c.in-Some.version.now (c.as_slice.ensures.versions ∙ c.in_ok-push.ensures.ok) c.in-Some.ensures in
    c.in-Ok.ensures.ok before
    (brought_ids c.args.kept.now.versions c.args.number c.args.plan c.in-Some.version.now c.as_slice-2.result.now c.as_slice-ids.result.now is c.as_slice-2.ensures c.as_slice-ids.ensures c.requires.next.written)
    ∙ ap (λ ts. map (plain_table c.args.tables.now.clock) c.args.tables.now.tables ++ new_tables c.args.number before ts) (c.as_slice-2.ensures ∙ ap (λ v. v.plan.tables) is)

pub returns-in-Err-clause-versions_err : goal.returns-in-Err-clause-versions_err
returns-in-Err-clause-versions_err c =
    c.forget.ensures.versions ∙ ap (filter (λ version. not (version.number == c.args.number))) c.in_ok-push.ensures.ok
    ∙ taken_back c.args.kept.now.versions (next_version c.args.number (written_tables (newest c.args.kept.now.versions)) c.args.plan) c.args.number c.requires.next.above refl

pub returns-in-Err-clause-judged : goal.returns-in-Err-clause-judged
returns-in-Err-clause-judged c = λ other some.
    let none = none-above c.args.kept.now.versions c.args.number c.requires.next.above in
    let differs = not_kept c.args.kept.now.versions c.args.number other none some in
    let is : (other == c.args.number) ≡ false = grind (arith, nat_tests, differs) in
    c.forget.ensures.judged other is ∙ c.push.ensures.judged other
