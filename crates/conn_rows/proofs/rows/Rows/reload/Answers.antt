use Rattle.std.proofs.Common.{◌≡◌, ℕ, Result, Ok, Err, Some, map, sym, subst, ◌∙◌}
use Rattle.std.specs.Prelude.{IsSome, OnOk, OnErr}
use Rattle.conn_model.specs.Answer.{version_at}
use Rattle.conn_model.specs.History.{with_version}
use Rattle.conn_versions.specs.Judged.{judged_of}
use Rattle.conn_rows.specs.Needed.{AreVersionsKept, IsNextNumber}
use Rattle.conn_rows.specs.Stored.{plain_frontend}
use Rattle.conn_rows.specs.Value.{row_judged, rows_total, RowsValue}
use Rattle.conn_rows.proofs.Kept.{AreSeenAlike, brought_judged, seen_more, seen_same, served_seen}
use Rattle.conn_rows.proofs.Reloaded.{brought_value, err_both, ok_both, same_value}
use Rattle.conn_rows.proofs.TablesListed.{listed-brought}
use Rattle.conn_rows.proofs.rows.Rows.reload.Goals as goal

pub install_version-requires-clause-next : goal.install_version-requires-clause-next
install_version-requires-clause-next c = subst (λ (v : RowsValue). IsNextNumber c.args.number v.versions v.tables) (sym c.self.view_is) c.requires.next

kept : (c : goal.After-install_version) → AreVersionsKept (map (plain_frontend c.self.inside.kept.versions) c.self.inside.frontends.items) c.self.inside.kept.versions
kept c = subst (λ (v : RowsValue). AreVersionsKept v.frontends v.versions) (sym c.self.view_is) c.requires.kept

alike : (c : goal.After-install_version) → AreSeenAlike c.self.inside.kept.versions c.install_version.new.kept.versions c.self.inside.frontends.items
alike c = by c.install_version.result c.install_version.ensures.versions c.install_version.ensures.versions_err
  where
    by : {X E : Type 0} (r : Result X E) → OnOk r (c.install_version.new.kept.versions ≡ with_version c.self.inside.kept.versions (Some (c.args.number, c.args.plan))) →
        OnErr r (c.install_version.new.kept.versions ≡ c.self.inside.kept.versions) → AreSeenAlike c.self.inside.kept.versions c.install_version.new.kept.versions c.self.inside.frontends.items
    by (Ok x) ok err = seen_more c.self.inside.kept.versions c.install_version.new.kept.versions c.args.number c.args.plan c.self.inside.frontends.items (kept c) ok
    by (Err e) ok err = seen_same c.self.inside.kept.versions c.install_version.new.kept.versions c.self.inside.frontends.items err

judged : (c : goal.After-install_version) → (other : ℕ) → IsSome (version_at c.install_version.new.kept.versions other) → judged_of c.install_version.new.kept other ≡ rows_total (row_judged other) c.self.inside.frontends.items
judged c = by c.install_version.result c.install_version.ensures.versions c.install_version.ensures.versions_err c.install_version.ensures.begins
  where
    by : {X E : Type 0} (r : Result X E) → OnOk r (c.install_version.new.kept.versions ≡ with_version c.self.inside.kept.versions (Some (c.args.number, c.args.plan))) →
        OnErr r (c.install_version.new.kept.versions ≡ c.self.inside.kept.versions) → OnOk r (judged_of c.install_version.new.kept c.args.number ≡ 0) →
        (other : ℕ) → IsSome (version_at c.install_version.new.kept.versions other) → judged_of c.install_version.new.kept other ≡ rows_total (row_judged other) c.self.inside.frontends.items
    by (Ok x) ok err begins =
        brought_judged c.self.inside.frontends.items c.self.inside.kept c.install_version.new.kept c.args.number c.args.plan c.self.invariant.served (kept c) ok c.install_version.ensures.judged begins
    by (Err e) ok err begins = λ other some.
        let there : IsSome (version_at c.self.inside.kept.versions other) = subst (λ vs. IsSome (version_at vs other)) err some in
        c.install_version.ensures.judged other there ∙ c.self.invariant.served.judged other there

pub invariant_of-self : goal.invariant_of-self
invariant_of-self c = record {
  rows = record {
    few = c.self.invariant.rows.few;
    small = c.self.invariant.rows.small;
    counted = λ id key. c.install_version.ensures.counts id key ∙ c.self.invariant.rows.counted id key;
  };
  served = served_seen c.self.inside.frontends.items c.self.inside.kept c.install_version.new.kept (alike c) c.install_version.ensures.open (judged c) c.install_version.ensures.identities c.self.invariant.served;
  listed =
      listed-brought c.install_version.result c.self.inside.kept.versions c.install_version.new.kept.versions c.self.inside.tables c.install_version.new.tables c.args.number c.args.plan c.install_version.ensures.versions c.install_version.ensures.tables c.install_version.ensures.versions_err
      c.install_version.ensures.tables_err c.self.invariant.listed;
}

pub returns-clause-ok : goal.returns-clause-ok
returns-clause-ok c =
    ok_both c.install_version.result
    (λ versions tables.
    brought_value c.self.inside.frontends.items c.self.inside.kept.versions c.install_version.new.kept.versions c.self.inside.tables c.install_version.new.tables c.args.self.now c.args.number c.args.plan c.self.view_is
    (alike c) versions tables c.install_version.ensures.spare c.install_version.ensures.clock)
    c.install_version.ensures.versions c.install_version.ensures.tables

pub returns-clause-err : goal.returns-clause-err
returns-clause-err c =
    err_both c.install_version.result
    (λ versions tables. same_value c.self.inside.frontends.items c.self.inside.kept.versions c.install_version.new.kept.versions c.self.inside.tables c.install_version.new.tables c.args.self.now c.self.view_is versions tables)
    c.install_version.ensures.versions_err c.install_version.ensures.tables_err
