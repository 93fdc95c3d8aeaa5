use Rattle.std.proofs.Common.{◌≡◌, ◌∙◌, List, map, refl, sym, subst}
use Rattle.std.specs.Option.{option_map_or}
use Rattle.addr_core.specs.declared.addr.Addr.{Addr}
use Rattle.plan_types.specs.declared.track.TableId.{TableId}
use Rattle.conn_model.specs.Words.{newest}
use Rattle.conn_tables.specs.Tables.{cur_in, plain_table, StoredTables}
use Rattle.conn_versions.specs.Judged.{judged_of}
use Rattle.conn_versions.specs.Versions.{VersionsValue}
use Rattle.std.specs.Prelude.{ℕ, IsSome}
use Rattle.conn_model.specs.Answer.{version_at}
use Rattle.conn_rows.specs.Needed.{AreTracksHeld, versions_needed}
use Rattle.conn_rows.specs.Stored.{StoredFrontend, plain_frontend}
use Rattle.conn_rows.specs.Value.{AreTablesListed, IsRowsState, RowsValue, row_judged, rows_total}
use Rattle.conn_rows.proofs.Kept.{idle_tables, left_judged, seen_needed, served_seen, stored_needed, used_needed}
use Rattle.conn_rows.proofs.Reloaded.{forgotten_value, left_needed}
use Rattle.conn_rows.proofs.TablesListed.{listed-kept, none_unlisted}
use Rattle.conn_rows.proofs.rows.Rows.forget.Goals as goal

pub forget-requires : goal.forget-requires
forget-requires c =
    let frontends = c.self.inside.frontends.items in
    let versions = c.self.inside.kept.versions in
    let left = used_needed frontends c.self.inside.kept (option_map_or (λ version. version.number) (newest versions) 0) c.forget_idle.new.self.versions c.self.invariant.served c.forget_idle.ensures.versions in
    let held = subst (λ (v : RowsValue). AreTracksHeld v.frontends (versions_needed v.frontends v.versions)) (sym c.self.view_is) c.requires in
    idle_tables versions c.as_slice.result.now frontends c.self.inside.tables.tables c.self.invariant.rows
    (subst (AreTracksHeld (map (plain_frontend versions) frontends)) (sym (c.as_slice.ensures.versions ∙ left_needed frontends versions c.forget_idle.new.self.versions left)) held)

-- the rows once versions were forgotten, whichever tables are left
left_state : (frontends : List StoredFrontend) (kept rest : VersionsValue) (tables next : StoredTables) →
    rest.versions ≡ stored_needed frontends (option_map_or (λ version. version.number) (newest kept.versions) 0) kept.versions → rest.counts ≡ kept.counts →
    ((number : ℕ) → IsSome (version_at rest.versions number) → judged_of rest number ≡ rows_total (row_judged number) frontends) → ((id : TableId) (key : Addr) → cur_in id key next.tables ≡ cur_in id key tables.tables) →
    AreTablesListed rest.versions (map (plain_table next.clock) next.tables) → IsRowsState frontends kept tables → IsRowsState frontends rest next
left_state frontends kept rest tables next less same judged counts listed known = record {
  rows = record {
    few = known.rows.few;
    small = known.rows.small;
    counted = λ id key. counts id key ∙ known.rows.counted id key;
  };
  served =
      served_seen frontends kept rest (seen_needed kept.versions rest.versions (option_map_or (λ version. version.number) (newest kept.versions) 0) frontends less) (λ place. rw same refl) judged (λ place some. rw same refl)
      known.served;
  listed = listed;
}

pub invariant_of-self : goal.invariant_of-self
invariant_of-self c =
    let frontends = c.self.inside.frontends.items in
    let kept = c.self.inside.kept in
    let force = option_map_or (λ version. version.number) (newest kept.versions) 0 in
    left_state frontends kept c.forget_idle.new.self c.self.inside.tables c.forget.new.self
    (used_needed frontends kept force c.forget_idle.new.self.versions c.self.invariant.served c.forget_idle.ensures.versions) c.forget_idle.ensures.counts
    (left_judged frontends kept c.forget_idle.new.self force c.self.invariant.served c.forget_idle.ensures.versions c.forget_idle.ensures.judged) c.forget.ensures.counts
    (listed-kept c.forget_idle.new.self.versions (map (plain_table c.self.inside.tables.clock) c.self.inside.tables.tables) (map (plain_table c.forget.new.self.clock) c.forget.new.self.tables) (rw (← c.as_slice.ensures.versions) c.forget.ensures.plain)) c.self.invariant

pub invariant_of-self-else-forget_idle : goal.invariant_of-self-else-forget_idle
invariant_of-self-else-forget_idle c =
    let frontends = c.self.inside.frontends.items in
    let kept = c.self.inside.kept in
    let force = option_map_or (λ version. version.number) (newest kept.versions) 0 in
    left_state frontends kept c.forget_idle.new.self c.self.inside.tables c.self.inside.tables
    (used_needed frontends kept force c.forget_idle.new.self.versions c.self.invariant.served c.forget_idle.ensures.versions) c.forget_idle.ensures.counts
    (left_judged frontends kept c.forget_idle.new.self force c.self.invariant.served c.forget_idle.ensures.versions c.forget_idle.ensures.judged) (λ id key. refl)
    (subst (λ vs. AreTablesListed vs (map (plain_table c.self.inside.tables.clock) c.self.inside.tables.tables)) (sym (c.forget_idle.ensures.none c.if-forget_idle.false)) c.self.invariant.listed) c.self.invariant

pub returns-then-forget_idle : goal.returns-then-forget_idle
returns-then-forget_idle c =
    let frontends = c.self.inside.frontends.items in
    let versions = c.self.inside.kept.versions in
    let left = used_needed frontends c.self.inside.kept (option_map_or (λ version. version.number) (newest versions) 0) c.forget_idle.new.self.versions c.self.invariant.served c.forget_idle.ensures.versions in
    forgotten_value frontends versions c.forget_idle.new.self.versions c.self.inside.tables c.forget.new.self c.args.self.now c.self.view_is left
    (rw (← c.as_slice.ensures.versions) c.forget.ensures.plain) c.forget.ensures.spare c.forget.ensures.clock

pub returns-else-forget_idle : goal.returns-else-forget_idle
returns-else-forget_idle c =
    let frontends = c.self.inside.frontends.items in
    let versions = c.self.inside.kept.versions in
    let left = used_needed frontends c.self.inside.kept (option_map_or (λ version. version.number) (newest versions) 0) c.forget_idle.new.self.versions c.self.invariant.served c.forget_idle.ensures.versions in
    forgotten_value frontends versions c.forget_idle.new.self.versions c.self.inside.tables c.self.inside.tables c.args.self.now c.self.view_is left
    (none_unlisted versions c.forget_idle.new.self.versions (map (plain_table c.self.inside.tables.clock) c.self.inside.tables.tables) (c.forget_idle.ensures.none c.if-forget_idle.false) c.self.invariant.listed) refl refl
