-- What the model sees once a version is brought, and once versions are forgotten.
use Rattle.std.proofs.Common.{◌≡◌, ℕ, ◌<◌, List, [], ◌∷◌, ◌++◌, false, not, map, Some, refl, sym, ap, subst, ◌∙◌, arith}
use Rattle.std.specs.Prelude.{filter, Result, Ok, Err, OnOk, OnErr, ◌==◌}
use Rattle.std.specs.List.{AllByRecursion, enumerate_from}
use Rattle.std.specs.Option.{option_map_or}
use Rattle.std.proofs.lemmas.Bool.{eq-eqb}
use Rattle.std.proofs.lemmas.Bool.Decides.{nat_tests}
use Rattle.plan_types.specs.declared.plan.Plan.{Plan}
use Rattle.plan_types.specs.declared.plan.Table.{Table}
use Rattle.plan_types.specs.declared.track.TableId.{TableId}
use Rattle.conn_model.specs.declared.plain.Version.{Version}
use Rattle.conn_model.specs.Words.{newest}
use Rattle.conn_model.specs.History.{next_version, tables_with, with_version}
use Rattle.conn_model.specs.Tables.{is_listed_by, next_id, written_tables}
use Rattle.conn_model.proofs.Versions.{newest-end}
use Rattle.conn_tables.specs.declared.tables.StoredTable.{StoredTable}
use Rattle.conn_tables.specs.Tables.{AreNextIds, StoredTables, plain_table}
use Rattle.conn_rows.specs.Needed.{versions_needed}
use Rattle.conn_rows.specs.Stored.{StoredFrontend, plain_frontend}
use Rattle.conn_rows.specs.Value.{RowsValue}
use Rattle.conn_rows.proofs.Kept.{AreSeenAlike, frontends_seen, needed_alike, seen_needed, stored_needed}
use Rattle.conn_rows.proofs.Plain.{value_of}
use Rattle.proxy_types.specs.declared.server.ServerIdentity.{ServerIdentity}

-- what holds of both arms
pub ok_both : {X E P Q R : Type 0} (r : Result X E) → (P → Q → R) → OnOk r P → OnOk r Q → OnOk r R
ok_both (Ok x) both p q = both p q
ok_both (Err e) both p q = tt

pub err_both : {X E P Q R : Type 0} (r : Result X E) → (P → Q → R) → OnErr r P → OnErr r Q → OnErr r R
err_both (Ok x) both p q = tt
err_both (Err e) both p q = both p q

-- A version that is brought.

-- it is the newest
pub brought_newest : (versions others : List Version) (number : ℕ) (plan : Plan) → others ≡ with_version versions (Some (number, plan)) → newest others ≡ Some (next_version number (written_tables (newest versions)) plan)
brought_newest versions others number plan more = ap newest more ∙ newest-end versions (next_version number (written_tables (newest versions)) plan)

pub brought_is : (versions others : List Version) (number : ℕ) (plan : Plan) (version : Version) → others ≡ with_version versions (Some (number, plan)) → Some version ≡ newest others →
    version ≡ next_version number (written_tables (newest versions)) plan
brought_is versions others number plan version more is = let it : Some version ≡ Some (next_version number (written_tables (newest versions)) plan) = is ∙ brought_newest versions others number plan more in cc

-- the incarnations of its tables
pub brought_ids : (versions : List Version) (number : ℕ) (plan : Plan) (version : Version) (tables : List Table) (ids : List TableId) → version ≡ next_version number (written_tables (newest versions)) plan →
    tables ≡ version.plan.tables → ids ≡ version.tables → AllByRecursion (λ pair. pair.1.version < number) (written_tables (newest versions)) → AreNextIds number (written_tables (newest versions)) tables ids
brought_ids versions number plan version tables ids is tables_are ids_are written = record {
  next =
      ids_are ∙ ap (λ (v : Version). v.tables) is
      ∙ ap (λ ts. map (next_id number (written_tables (newest versions))) (enumerate_from 0 ts)) (sym (tables_are ∙ ap (λ (v : Version). v.plan.tables) is));
  earlier = written;
}

-- and can be taken back
pub taken_back : (versions : List Version) (next : Version) (number : ℕ) → AllByRecursion (λ version. version.number < number) versions → next.number ≡ number →
    filter (λ version. not (version.number == number)) (versions ++ next ∷ []) ≡ versions
taken_back [] next number above same = rw (eq-eqb next.number number same) refl
taken_back (version ∷ versions) next number above same =
    let less : version.number < number = above.0 in
    let differs : (version.number == number) ≡ false = grind (arith, nat_tests, less) in
    rw differs (ap (λ vs. version ∷ vs) (taken_back versions next number above.1 same))

-- each table began before it
pub tables_earlier : (number moment : ℕ) (tables : List StoredTable) → AllByRecursion (λ table. table.id.version < number) (map (plain_table moment) tables) → AllByRecursion (λ stored. stored.id.version < number) tables
tables_earlier number moment [] began = tt
tables_earlier number moment (stored ∷ tables) began = (began.0, tables_earlier number moment tables began.1)

pub brought_value : {down : List ServerIdentity} (frontends : List StoredFrontend) (versions others : List Version) (tables rest : StoredTables) (value : RowsValue) (number : ℕ) (plan : Plan) → value_of frontends versions tables down ≡ value →
    AreSeenAlike versions others frontends → others ≡ with_version versions (Some (number, plan)) → map (plain_table rest.clock) rest.tables ≡ map (plain_table tables.clock) tables.tables ++ tables_with (newest versions) (Some (number, plan)) →
    rest.spare ≡ tables.spare → rest.clock ≡ tables.clock →
    value_of frontends others rest down ≡ record value { versions = with_version value.versions (Some (number, plan)); tables = value.tables ++ tables_with (newest value.versions) (Some (number, plan)) }
brought_value {down} frontends versions others tables rest value number plan value_is alike more begun spare clock =
    let P : RowsValue → Type 0 = λ v. value_of frontends others rest down ≡ record v { versions = with_version v.versions (Some (number, plan)); tables = v.tables ++ tables_with (newest v.versions) (Some (number, plan)) } in
    subst P value_is (rw (frontends_seen versions others frontends alike, more, begun, spare, clock) refl)

-- without memory
pub same_value : {down : List ServerIdentity} (frontends : List StoredFrontend) (versions others : List Version) (tables rest : StoredTables) (value : RowsValue) → value_of frontends versions tables down ≡ value →
    others ≡ versions → rest ≡ tables → value_of frontends others rest down ≡ value
same_value {down} frontends versions others tables rest value value_is same as_before = ap (λ vs. value_of frontends vs rest down) same ∙ ap (λ ts. value_of frontends versions ts down) as_before ∙ value_is

-- the versions that are left
pub left_needed : (frontends : List StoredFrontend) (versions others : List Version) → others ≡ stored_needed frontends (option_map_or (λ version. version.number) (newest versions) 0) versions →
    others ≡ versions_needed (map (plain_frontend versions) frontends) versions
left_needed frontends versions others less = less ∙ sym (needed_alike versions frontends (option_map_or (λ version. version.number) (newest versions) 0) versions)

pub forgotten_value : {down : List ServerIdentity} (frontends : List StoredFrontend) (versions others : List Version) (tables rest : StoredTables) (value : RowsValue) → value_of frontends versions tables down ≡ value →
    others ≡ stored_needed frontends (option_map_or (λ version. version.number) (newest versions) 0) versions → map (plain_table rest.clock) rest.tables ≡ filter (is_listed_by others) (map (plain_table tables.clock) tables.tables) → rest.spare ≡ tables.spare → rest.clock ≡ tables.clock →
    value_of frontends others rest down ≡ record value { versions = versions_needed value.frontends value.versions; tables = filter (is_listed_by (versions_needed value.frontends value.versions)) value.tables }
forgotten_value {down} frontends versions others tables rest value value_is less listed spare clock =
    let P : RowsValue → Type 0 = λ v. value_of frontends others rest down ≡ record v { versions = versions_needed v.frontends v.versions; tables = filter (is_listed_by (versions_needed v.frontends v.versions)) v.tables } in
    let force : ℕ = option_map_or (λ version. version.number) (newest versions) 0 in
    subst P value_is (rw (frontends_seen versions others frontends (seen_needed versions others force frontends less), listed, spare, clock, left_needed frontends versions others less) refl)
