use Rattle.std.proofs.Common.{◌≡◌, ◌+◌, ◌<◌, ◌++◌, ◌∷◌, [], ℕ, zero, suc, true, false, List, drop, get_or, length, map, refl, sym, ap, ◌∙◌, arith}
use Rattle.std.specs.Prelude.{filter, zip, ◌==◌}
use Rattle.std.specs.List.{AllByRecursion}
use Rattle.std.proofs.lemmas.Bool.Decides.{nat_tests}
use Rattle.plan_types.specs.declared.plan.Table.{Table}
use Rattle.plan_types.specs.declared.track.TableId.{TableId}
use Rattle.conn_model.specs.declared.plain.TableState.{TableState}
use Rattle.conn_tables.specs.declared.tables.StoredTable.{StoredTable}
use Rattle.conn_tables.specs.Tables.{IsStored, begun_table, is_begun, plain_table}
use Rattle.conn_tables.proofs.tables.begin_all.Goals as goal
use Rattle.conn_tables.proofs.tables.begin_all.Goals.{then-id-version+in_ok-with_room+in_ok-push, else-id-version}

-- what is left from a place on
left_from : {X : Type 0} (xs : List X) (n : ℕ) (d : X) → n < length xs → drop n xs ≡ get_or xs n d ∷ drop (suc n) xs
left_from [] n d less = absurd (omega (arith, less))
left_from (x ∷ xs) zero d less = refl
left_from (x ∷ xs) (suc n) d less = left_from xs n d (omega (arith, less))

left : {X : Type 0} (xs : List X) (n : ℕ) (d : X) → n < length xs → drop n xs ≡ get_or xs n d ∷ drop (n + 1) xs
left xs n d less = left_from xs n d less ∙ ap (λ k. get_or xs n d ∷ drop k xs) (let one : suc n ≡ n + 1 = omega arith in one)

pushed : (P : StoredTable → Type 0) (xs : List StoredTable) (x : StoredTable) → AllByRecursion P xs → P x → AllByRecursion P (xs ++ x ∷ [])
pushed P [] x all one = (one, tt)
pushed P (y ∷ ys) x all one = (all.0, pushed P ys x all.1 one)

moved : (moment : ℕ) (xs : List StoredTable) (x : StoredTable) (rest : List TableState) → map (plain_table moment) (xs ++ x ∷ []) ++ rest ≡ map (plain_table moment) xs ++ plain_table moment x ∷ rest
moved moment [] x rest = refl
moved moment (y ∷ ys) x rest = ap (λ l. plain_table moment y ∷ l) (moved moment ys x rest)

-- the tables from a place on that begin with the version
abbrev begins : ℕ → List Table → List TableId → List TableState
begins version tables ids = map begun_table (filter (is_begun version) (zip tables ids))

-- a table that begins, and one that does not
begins-then : (version : ℕ) (t : Table) (tables : List Table) (id : TableId) (ids : List TableId) → id.version ≡ version → begins version (t ∷ tables) (id ∷ ids) ≡ begun_table (t, id) ∷ begins version tables ids
begins-then version t tables id ids is = let same : (id.version == version) ≡ true = grind (arith, nat_tests) in rw same refl

begins-else : (version : ℕ) (t : Table) (tables : List Table) (id : TableId) (ids : List TableId) → (id.version ≡ version → ⊥) → begins version (t ∷ tables) (id ∷ ids) ≡ begins version tables ids
begins-else version t tables id ids differ = let other : (id.version == version) ≡ false = grind (arith, nat_tests) in rw other refl

-- what is left from a place on, in both lists
begins-left : (version : ℕ) (tables : List Table) (ids : List TableId) (n : ℕ) (t : Table) (id : TableId) → n < length tables → n < length ids → t ≡ get_or tables n t → id ≡ get_or ids n id →
    begins version (drop n tables) (drop n ids) ≡ begins version (t ∷ drop (n + 1) tables) (id ∷ drop (n + 1) ids)
begins-left version tables ids n t id in_tables in_ids at_table at_id =
    ap (λ l. begins version l (drop n ids)) (left tables n t in_tables ∙ ap (λ x. x ∷ drop (n + 1) tables) (sym at_table))
    ∙ ap (λ l. begins version (t ∷ drop (n + 1) tables) l) (left ids n id in_ids ∙ ap (λ x. x ∷ drop (n + 1) ids) (sym at_id))

get_or-any : {X : Type 0} (xs : List X) (n : ℕ) (d e : X) → n < length xs → get_or xs n d ≡ get_or xs n e
get_or-any [] n d e less = absurd (omega (arith, less))
get_or-any (x ∷ xs) zero d e less = refl
get_or-any (x ∷ xs) (suc n) d e less = get_or-any xs n d e (omega (arith, less))

pub loop-place-preserved : goal.loop-place-preserved
loop-place-preserved c =
    let tables = c.args.tables.now in
    let ids = c.args.ids.now in
    let place : ℕ = c.loop-place.place in
    let version : ℕ = c.args.version in
    let table : Table = c.index-tables-place.result in
    let id : TableId = get_or ids place (record { version = 0; position = 0 }) in
    let in_tables : place < length tables = omega (arith, c.loop-place-test.true) in
    let in_ids : place < length ids = omega (arith, in_tables, c.requires) in
    let both : begins version (drop place tables) (drop place ids) ≡ begins version (table ∷ drop (place + 1) tables) (id ∷ drop (place + 1) ids) =
    begins-left version tables ids place table id in_tables in_ids c.index-tables-place.is (get_or-any ids place (record { version = 0; position = 0 }) id in_ids) in
    elim c.if-id-version.branch [
      | then-id-version+in_ok-with_room+in_ok-push w ↦
          let items : c.if-id-version.begun.items ≡ c.loop-place.begun.items ++ w.in_ok-with_room.field-0 ∷ [] = ap (λ v. v.items) w.begun-is ∙ w.in_ok-push.ensures.items in
          rw items (record {
            plain = λ moment.
                moved moment c.loop-place.begun.items w.in_ok-with_room.field-0 (begins version (drop (place + 1) tables) (drop (place + 1) ids))
                ∙ ap (λ t. map (plain_table moment) c.loop-place.begun.items ++ t ∷ begins version (drop (place + 1) tables) (drop (place + 1) ids)) (w.in_ok-with_room.ensures.plain moment)
                ∙ ap (λ l. map (plain_table moment) c.loop-place.begun.items ++ l) (sym (both ∙ begins-then version table (drop (place + 1) tables) id (drop (place + 1) ids) w.if-id-version.true))
                ∙ c.loop-place.invariant.plain moment;
            each = pushed (IsStored 0 c.args.spare) c.loop-place.begun.items w.in_ok-with_room.field-0 c.loop-place.invariant.each w.in_ok-with_room.ensures.stored;
          })
      | else-id-version w ↦
          rw (ap (λ v. v.items) w.begun-is) (record {
            plain = λ moment.
                ap (λ l. map (plain_table moment) c.loop-place.begun.items ++ l) (sym (both ∙ begins-else version table (drop (place + 1) tables) id (drop (place + 1) ids) w.if-id-version.false))
                ∙ c.loop-place.invariant.plain moment;
            each = c.loop-place.invariant.each;
          })
    ]
