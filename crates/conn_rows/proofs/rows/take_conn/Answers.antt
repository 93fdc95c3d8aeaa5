use Rattle.std.proofs.Common.{◌≡◌, Some, not, arith, ap, ◌∙◌, length}
use Rattle.std.specs.Prelude.{filter, slice_get}
use Rattle.conn_rows.specs.Stored.{StoredFrontend, has_serial, plain_frontend}
use Rattle.conn_model.specs.Changes.{without_row}
use Rattle.conn_rows.proofs.Counted.{fewer, gone_if, none_if, still_small}
use Rattle.conn_rows.proofs.Plain.{others_plain, own_below, set-map}
use Rattle.conn_rows.specs.Value.{HasSlot}
use Rattle.conn_rows.proofs.Served.{all-without}
use Rattle.conn_rows.proofs.rows.take_conn.Goals as goal

there : (c : goal.After-frontends-1) → slice_get c.args.frontends.now.items c.args.id.frontend ≡ Some c.index_mut.result.now
there c = own_below c.args.frontends.now.items c.from-number.result c.args.id.frontend c.index_mut.result.now c.from-number.ensures c.index_mut.ensures.value (omega arith)

pub returns-clause-left : goal.returns-clause-left
returns-clause-left c = λ versions.
    let own = c.index_mut.result.now in
    let next : StoredFrontend = record own { rows = filter (λ row. not (has_serial c.args.id.serial row)) own.rows } in
    rw (c.remove.ensures.left, c.from-number.ensures)
    (set-map (plain_frontend versions) (without_row c.args.id.serial) c.args.frontends.now.items c.args.id.frontend own next (there c) (others_plain versions own c.args.id.serial))

pub returns-clause-counts : goal.returns-clause-counts
returns-clause-counts c =
    gone_if c.remove.result c.args.frontends.now.items c.from-number.result c.index_mut.result.now c.remove.new.self (ap (slice_get c.args.frontends.now.items) c.from-number.ensures ∙ there c) c.remove.ensures.counts

pub returns-clause-none : goal.returns-clause-none
returns-clause-none c =
    none_if c.remove.result c.args.frontends.now.items c.from-number.result c.index_mut.result.now c.remove.new.self (ap (slice_get c.args.frontends.now.items) c.from-number.ensures ∙ there c) c.remove.ensures.none

pub returns-clause-small : goal.returns-clause-small
returns-clause-small c =
    still_small c.args.frontends.now.items c.from-number.result c.index_mut.result.now c.remove.new.self (ap (slice_get c.args.frontends.now.items) c.from-number.ensures ∙ there c)
    (let less = fewer (λ row. not (has_serial c.args.id.serial row)) c.index_mut.result.now.rows in let is = ap (λ f. length f.rows) c.remove.ensures.left in omega (arith, less, is))

pub returns-clause-rows : goal.returns-clause-rows
returns-clause-rows c = λ kept.
    all-without (HasSlot kept) c.args.frontends.now.items c.from-number.result c.index_mut.result.now c.remove.new.self (λ row. not (has_serial c.args.id.serial row)) (ap (slice_get c.args.frontends.now.items) c.from-number.ensures ∙ there c)
    (ap (λ f. f.rows) c.remove.ensures.left)
