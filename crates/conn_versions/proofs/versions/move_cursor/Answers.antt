use Rattle.std.proofs.Common.{◌≡◌, Some, length, refl, ap, sym, ◌∙◌, arith}
use Rattle.std.specs.Prelude.{slice_get, slice_set}
use Rattle.std.proofs.lemmas.Option.{slice_get_read}
use Rattle.conn_model.specs.Servers.{cursor_after, cursor_at}
use Rattle.conn_versions.proofs.Moves.{counted_moved, cursor_moved, tied_moved}
use Rattle.conn_versions.proofs.versions.move_cursor.Goals as goal

pub use_server-next-requires-clause-tied : goal.use_server-next-requires-clause-tied
use_server-next-requires-clause-tied c =
    let backends = c.args.version.now.plan.backends in
    let backend = c.index-as_slice-number.result in
    let there : slice_get backends c.args.number ≡ Some backend = slice_get_read backends (length backends) c.args.number backend refl c.requires.there (rw c.as_slice.ensures at c.index-as_slice-number.is) in
    let many = c.requires.tied.many in
    let less = c.requires.there in
    let found = slice_get_read c.args.own.now.items (length c.args.own.now.items) c.args.number c.index_mut.result.now refl (omega (arith, less, many)) c.index_mut.ensures.value in
    rw (c.cursor_at-cursor.ensures, c.as_slice-2.ensures) (c.requires.tied.each c.args.number backend c.index_mut.result.now there found)

pub returns-clause-version : goal.returns-clause-version
returns-clause-version c =
    let backends = c.args.version.now.plan.backends in
    let cursors = c.args.version.now.cursors in
    let backend = c.index-as_slice-number.result in
    let there : slice_get backends c.args.number ≡ Some backend = slice_get_read backends (length backends) c.args.number backend refl c.requires.there (rw c.as_slice.ensures at c.index-as_slice-number.is) in
    let next : c.use_server-next.result ≡ cursor_after backend c.args.server (cursor_at cursors c.args.number) =
    c.use_server-next.ensures.cursor ∙ ap (cursor_after backend c.args.server) (c.cursor_at-cursor.ensures ∙ ap (λ cs. cursor_at cs c.args.number) c.as_slice-2.ensures) in
    c.set_cursor.ensures
    ∙ ap (λ cs. record c.args.version.now { cursors = cs }) (ap (slice_set cursors c.args.number) next ∙ sym (cursor_moved backends c.args.number c.args.server cursors backend there))

pub returns-clause-tied : goal.returns-clause-tied
returns-clause-tied c =
    let backends = c.args.version.now.plan.backends in
    let backend = c.index-as_slice-number.result in
    let there : slice_get backends c.args.number ≡ Some backend = slice_get_read backends (length backends) c.args.number backend refl c.requires.there (rw c.as_slice.ensures at c.index-as_slice-number.is) in
    rw c.set_cursor.ensures
    (tied_moved backends c.args.version.now.cursors c.args.own.now.items c.args.number backend c.use_server-next.result c.use_server-next.new.own c.requires.tied there c.use_server-next.ensures.tied)

pub returns-clause-counted : goal.returns-clause-counted
returns-clause-counted c =
    let many = c.requires.tied.many in
    let less = c.requires.there in
    let found = slice_get_read c.args.own.now.items (length c.args.own.now.items) c.args.number c.index_mut.result.now refl (omega (arith, less, many)) c.index_mut.ensures.value in
    rw c.set_cursor.ensures
    (λ counts counted.
    counted_moved counts c.args.version.now.plan.backends c.args.own.now.items c.args.number c.index_mut.result.now c.use_server-next.new.own found c.use_server-next.ensures.slots counted)
