use Rattle.std.proofs.Common.{◌≡◌, ◌<◌, Some, None, length, get_or, ap, sym, ◌∙◌, arith}
use Rattle.std.specs.Prelude.{slice_get}
use Rattle.std.specs.Option.{option_copied}
use Rattle.std.proofs.lemmas.Option.{slice_get-get_or, slice_get_within}
use Rattle.slot_core.specs.declared.slots.SlotIx.{SlotIx}
use Rattle.conn_model.specs.Servers.{identity_in}
use Rattle.conn_versions.proofs.Identities.{identity_within}
use Rattle.conn_versions.proofs.ServerLoads.{load_past, load_there}
use Rattle.conn_versions.proofs.loads.BackendLoadLoad.server.Goals as goal
use Rattle.conn_versions.specs.Barred.{is_barred}

pub count-requires : goal.count-requires
count-requires c =
    let first : SlotIx = record { place = 0 } in
    let there : slice_get c.self.inside.backend.now.servers c.args.number ≡ Some c.in-Some.server.now = rw c.as_slice.ensures at (sym c.item.ensures ∙ ap option_copied c.in-Some.is) in
    let less : c.args.number < length c.self.inside.backend.now.servers = slice_get_within c.self.inside.backend.now.servers c.args.number c.in-Some.server.now there in
    let many = c.self.invariant.slots.many in
    let found = slice_get-get_or c.self.inside.places.now c.args.number first (omega (arith, less, many)) in
    rw c.from.ensures
    (identity_within c.self.inside.slots.now (get_or c.self.inside.places.now c.args.number first).place (identity_in c.self.inside.backend.now c.in-Some.server.now)
    (c.self.invariant.slots.each c.args.number c.in-Some.server.now (get_or c.self.inside.places.now c.args.number first) there found))

pub returns-in-Some : goal.returns-in-Some
returns-in-Some c =
    let first : SlotIx = record { place = 0 } in
    let there : slice_get c.self.inside.backend.now.servers c.args.number ≡ Some c.in-Some.server.now = rw c.as_slice.ensures at (sym c.item.ensures ∙ ap option_copied c.in-Some.is) in
    let less : c.args.number < length c.self.inside.backend.now.servers = slice_get_within c.self.inside.backend.now.servers c.args.number c.in-Some.server.now there in
    let many = c.self.invariant.slots.many in
    let found = slice_get-get_or c.self.inside.places.now c.args.number first (omega (arith, less, many)) in
    rw (c.load_of.ensures, c.bars-is_barred.ensures, c.count.ensures, c.from.ensures, ← c.self.view_is)
    (sym (load_there c.self.inside.slots.now (is_barred c.self.inside.barred.down.now c.self.inside.barred.lines.now) c.self.inside.backend.now c.self.inside.places.now c.args.number c.in-Some.server.now (get_or c.self.inside.places.now c.args.number first) c.self.invariant there found))

pub returns-in-None : goal.returns-in-None
returns-in-None c =
    let none : slice_get c.self.inside.backend.now.servers c.args.number ≡ None = rw c.as_slice.ensures at (sym c.item.ensures ∙ ap option_copied c.in-None.is) in
    rw (← c.self.view_is) (sym (load_past c.self.inside.slots.now (is_barred c.self.inside.barred.down.now c.self.inside.barred.lines.now) c.self.inside.backend.now c.args.number none))
