use Rattle.std.proofs.Common.{◌≡◌, Some, None, ap, sym, ◌∙◌}
use Rattle.std.specs.Prelude.{slice_get}
use Rattle.std.specs.Option.{option_copied, option_map}
use Rattle.conn_versions.specs.Picks.{load_of_one}
use Rattle.conn_versions.proofs.ServerLoads.{one_there}
use Rattle.conn_versions.proofs.loads.OneServerLoad.server.Goals as goal

pub returns-in-Some : goal.returns-in-Some
returns-in-Some c =
    let there : slice_get c.self.inside.servers.now c.args.number ≡ Some c.in-Some.server.now = sym c.item.ensures ∙ ap option_copied c.in-Some.is in
    rw (c.weight_of.ensures, ← c.self.view_is)
    (sym (one_there c.self.inside.number c.self.inside.servers.now c.args.number ∙ ap (option_map (load_of_one c.self.inside.number c.args.number)) there))

pub returns-in-None : goal.returns-in-None
returns-in-None c =
    let none : slice_get c.self.inside.servers.now c.args.number ≡ None = sym c.item.ensures ∙ ap option_copied c.in-None.is in
    rw (← c.self.view_is) (sym (one_there c.self.inside.number c.self.inside.servers.now c.args.number ∙ ap (option_map (load_of_one c.self.inside.number c.args.number)) none))
