use Rattle.std.proofs.Common.{refl, sym, subst}
use Rattle.std.specs.Prelude.{IsSome}
use Rattle.conn_rows.specs.Changes.{stage_offered}
use Rattle.conn_rows.specs.Stored.{StoredFrontend, at_stage, rest_kept}
use Rattle.conn_rows.specs.Value.{HasSlot}
use Rattle.conn_rows.proofs.Fed.{found_waiting}
use Rattle.conn_rows.proofs.Serials.{open-with, places}
use Rattle.conn_rows.proofs.Served.{each_offered, not_waiting, slots_offered, none_failed}
use Rattle.conn_rows.proofs.frontend.FrontendState.offer.Goals as goal

pub put_stage-requires : goal.put_stage-requires
put_stage-requires c = found_waiting c.args.serial c.self.inside.rows (subst (λ (f : StoredFrontend). IsSome (rest_kept c.args.serial f.rows)) (sym c.self.view_is) c.requires)

pub unreachable-requires : goal.unreachable-requires
unreachable-requires c = not_waiting c.args.serial c.self.inside.rows c.put_stage.result _ (subst (λ (f : StoredFrontend). IsSome (rest_kept c.args.serial f.rows)) (sym c.self.view_is) c.requires) c.put_stage.ensures.before c.in-Offered.is

pub invariant_of-self : goal.invariant_of-self
invariant_of-self c =
    rw (c.put_stage.ensures.rows, c.of.ensures, none_failed c.new.result c.new.ensures)
    (open-with c.args.serial c.self.inside.serial (at_stage (stage_offered c.args.seat c.args.slot)) c.self.inside.rows (λ row. refl) (λ row held. tt) c.self.invariant)

pub returns-clause-slots : goal.returns-clause-slots
returns-clause-slots c =
    rw (← c.self.view_is)
    (slots_offered c.args.serial c.self.inside.rows c.put_stage.new.rows c.args.seat c.args.slot (subst (λ (f : StoredFrontend). IsSome (rest_kept c.args.serial f.rows)) (sym c.self.view_is) c.requires) (places c.args.serial (at_stage (stage_offered c.args.seat c.args.slot)) c.self.inside.rows c.put_stage.new.rows c.self.invariant.rise (rw (c.of.ensures, none_failed c.new.result c.new.ensures) at c.put_stage.ensures.rows)))

pub returns-clause-each : goal.returns-clause-each
returns-clause-each c =
    rw (← c.self.view_is)
    (λ kept.
    each_offered (HasSlot kept) c.args.serial c.self.inside.rows c.put_stage.new.rows c.args.seat c.args.slot (subst (λ (f : StoredFrontend). IsSome (rest_kept c.args.serial f.rows)) (sym c.self.view_is) c.requires) (places c.args.serial (at_stage (stage_offered c.args.seat c.args.slot)) c.self.inside.rows c.put_stage.new.rows c.self.invariant.rise (rw (c.of.ensures, none_failed c.new.result c.new.ensures) at c.put_stage.ensures.rows)))
