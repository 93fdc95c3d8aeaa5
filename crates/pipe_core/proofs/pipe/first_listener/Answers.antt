use Rattle.std.proofs.Common.{◌∙◌, ℕ, Option, refl, ap, sym, inr}
use Rattle.std.specs.Prelude.{◌==◌}
use Rattle.std.specs.List.{position}
use Rattle.std.specs.Option.{option_and_then}
use Rattle.pipe_core.specs.Pipe.{as_listener}
use Rattle.pipe_core.proofs.ListenerLemmas.{frontend_is, listener_is, nothing, some_listener}
use Rattle.pipe_core.proofs.pipe.first_listener.Goals as goal

pub returns-in_default-frontend_number-clause-err : goal.returns-in_default-frontend_number-clause-err
returns-in_default-frontend_number-clause-err c =
    inr (refl, sym (frontend_is c.args.core.now c.args.name.now c.in-Ok.plain c.frontend_number.result c.as_slice.ensures c.in-Ok.ensures.plain c.frontend_number.ensures) ∙ nothing c.frontend_number.result c.in_default-frontend_number.not-Some)

pub unreachable-requires : goal.unreachable-requires
unreachable-requires c =
    let opens = c.requires.opening in
    some_listener c.args.core.now opens.0 opens.1 c.in-Ok.ensures.plans c.args.name.now c.in-Some.frontend
    (sym (frontend_is c.args.core.now c.args.name.now c.in-Ok.plain _ c.as_slice.ensures c.in-Ok.ensures.plain c.in-Some.ensures))
    (sym (listener_is c.args.core.now c.in-Ok.plain c.in-Some.frontend _ c.as_slice-2.ensures c.in-Ok.ensures.plain c.in-None.ensures))

pub returns-clause-ok : goal.returns-clause-ok
returns-clause-ok c =
    ap (λ (o : Option ℕ). option_and_then (λ number. option_and_then as_listener (position (λ listener. listener.frontend == number) c.args.core.now.listeners)) o)
    (sym (frontend_is c.args.core.now c.args.name.now c.in-Ok.plain _ c.as_slice.ensures c.in-Ok.ensures.plain c.in-Some.ensures))
    ∙ sym (listener_is c.args.core.now c.in-Ok.plain c.in-Some.frontend _ c.as_slice-2.ensures c.in-Ok.ensures.plain c.in-Some-listener_of_frontend.ensures)
