use Rattle.std.proofs.Common.{◌≡◌, Some, None, ap, sym, ◌∙◌, length, arith, true, ℕ}
use Rattle.std.specs.Prelude.{option_map, option_and_then, nat_lt, slice_get}
use Rattle.std.specs.Option.{option_copied}
use Rattle.std.proofs.lemmas.Bool.Decides.{nat_tests}
use Rattle.plan_types.specs.Moves.{moves_of}
use Rattle.plan_types.specs.declared.plan.Server.{Server}
use Rattle.conn_model.specs.Answer.{numbered_server, version_at, NumberedServer}
use Rattle.conn_core.specs.Outcome.{offer_of}
use Rattle.conn_core.proofs.MovedLemmas.{other_offer_by, sound_at}
use Rattle.conn_core.proofs.moving.other_offer.Goals as goal

-- a server with its number
abbrev numbered : ℕ → Server → NumberedServer
numbered number server = record { number = number; server = server }

pub backend_number-requires : goal.backend_number-requires
backend_number-requires c = sound_at c.args.rows.now.versions c.args.pending.now.version c.in_ok-version.version.now c.requires (sym c.version.ensures ∙ ap option_copied c.in_ok-version.was)

pub returns-in_err-place : goal.returns-in_err-place
returns-in_err-place c = λ p row given at known.
    let there : version_at c.args.rows.now.versions c.args.pending.now.version ≡ Some c.in_ok-version.version.now = sym c.version.ensures ∙ ap option_copied c.in_ok-version.was in
    let among : slice_get c.in_ok-version.version.now.plan.backends c.in_ok-number.number ≡ Some c.in_ok-backend.backend.now =
    ap (λ backends. slice_get backends c.in_ok-number.number) (sym c.as_slice.ensures) ∙ sym c.item.ensures ∙ ap option_copied c.in_ok-backend.was in
    let moves = c.moves.ensures in
    let over = c.if-pending-moves.false in
    let fewer : nat_lt (length c.args.pending.now.failed.now) (moves_of c.in_ok-backend.backend.now.retries c.in_ok-backend.backend.now.redispatch) ≡ true = grind (arith, nat_tests, moves, over) in
    c.from_residual-in_err-place.ensures
    ∙ sym (other_offer_by p row given c.args.rows.now c.args.pending.now c.in_ok-version.version.now c.in_ok-number.number c.in_ok-backend.backend.now c.as_slice-2.result.now c.source-source.result c.pick_other.result
    at known there (sym c.backend_number.ensures ∙ c.in_ok-number.was) among fewer (c.as_slice-2.ensures.value ∙ ap (λ lines. lines.items) c.failed_lines-lines.ensures) c.source-source.ensures.value
    (c.pick_other.ensures.picked c.in_ok-version.version.now c.in_ok-backend.backend.now there among)
    ∙ ap (λ place. option_map (λ other. offer_of other.number other.server c.args.pending.now.judged) (option_and_then (numbered_server c.in_ok-backend.backend.now) place)) c.in_err-place.was)

pub returns-in_err-server : goal.returns-in_err-server
returns-in_err-server c = λ p row given at known.
    let there : version_at c.args.rows.now.versions c.args.pending.now.version ≡ Some c.in_ok-version.version.now = sym c.version.ensures ∙ ap option_copied c.in_ok-version.was in
    let among : slice_get c.in_ok-version.version.now.plan.backends c.in_ok-number.number ≡ Some c.in_ok-backend.backend.now =
    ap (λ backends. slice_get backends c.in_ok-number.number) (sym c.as_slice.ensures) ∙ sym c.item.ensures ∙ ap option_copied c.in_ok-backend.was in
    let moves = c.moves.ensures in
    let over = c.if-pending-moves.false in
    let fewer : nat_lt (length c.args.pending.now.failed.now) (moves_of c.in_ok-backend.backend.now.retries c.in_ok-backend.backend.now.redispatch) ≡ true = grind (arith, nat_tests, moves, over) in
    let none : slice_get c.in_ok-backend.backend.now.servers c.in_ok-place.place ≡ None =
    ap (λ servers. slice_get servers c.in_ok-place.place) (sym c.as_slice-3.ensures) ∙ sym c.item-2.ensures ∙ ap option_copied c.in_err-server.was in
    c.from_residual-in_err-server.ensures
    ∙ sym (other_offer_by p row given c.args.rows.now c.args.pending.now c.in_ok-version.version.now c.in_ok-number.number c.in_ok-backend.backend.now c.as_slice-2.result.now c.source-source.result c.pick_other.result
    at known there (sym c.backend_number.ensures ∙ c.in_ok-number.was) among fewer (c.as_slice-2.ensures.value ∙ ap (λ lines. lines.items) c.failed_lines-lines.ensures) c.source-source.ensures.value
    (c.pick_other.ensures.picked c.in_ok-version.version.now c.in_ok-backend.backend.now there among)
    ∙ ap (λ place. option_map (λ other. offer_of other.number other.server c.args.pending.now.judged) (option_and_then (numbered_server c.in_ok-backend.backend.now) place)) c.in_ok-place.was
    ∙ ap (λ server. option_map (λ (other : NumberedServer). offer_of other.number other.server c.args.pending.now.judged) (option_map (numbered c.in_ok-place.place) server)) none)

pub returns : goal.returns
returns c = λ p row given at known.
    let there : version_at c.args.rows.now.versions c.args.pending.now.version ≡ Some c.in_ok-version.version.now = sym c.version.ensures ∙ ap option_copied c.in_ok-version.was in
    let among : slice_get c.in_ok-version.version.now.plan.backends c.in_ok-number.number ≡ Some c.in_ok-backend.backend.now =
    ap (λ backends. slice_get backends c.in_ok-number.number) (sym c.as_slice.ensures) ∙ sym c.item.ensures ∙ ap option_copied c.in_ok-backend.was in
    let moves = c.moves.ensures in
    let over = c.if-pending-moves.false in
    let fewer : nat_lt (length c.args.pending.now.failed.now) (moves_of c.in_ok-backend.backend.now.retries c.in_ok-backend.backend.now.redispatch) ≡ true = grind (arith, nat_tests, moves, over) in
    let some : slice_get c.in_ok-backend.backend.now.servers c.in_ok-place.place ≡ Some c.in_ok-server.server.now =
    ap (λ servers. slice_get servers c.in_ok-place.place) (sym c.as_slice-3.ensures) ∙ sym c.item-2.ensures ∙ ap option_copied c.in_ok-server.was in
    ap (λ offer. Some offer) c.offer_of.ensures
    ∙ sym (other_offer_by p row given c.args.rows.now c.args.pending.now c.in_ok-version.version.now c.in_ok-number.number c.in_ok-backend.backend.now c.as_slice-2.result.now c.source-source.result c.pick_other.result
    at known there (sym c.backend_number.ensures ∙ c.in_ok-number.was) among fewer (c.as_slice-2.ensures.value ∙ ap (λ lines. lines.items) c.failed_lines-lines.ensures) c.source-source.ensures.value
    (c.pick_other.ensures.picked c.in_ok-version.version.now c.in_ok-backend.backend.now there among)
    ∙ ap (λ place. option_map (λ other. offer_of other.number other.server c.args.pending.now.judged) (option_and_then (numbered_server c.in_ok-backend.backend.now) place)) c.in_ok-place.was
    ∙ ap (λ server. option_map (λ (other : NumberedServer). offer_of other.number other.server c.args.pending.now.judged) (option_map (numbered c.in_ok-place.place) server)) some)
