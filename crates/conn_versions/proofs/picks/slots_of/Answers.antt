use Rattle.std.proofs.Common.{◌≡◌, Some, length, refl, ap, ◌∙◌, arith, length-append}
use Rattle.std.specs.Prelude.{slice_get}
use Rattle.std.proofs.lemmas.Option.{slice_get_read}
use Rattle.slot_core.specs.Counts.{identity_at}
use Rattle.conn_model.specs.Servers.{identity_in}
use Rattle.conn_versions.specs.Slots.{KeepsPlaces}
use Rattle.conn_versions.proofs.Identities.{keeps_both, one_more_at, one_more_named}
use Rattle.conn_versions.proofs.picks.slots_of.Goals as goal

pub loop-server-preserved : goal.loop-server-preserved
loop-server-preserved c =
    let backend = c.args.backend.now in
    let server = c.server-item.result in
    let many = c.loop-server.invariant.many in
    let place : slice_get backend.servers c.loop-server.server-index ≡ Some server =
    rw c.as_slice-server-items.ensures at
    (slice_get_read c.as_slice-server-items.result.now (length c.as_slice-server-items.result.now) c.loop-server.server-index server refl c.loop-server-test.true c.server-item.is) in
    let keeps : KeepsPlaces c.loop-server.slots c.loop-server.named c.add.new.self c.add.new.named = record {
      apart = c.add.ensures.apart;
      many = c.add.ensures.many;
      named = c.add.ensures.still_named;
      kept = c.add.ensures.kept;
      open_kept = c.add.ensures.open_kept;
      open_as_before = c.add.ensures.open;
    } in
    let counted : identity_at c.in_ok-ix.ix.place c.add.new.self ≡ Some (identity_in backend server) = c.in_ok-ix.ensures.there ∙ ap (λ i. Some i) c.in_ok-identity.ensures in
    rw c.in_ok-push.ensures.ok (record {
      many = length-append c.loop-server.places _ ∙ (omega (arith, many));
      each = one_more_at backend c.loop-server.places c.loop-server.slots c.loop-server.named c.add.new.self c.add.new.named server c.in_ok-ix.ix keeps c.loop-server.invariant.is_named
          c.loop-server.invariant.each (ap (slice_get backend.servers) many ∙ place) counted;
      is_named = one_more_named c.loop-server.places c.loop-server.slots c.loop-server.named c.add.new.self c.add.new.named c.in_ok-ix.ix keeps c.loop-server.invariant.is_named c.in_ok-ix.ensures.named;
      keeps = keeps_both c.args.slots.now c.args.named.now c.loop-server.slots c.loop-server.named c.add.new.self c.add.new.named c.loop-server.invariant.keeps keeps;
    })

pub returns-in_err-push-clause-keeps : goal.returns-in_err-push-clause-keeps
returns-in_err-push-clause-keeps c =
    let keeps : KeepsPlaces c.loop-server.slots c.loop-server.named c.add.new.self c.add.new.named = record {
      apart = c.add.ensures.apart;
      many = c.add.ensures.many;
      named = c.add.ensures.still_named;
      kept = c.add.ensures.kept;
      open_kept = c.add.ensures.open_kept;
      open_as_before = c.add.ensures.open;
    } in
    keeps_both c.args.slots.now c.args.named.now c.loop-server.slots c.loop-server.named c.add.new.self c.add.new.named c.loop-server.invariant.keeps keeps
