use Rattle.std.proofs.Common.{◌≡◌, Some, length, refl, ap, ◌∙◌, arith, length-append}
use Rattle.std.specs.Prelude.{slice_get}
use Rattle.std.proofs.lemmas.Option.{slice_get_read}
use Rattle.conn_versions.proofs.Identities.{keeps_both}
use Rattle.conn_versions.proofs.Moves.{new_tied, one_more_counted, one_more_named, one_more_new}
use Rattle.conn_versions.proofs.versions.picks_of_all.Goals as goal

pub loop-backend-preserved : goal.loop-backend-preserved
loop-backend-preserved c =
    let backends = c.args.backends.now in
    let backend = c.backend-item.result in
    let own = c.loop-backend.all.items in
    let many = c.loop-backend.invariant.many in
    let there : slice_get backends (length own) ≡ Some backend =
    ap (slice_get backends) many ∙ slice_get_read backends (length backends) c.loop-backend.backend-index backend refl c.loop-backend-test.true c.backend-item.is in
    rw c.in_ok-push.ensures.items (record {
      many = length-append own _ ∙ (omega (arith, many));
      unused = one_more_new backends own backend c.in_ok-picks_of.field-0 c.loop-backend.invariant.unused there c.in_ok-picks_of.ensures.tied;
      counted = one_more_counted backends own c.loop-backend.slots c.loop-backend.named c.picks_of.new.slots c.picks_of.new.named backend c.in_ok-picks_of.field-0 c.in_ok-picks_of.ensures.keeps
          c.loop-backend.invariant.each_named c.loop-backend.invariant.counted there c.in_ok-picks_of.ensures.slots;
      each_named = one_more_named own c.loop-backend.slots c.loop-backend.named c.picks_of.new.slots c.picks_of.new.named c.in_ok-picks_of.field-0 c.in_ok-picks_of.ensures.keeps
          c.loop-backend.invariant.each_named c.in_ok-picks_of.ensures.named;
      keeps = keeps_both c.args.slots.now c.args.named.now c.loop-backend.slots c.loop-backend.named c.picks_of.new.slots c.picks_of.new.named c.loop-backend.invariant.keeps c.in_ok-picks_of.ensures.keeps;
    })

pub returns-clause-tied : goal.returns-clause-tied
returns-clause-tied c =
    let many = c.loop-backend.invariant.many in
    let past = c.loop-backend-test.false in
    let end = c.loop-backend.auto.backend-index-end in
    new_tied c.args.backends.now c.loop-backend.all.items (omega (arith, many, past, end)) c.loop-backend.invariant.unused
