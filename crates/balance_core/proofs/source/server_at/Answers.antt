use Rattle.std.proofs.Common.{◌≡◌, ◌+◌, ◌<◌, ◌≤◌, Bool, ℕ, true, false, nat_lt, length, take, sym, ◌∙◌, arith}
use Rattle.std.proofs.lemmas.Bool.Decides.{nat_tests}
use Rattle.balance_core.specs.Loads.{total_weight}
use Rattle.balance_core.proofs.RangeLemmas.{find-here, find-past, total_weight-more}
use Rattle.balance_core.proofs.source.server_at.Goals as goal

below : (n m : ℕ) → n < m → nat_lt n m ≡ true
below n m lt = grind (arith, nat_tests)

not_below : (n m : ℕ) → m ≤ n → nat_lt n m ≡ false
not_below n m le = grind (arith, nat_tests)

pub returns-then-rest-weight : goal.returns-then-rest-weight
returns-then-rest-weight g c =
    let servers = g.L.Load.servers c.args.load.now in
    let test : ℕ → Bool = λ k. nat_lt c.args.number (total_weight (take (k + 1) servers)) in
    let here : c.args.number < total_weight (take (c.loop-server.server + 1) servers) =
    omega (arith, total_weight-more servers c.loop-server.server, c.loop-server.invariant.0, c.if-rest-weight.true, c.from-weight.ensures, c.weight_of.ensures) in
    let passes : test c.loop-server.server ≡ true = below c.args.number _ here in
    sym (c.loop-server.invariant.1 ∙ find-here test c.loop-server.server (length servers) (omega (arith, c.loop-server-test.true, c.count-server-end.ensures.value)) passes)

pub loop-server-preserved : goal.loop-server-preserved
loop-server-preserved g c =
    let servers = g.L.Load.servers c.args.load.now in
    let test : ℕ → Bool = λ k. nat_lt c.args.number (total_weight (take (k + 1) servers)) in
    let more = total_weight-more servers c.loop-server.server in
    let past : total_weight (take (c.loop-server.server + 1) servers) ≤ c.args.number =
    omega (arith, more, c.loop-server.invariant.0, c.if-rest-weight.false, c.from-weight.ensures, c.weight_of.ensures) in
    let fails : test c.loop-server.server ≡ false = not_below c.args.number _ past in (
      omega (arith, more, c.loop-server.invariant.0, c.if-rest-weight.false, c.from-weight.ensures, c.weight_of.ensures),
      c.loop-server.invariant.1 ∙ find-past test c.loop-server.server (length servers) (omega (arith, c.loop-server-test.true, c.count-server-end.ensures.value)) fails,
    )
