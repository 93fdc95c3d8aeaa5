use Rattle.std.proofs.Common.{◌≡◌, ◌<◌, ◌≤◌, ◌+◌, ◌/◌, ◌%◌, ◌++◌, ◌∷◌, [], ap, sym, ◌∙◌, arith}
use Rattle.text_core.specs.Decimal.{decimal}
use Rattle.text_core.proofs.DecimalLemmas.{decimal_small, pair_after}
use Rattle.text_core.proofs.decimal.push_short.Goals as goal

pub returns-then-number-lt10000-clause-text : goal.returns-then-number-lt10000-clause-text
returns-then-number-lt10000-clause-text g c =
    c.push_pair.ensures
    ∙ ap (λ xs. xs ++ (48 + c.args.number % 100 / 10) ∷ (48 + c.args.number % 100 % 10) ∷ []) c.push_first-then-number-lt10000.ensures.text
    ∙ pair_after c.args.text.now.items c.args.number c.if-number-lt100.false

pub returns-clause-text : goal.returns-clause-text
returns-clause-text g c =
    let front = c.args.text.now.items in
    let n = c.args.number in
    let first : n / 10000 ≡ n / 100 / 100 = omega arith in
    let small : n / 10000 < 10 = omega (arith, c.ranges.number.fits) in
    let many : 100 ≤ n / 100 = omega (arith, c.if-number-lt10000.false) in
    c.push_pair-3.ensures
    ∙ ap (λ xs. xs ++ (48 + n % 100 / 10) ∷ (48 + n % 100 % 10) ∷ []) (
    c.push_pair-2.ensures
    ∙ ap (λ xs. xs ++ (48 + n / 100 % 100 / 10) ∷ (48 + n / 100 % 100 % 10) ∷ []) (
    c.push.ensures.items ∙ ap (λ digits. front ++ digits) (sym (decimal_small (n / 10000) small) ∙ ap (λ k. decimal k) first)
    )
    ∙ pair_after front (n / 100) many
    )
    ∙ pair_after front n c.if-number-lt100.false
