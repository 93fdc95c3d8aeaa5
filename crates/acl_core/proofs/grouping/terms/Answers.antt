use Rattle.std.proofs.Common.{◌≡◌, ◌+◌, ◌++◌, ◌∷◌, false, drop, Ok, ◌∙◌, ap, sym}
use Rattle.std.proofs.lemmas.List.{drop_more}
use Rattle.std.proofs.lemmas.Result.{err_from_is_err_and}
use Rattle.list_core.specs.Each.{◌>>=◌}
use Rattle.acl_core.specs.declared.condition.Term.{Term}
use Rattle.acl_core.proofs.GroupLemmas.{followed, marked, fails_early, asked, joined}
use Rattle.acl_core.proofs.grouping.terms.Goals.{then-is_not, else-is_not+in_ok-operand+in_ok-push}
use Rattle.acl_core.proofs.grouping.terms.Goals as goal

pub returns-in_err-operand : goal.returns-in_err-operand
returns-in_err-operand c =
    let there : drop c.loop-token.token-index c.args.tokens.now ≡ c.token-item.result ∷ drop (c.loop-token.token-index + 1) c.args.tokens.now =
    drop_more c.args.tokens.now c.loop-token.token-index c.token-item.result c.loop-token-test.true ∙ ap (λ t. t ∷ drop (c.loop-token.token-index + 1) c.args.tokens.now) (sym c.token-item.is) in
    let p = err_from_is_err_and c.from_residual.result c.from_residual.ensures.1 in
    let step = asked c.args.known.now c.loop-token.is_awaited c.loop-token.negated c.token-item.result (drop (c.loop-token.token-index + 1) c.args.tokens.now) (sym c.is_not.ensures ∙ c.if-is_not.false) in
    rw (p.1, p.2, ← c.loop-token.invariant, there, step) (fails_early _ _ _ (fails_early _ _ _ c.in_err-operand.ensures))

pub loop-token-preserved : goal.loop-token-preserved
loop-token-preserved c =
    let there : drop c.loop-token.token-index c.args.tokens.now ≡ c.token-item.result ∷ drop (c.loop-token.token-index + 1) c.args.tokens.now =
    drop_more c.args.tokens.now c.loop-token.token-index c.token-item.result c.loop-token-test.true ∙ ap (λ t. t ∷ drop (c.loop-token.token-index + 1) c.args.tokens.now) (sym c.token-item.is) in
    let rest = drop (c.loop-token.token-index + 1) c.args.tokens.now in
    elim c.if-is_not.branch [
      | then-is_not w ↦
          rw (w.terms-is, w.negated-is, w.is_awaited-is)
          (ap (λ read. read >>= λ more. Ok (c.loop-token.terms ++ more))
          (sym (marked c.args.known.now c.loop-token.is_awaited c.loop-token.negated c.token-item.result rest (sym c.is_not.ensures ∙ w.if-is_not.true)) ∙ ap (followed c.args.known.now c.loop-token.is_awaited c.loop-token.negated) (sym there))
          ∙ c.loop-token.invariant)
      | else-is_not+in_ok-operand+in_ok-push w ↦
          let term : Term = record { negated = c.loop-token.negated; operand = w.in_ok-operand.operand } in
          let step : followed c.args.known.now c.loop-token.is_awaited c.loop-token.negated (drop c.loop-token.token-index c.args.tokens.now) ≡ (followed c.args.known.now false false rest >>= λ terms. Ok (term ∷ terms)) =
          ap (followed c.args.known.now c.loop-token.is_awaited c.loop-token.negated) there ∙ asked c.args.known.now c.loop-token.is_awaited c.loop-token.negated c.token-item.result rest (sym c.is_not.ensures ∙ w.if-is_not.false)
          ∙ ap (λ read. read >>= λ operand. followed c.args.known.now false false rest >>= λ terms. Ok (record { negated = c.loop-token.negated; operand = operand } ∷ terms)) w.in_ok-operand.ensures in
          rw (w.terms-is, w.negated-is, w.is_awaited-is, w.in_ok-push.ensures.ok)
          (sym (joined c.loop-token.terms term (followed c.args.known.now false false rest)) ∙ ap (λ read. read >>= λ more. Ok (c.loop-token.terms ++ more)) (sym step) ∙ c.loop-token.invariant)
    ]
