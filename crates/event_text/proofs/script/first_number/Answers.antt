use Rattle.std.proofs.Common.{Some, arith}
use Rattle.event_text.proofs.FrontLemmas.{number_cut_first, number_found_first}
use Rattle.event_text.proofs.script.first_number.Goals as goal

pub returns-clause-words : goal.returns-clause-words
returns-clause-words c =
    number_found_first c.args.most c.in-Some.number c.args.text.now c.in-Some.rest.now (omega (arith, c.if-number-most.true)) c.in-Some.ensures

pub returns-2-clause-words : goal.returns-2-clause-words
returns-2-clause-words c =
    number_cut_first c.args.most c.args.text.now c.in_ok-word.word.now c.in_ok-word.rest.now (Some c.in_ok-number.number) c.in_ok-word.ensures.some c.in_ok-number.ensures.exact
