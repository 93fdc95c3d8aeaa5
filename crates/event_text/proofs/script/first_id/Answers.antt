use Rattle.std.proofs.Common.{Some}
use Rattle.event_text.proofs.FrontLemmas.{id_cut_first, id_found_first}
use Rattle.event_text.proofs.script.first_id.Goals as goal

pub returns-in-Some : goal.returns-in-Some
returns-in-Some c = id_found_first c.in-Some.id c.args.text.now c.in-Some.rest.now c.in-Some.ensures.fits c.in-Some.ensures.text

pub returns : goal.returns
returns c = id_cut_first c.args.text.now c.in_ok-word.word.now c.in_ok-word.rest.now (Some c.in_ok-id.id) c.in_ok-word.ensures.some c.in_ok-id.ensures
