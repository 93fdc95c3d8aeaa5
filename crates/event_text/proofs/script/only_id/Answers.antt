use Rattle.event_text.proofs.FrontLemmas.{id_alone_long, id_found_alone}
use Rattle.event_text.proofs.script.only_id.Goals as goal

pub returns-in-Some : goal.returns-in-Some
returns-in-Some c = id_found_alone c.in-Some.found c.args.text.now c.in-Some.ensures.fits c.in-Some.ensures.text

pub returns-in-Some-cut_word : goal.returns-in-Some-cut_word
returns-in-Some-cut_word c = id_alone_long c.args.text.now c.in-Some-cut_word._name.now c.in-Some-cut_word._more.now c.in-Some-cut_word.ensures.some
