use Rattle.event_text.proofs.FrontLemmas.{same_word}
use Rattle.event_text.proofs.fronts.is_word.Goals as goal

pub returns-then-word-text : goal.returns-then-word-text
returns-then-word-text c = same_word c.begins.result c.args.word.now c.args.text.now c.if-word-text.true c.begins.ensures
