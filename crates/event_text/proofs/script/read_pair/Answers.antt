use Rattle.event_text.proofs.FrontLemmas.{ends_found, ends_long}
use Rattle.event_text.proofs.script.read_pair.Goals as goal

pub returns-in-Some : goal.returns-in-Some
returns-in-Some c =
    let found = c.in-Some.ensures in ends_found c.in-Some.real c.args.text.now found.source found.destination found.family found.text

pub returns-in-Some-cut_word : goal.returns-in-Some-cut_word
returns-in-Some-cut_word c =
    rw (c.in_ok-peer.ensures.some, c.in-Some-cut_word.ensures.some) (ends_long c.in_ok-peer.peer.now c.in-Some-cut_word._last.now c.in-Some-cut_word._more.now)
