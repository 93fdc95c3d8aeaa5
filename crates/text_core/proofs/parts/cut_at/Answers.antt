use Rattle.std.proofs.Common.{sym, length, take, drop, ◌+◌, ◌-◌}
use Rattle.text_core.proofs.CutLemmas.{cut-found, cut-not_found, split-cut, split-uncut}
use Rattle.text_core.proofs.parts.cut_at.Goals as goal

pub returns-in-Some-clause-parts : goal.returns-in-Some-clause-parts
returns-in-Some-clause-parts c =
    let found = c.in-Some.ensures in sym (cut-found c.args.mark c.args.text.now c.in-Some.at found.0.high found.0.before found.1)

pub returns-in-Some-clause-some : goal.returns-in-Some-clause-some
returns-in-Some-clause-some c =
    let found = c.in-Some.ensures in
    split-cut c.args.mark c.args.text.now (take c.in-Some.at c.args.text.now) (take (length c.args.text.now - (c.in-Some.at + 1)) (drop (c.in-Some.at + 1) c.args.text.now))
    (cut-found c.args.mark c.args.text.now c.in-Some.at found.0.high found.0.before found.1)

pub returns-in-None-clause-parts : goal.returns-in-None-clause-parts
returns-in-None-clause-parts c = sym (cut-not_found c.args.mark c.args.text.now c.in-None.ensures)

pub returns-in-None-clause-none : goal.returns-in-None-clause-none
returns-in-None-clause-none c = split-uncut c.args.mark c.args.text.now (cut-not_found c.args.mark c.args.text.now c.in-None.ensures)
