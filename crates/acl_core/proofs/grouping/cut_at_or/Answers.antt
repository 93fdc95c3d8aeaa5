use Rattle.std.proofs.Common.{◌+◌, sym}
use Rattle.acl_core.specs.declared.token.Token.TheVariants.{Not}
use Rattle.acl_core.specs.Tokens.{is_or}
use Rattle.acl_core.proofs.SplitLemmas.{split_found, split_not_found, tail_all}
use Rattle.acl_core.proofs.grouping.cut_at_or.Goals as goal

pub returns-in-Some-clause-some : goal.returns-in-Some-clause-some
returns-in-Some-clause-some c =
    rw (tail_all (c.in-Some.at + 1) c.args.tokens.now) (split_found is_or c.args.tokens.now Not c.in-Some.at (sym c.in-Some.ensures.place))

pub returns-in-None-clause-none : goal.returns-in-None-clause-none
returns-in-None-clause-none c = split_not_found is_or c.args.tokens.now (sym c.in-None.ensures.place)
