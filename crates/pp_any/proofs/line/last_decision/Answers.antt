use Rattle.std.proofs.Common.{◌≡◌, true, arith}
use Rattle.std.proofs.lemmas.Bool.Decides.{nat_tests}
use Rattle.pp_v1.specs.Line.{ends_line}
use Rattle.pp_any.proofs.Lines.{next_is_line}
use Rattle.pp_any.proofs.line.last_decision.Goals as goal

pub meaning_of-requires : goal.meaning_of-requires
meaning_of-requires c =
    let ends : ends_line c.args.bytes.now ≡ true = grind (arith, nat_tests) in
    next_is_line c.args.bytes.now c.requires (omega arith) ends
