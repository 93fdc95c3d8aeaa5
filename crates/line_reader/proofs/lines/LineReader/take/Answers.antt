use Rattle.std.proofs.Common.{◌+◌, ◌-◌, ◌≤◌, ap, drop, length, length-take, arith, ◌∙◌}
use Rattle.line_reader.proofs.CarryLemmas.{kept_past}
use Rattle.line_reader.proofs.lines.LineReader.take.Goals as goal

pub returns-clause-kept : goal.returns-clause-kept
returns-clause-kept c =
    let same = ap (λ s. s.kept) c.self.view_is in
    let r = c.self.inside in
    let within : c.args.count + c.args.skipped + r.at ≤ r.end = omega (arith, c.requires, ap length same, length-take (r.end - r.at) (drop r.at r.block.items), c.self.invariant.0) in
    kept_past r.block.items r.at r.end (c.args.count + c.args.skipped) within ∙ ap (drop (c.args.count + c.args.skipped)) same
