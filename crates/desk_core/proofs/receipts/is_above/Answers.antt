use Rattle.std.proofs.Common.{sym}
use Rattle.std.proofs.lemmas.Bool.Decides.{Decides-ltb}
use Rattle.desk_core.proofs.Keeping.{above_last, last_below}
use Rattle.desk_core.proofs.receipts.is_above.Goals as goal

pub returns-in-Some : goal.returns-in-Some
returns-in-Some c =
    let xs = c.args.part.now in
    let last = c.in-Some.last.now in
    let item = c.in-Some.ensures.item in
    let test = Decides-ltb last.number c.args.number in
    (λ t. above_last xs last c.args.number c.requires item.3.0 (sym item.1) (test.0 t), λ above. test.1 (last_below xs last c.args.number item.3.0 (sym item.1) above))
