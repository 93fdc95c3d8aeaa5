use Rattle.std.proofs.Common.{◌∷◌, [], sym, ap, ◌∙◌}
use Rattle.keyed_list.specs.Entries.{items_of}
use Rattle.keyed_list.proofs.ItemLemmas.{items-append}
use Rattle.conn_model.specs.Counts.{total}
use Rattle.conn_model.proofs.Totals.{total-push}
use Rattle.conn_rows.proofs.RowLists.{listed-front}
use Rattle.conn_rows.proofs.row_list.RowList.pop.Goals as goal

pub invariant_of-self-2 : goal.invariant_of-self-2
invariant_of-self-2 c = listed-front c.self.inside.entries c.pop.new.self (c.in_ok-_serial._serial, c.in_ok-_serial.row) c.in_ok-_serial.ensures.last c.self.invariant

pub returns-clause-counts : goal.returns-clause-counts
returns-clause-counts c = λ worth.
    sym (total-push worth (items_of c.pop.new.self) c.in_ok-_serial.row) ∙ sym (ap (total worth) (items-append c.pop.new.self ((c.in_ok-_serial._serial, c.in_ok-_serial.row) ∷ [])))
    ∙ sym (ap (λ es. total worth (items_of es)) c.in_ok-_serial.ensures.last) ∙ ap (total worth) c.self.view_is
