use Rattle.std.specs.Prelude.{length, ◌≤◌}
use Rattle.stick_core.specs.PlainEntries.{KeysDiffer}
use Rattle.conn_model.specs.History.{after, opening}
use Rattle.conn_model.specs.Tables.{IsTableWell}
use Rattle.conn_model.proofs.Lists.{all-more}
use Rattle.conn_model.proofs.Well.{history_well}
use Rattle.conn_model.proofs.laws.tables_fit.Goals as goal

pub returns : goal.returns
returns c = record {
  keys = λ plan last h legal. all-more IsTableWell (λ table. KeysDiffer table.entries) (after (opening plan last) h).tables (λ table well. well.keys) (history_well plan last h legal).tables.each;
  fits = λ plan last h legal. all-more IsTableWell (λ table. length table.entries ≤ table.table.size) (after (opening plan last) h).tables (λ table well. well.fits) (history_well plan last h legal).tables.each;
  differ = λ plan last h legal. (history_well plan last h legal).tables.differ;
  there = λ plan last h legal. (history_well plan last h legal).tables.there;
}
