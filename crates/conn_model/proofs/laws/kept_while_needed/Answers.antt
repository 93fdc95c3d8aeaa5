use Rattle.conn_model.proofs.Reloads.{row_version}
use Rattle.conn_model.proofs.Well.{history_well}
use Rattle.conn_model.proofs.laws.kept_while_needed.Goals as goal

pub returns : goal.returns
returns c = record {
  versions = λ plan last h legal. (history_well plan last h legal).needed;
  rows = row_version;
  tables = λ plan last h legal. (history_well plan last h legal).tables.listed;
}
