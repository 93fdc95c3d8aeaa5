use Rattle.std.proofs.Common.{inl, inr}
use Rattle.conf_tree.specs.Config.{items_of}
use Rattle.conf_tree.proofs.ReadingLaws.{are_items, is_conf_fault}
use Rattle.conf_tree.proofs.reading.read_config.Goals as goal

pub returns-in-Ok-clause-each_line : goal.returns-in-Ok-clause-each_line
returns-in-Ok-clause-each_line c = are_items c.args.text.now c.in-Ok.tree c.in-Ok.ensures

pub returns-in-Err-clause-fault : goal.returns-in-Err-clause-fault
returns-in-Err-clause-fault c = c.fault_of.ensures (items_of c.args.text.now) c.in-Err.ensures

pub returns-in-Err-clause-first_fault : goal.returns-in-Err-clause-first_fault
returns-in-Err-clause-first_fault c =
    elim (c.fault_of.ensures (items_of c.args.text.now) c.in-Err.ensures) [
      | inl memory ↦ inl memory
      | inr read ↦ inr (is_conf_fault c.args.text.now c.fault_of.result read)
    ]
