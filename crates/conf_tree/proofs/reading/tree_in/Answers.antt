use Rattle.std.proofs.Common.{◌≡◌, ◌∙◌, Ok, ap, sym}
use Rattle.conf_tree.specs.Config.{items_in}
use Rattle.conf_tree.proofs.RisingLemmas.{rises_in}
use Rattle.conf_tree.proofs.reading.tree_in.Goals as goal

pub of-requires : goal.of-requires
of-requires c =
    let read : items_in c.in_ok-lines.lines ≡ Ok c.in_ok-kept.kept = ap items_in (sym c.as_slice.ensures) ∙ c.in_ok-kept.ensures in
    rw c.into_items.ensures.items record {
      rises = rises_in c.args.text.now c.in_ok-lines.lines c.in_ok-kept.kept c.in_ok-lines.ensures.lines read;
      few = c.into_items.ensures.few;
      statements = c.into_items.ensures.statements;
      claims = c.into_items.ensures.claims;
      sections = c.into_items.ensures.sections;
    }
