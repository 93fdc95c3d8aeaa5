use Rattle.std.proofs.Common.{◌≡◌, Some, refl, sym, ap, ◌∙◌, subst}
use Rattle.std.specs.Prelude.{find, IsSome}
use Rattle.conn_rows.specs.Lends.{at_tracks}
use Rattle.conn_rows.specs.Stored.{has_serial, with_stored}
use Rattle.conn_rows.specs.declared.row.StoredRow.{StoredRow}
use Rattle.conn_rows.proofs.RowLists.{changed, few-items, found, listed-with}
use Rattle.conn_rows.proofs.row_list.RowList.tracks_mut.Goals as goal

pub at_mut-requires : goal.at_mut-requires
at_mut-requires c =
    subst IsSome (sym (found c.args.serial c.self.inside.entries c.self.invariant ∙ ap (find (has_serial c.args.serial)) c.self.view_is)) c.requires

pub invariant_of-self-lent : goal.invariant_of-self-lent
invariant_of-self-lent c = λ w.
    listed-with c.args.serial c.at_mut.result.now (at_tracks w c.at_mut.result.now) c.self.inside.entries _ refl c.at_mut.ensures.value refl c.self.invariant

same_row : (a b : StoredRow) → Some a ≡ Some b → a ≡ b
same_row a b is = cc

pub returns : goal.returns
returns c = (
  (
    refl,
    λ w. changed c.args.serial c.at_mut.result.now (at_tracks w) c.self.inside.entries c.self.invariant c.at_mut.ensures.value ∙ ap (with_stored c.args.serial (at_tracks w)) c.self.view_is,
  ),
  record {
    writes_back = tt;
    value = λ row is.
        ap (λ (r : StoredRow). r.tracks)
        (same_row c.at_mut.result.now row
        (sym c.at_mut.ensures.value ∙ found c.args.serial c.self.inside.entries c.self.invariant ∙ ap (find (has_serial c.args.serial)) c.self.view_is ∙ is));
    few = rw (← c.self.view_is) (few-items c.self.inside.entries c.self.invariant);
  },
)
