use Rattle.std.proofs.Common.{subst}
use Rattle.conn_model.specs.Counts.{newest_table, AreInMemory}
use Rattle.book_core.specs.Book.{BookState}
use Rattle.book_core.proofs.book.Book.entries.Goals as goal

pub returns : goal.returns
returns c = subst (λ (b : BookState). AreInMemory (newest_table b.state.versions b.state.tables c.args.number) c.entries.result) c.self.view_is c.entries.ensures
