use Rattle.std.proofs.Common.{ap, ◌∙◌}
use Rattle.std.specs.Option.{is_some}
use Rattle.stick_core.specs.Entries.{is_free}
use Rattle.stick_core.proofs.EntryLemmas.{is_some-find}
use Rattle.stick_core.proofs.table.has_free.Goals as goal

pub returns : goal.returns
returns c = c.is_some.ensures ∙ ap (λ o. is_some o) c.first_free.ensures ∙ is_some-find is_free c.args.touched.now.entries
