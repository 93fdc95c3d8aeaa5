use Rattle.std.proofs.Common.{rules, sym, ◌≡◌, ◌∙◌}
use Rattle.desk_core.specs.Calls.{calls_of, kept_of}
use Rattle.desk_core.specs.Receipts.{AreReceipts}
use Rattle.desk_core.specs.Settling.{book_record}
use Rattle.desk_core.proofs.Whole.{each_of_one_call}
use Rattle.desk_core.proofs.settling.settle.Goals as goal

pub returns-in-Ok-clause-once : goal.returns-in-Ok-clause-once
returns-in-Ok-clause-once g c keep all n low high =
    let receipts : AreReceipts (book_record c.args.segments.now c.args.shut.book) (kept_of c.args.passes.items) = search rules in
    let calls : calls_of c.args.passes.items ≡ c.args.shut.book.made = search rules in
    each_of_one_call c.args.segments.now c.args.shut.book c.args.passes.items receipts c.gather.ensures.whole calls keep all n low high

pub returns-in-Ok-clause-nothing : goal.returns-in-Ok-clause-nothing
returns-in-Ok-clause-nothing g c none = c.nothing_is_counted.ensures c.args.shut.book.state (c.args.shut.leased ∙ sym c.args.shut.lives ∙ none)
