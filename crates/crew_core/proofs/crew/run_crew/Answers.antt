use Rattle.std.proofs.Common.{◌≡◌, vec_len, ap, subst, sym, ◌∙◌, arith}
use Rattle.rtrb.specs.Ring.{SameProducer}
use Rattle.desk_core.specs.Books.{IsOf}
use Rattle.desk_core.specs.Calls.{calls_of}
use Rattle.crew_core.proofs.CrewLemmas.{of_opening, still_pair}
use Rattle.crew_core.proofs.OutletLemmas.{both}
use Rattle.crew_core.proofs.crew.run_crew.Goals as goal

pub empty-sink_failed-requires : goal.empty-sink_failed-requires
empty-sink_failed-requires g c =
    let same : c.hand_back-left.new.shut.book ≡ c.into_book-shut.result.book = c.hand_back-left.ensures.same.0 ∙ c.count_calls-recorded.ensures.same.0 in
    let of : (c.hand_back-left.new.shut.book.base ≡ c.args.book.base) × SameProducer c.args.book.segments c.hand_back-left.new.shut.book.segments =
    of_opening g.B.Opening.opening c.args.book c.hand_back-left.new.shut.book c.requires.opened (subst (λ b. IsOf g.B.Opening.opening b) (sym same) c.into_book-shut.ensures.opened) in
    still_pair c.args.book c.hand_back-left.new.shut.book c.args.outlet c.work_and_record-handed.result.1.0 c.requires.ring of.1 c.work_and_record-handed.ensures.handed.ring

pub returns-clause-base : goal.returns-clause-base
returns-clause-base g c =
    let same : c.hand_back-left.new.shut.book ≡ c.into_book-shut.result.book = c.hand_back-left.ensures.same.0 ∙ c.count_calls-recorded.ensures.same.0 in
    ap (λ b. b.base) c.empty-sink_failed.ensures.same.0 ∙ ap (λ b. b.base) same
    ∙ (of_opening g.B.Opening.opening c.args.book c.into_book-shut.result.book c.requires.opened c.into_book-shut.ensures.opened).0

pub returns-clause-handed : goal.returns-clause-handed
returns-clause-handed g c =
    both g.S.Sink.takes g.S.Sink.refuses _ _ _ c.work_and_record-handed.result.1.0 _ c.empty-sink_failed.new.outlet c.work_and_record-handed.ensures.handed c.empty-sink_failed.ensures.handed

pub returns-clause-recorded : goal.returns-clause-recorded
returns-clause-recorded g c =
    let same : c.hand_back-left.new.shut.book ≡ c.into_book-shut.result.book = c.hand_back-left.ensures.same.0 ∙ c.count_calls-recorded.ensures.same.0 in
    let all : vec_len c.take_apart-closed.new.passes ≡ c.into_book-shut.result.given =
    omega (arith, c.push_reserved.ensures.len, c.take_apart-closed.ensures.passes, c.make_workers.ensures.given, c.into_book-shut.ensures.given, c.in-Ok.ensures.passes.0) in (
      c.count_calls-recorded.ensures.calls all ∙ ap calls_of (sym c.count_calls-recorded.ensures.passes),
      c.count_calls-recorded.ensures.made ∙ sym (ap (λ b. b.made) c.empty-sink_failed.ensures.same.0 ∙ ap (λ b. b.made) same),
    )

pub returns-clause-unbegun : goal.returns-clause-unbegun
returns-clause-unbegun g c = λ unbegun.
    let none = c.work_and_record-handed.ensures.unbegun unbegun in
    let some = c.taken.ensures in
    (none, omega (arith, none, some))
