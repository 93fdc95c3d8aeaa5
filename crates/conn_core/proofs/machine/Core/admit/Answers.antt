use Rattle.std.proofs.Common.{◌≡◌, ◌+◌, ◌<◌, ◌^◌, ◌∙◌, [], Some, Ok, true, length, ap, sym, subst, refl, arith}
use Rattle.std.specs.Prelude.{slice_get}
use Rattle.rule_engine.specs.Judging.{no_tracks}
use Rattle.conn_model.specs.declared.event.ConnId.{ConnId}
use Rattle.conn_model.specs.declared.plain.FrontendRows.{FrontendRows}
use Rattle.conn_model.specs.declared.plain.Plain.{Plain}
use Rattle.addr_core.specs.declared.addr.Addr.{Addr}
use Rattle.conn_model.specs.declared.event.OwnedEvent.TheVariants.{Accept}
use Rattle.conn_model.specs.Tables.{open_tracks}
use Rattle.conn_model.proofs.Moments.{at-well}
use Rattle.conn_core.specs.Tracking.{ArePossible}
use Rattle.conn_model.specs.Answer.{admission, answer_in, at_moment, candidate_at, frontend_in, new_row, with_row}
use Rattle.plan_types.specs.Sound.{IsSoundPlan}
use Rattle.conn_model.proofs.Goes.{well_at}
use Rattle.conn_model.proofs.TableSteps.{newest-all}
use Rattle.conn_core.specs.declared.facts.RuleFacts.{RuleFacts}
use Rattle.conn_model.proofs.Versions.{newest-at}
use Rattle.conn_model.specs.Words.{newest}
use Rattle.conn_core.specs.Machine.{state_of, IsCoreState}
use Rattle.conn_core.specs.Outcome.{reply_by}
use Rattle.conn_core.proofs.AcceptLemmas.{Found, answer_is}
use Rattle.conn_core.proofs.JudgingLemmas.{accept_offers}
use Rattle.conn_core.proofs.SeenLemmas.{view_at_accept}
use Rattle.conn_core.proofs.machine.Core.admit.Goals as goal

pub frontend_near-requires : goal.frontend_near-requires
frontend_near-requires c = newest-all (λ version. IsSoundPlan version.plan) c.self.inside.rows.versions c.in-Some-newest.version.now c.in-Some-newest.ensures.sound (sym c.in-Some-newest.ensures.newest)

pub admission-requires : goal.admission-requires
admission-requires c = newest-at c.self.inside.rows.versions c.in-Some-newest.version.now c.self.invariant.well.rise (sym c.in-Some-newest.ensures.newest)

pub returns-clause-reply : goal.returns-clause-reply
returns-clause-reply c =
    let q : Plain = state_of c.self.inside.listeners c.self.inside.rows in
    let p : Plain = at_moment c.args.moment q in
    let number = c.in-Some.listener.now.frontend in
    let own : FrontendRows = c.in-Some-frontend.ensures.some.0 in
    let there : slice_get c.self.inside.rows.frontends number ≡ Some own = c.in-Some-frontend.ensures.some.1 in
    let sums = c.in-Some-frontend.ensures.some.2 in
    let version = c.in-Some-newest.version.now in
    let frontend = c.in-Some-frontend_near.frontend.now in
    let next : ConnId = record { frontend = number; serial = own.serial + 1 } in
    let found : Found p c.args.listener c.in-Some.listener.now own version frontend = record {
      listens = sym (c.in-Some.ensures ∙ ap (λ xs. slice_get xs c.args.listener) c.as_slice.ensures);
      there = there;
      newest_is = sym c.in-Some-newest.ensures.newest;
      named = sym (c.in-Some-frontend_near.ensures ∙ ap (λ n. frontend_in version.plan n) sums.name);
    } in
    let facts : RuleFacts = record {
      rows = record { ref_ptr = c.args.self.ref_ptr; now = c.self.inside.rows };
      moment = c.args.moment;
      version = c.in-Some-newest.version;
      frontend = c.in-Some-frontend_near.frontend;
      name = c.in-Some-frontend.own.name;
      connections = c.in-Some-frontend.own.connections + 1;
      arriving = true;
      own = no_tracks;
      source = c.source.result.addr;
    } in
    let sees = view_at_accept p p.clock number c.args.real own version frontend facts there (well_at q c.self.invariant.well number own there).given (record {
      rows = refl;
      tables = refl;
      down = refl;
      version_is = refl;
      frontend_is = refl;
      name = sums.name;
      connections = ap (λ n. n + 1) sums.connections;
      arriving = refl;
      none = refl;
      judged = ap (λ e. e.addr) c.source.ensures.value;
    }) in
    let reply : reply_by next 0 c.admission.new.decision ≡ admission (candidate_at p p.clock number c.args.real own version frontend) c.in-Some.listener.now.accept_proxy c.args.real (length own.rows) =
    c.admission.ensures.reply (with_row p number own (new_row (own.serial + 1) version.number c.args.real p.clock)) next sees
    ∙ ap (λ n. admission (candidate_at p p.clock number c.args.real own version frontend) c.in-Some.listener.now.accept_proxy c.args.real n) sums.connections in
    let fits : own.serial + 1 < 2 ^ 64 = let s = sums.serial in let next = c.in-Some-next_number.ensures.next.1 in omega (arith, s, next) in
    ap (λ s. answer_in s c.args.moment (Accept c.args.listener c.args.real)) (sym c.self.view_is)
    ∙ answer_is p p.clock c.args.listener c.args.real c.in-Some.listener.now own version frontend found fits (reply_by next 0 c.admission.new.decision) reply
    ∙ ap (λ n. Ok (reply_by (record { frontend = number; serial = n }) 0 c.admission.new.decision)) (ap (λ n. n + 1) (sym sums.serial) ∙ sym c.in-Some-next_number.ensures.next.0)

pub returns-clause-can : goal.returns-clause-can
returns-clause-can c =
    let possible : Plain → Addr → Type 0 = λ p addr. ArePossible (open_tracks p.frontends) (at_moment c.args.moment p).tables [] addr c.admission.new.decision.tracks in
    subst (λ p. possible p c.args.real.source.addr) c.self.view_is
    (subst (possible (state_of c.self.inside.listeners c.self.inside.rows)) (ap (λ e. e.addr) c.source.ensures.value) c.admission.ensures.can)

pub returns-clause-offers : goal.returns-clause-offers
returns-clause-offers c =
    let p : Plain = at_moment c.args.moment c.args.self.now in
    let known : IsCoreState c.args.self.now = subst IsCoreState c.self.view_is c.self.invariant in
    accept_offers p (record { well = at-well c.args.self.now known.well c.args.moment; plans = known.plans }) p.clock c.args.listener c.args.real (record { frontend = c.in-Some.listener.now.frontend; serial = c.in-Some-next_number.serial })
    c.admission.new.decision c.in-Some-newest.version.now (ap (λ p. newest p.versions) (sym c.self.view_is) ∙ sym c.in-Some-newest.ensures.newest) (returns-clause-reply c)
