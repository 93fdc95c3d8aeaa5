use Rattle.std.proofs.Common.{◌≡◌, ◌+◌, ◌∙◌, Some, ap, sym, subst, refl}
use Rattle.std.specs.Prelude.{slice_get}
use Rattle.conn_model.specs.declared.plain.FrontendRows.{FrontendRows}
use Rattle.conn_model.specs.declared.plain.Plain.{Plain}
use Rattle.conn_model.specs.Answer.{at_moment, frontend_in}
use Rattle.conn_model.specs.Words.{newest}
use Rattle.plan_types.specs.Sound.{IsSoundPlan}
use Rattle.conn_model.proofs.Goes.{well_at}
use Rattle.conn_model.proofs.TableSteps.{newest-all}
use Rattle.conn_model.proofs.Versions.{newest-at}
use Rattle.conn_core.specs.Machine.{state_of}
use Rattle.conn_core.proofs.SeenLemmas.{sees_next}
use Rattle.conn_core.proofs.machine.Core.arriving.Goals as goal

pub frontend_near-requires : goal.frontend_near-requires
frontend_near-requires c = newest-all (λ version. IsSoundPlan version.plan) c.self.inside.rows.versions c.in-Some-newest.version.now c.in-Some-newest.ensures.sound (sym c.in-Some-newest.ensures.newest)

pub returns-clause-kept : goal.returns-clause-kept
returns-clause-kept c = newest-at c.self.inside.rows.versions c.in-Some-newest.version.now c.self.invariant.well.rise (sym c.in-Some-newest.ensures.newest)

pub returns-clause-some : goal.returns-clause-some
returns-clause-some c =
    let q : Plain = state_of c.self.inside.listeners c.self.inside.rows in
    let own : FrontendRows = c.in-Some-frontend.ensures.some.0 in
    let there : slice_get q.frontends c.in-Some.at.now.frontend ≡ Some own = c.in-Some-frontend.ensures.some.1 in
    let sums = c.in-Some-frontend.ensures.some.2 in
    let version = c.in-Some-newest.version.now in
    let listens : slice_get q.listeners c.args.listener ≡ Some c.in-Some.at.now = sym (c.in-Some.ensures ∙ ap (λ xs. slice_get xs c.args.listener) c.as_slice.ensures) in
    let newest_is : newest q.versions ≡ Some version = sym c.in-Some-newest.ensures.newest in
    sees_next (at_moment c.args.moment c.args.self.now) c.args.listener c.in-Some.at.now c.args.real own version c.in-Some-frontend_near.judge.now
    (subst (λ (p : Plain). slice_get p.listeners c.args.listener ≡ Some c.in-Some.at.now) c.self.view_is listens)
    (subst (λ (p : Plain). slice_get p.frontends c.in-Some.at.now.frontend ≡ Some own) c.self.view_is there) (well_at q c.self.invariant.well c.in-Some.at.now.frontend own there).given
    (subst (λ (p : Plain). newest p.versions ≡ Some version) c.self.view_is newest_is)
    (sym (c.in-Some-frontend_near.ensures ∙ ap (λ n. frontend_in version.plan n) sums.name))
    (record {
      rows = ap (λ (p : Plain). p.frontends) c.self.view_is;
      tables = ap (λ (p : Plain). (at_moment c.args.moment p).tables) c.self.view_is;
      down = ap (λ (p : Plain). p.down) c.self.view_is;
      version_is = refl;
      frontend_is = refl;
      name = sums.name;
      connections = ap (λ n. n + 1) sums.connections;
      arriving = refl;
      none = refl;
      judged = ap (λ e. e.addr) c.source-source.ensures.value;
    })
