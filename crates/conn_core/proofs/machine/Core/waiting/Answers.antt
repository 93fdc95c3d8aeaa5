use Rattle.std.proofs.Common.{◌≡◌, ℕ, List, Option, None, Some, Ok, Err, ap, sym, subst, refl}
use Rattle.std.specs.Prelude.{IfNone, IfSome, IsErr}
use Rattle.pp_any.specs.declared.rest.Rest.{Rest}
use Rattle.conn_model.specs.declared.plain.Plain.{Plain}
use Rattle.conn_model.specs.declared.plain.Row.{Row}
use Rattle.conn_model.specs.declared.event.OwnedEvent.TheVariants.{Piece}
use Rattle.conn_model.specs.Answer.{answer_in, at_moment, piece_answer, version_at, waiting_row}
use Rattle.conn_model.specs.declared.reply.StepFault.TheVariants.{NoSuch}
use Rattle.conn_core.specs.declared.facts.RuleFacts.{RuleFacts}
use Rattle.conn_core.specs.Machine.{state_of}
use Rattle.conn_core.specs.Changes.{Judge}
use Rattle.conn_core.specs.Seeing.{IsKept, SeesOpen, SeesWaiting}
use Rattle.conn_core.proofs.JudgingLemmas.{own_number}
use Rattle.conn_core.proofs.PieceLemmas.{no_judge}
use Rattle.conn_core.proofs.machine.Core.waiting.Goals as goal

if_some : {X : Type 0} (P Q : X → Type 0) (o : Option X) → ((x : X) → P x → Q x) → IfSome o P → IfSome o Q
if_some P Q None f known = tt
if_some P Q (Some x) f known = f x known

if_none : {X : Type 0} (P Q : Type 0) (o : Option X) → (P → Q) → IfNone o P → IfNone o Q
if_none P Q None f known = f known
if_none P Q (Some x) f known = tt

pub returns-clause-kept : goal.returns-clause-kept
returns-clause-kept c = if_some (SeesOpen c.self.inside.rows c.args.id c.in-Ok.row.version c.args.judged c.args.moment) IsKept c.facts_of.result by c.facts_of.ensures.some
  where
    by : (facts : RuleFacts) → SeesOpen c.self.inside.rows c.args.id c.in-Ok.row.version c.args.judged c.args.moment facts → IsKept facts
    by facts sees = rw sees.rows_are (rw sees.version_is (own_number c.self.inside.rows.versions c.in-Ok.row.version sees.judge.version sees.judge.kept))

pub returns-clause-none : goal.returns-clause-none
returns-clause-none c =
    if_none (Judge c.self.inside.rows.frontends c.self.inside.rows.versions c.args.id c.in-Ok.row.version → ⊥)
    ((later : ℕ) (piece : List ℕ) → IsErr (answer_in c.args.self.now later (Piece c.args.id piece))) c.facts_of.result by c.facts_of.ensures.none
  where
    q : Plain
    q = state_of c.self.inside.listeners c.self.inside.rows

    found : Row × Rest
    found = c.in-Ok.ensures.ok.0

    waits : waiting_row q.frontends c.args.id ≡ Ok found
    waits = subst (λ (p : Plain). waiting_row p.frontends c.args.id ≡ Ok found) (sym c.self.view_is) c.in-Ok.ensures.ok.1

    version : c.in-Ok.row.version ≡ found.0.version
    version = ap (λ s. s.version) c.in-Ok.ensures.ok.2

    by : (Judge c.self.inside.rows.frontends c.self.inside.rows.versions c.args.id c.in-Ok.row.version → ⊥) → (later : ℕ) (piece : List ℕ) → IsErr (answer_in c.args.self.now later (Piece c.args.id piece))
    by none later piece =
        let unjudged : Judge q.frontends q.versions c.args.id found.0.version → ⊥ = subst (λ n. Judge q.frontends q.versions c.args.id n → ⊥) version none in
        let is : piece_answer (at_moment later q) c.args.id piece ≡ Err NoSuch = no_judge (at_moment later q) c.args.id piece found waits unjudged in
        subst (λ (p : Plain). IsErr (answer_in p later (Piece c.args.id piece))) c.self.view_is (rw is refl)

pub returns-clause-some : goal.returns-clause-some
returns-clause-some c = if_some (SeesOpen c.self.inside.rows c.args.id c.in-Ok.row.version c.args.judged c.args.moment) (SeesWaiting (at_moment c.args.moment c.args.self.now) c.args.id c.args.judged) c.facts_of.result by c.facts_of.ensures.some
  where
    q : Plain
    q = state_of c.self.inside.listeners c.self.inside.rows

    found : Row × Rest
    found = c.in-Ok.ensures.ok.0

    waits : waiting_row q.frontends c.args.id ≡ Ok found
    waits = subst (λ (p : Plain). waiting_row p.frontends c.args.id ≡ Ok found) (sym c.self.view_is) c.in-Ok.ensures.ok.1

    version : c.in-Ok.row.version ≡ found.0.version
    version = ap (λ s. s.version) c.in-Ok.ensures.ok.2

    by : (facts : RuleFacts) → SeesOpen c.self.inside.rows c.args.id c.in-Ok.row.version c.args.judged c.args.moment facts → SeesWaiting (at_moment c.args.moment c.args.self.now) c.args.id c.args.judged facts
    by facts sees = subst (λ p. SeesWaiting (at_moment c.args.moment p) c.args.id c.args.judged facts) c.self.view_is (record {
      found = found;
      waits = waits;
      judge = record {
        own = sees.judge.own;
        version = sees.judge.version;
        frontend = sees.judge.frontend;
        there = sees.judge.there;
        kept = subst (λ n. version_at q.versions n ≡ Some sees.judge.version) version sees.judge.kept;
        found = sees.judge.found;
      };
      version_is = sees.version_is;
      frontend_is = sees.frontend_is;
      view = sees.view (at_moment c.args.moment q) (record { own = refl; named = λ name. refl; offered = λ name. refl; served = λ server. refl; tracks = refl; tracked = refl; tables = refl; down = refl });
    })
