use Rattle.std.proofs.Common.{◌≡◌, false, length, ap, sym, refl, ◌∙◌}
use Rattle.std.specs.Prelude.{◌==◌}
use Rattle.std.specs.Option.{option_map_or}
use Rattle.plan_types.specs.Sound.{IsSoundPlan}
use Rattle.conn_model.specs.Answer.{frontend_in}
use Rattle.conn_model.proofs.Lists.{all-found}
use Rattle.conn_core.specs.declared.facts.RuleFacts.{RuleFacts}
use Rattle.conn_core.proofs.SeenLemmas.{view_later}
use Rattle.conn_core.proofs.receiving.facts_of.Goals as goal

pub frontend_near-requires : goal.frontend_near-requires
frontend_near-requires c =
    let version = c.in-Some-version.version.now in
    (all-found (λ version. IsSoundPlan version.plan) (λ version. version.number == c.args.version) c.args.rows.now.versions version c.requires (sym c.in-Some-version.ensures)).0

pub returns-clause-some : goal.returns-clause-some
returns-clause-some c =
    let own = c.in-Some.ensures.some.0 in
    let sums = c.in-Some.ensures.some.2 in
    let source = ap (λ e. e.addr) c.source.ensures.value in
    let facts : RuleFacts = record {
      rows = c.args.rows;
      moment = c.args.moment;
      version = c.in-Some-version.version;
      frontend = c.in-Some-frontend_near.frontend;
      name = c.in-Some.own.name;
      connections = c.in-Some.own.connections;
      arriving = false;
      own = c.tracks_of.result;
      source = c.source.result.addr;
    } in
    record {
      judge = record {
        own = own;
        version = c.in-Some-version.version.now;
        frontend = c.in-Some-frontend_near.frontend.now;
        there = c.in-Some.ensures.some.1;
        kept = sym c.in-Some-version.ensures;
        found = sym (c.in-Some-frontend_near.ensures ∙ ap (λ n. frontend_in c.in-Some-version.version.now.plan n) sums.name);
      };
      rows_are = refl;
      moment_is = refl;
      version_is = refl;
      frontend_is = refl;
      tracks = c.tracks_of.ensures;
      source = source;
      view = λ state same.
          sym (view_later state c.args.id c.in-Some-version.version.now c.in-Some-frontend_near.frontend.now facts c.args.judged.source.addr same c.tracks_of.ensures (record {
            version_is = refl;
            frontend_is = refl;
            connections = sums.connections ∙ ap (λ o. option_map_or (λ f. length f.rows) o 0) (sym c.in-Some.ensures.some.1);
            arriving = refl;
            judged = source;
          }));
    }
