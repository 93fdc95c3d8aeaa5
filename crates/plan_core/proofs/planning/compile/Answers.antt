use Rattle.std.proofs.Common.{◌≡◌, ◌≤◌, [], length, ◌∙◌, ap}
use native.Mathlib.Omega.{arith}
use Rattle.plan_types.specs.declared.plan.Plan.{Plan}
use Rattle.proxy_types.specs.declared.limits.TheConstants.{MOST_SECTIONS, MOST_TABLES}
use Rattle.plan_core.specs.Compiled.{plan_faults}
use Rattle.plan_core.specs.Proxies.{proxies}
use Rattle.plan_core.proofs.FaultLemmas.{none_stands}
use Rattle.plan_core.proofs.SoundLemmas.{sound_plan}
use Rattle.plan_core.proofs.planning.compile.Goals as goal

pub returns-clause-whole : goal.returns-clause-whole
returns-clause-whole c =
    none_stands c.as_slice.result.now c.as_slice-2.result.now c.as_slice-all.result.now c.args.tree.now c.in_default.ensures.value
    (c.as_slice-all.ensures ∙ c.in_ok-proxies.ensures.value ∙ ap (λ items. proxies [] items) c.items.ensures.items)
    (c.as_slice.ensures ∙ c.in_ok-tables.ensures.value)
    (c.as_slice-2.ensures ∙ c.in_ok-backends.ensures.value)

pub returns-clause-sound : goal.returns-clause-sound
returns-clause-sound c =
    let plan : Plan = record { frontends = c.in_ok-frontends.frontends; backends = c.in_ok-backends.backends; tables = c.in_ok-tables.tables } in
    let few_frontends : length c.in_ok-frontends.frontends ≤ MOST_SECTIONS = rw (c.in_ok-frontends.ensures.number, c.as_slice-all.ensures) c.in_ok-proxies.ensures.frontends in
    let few_backends : length c.in_ok-backends.backends ≤ MOST_SECTIONS = rw (c.in_ok-backends.ensures.number, c.as_slice-all.ensures) c.in_ok-proxies.ensures.backends in
    let all_few : length c.as_slice-all.result.now ≤ MOST_TABLES = rw c.as_slice-all.ensures c.in_ok-proxies.ensures.both in
    let few_tables : length c.in_ok-tables.tables ≤ MOST_TABLES = omega (arith, all_few, c.in_ok-tables.ensures.few) in
    let of_items : c.as_slice-all.result.now ≡ proxies [] c.args.tree.now = c.as_slice-all.ensures ∙ c.in_ok-proxies.ensures.value ∙ ap (λ items. proxies [] items) c.items.ensures.items in
    let faultless : plan_faults c.args.tree.now ≡ [] =
    none_stands c.as_slice.result.now c.as_slice-2.result.now c.as_slice-all.result.now c.args.tree.now c.in_default.ensures.value of_items
    (c.as_slice.ensures ∙ c.in_ok-tables.ensures.value) (c.as_slice-2.ensures ∙ c.in_ok-backends.ensures.value) in
    sound_plan c.args.tree.now plan c.as_slice-3.result.now c.as_slice-4.result.now c.as_slice-all.result.now c.items.ensures.sound faultless of_items
    c.as_slice-3.ensures c.as_slice-4.ensures c.in_ok-tables.ensures.value c.in_ok-backends.ensures.value c.in_ok-frontends.ensures.value few_frontends few_backends few_tables
