use Rattle.std.proofs.Common.{◌≡◌, ◌-◌, length, Some, sym, ◌∙◌, rules}
use Rattle.std.specs.Prelude.{slice_get}
use Rattle.std.proofs.lemmas.List.Sorted.{answers_always}
use Rattle.list_core.proofs.NewestLemmas.{slice_get-last}
use Rattle.conn_versions.proofs.Places.{number_place, searched}
use Rattle.conn_versions.proofs.versions.place_of.Goals as goal

pub returns-in-Some : goal.returns-in-Some
returns-in-Some c =
    let versions = c.args.versions.now in
    let last = length versions - 1 in
    let version = c.in-Some.version.now in
    let there : slice_get versions last ≡ Some version = slice_get-last versions ∙ sym c.in-Some.ensures in
    sym (number_place c.args.number versions c.requires last version there c.if-version-number.true)

pub returns-in_default : goal.returns-in_default
returns-in_default c =
    let versions = c.args.versions.now in
    let halves = c.binary_search_by_key.ensures in
    let compared = halves.position (λ version. version.number) (answers_always _ _ _ (λ f a r g called. search rules)) in
    c.ok.ensures.value ∙ searched c.args.number versions c.requires c.binary_search_by_key.result halves.bound compared
