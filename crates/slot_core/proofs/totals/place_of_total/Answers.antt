use Rattle.std.proofs.Common.{◌≡◌, length, ap, sym, ◌∙◌}
use Rattle.std.specs.List.{position}
use Rattle.slot_core.specs.Totals.{has_name, is_unused}
use Rattle.slot_core.proofs.TotalLemmas.{added_there, name_found, renamed_there, total_added, total_renamed}
use Rattle.slot_core.proofs.totals.place_of_total.Goals as goal

pub returns-in-Some-clause-there : goal.returns-in-Some-clause-there
returns-in-Some-clause-there c =
    name_found c.args.totals.now.items c.in-Some.place c.args.name.now (ap (position (has_name c.args.name.now)) (sym c.as_slice.ensures.value) ∙ sym c.find_total.ensures ∙ c.in-Some.is)

pub returns-in-Some-find_unused-clause-there : goal.returns-in-Some-find_unused-clause-there
returns-in-Some-find_unused-clause-there c =
    rw c.in_ok-duplicate_of.ensures
    (renamed_there c.args.totals.now.items c.in-Some-find_unused.place c.args.name.now (ap (position is_unused) (sym c.as_slice-2.ensures.value) ∙ sym c.find_unused.ensures ∙ c.in-Some-find_unused.is))

pub returns-in-Some-find_unused-clause-kept : goal.returns-in-Some-find_unused-clause-kept
returns-in-Some-find_unused-clause-kept c =
    rw c.in_ok-duplicate_of.ensures
    (λ counts backends are. total_renamed counts backends c.args.totals.now.items c.in-Some-find_unused.place c.args.name.now
    (ap (position (has_name c.args.name.now)) (sym c.as_slice.ensures.value) ∙ sym c.find_total.ensures ∙ c.in_default.is)
    (ap (position is_unused) (sym c.as_slice-2.ensures.value) ∙ sym c.find_unused.ensures ∙ c.in-Some-find_unused.is) are)

pub returns-clause-there : goal.returns-clause-there
returns-clause-there c =
    let at : c.len-place.result ≡ length c.args.totals.now.items = c.len-place.ensures ∙ c.args.totals.now.ok.0 in
    rw (c.in_ok-push.ensures.items, at, c.in_ok-duplicate_of.ensures) (added_there c.args.totals.now.items c.args.name.now)

pub returns-clause-kept : goal.returns-clause-kept
returns-clause-kept c =
    rw (c.in_ok-push.ensures.items, c.in_ok-duplicate_of.ensures)
    (λ counts backends are. total_added counts backends c.args.totals.now.items c.args.name.now
    (ap (position (has_name c.args.name.now)) (sym c.as_slice.ensures.value) ∙ sym c.find_total.ensures ∙ c.in_default.is) are)
