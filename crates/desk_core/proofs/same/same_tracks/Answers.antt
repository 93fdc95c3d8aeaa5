use Rattle.std.proofs.Common.{rules, ◌≡◌, ◌∙◌, sym, ap}
use Rattle.std.proofs.lemmas.Slice.Eq.{slice_eq-Decides}
use Rattle.plan_types.specs.declared.track.Track.{Track}
use Rattle.desk_core.proofs.same.same_tracks.Goals as goal

pub returns : goal.returns
returns c =
    let same = slice_eq-Decides (λ (a b : Track). search rules) c.as_slice.result.now c.as_slice-2.result.now c.eq.result c.eq.ensures in
    let one = c.as_slice.ensures.value in
    let other = c.as_slice-2.ensures.value in
    (λ t. let items : c.args.one.now.items ≡ c.args.other.now.items = sym one ∙ (same.0 t ∙ other) in ap (λ xs. record { items = xs }) items, λ e. same.1 (one ∙ (ap (λ v. v.items) e ∙ sym other)))
