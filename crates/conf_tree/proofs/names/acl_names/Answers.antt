use Rattle.std.proofs.Common.{◌≡◌, ◌+◌, ◌∷◌, [], ◌++◌, take, ◌∙◌, ap, sym, if◌then◌else◌}
use Rattle.std.specs.List.{list_any}
use Rattle.std.specs.Str.{bytes_eq}
use Rattle.std.proofs.lemmas.List.{take_more}
use Rattle.conf_tree.specs.Config.{acl_names}
use Rattle.conf_tree.proofs.AclLemmas.{with_name, without_name}
use Rattle.conf_tree.proofs.names.acl_names.Goals as goal
use Rattle.conf_tree.proofs.names.acl_names.Goals.{in-Some+in_ok-names, in_default}

pub loop-item-preserved : goal.loop-item-preserved
loop-item-preserved c =
    let i = c.loop-item.item-index in
    let before = take i c.args.items.now in
    let there : take (i + 1) c.args.items.now ≡ before ++ c.item-item.result ∷ [] =
    take_more c.args.items.now i c.item-item.result c.loop-item-test.true ∙ ap (λ x. before ++ x ∷ []) (sym c.item-item.is) in
    elim c.match-acl_name.branch [
      | in-Some+in_ok-names w ↦
          w.names-is ∙ w.in_ok-names.ensures
          ∙ ap (λ names. if list_any (λ other. bytes_eq other w.in-Some.name) names then names else names ++ w.in-Some.name ∷ []) c.loop-item.invariant
          ∙ sym (with_name before c.item-item.result w.in-Some.name (sym c.acl_name.ensures ∙ w.in-Some.is)) ∙ ap acl_names (sym there)
      | in_default w ↦
          w.names-is ∙ c.loop-item.invariant ∙ sym (without_name before c.item-item.result (sym c.acl_name.ensures ∙ w.in_default.is)) ∙ ap acl_names (sym there)
    ]
