-- The names of some lines, with one line more.
use Rattle.std.proofs.Common.{◌≡◌, ℕ, List, [], ◌∷◌, ◌++◌, Some, None, ap, ◌∙◌, if◌then◌else◌}
use Rattle.std.specs.List.{list_any, cons_option, filter_map}
use Rattle.std.specs.Str.{bytes_eq}
use Rattle.std.proofs.lemmas.List.{append-nil}
use Rattle.std.proofs.lemmas.List.Elements.{filter_map-append}
use Rattle.text_core.specs.Names.{distinct}
use Rattle.text_core.proofs.NameLemmas.{distinct-more}
use Rattle.conf_tree.specs.declared.tree.ConfigLine.{ConfigLine}
use Rattle.conf_tree.specs.Config.{acl_name, acl_names}

names_more : (items : List ConfigLine) (item : ConfigLine) → acl_names (items ++ item ∷ []) ≡ distinct (filter_map (λ i. acl_name i.statement) items ++ filter_map (λ i. acl_name i.statement) (item ∷ []))
names_more items item = ap distinct (filter_map-append (λ i. acl_name i.statement) items (item ∷ []))

-- a line that declares a name
pub with_name : (items : List ConfigLine) (item : ConfigLine) (name : List ℕ) → acl_name item.statement ≡ Some name →
    acl_names (items ++ item ∷ []) ≡ (if list_any (λ other. bytes_eq other name) (acl_names items) then acl_names items else acl_names items ++ name ∷ [])
with_name items item name is =
    names_more items item
    ∙ ap (λ o. distinct (filter_map (λ (i : ConfigLine). acl_name i.statement) items ++ cons_option o [])) is
    ∙ distinct-more (filter_map (λ i. acl_name i.statement) items) name

-- a line that declares none
pub without_name : (items : List ConfigLine) (item : ConfigLine) → acl_name item.statement ≡ None → acl_names (items ++ item ∷ []) ≡ acl_names items
without_name items item is =
    names_more items item
    ∙ ap (λ o. distinct (filter_map (λ (i : ConfigLine). acl_name i.statement) items ++ cons_option o [])) is
    ∙ ap distinct (append-nil (filter_map (λ (i : ConfigLine). acl_name i.statement) items))
