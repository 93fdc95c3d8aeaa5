-- The peers of connections, by their names.
use Rattle.std.proofs.Common.{◌≡◌, Option, ap, ◌∙◌, cond}
use Rattle.std.specs.BTreeMap.{get, BTreeMap, UpdatesBy}
use Rattle.addr_core.specs.declared.addr.Endpoint.{Endpoint}
use Rattle.conn_model.specs.declared.event.ConnId.{ConnId}
use Rattle.audit_core.specs.Printing.{name_cmp, name_of}
use Rattle.audit_core.specs.declared.journal.Name.{Name}
use Rattle.audit_core.proofs.NotedLemmas.{ext, name_same}
use Rattle.whatif_core.specs.Reporting.{with_peer}

-- a map with one name more, or without it
pub updated : (m n : BTreeMap Name Endpoint) (id : ConnId) (peer : Option Endpoint) → UpdatesBy name_cmp (name_cmp (name_of id)) m n peer
    → (λ other. get name_cmp n (name_of other)) ≡ with_peer id peer (λ other. get name_cmp m (name_of other))
updated m n id peer is = ext _ _ (λ other. is.0 (name_of other) ∙ ap (λ b. cond b peer (get name_cmp m (name_of other))) (name_same id other))
