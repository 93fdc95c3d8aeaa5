-- What a connection passes on.
use Rattle.std.proofs.Common.{◌≡◌, List, ℕ, [], false, Option, Some, None, refl, sym, subst}
use Rattle.std.specs.Prelude.{IsSomeAnd}
use Rattle.link_core.specs.declared.stream.Progress.{Progress}
use Rattle.relay_core.specs.Flow.{Held}
use Rattle.relay_core.specs.Law.{HasCarried}
use Rattle.relay_core.specs.Relay.{Ways}
use Rattle.worker_conns.specs.Conns.{back_bytes, between, forth_bytes, HasFlows, IsKept, IsRelayed, PassesOn}
use Rattle.link_core.proofs.StreamLemmas.{carried_nothing}

-- what was on its way is in the relay
pub passes_from : {K : Type 0} (left held : K → Option (List ℕ)) (client server : K) (old mid : Option Ways) (new_client new_server : K) (new' : Option Ways)
    → forth_bytes mid ≡ forth_bytes old → back_bytes mid ≡ back_bytes old → PassesOn left held client server mid new_client new_server new' → PassesOn left held client server old new_client new_server new'
passes_from {K} left held client server old mid new_client new_server new' forth back passes = record {
  client_between = passes.client_between;
  server_between = passes.server_between;
  forth =
      subst (λ xs. HasCarried (between (left client) xs (held server)) (between (left passes.client_between) (forth_bytes new') (held passes.server_between))) forth passes.forth;
  back =
      subst (λ xs. HasCarried (between (left passes.server_between) xs (held passes.client_between)) (between (left new_server) (back_bytes new') (held new_client))) back passes.back;
}

-- a flow with nothing on its way
nothing : Held
nothing = record { bytes = []; ended = false; capacity = 0 }

no_ways : Ways
no_ways = record { forth = nothing; back = nothing }

-- nothing is passed on
passes_nothing : {K : Type 0} (left held : K → Option (List ℕ)) (client server : K) → PassesOn left held client server None client server (Some no_ways)
unfolding no_ways nothing
passes_nothing {K} left held client server = record {
  client_between = client;
  server_between = server;
  forth = carried_nothing (between (left client) [] (held server));
  back = carried_nothing (between (left server) [] (held client));
}

-- the relay was kept in the connection of those links
pub relayed_kept : {K : Type 0} (left held : K → Option (List ℕ)) (client server : K) (old : Option Ways) (mid_client new_client : K) (mid_server new_server : Option K) (mid : Ways)
    (answer : Option Progress) (new' : Option Ways)
    → new_client ≡ mid_client → new_server ≡ mid_server → IsKept answer mid new' → IsSomeAnd mid_server (λ s. PassesOn left held client server old mid_client s (Some mid))
    → IsSomeAnd new_server (λ s. IsRelayed left held client server old new_client s answer new')
relayed_kept {K} left held client server old mid_client new_client mid_server new_server mid answer new' same_client same_server kept passes =
    subst (λ o. IsSomeAnd o (λ s. IsRelayed left held client server old new_client s answer new')) (sym same_server)
    (subst (λ c. IsSomeAnd mid_server (λ s. IsRelayed left held client server old c s answer new')) (sym same_client) (by mid_server passes))
  where
    by : (o : Option K) → IsSomeAnd o (λ s. PassesOn left held client server old mid_client s (Some mid)) → IsSomeAnd o (λ s. IsRelayed left held client server old mid_client s answer new')
    by None none = none
    by (Some s) some = (mid, some, kept)

-- and before, it was taken from there
pub relayed_taken : {K : Type 0} (left held : K → Option (List ℕ)) (client server mid_client : K) (old : Option Ways) (mid : Ways) (new_client : K) (new_server : Option K)
    (answer : Option Progress) (new' : Option Ways)
    → mid_client ≡ client → HasFlows old mid → IsSomeAnd new_server (λ s. IsRelayed left held mid_client server (Some mid) new_client s answer new')
    → IsSomeAnd new_server (λ s. IsRelayed left held client server old new_client s answer new')
relayed_taken {K} left held client server mid_client old mid new_client new_server answer new' same_client flows relayed =
    subst (λ c. IsSomeAnd new_server (λ s. IsRelayed left held c server old new_client s answer new')) same_client (by new_server relayed)
  where
    by : (o : Option K) → IsSomeAnd o (λ s. IsRelayed left held mid_client server (Some mid) new_client s answer new') → IsSomeAnd o (λ s. IsRelayed left held mid_client server old new_client s answer new')
    by None none = none
    by (Some s) some = (some.0, passes_from left held mid_client server old (Some mid) new_client s (Some some.0) flows.forth flows.back some.1, some.2)

-- where there was no relay, and none is to be had
pub relayed_none : {K : Type 0} (left held : K → Option (List ℕ)) (client server new_client : K) (old : Option Ways) (new_server : Option K) (progress : Progress) (new' : Option Ways)
    → new_client ≡ client → new_server ≡ Some server → old ≡ None → new' ≡ None
    → IsSomeAnd new_server (λ s. IsRelayed left held client server old new_client s (Some progress) new')
unfolding no_ways nothing
relayed_none {K} left held client server new_client old new_server progress new' same_client same_server none new_none =
    subst (λ o. IsSomeAnd o (λ s. IsRelayed left held client server old new_client s (Some progress) new')) (sym same_server)
    (subst (λ c. IsRelayed left held client server old c server (Some progress) new') (sym same_client)
    (subst (λ o. IsRelayed left held client server o client server (Some progress) new') (sym none)
    (subst (λ o. IsRelayed left held client server None client server (Some progress) o) (sym new_none) of_none)))
  where
    of_none : IsRelayed left held client server None client server (Some progress) None
    of_none = (no_ways, passes_nothing left held client server, record { forth = refl; back = refl; forth_end = refl; back_end = refl })
