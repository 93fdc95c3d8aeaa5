-- What picks see of servers.
use Rattle.std.proofs.Common.{◌≡◌, ℕ, zero, suc, ◌+◌, ◌<◌, ◌≤◌, ◌⊎◌, Bool, true, false, List, [], ◌∷◌, ◌++◌, length, get_or, map, filter, Option, Some, None, refl, sym, ap, ◌∙◌, arith, inl, inr}
use Rattle.std.specs.Prelude.{slice_get, option_map, ◌==◌, not, ◌&&◌}
use Rattle.std.specs.Option.{option_map_or}
use Rattle.std.specs.List.{range_with_len}
use Rattle.std.proofs.lemmas.List.Elements.{filter-append}
use Rattle.std.proofs.lemmas.Option.{slice_get-map, slice_get_cases, slice_get_past}
use Rattle.proxy_types.specs.declared.balance.Place.{Place}
use Rattle.slot_core.specs.declared.slots.Count.{Count}
use Rattle.slot_core.specs.declared.slots.SlotIx.{SlotIx}
use Rattle.slot_core.specs.Counts.{open_at}
use Rattle.balance_core.specs.Loads.{has_room_at}
use Rattle.balance_core.specs.Rounds.{can_take, next_of, next_turn, turn_of, turns_from, used_turn, weights_of}
use Rattle.plan_types.specs.declared.plan.Backend.{Backend}
use Rattle.plan_types.specs.declared.plan.Server.{Server}
use Rattle.conn_model.specs.Servers.{has_room, identity_in, load_of, loads_of, weight_of, weight_by}
use Rattle.conn_versions.specs.Versions.{connections_in, open_to}
use Rattle.conn_versions.specs.Slots.{IsServed}
use Rattle.conn_versions.specs.Picks.{load_of_one, loads_from, loads_of_one}
use Rattle.conn_versions.proofs.Identities.{identity_within, open_there}

-- a server with the connections that are counted at its place
pub load_there : (counts : List Count) (barred : Backend → Server → Bool) (backend : Backend) (places : List SlotIx) (n : ℕ) (server : Server) (ix : SlotIx) → IsServed counts backend places → slice_get backend.servers n ≡ Some server →
    slice_get places n ≡ Some ix →
    slice_get (loads_of (open_to counts) barred backend) n
    ≡ Some (record {
      weight = weight_by backend.method (barred backend server) server;
      has_room = not (barred backend server) && has_room server.limit (open_at ix.place counts);
      connections = open_at ix.place counts;
    })
load_there counts barred backend places n server ix served there found =
    slice_get-map (load_of (open_to counts) barred backend) backend.servers n ∙ ap (option_map (load_of (open_to counts) barred backend)) there
    ∙ ap (λ m. Some (record { weight = weight_by backend.method (barred backend server) server; has_room = not (barred backend server) && has_room server.limit m; connections = m }))
    (sym (open_there (identity_in backend server) counts ix.place served.apart (served.slots.each n server ix there found)))

pub load_past : (counts : List Count) (barred : Backend → Server → Bool) (backend : Backend) (n : ℕ) → slice_get backend.servers n ≡ None → slice_get (loads_of (open_to counts) barred backend) n ≡ None
load_past counts barred backend n none = slice_get-map (load_of (open_to counts) barred backend) backend.servers n ∙ ap (option_map (load_of (open_to counts) barred backend)) none

-- its connections
pub record PlacedServer (counts : List Count) (backend : Backend) (n : ℕ) (ix : SlotIx) : Type 0 where
  pub within : ix.place < length counts
  pub counted : Some (open_at ix.place counts) ≡ connections_in (open_to counts) (Some backend) n

pub placed_server : (counts : List Count) (backend : Backend) (places : List SlotIx) (n : ℕ) (ix : SlotIx) → IsServed counts backend places → n < length backend.servers → slice_get places n ≡ Some ix →
    PlacedServer counts backend n ix
placed_server counts backend places n ix served less at = by (slice_get_cases backend.servers n).1
  where
    by : ((server : Server) × (n < length backend.servers) × (slice_get backend.servers n ≡ Some server) × (get_or backend.servers n server ≡ server)) ⊎ ((length backend.servers ≤ n) × (slice_get backend.servers n ≡ None)) →
        PlacedServer counts backend n ix
    by (inl found) =
        let its = served.slots.each n found.0 ix found.2 at in
        record {
          within = identity_within counts ix.place (identity_in backend found.0) its;
          counted = ap (λ m. Some m) (open_there (identity_in backend found.0) counts ix.place served.apart its)
              ∙ sym (ap (option_map (λ server. open_to counts (identity_in backend server))) found.2);
        }
    by (inr past) = let more = past.0 in absurd (omega (arith, less, more))

pub server_past : (counts : List Count) (backend : Backend) (n : ℕ) → length backend.servers ≤ n → connections_in (open_to counts) (Some backend) n ≡ None
server_past counts backend n past = ap (option_map (λ server. open_to counts (identity_in backend server))) (slice_get_past backend.servers n past)

-- Servers of which one has room.

one-from : (number k : ℕ) (servers : List Server) (n : ℕ) → slice_get (loads_from number k servers) n ≡ option_map (load_of_one number (k + n)) (slice_get servers n)
one-from number k [] n = refl
one-from number k (server ∷ servers) zero = let same : k ≡ k + 0 = omega arith in ap (λ m. Some (load_of_one number m server)) same
one-from number k (server ∷ servers) (suc n) =
    let same : k + 1 + n ≡ k + suc n = omega arith in
    one-from number (k + 1) servers n ∙ ap (λ m. option_map (load_of_one number m) (slice_get servers n)) same

pub one_there : (number : ℕ) (servers : List Server) (n : ℕ) → slice_get (loads_of_one number servers) n ≡ option_map (load_of_one number n) (slice_get servers n)
one_there number servers n = let same : 0 + n ≡ n = omega arith in one-from number 0 servers n ∙ ap (λ m. option_map (load_of_one number m) (slice_get servers n)) same

length-from : (number k : ℕ) (servers : List Server) → length (loads_from number k servers) ≡ length servers
length-from number k [] = refl
length-from number k (server ∷ servers) = cc (length-from number (k + 1) servers)

pub length-one : (number : ℕ) (servers : List Server) → length (loads_of_one number servers) ≡ length servers
length-one number servers = length-from number 0 servers

weights-from : (number k : ℕ) (servers : List Server) → weights_of (loads_from number k servers) ≡ map weight_of servers
weights-from number k [] = refl
weights-from number k (server ∷ servers) = ap (λ ws. weight_of server ∷ ws) (weights-from number (k + 1) servers)

pub weights-one : (number : ℕ) (servers : List Server) → weights_of (loads_of_one number servers) ≡ map weight_of servers
weights-one number servers = weights-from number 0 servers

-- tests that answer alike for the servers of a round
filter_alike : (p q : Place → Bool) (k : ℕ) (weights : List ℕ) → ((turn : Place) → turn.server < k + length weights → p turn ≡ q turn) → filter p (turns_from k weights) ≡ filter q (turns_from k weights)
filter_alike p q k [] alike = refl
filter_alike p q k (weight ∷ weights) alike =
    filter-append p (map (turn_of k) (range_with_len 0 weight)) (turns_from (k + 1) weights)
    ∙ ap (λ xs. xs ++ filter p (turns_from (k + 1) weights)) (own (range_with_len 0 weight))
    ∙ ap (λ xs. filter q (map (turn_of k) (range_with_len 0 weight)) ++ xs)
    (filter_alike p q (k + 1) weights (λ turn less. alike turn (let more : k + 1 + length weights ≡ k + length (weight ∷ weights) = omega arith in omega (arith, less, more))))
    ∙ sym (filter-append q (map (turn_of k) (range_with_len 0 weight)) (turns_from (k + 1) weights))
  where
    same : (n : ℕ) → p (turn_of k n) ≡ q (turn_of k n)
    same n = alike (turn_of k n) (omega arith)

    own : (ns : List ℕ) → filter p (map (turn_of k) ns) ≡ filter q (map (turn_of k) ns)
    own [] = refl
    own (n ∷ ns) = by (q (turn_of k n)) refl (own ns)
      where
        by : (b : Bool) → q (turn_of k n) ≡ b → filter p (map (turn_of k) ns) ≡ filter q (map (turn_of k) ns) → filter p (map (turn_of k) (n ∷ ns)) ≡ filter q (map (turn_of k) (n ∷ ns))
        by true e rest = rw (same n ∙ e, e) (ap (λ xs. turn_of k n ∷ xs) rest)
        by false e rest = rw (same n ∙ e, e) rest

room_of_one : (number : ℕ) (servers : List Server) (n : ℕ) → n < length servers → has_room_at (loads_of_one number servers) n ≡ (n == number)
room_of_one number servers n less = ap (λ o. option_map_or (λ load. load.has_room) o false) (one_there number servers n) ∙ at servers n less
  where
    at : (servers : List Server) (m : ℕ) → m < length servers → option_map_or (λ load. load.has_room) (option_map (load_of_one number n) (slice_get servers m)) false ≡ (n == number)
    at [] m less = absurd (omega (arith, less))
    at (server ∷ servers) zero less = refl
    at (server ∷ servers) (suc m) less = at servers m (omega (arith, less))

length-weights : (servers : List Server) → length (map weight_of servers) ≡ length servers
length-weights [] = refl
length-weights (server ∷ servers) = cc (length-weights servers)

-- the next turn is that of the server
pub turn_of_one : (number : ℕ) (servers : List Server) (last : Option Place) → next_turn (loads_of_one number servers) last ≡ used_turn (map weight_of servers) last number
turn_of_one number servers last =
    ap (λ weights. next_of weights last (filter (can_take (loads_of_one number servers)) (turns_from 0 weights))) (weights-one number servers)
    ∙ ap (next_of (map weight_of servers) last)
    (filter_alike (can_take (loads_of_one number servers)) (λ turn. turn.server == number) 0 (map weight_of servers)
    (λ turn less. room_of_one number servers turn.server (let many = length-weights servers in omega (arith, less, many))))
