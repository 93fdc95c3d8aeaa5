-- What is counted where no connection is open.
use Rattle.std.specs.Prelude.{ℕ, List, [], ◌∷◌, length, slice_get, Option, Some, None, option_map, refl, ◌≡◌}
use Rattle.std.specs.List.{AllByRecursion}
use Rattle.std.specs.Option.{option_and_then, option_map_or}
use Rattle.std.proofs.Common.{sym, ap, ◌∙◌, arith}
use Rattle.addr_core.specs.declared.addr.Addr.{Addr}
use Rattle.proxy_types.specs.declared.table.KeyType.{KeyType}
use Rattle.stick_core.specs.Key.{key_in}
use Rattle.stick_core.specs.PlainEntries.{trackers_at}
use Rattle.plan_types.specs.declared.plan.Backend.{Backend}
use Rattle.plan_types.specs.declared.plan.Server.{Server}
use Rattle.conn_model.specs.declared.ask.Ask.TheVariants as asks
use Rattle.conn_model.specs.declared.ask.Counts.{Counts}
use Rattle.conn_model.specs.declared.plain.FrontendRows.{FrontendRows}
use Rattle.conn_model.specs.declared.plain.Plain.{Plain}
use Rattle.conn_model.specs.declared.plain.TableState.{TableState}
use Rattle.conn_model.specs.Counts.{count_of, count_of_server, newest_backend, newest_table, offered_in, offered_to, served_in, total, open_connections}
use Rattle.conn_model.specs.Servers.{identity_in}
use Rattle.conn_model.specs.Tables.{entry_counts, open_tracks, trackers}
use Rattle.conn_model.proofs.Lists.{all-at}
use Rattle.book_core.specs.Open.{IsNothingCounted}

-- no frontend has a row
abbrev AreEmpty : List FrontendRows → Type 0
AreEmpty = AllByRecursion (λ own. own.rows ≡ [])

none_long : {X : Type 0} (xs : List X) → length xs ≡ 0 → xs ≡ []
none_long [] is = refl
none_long (x ∷ xs) is = absurd (omega (arith, is))

are_empty : (owns : List FrontendRows) → total (λ own. length own.rows) owns ≡ 0 → AreEmpty owns
are_empty [] is = tt
are_empty (own ∷ owns) is = (none_long own.rows (omega (arith, is)), are_empty owns (omega (arith, is)))

no_total : (worth : FrontendRows → ℕ) → ((own : FrontendRows) → own.rows ≡ [] → worth own ≡ 0) → (owns : List FrontendRows) → AreEmpty owns → total worth owns ≡ 0
no_total worth none [] empty = refl
no_total worth none (own ∷ owns) empty = omega (arith, none own empty.0, no_total worth none owns empty.1)

no_tracks : (owns : List FrontendRows) → AreEmpty owns → open_tracks owns ≡ []
no_tracks [] empty = refl
no_tracks (own ∷ owns) empty = rw empty.0 (no_tracks owns empty.1)

-- where it counts for nothing, whatever there is
none_at : {X : Type 0} (f : X → Counts) → ((x : X) → (f x).cur ≡ 0) → (o : Option X) (counts : Counts) → option_map f o ≡ Some counts → counts.cur ≡ 0
none_at f none None counts is = absurd (let wrong : None ≡ Some counts = is in cc)
none_at f none (Some x) counts is = let same : f x ≡ counts = let it : Some (f x) ≡ Some counts = is in cc in ap (λ (c : Counts). c.cur) (sym same) ∙ none x

none_then : {X : Type 0} (f : X → Option Counts) → ((x : X) (counts : Counts) → f x ≡ Some counts → counts.cur ≡ 0) → (o : Option X) (counts : Counts) → option_and_then f o ≡ Some counts → counts.cur ≡ 0
none_then f none None counts is = absurd (let wrong : None ≡ Some counts = is in cc)
none_then f none (Some x) counts is = none x counts is

none_in : (owns : List FrontendRows) → AreEmpty owns → (number : ℕ) (counts : Counts) → option_map (λ (own : FrontendRows). count_of (length own.rows)) (slice_get owns number) ≡ Some counts → counts.cur ≡ 0
none_in owns empty number counts is = by (slice_get owns number) refl is
  where
    by : (o : Option FrontendRows) → slice_get owns number ≡ o → option_map (λ (own : FrontendRows). count_of (length own.rows)) o ≡ Some counts → counts.cur ≡ 0
    by None there at = absurd (let wrong : None ≡ Some counts = at in cc)
    by (Some own) there at =
        let same : count_of (length own.rows) ≡ counts = let it : Some (count_of (length own.rows)) ≡ Some counts = at in cc in
        let none : own.rows ≡ [] = all-at (λ (o : FrontendRows). o.rows ≡ []) owns number own empty there in
        ap (λ (c : Counts). c.cur) (sym same) ∙ ap (λ rows. length rows) none

untracked : (trackers_of : Addr → ℕ) → ((key : Addr) → trackers_of key ≡ 0) → (kind : KeyType) (addr : Addr) → trackers_at trackers_of kind addr ≡ 0
untracked trackers_of none kind addr = by (key_in kind addr)
  where
    by : (o : Option Addr) → option_map_or trackers_of o 0 ≡ 0
    by None = refl
    by (Some key) = none key

pub nothing_counted : (p : Plain) → open_connections p ≡ 0 → IsNothingCounted p
nothing_counted p is (asks.Frontend number) counts there = none_in p.frontends (are_empty p.frontends is) number counts there
nothing_counted p is (asks.Backend number) counts there =
    none_at (λ (backend : Backend). count_of (offered_to p.frontends backend.name))
    (λ backend. no_total (offered_in backend.name) (λ own none. rw none refl) p.frontends (are_empty p.frontends is)) (newest_backend p.versions number) counts there
nothing_counted p is (asks.Server number n) counts there =
    none_then (λ (backend : Backend). option_map (count_of_server p.frontends backend) (slice_get backend.servers n))
    (λ backend. none_at (count_of_server p.frontends backend) (λ (server : Server). no_total (served_in (identity_in backend server)) (λ own none. rw none refl) p.frontends (are_empty p.frontends is)) (slice_get backend.servers n))
    (newest_backend p.versions number) counts there
nothing_counted p is (asks.Entry number addr) counts there =
    let none : open_tracks p.frontends ≡ [] = no_tracks p.frontends (are_empty p.frontends is) in
    none_at (entry_counts (open_tracks p.frontends) addr)
    (λ (table : TableState). untracked (trackers (open_tracks p.frontends) table.id) (λ key. rw none refl) table.table.kind addr) (newest_table p.versions p.tables number) counts there
