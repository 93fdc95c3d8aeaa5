-- What can be tracked, once another key is tracked.
use Rattle.std.proofs.Common.{◌≡◌, ℕ, ◌+◌, Bool, true, false, List, [], ◌∷◌, ◌++◌, Option, Some, None, refl, ◌∙◌, sym, ap, subst}
use Rattle.std.specs.Prelude.{map, if◌then◌else◌, option_map, option_and_then}
use Rattle.std.proofs.Math.Path.{fun_ext}
use Rattle.addr_core.specs.declared.addr.Addr.{Addr}
use Rattle.addr_core.specs.declared.addr.Addr.TheVariants.{V4, V6}
use Rattle.proxy_types.specs.declared.table.KeyType.{KeyType}
use Rattle.proxy_types.specs.declared.table.KeyType.TheVariants.{Ip, Ipv6}
use Rattle.stick_core.specs.declared.entries.PlainEntry.{PlainEntry}
use Rattle.stick_core.specs.Key.{key_in}
use Rattle.stick_core.specs.PlainEntries.{can_track, is_in, tracked_key, with_tracking}
use Rattle.plan_types.specs.declared.track.TableId.{TableId}
use Rattle.plan_types.specs.declared.track.Track.{Track}
use Rattle.conn_model.specs.declared.plain.TableState.{TableState}
use Rattle.conn_model.specs.Tables.{same_id, table_at, table_with, trackers, with_track, with_tracks}
use Rattle.conn_model.proofs.Entries.{in-tracked}
use Rattle.conn_model.proofs.OneTable.{same_id-is, table_at-map, table_found, table_with-entries, tracked_is, trackers_besides}
use Rattle.conn_rows.specs.Tables.{key_at, table_key}
use Rattle.conn_model.proofs.Trackers.{trackers-append}

-- Keys.

-- what is a key of a table is its own key
key_itself : (kind : KeyType) (addr key : Addr) → key_in kind addr ≡ Some key → key_in kind key ≡ Some key
key_itself Ip (V4 n) key is = let same : V4 n ≡ key = let it : Some (V4 n) ≡ Some key = is in cc in subst (λ k. key_in Ip k ≡ Some k) same refl
key_itself Ip (V6 n) key is = absurd (let wrong : None ≡ Some key = is in cc)
key_itself Ipv6 (V4 n) key is = let same : V6 (0xFFFF_0000_0000 + n) ≡ key = let it : Some (V6 (0xFFFF_0000_0000 + n)) ≡ Some key = is in cc in subst (λ k. key_in Ipv6 k ≡ Some k) same refl
key_itself Ipv6 (V6 n) key is = let same : V6 n ≡ key = let it : Some (V6 n) ≡ Some key = is in cc in subst (λ k. key_in Ipv6 k ≡ Some k) same refl

-- a table with a key that it can list tracks an address under it
tracks_if : (f : Addr → ℕ) (kind : KeyType) (size : ℕ) (entries : List PlainEntry) (addr key : Addr) → key_in kind addr ≡ Some key → can_track f size entries key ≡ true →
    tracked_key f kind size entries addr ≡ Some key
tracks_if f kind size entries addr key is can = rw (is, can) refl

-- a key that is tracked for an address can be tracked itself
pub key_at-itself : (tracks : List Track) (tables : List TableState) (id : TableId) (addr key : Addr) → key_at tracks tables id addr ≡ Some key → key_at tracks tables id key ≡ Some key
key_at-itself tracks tables id addr key is = by (table_at tables id) refl
  where
    by : (o : Option TableState) → table_at tables id ≡ o → key_at tracks tables id key ≡ Some key
    by None none = absurd (let wrong : None ≡ Some key = rw none at is in cc)
    by (Some table) there =
        let tracked : table_key tracks addr table ≡ Some key = rw there at is in
        let both = tracked_is (trackers tracks table.id) table.table.kind table.table.size table.entries addr key tracked in
        rw there (tracks_if (trackers tracks table.id) table.table.kind table.table.size table.entries key key (key_itself table.table.kind addr key both.0) both.1)

-- Trackers.

abbrev pub AreAlike : List Track → List Track → Type 0
AreAlike a b = (id : TableId) (key : Addr) → trackers a id key ≡ trackers b id key

alike_append : (a b c : List Track) → AreAlike a b → AreAlike (a ++ c) (b ++ c)
alike_append a b c same id key = trackers-append a c id key ∙ ap (λ n. n + trackers c id key) (same id key) ∙ sym (trackers-append b c id key)

with_track-alike : (moment : ℕ) (a b : List Track) (track : Track) (tables : List TableState) → AreAlike a b → with_track moment a track tables ≡ with_track moment b track tables
with_track-alike moment a b track tables same =
    let all : trackers a ≡ trackers b = fun_ext (λ id. fun_ext (same id)) in
    ap (λ (f : TableId → Addr → ℕ). map {A = TableState} {B = TableState} (λ table. if same_id table.id track.table then record table { entries = with_tracking moment (f table.id) table.table.size track.key table.entries } else table) tables) all

-- tables see of what is tracked by how many each key is
pub with_tracks-alike : (moment : ℕ) (a b tracks : List Track) (tables : List TableState) → AreAlike a b → with_tracks moment a tracks tables ≡ with_tracks moment b tracks tables
with_tracks-alike moment a b [] tables same = refl
with_tracks-alike moment a b (track ∷ tracks) tables same =
    ap (with_tracks moment (a ++ track ∷ []) tracks) (with_track-alike moment a b track tables same)
    ∙ with_tracks-alike moment (a ++ track ∷ []) (b ++ track ∷ []) tracks (with_track moment b track tables) (alike_append a b (track ∷ []) same)

-- One more track.

-- what a source could be tracked under besides can be tracked still
pub still_possible : (moment : ℕ) (before after : List Track) (tables : List TableState) (track : Track) (id : TableId) (source key : Addr) → key_at before tables track.table source ≡ Some track.key →
    key_at before tables id source ≡ Some key → AreAlike after (before ++ track ∷ []) → key_at after (with_track moment before track tables) id source ≡ Some key
still_possible moment before after tables track id source key own is alike = by (table_at tables id) refl
  where
    in_other : (table : TableState) → same_id table.id track.table ≡ false → table_key before source table ≡ Some key → table_key after source table ≡ Some key
    in_other table other tracked =
        let same : trackers after table.id ≡ trackers before table.id = fun_ext (alike table.id) ∙ trackers_besides before track table.id other in
        ap (λ (f : Addr → ℕ). tracked_key f table.table.kind table.table.size table.entries source) same ∙ tracked

    in_same : (table : TableState) → table_key before source table ≡ Some key → table_key before source table ≡ Some track.key →
        tracked_key (trackers after table.id) table.table.kind table.table.size (with_tracking moment (trackers before table.id) table.table.size track.key table.entries) source ≡ Some key
    in_same table tracked made =
        let more : List PlainEntry = with_tracking moment (trackers before table.id) table.table.size track.key table.entries in
        let keys : track.key ≡ key = let it : Some track.key ≡ Some key = sym made ∙ tracked in cc in
        let both = tracked_is (trackers before table.id) table.table.kind table.table.size table.entries source key tracked in
        let there : is_in key more ≡ true = ap (λ k. is_in k more) (sym keys) ∙ in-tracked moment (trackers before table.id) table.table.size track.key table.entries in
        tracks_if (trackers after table.id) table.table.kind table.table.size more source key both.0 (rw there refl)

    in_table : (table : TableState) (b : Bool) → table_at tables id ≡ Some table → same_id table.id track.table ≡ b → table_key after source (table_with moment before track table) ≡ Some key
    in_table table false there e = rw e (in_other table e (rw there at is))
    in_table table true there e =
        let ids : track.table ≡ id = sym (same_id-is table.id track.table e) ∙ table_found tables id table there in
        let found : table_at tables track.table ≡ Some table = ap (table_at tables) ids ∙ there in
        rw e (in_same table (rw there at is) (rw found at own))

    by : (o : Option TableState) → table_at tables id ≡ o → key_at after (with_track moment before track tables) id source ≡ Some key
    by None none = absurd (let wrong : None ≡ Some key = rw none at is in cc)
    by (Some table) there =
        let now : table_at (with_track moment before track tables) id ≡ Some (table_with moment before track table) = table_at-map (table_with moment before track) (table_with-entries moment before track) tables id ∙ ap (option_map (table_with moment before track)) there in
        ap (option_and_then (table_key after source)) now ∙ in_table table (same_id table.id track.table) there refl
