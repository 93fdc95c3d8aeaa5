-- What an answer tracks: keys of one source, in tables of the version that judges the connection.
use Rattle.std.specs.Prelude.{ℕ, zero, suc, Bool, true, false, List, [], length, slice_get, slice_set, flat_map, Option, Some, None, option_and_then, Ok, refl, ◌+◌, ◌≡◌, ◌∷◌, ◌++◌, nat_le}
use Rattle.std.specs.List.{AllByRecursion, list_any}
use Rattle.std.specs.Option.{option_map_or}
use Rattle.std.proofs.Common.{sym, ap, ◌∙◌, subst, append-nil}
use Rattle.std.proofs.lemmas.List.Concat.{flat_map-append}
use Rattle.addr_core.specs.declared.addr.Addr.{Addr}
use Rattle.addr_core.specs.declared.addr.Addr.TheVariants.{V4}
use Rattle.addr_core.specs.PairValue.{PairValue}
use Rattle.pp_any.specs.Status as statuses
use Rattle.pp_any.specs.Status.{Status}
use Rattle.pp_any.specs.NextPiece.{status_on}
use Rattle.plan_types.specs.declared.plan.Frontend.{Frontend}
use Rattle.plan_types.specs.declared.track.TableId.{TableId}
use Rattle.plan_types.specs.declared.track.Track.{Track}
use Rattle.rule_engine.specs.Meaning.{present}
use Rattle.rule_engine.specs.Judging.{TrackSlots, no_tracks}
use Rattle.rule_engine.proofs.SlotLemmas.{judged-slots, none_made, AreSlots, Makes}
use Rattle.conn_model.specs.declared.event.ConnId.{ConnId}
use Rattle.conn_model.specs.declared.event.OwnedEvent.{OwnedEvent}
use Rattle.conn_model.specs.declared.event.OwnedEvent.TheVariants.{Accept, Piece, Connected, ConnectFailed, Close, Expire, Reload, Mark}
use Rattle.conn_model.specs.declared.reply.Said.{Said}
use Rattle.conn_model.specs.declared.reply.Said.TheVariants as saids
use Rattle.conn_model.specs.declared.reply.Said.TheVariants.{Closed}
use Rattle.conn_model.specs.declared.reply.Reply.{Reply}
use Rattle.conn_model.specs.declared.reply.StepFault.TheVariants.{NoSuch}
use Rattle.conn_model.specs.declared.plain.FrontendRows.{FrontendRows}
use Rattle.conn_model.specs.declared.plain.TableState.{TableState}
use Rattle.conn_model.specs.declared.plain.Version.{Version}
use Rattle.conn_model.specs.declared.plain.Plain.{Plain}
use Rattle.conn_model.specs.Words.{or_fault}
use Rattle.conn_model.specs.Tables.{open_tracks, same_id, table_at, tracks_in}
use Rattle.conn_model.specs.Rules.{key_in_table, rejection, scene_of, view_of, Candidate, RuleView}
use Rattle.conn_model.specs.Answer.{admission, answer_now, candidate_at, candidate_of, close_answer, decision, demands_header, entry_reply, entry_rules, header_reply, judged_pair, new_row, reply_of, row_at}
use Rattle.conn_model.specs.History.{newest_number, tables_of, IsWell}
pub use Rattle.conn_model.proofs.Lists.{any-at}
use Rattle.conn_model.proofs.Versions.{newest-at}
use Rattle.conn_model.proofs.Replies.{accepted, bind-ok, expired, followed, received, server_answered, Accepted, Received, has_failed, reported}
use Rattle.conn_model.proofs.OneTable.{key_for, same_id-refl, table_found}

-- the track is of a key of the source that could be listed, in one of those tables
pub record IsOfSource (tracks : List Track) (tables : List TableState) (ids : List TableId) (source : Addr) (track : Track) : Type 0 where
  pub table : TableState
  pub there : table_at tables track.table ≡ Some table
  pub key : key_for tracks source table ≡ Some track.key
  pub among : list_any (same_id track.table) ids ≡ true

-- Rules.

abbrev OfSource : Candidate → Addr → ℕ → Track → Type 0
OfSource candidate source counter track = IsOfSource (open_tracks candidate.state.frontends) candidate.state.tables candidate.version.tables source track

-- a candidate's rules track such keys alone
rules_make : (candidate : Candidate) (source : Addr) → Makes (scene_of (view_of candidate source)) (OfSource candidate source)
rules_make candidate source counter number made table key below free there = keyed (slice_get candidate.version.tables number) refl
  where
    view : RuleView
    view = view_of candidate source made

    in_table : (t : TableState) (o : Option Addr) → key_for view.tracks source t ≡ o → key_in_table view t ≡ Some (table, key) → (t.id ≡ table) × (key_for view.tracks source t ≡ Some key)
    in_table t None is made_is = absurd (let wrong : None ≡ Some (table, key) = rw is at made_is in cc)
    in_table t (Some k) is made_is =
        let a : TableId × Addr = (t.id, k) in
        let b : TableId × Addr = (table, key) in
        let same : a ≡ b = let pair : Some a ≡ Some b = rw is at made_is in cc in
        (ap (λ p. p.0) same, is ∙ ap (λ p. Some p.1) same)

    found : (id : TableId) → slice_get candidate.version.tables number ≡ Some id → (o : Option TableState) → table_at view.tables id ≡ o → option_and_then (key_in_table view) o ≡ Some (table, key) →
        OfSource candidate source counter (record { counter = counter; table = table; key = key })
    found id at None is there = absurd (let wrong : None ≡ Some (table, key) = there in cc)
    found id at (Some t) is there =
        let both = in_table t (key_for view.tracks source t) refl there in
        let own : id ≡ table = sym (table_found view.tables id t is) ∙ both.0 in
        record {
          table = t;
          there = subst (λ i. table_at candidate.state.tables i ≡ Some t) own is;
          key = both.1;
          among = any-at (same_id table) candidate.version.tables number id at (subst (λ i. same_id table i ≡ true) (sym own) (same_id-refl table));
        }

    keyed : (o : Option TableId) → slice_get candidate.version.tables number ≡ o → OfSource candidate source counter (record { counter = counter; table = table; key = key })
    keyed None at = absurd (let wrong : None ≡ Some (table, key) = rw at at there in cc)
    keyed (Some id) at = found id at (table_at view.tables id) refl (rw at at there)

-- what the slots hold
present-all : (P : Track → Type 0) (slots : TrackSlots) → ((n : ℕ) (made : Track) → slice_get slots n ≡ Some (Some made) → P made) → AllByRecursion P (present slots)
present-all P [] each = tt
present-all P (None ∷ slots) each = present-all P slots (λ n made there. each (suc n) made there)
present-all P (Some track ∷ slots) each = (each 0 track refl, present-all P slots (λ n made there. each (suc n) made there))

abbrev AreMade : Candidate → Addr → List Track → Type 0
AreMade candidate source tracks = AllByRecursion (IsOfSource (open_tracks candidate.state.frontends) candidate.state.tables candidate.version.tables source) tracks

slots_made : (candidate : Candidate) (source : Addr) (slots : TrackSlots) → AreSlots (OfSource candidate source) slots → AreMade candidate source (present slots)
slots_made candidate source slots known = present-all (OfSource candidate source 0) slots known.each

decision_made : (candidate : Candidate) (used : ℕ) (judged : PairValue) (made : TrackSlots) → AreSlots (OfSource candidate judged.source.addr) made →
    AreMade candidate judged.source.addr (decision candidate used judged made).tracks.items
decision_made candidate used judged made known =
    slots_made candidate judged.source.addr _
    (judged-slots (scene_of (view_of candidate judged.source.addr)) (OfSource candidate judged.source.addr) (rules_make candidate judged.source.addr) made candidate.frontend.session_rules known)

entry_made : (candidate : Candidate) (accept_proxy : Bool) (real : PairValue) (made : TrackSlots) (line : Option ℕ) → AreSlots (OfSource candidate real.source.addr) made →
    AreMade candidate real.source.addr (entry_reply candidate accept_proxy real made line).tracks.items
entry_made candidate accept_proxy real made (Some line) known = slots_made candidate real.source.addr made known
entry_made candidate true real made None known = slots_made candidate real.source.addr made known
entry_made candidate false real made None known = decision_made candidate 0 real made known

admission_made : (candidate : Candidate) (accept_proxy : Bool) (real : PairValue) (others : ℕ) → AreMade candidate real.source.addr (admission candidate accept_proxy real others).tracks.items
admission_made candidate accept_proxy real others = by (nat_le candidate.frontend.limit others) refl
  where
    by : (b : Bool) → nat_le candidate.frontend.limit others ≡ b → AreMade candidate real.source.addr (admission candidate accept_proxy real others).tracks.items
    by true e = rw e tt
    by false e = rw e (entry_made candidate (demands_header candidate accept_proxy real) real (entry_rules candidate real).tracks (rejection (entry_rules candidate real))
        (judged-slots (scene_of (view_of candidate real.source.addr)) (OfSource candidate real.source.addr) (rules_make candidate real.source.addr) no_tracks candidate.frontend.connection_rules
        (none_made (OfSource candidate real.source.addr))))

header_made : (candidate : Candidate) (real : PairValue) (count : ℕ) (status : Status) → (source : Addr) × AreMade candidate source (header_reply candidate real count status).tracks.items
header_made candidate real count statuses.Wait = (real.source.addr, tt)
header_made candidate real count (statuses.Fault fault used) = (real.source.addr, tt)
header_made candidate real count (statuses.Whole used meaning) =
    let judged : PairValue = judged_pair real meaning in
    (judged.source.addr, decision_made candidate used judged no_tracks (none_made (OfSource candidate judged.source.addr)))

-- A connection that comes in tracks nothing yet.

flat_map-set : {X Y : Type 0} (f : X → List Y) (xs : List X) (n : ℕ) (x new' : X) → slice_get xs n ≡ Some x → f new' ≡ f x → flat_map f (slice_set xs n new') ≡ flat_map f xs
flat_map-set f [] n x new' there same = refl
flat_map-set f (y ∷ xs) zero x new' there same = let it : y ≡ x = cc in ap (λ zs. zs ++ flat_map f xs) (same ∙ ap f (sym it))
flat_map-set f (y ∷ xs) (suc n) x new' there same = ap (λ zs. f y ++ zs) (flat_map-set f xs n x new' there same)

tracks_with : (q : Plain) (clock number : ℕ) (real : PairValue) (own : FrontendRows) (version : Version) (frontend : Frontend) → slice_get q.frontends number ≡ Some own →
    open_tracks (candidate_at q clock number real own version frontend).state.frontends ≡ open_tracks q.frontends
tracks_with q clock number real own version frontend there =
    flat_map-set tracks_in q.frontends number own _ there
    (flat_map-append (λ row. row.tracks) own.rows (new_row (own.serial + 1) version.number real clock ∷ []) ∙ append-nil (flat_map (λ row. row.tracks) own.rows))

-- Answers.

-- the number of the version by which an event is judged
abbrev pub judging : Plain → OwnedEvent → ℕ
judging q (Piece id bytes) = option_map_or (λ row. row.version) (row_at q.frontends id) 0
judging q (Connected id) = option_map_or (λ row. row.version) (row_at q.frontends id) 0
judging q (ConnectFailed id) = option_map_or (λ row. row.version) (row_at q.frontends id) 0
judging q (Close id why) = option_map_or (λ row. row.version) (row_at q.frontends id) 0
judging q (Expire id) = option_map_or (λ row. row.version) (row_at q.frontends id) 0
judging q event = newest_number q

-- all that a reply tracks is of one source
abbrev pub HasSource : Plain → ℕ → Reply → Type 0
HasSource q number reply = (source : Addr) × AllByRecursion (IsOfSource (open_tracks q.frontends) q.tables (tables_of q.versions number) source) reply.tracks.items

accepted_source : (q : Plain) → IsWell q → (clock listener : ℕ) (real : PairValue) (reply : Reply) → Accepted q clock listener real reply → HasSource q (newest_number q) reply
accepted_source q well clock listener real reply got =
    let candidate : Candidate = candidate_at q clock got.at.frontend real got.own got.version got.frontend in
    let number : newest_number q ≡ got.version.number = ap (λ o. option_map_or (λ version. version.number) o 0) got.newest_is in
    let ids : tables_of q.versions (newest_number q) ≡ got.version.tables =
    ap (tables_of q.versions) number ∙ ap (λ o. option_map_or (λ version. version.tables) o []) (newest-at q.versions got.version well.rise got.newest_is) in
    let tracks : open_tracks candidate.state.frontends ≡ open_tracks q.frontends = tracks_with q clock got.at.frontend real got.own got.version got.frontend got.there in
    let made : AreMade candidate real.source.addr reply.tracks.items = subst (λ r. AreMade candidate real.source.addr r.tracks.items) got.reply_is
    (admission_made candidate got.at.accept_proxy real (length got.own.rows)) in (
      real.source.addr,
      subst (λ is. AllByRecursion (IsOfSource (open_tracks q.frontends) q.tables is real.source.addr) reply.tracks.items) (sym ids)
          (subst (λ ts. AllByRecursion (IsOfSource ts q.tables got.version.tables real.source.addr) reply.tracks.items) tracks made),
    )

received_source : (q : Plain) (id : ConnId) (piece : List ℕ) (reply : Reply) → Received q id piece reply → HasSource q (judging q (Piece id piece)) reply
received_source q id piece reply got =
    let candidate : Candidate = candidate_of q id got.version got.frontend in
    let number : judging q (Piece id piece) ≡ got.row.version = ap (λ o. option_map_or (λ row. row.version) o 0) got.row_is in
    let ids : tables_of q.versions (judging q (Piece id piece)) ≡ got.version.tables =
    ap (tables_of q.versions) number ∙ ap (λ o. option_map_or (λ version. version.tables) o []) got.kept in
    let said = header_made candidate got.row.real (length piece) (status_on got.rest piece) in
    let made : AreMade candidate said.0 reply.tracks.items = subst (λ r. AreMade candidate said.0 r.tracks.items) got.reply_is said.1 in
    (said.0, subst (λ is. AllByRecursion (IsOfSource (open_tracks q.frontends) q.tables is said.0) reply.tracks.items) (sym ids) made)

-- where nothing is tracked
no_source : (q : Plain) (number : ℕ) (said : Said) (reply : Reply) → reply_of said ≡ reply → HasSource q number reply
no_source q number said reply same = subst (HasSource q number) same (V4 0, tt)

closed_source : (q : Plain) (id : ConnId) (number : ℕ) (said : Said) (reply : Reply) → close_answer q id said ≡ Ok reply → HasSource q number reply
closed_source q id number said reply is =
    let one = bind-ok (or_fault NoSuch (row_at q.frontends id)) _ reply is in
    no_source q number said reply (let it : Ok (reply_of said) ≡ Ok reply = one.2 in cc)

pub has_source : (q : Plain) → IsWell q → (event : OwnedEvent) (reply : Reply) → answer_now q event ≡ Ok reply → HasSource q (judging q event) reply
has_source q well (Accept listener real) reply is = accepted_source q well q.clock listener real reply (accepted q q.clock listener real reply is)
has_source q well (Piece id bytes) reply is = received_source q id bytes reply (received q id bytes reply is)
has_source q well (Connected id) reply is = no_source q (judging q (Connected id)) (saids.Up id) reply (server_answered q id (saids.Up id) reply is).reply_is
has_source q well (ConnectFailed id) reply is = no_source q (judging q (ConnectFailed id)) _ reply (has_failed q id reply is).reply_is
has_source q well (Close id why) reply is = closed_source q id (judging q (Close id why)) (Closed id why) reply is
has_source q well (Expire id) reply is = let got = expired q q.clock id reply is in no_source q (judging q (Expire id)) _ reply got.reply_is
has_source q well (Reload text) reply is = no_source q (judging q (Reload text)) _ reply (followed q text reply is).reply_is
has_source q well (Mark backend n health) reply is = no_source q (judging q (Mark backend n health)) _ reply (reported q backend n health reply is).reply_is
