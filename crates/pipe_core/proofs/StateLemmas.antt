-- A connection that waits, before and after a piece that decides nothing.
use Rattle.std.proofs.Common.{◌≡◌, ◌≤◌, ℕ, zero, suc, Bool, true, false, List, [], ◌∷◌, ◌++◌, length, Option, Some, None, Ok, refl, max, ◌∙◌, sym, ap, subst, arith, append-nil}
use Rattle.std.specs.Prelude.{slice_get, slice_set, find, filter, flat_map, ◌==◌, if◌then◌else◌}
use Rattle.std.specs.List.{AllByRecursion}
use Rattle.std.specs.Option.{option_map_or}
use Rattle.std.specs.Str.{bytes_eq}
use Rattle.std.proofs.Math.Path.{fun_ext}
use Rattle.std.proofs.lemmas.List.{length-map}
use Rattle.addr_core.specs.declared.addr.Addr.{Addr}
use Rattle.pp_any.specs.declared.rest.Rest.{Rest}
use Rattle.pp_any.specs.Status.{Wait}
use Rattle.pp_any.specs.NextPiece.{rest_on, status_on}
use Rattle.pp_any.proofs.NextPiece.{goes_on}
use Rattle.proxy_types.specs.declared.server.ServerIdentity.{ServerIdentity}
use Rattle.proxy_types.specs.ServerIdentity.{same_server}
use Rattle.plan_types.specs.declared.track.Track.{Track}
use Rattle.conn_model.specs.declared.event.ConnId.{ConnId}
use Rattle.conn_model.specs.declared.event.OwnedEvent.TheVariants.{Piece}
use Rattle.conn_model.specs.declared.reply.Reply.{Reply}
use Rattle.conn_model.specs.declared.reply.Said.TheVariants as saids
use Rattle.conn_model.specs.declared.plain.Phase.{Phase}
use Rattle.conn_model.specs.declared.plain.Phase.TheVariants.{Waiting, Offered, Up}
use Rattle.conn_model.specs.declared.plain.Row.{Row}
use Rattle.conn_model.specs.declared.plain.FrontendRows.{FrontendRows}
use Rattle.conn_model.specs.declared.plain.Plain.{Plain}
use Rattle.conn_model.specs.declared.plain.TableState.{TableState}
use Rattle.conn_model.specs.Counts.{change_row, offered_in, offered_to, open_if, open_in, open_named, served_by, served_in, server_of, total}
use Rattle.conn_model.specs.Servers.{is_down}
use Rattle.conn_model.specs.Rules.{RuleView, view_of}
use Rattle.conn_model.specs.Answer.{answer_in, at_moment, candidate_of, header_reply, reply_of, rest_in, row_in, waiting_row}
use Rattle.conn_model.specs.History.{after, by_counter, entry, phase_on, tracks_at, IsFrontendWell, IsWell}
use Rattle.conn_model.specs.Tables.{open_tracks, tables_alive, tracks_in}
use Rattle.conn_model.proofs.Lists.{all-at, all-more}
use Rattle.conn_model.proofs.Moments.{tables-twice}
use Rattle.conn_model.proofs.Steps.{after-change, row_said}
use Rattle.conn_model.proofs.Well.{after-nil, well_after}
use Rattle.list_core.proofs.PlaceLemmas.{get-set}
use Rattle.conn_model.proofs.Totals.{total-set}
use Rattle.pipe_core.specs.Waiting.{Holds}

-- the answer to a piece of a connection that waits
pub piece_said : (q : Plain) (id : ConnId) (got : List ℕ) (h : Holds q id got) (piece : List ℕ) →
    answer_in q 0 (Piece id piece) ≡ Ok (header_reply (candidate_of (at_moment 0 q) id h.version h.frontend) h.row.real (length piece) (status_on h.rest piece))
piece_said q id got h piece =
    let waits : waiting_row q.frontends id ≡ Ok (h.row, h.rest) = rw (h.row_is, h.waits) refl in
    rw (waits, h.there, h.kept, h.found) refl

-- Lists.

total-same : {X : Type 0} (f : X → ℕ) (xs : List X) (n : ℕ) (x y : X) → slice_get xs n ≡ Some x → f y ≡ f x → total f (slice_set xs n y) ≡ total f xs
total-same f xs n x y there is = let all = total-set f xs n x y there in omega (arith, all, is)

-- The row after the piece.

abbrev pub row_on : List ℕ → Row → Row
row_on piece row = record row { phase = phase_on piece row.phase }

abbrev pub own_on : ConnId → List ℕ → FrontendRows → FrontendRows
own_on id piece own = record own { rows = change_row id.serial (row_on piece) own.rows }

abbrev pub state_on : Plain → ConnId → List ℕ → FrontendRows → Plain
state_on q id piece own = record {
  clock = max q.clock 0;
  listeners = q.listeners;
  frontends = slice_set q.frontends id.frontend (own_on id piece own);
  versions = q.versions;
  tables = (at_moment 0 q).tables;
  down = q.down;
}

find-on : (serial : ℕ) (piece : List ℕ) (rows : List Row) (row : Row) → find (λ row. row.serial == serial) rows ≡ Some row →
    find (λ row. row.serial == serial) (change_row serial (row_on piece) rows) ≡ Some (row_on piece row)
find-on serial piece [] row found = absurd (let wrong : None ≡ Some row = found in cc)
find-on serial piece (x ∷ rows) row found = by (x.serial == serial) refl (find-on serial piece rows row)
  where
    by : (b : Bool) → (x.serial == serial) ≡ b → (find (λ row. row.serial == serial) rows ≡ Some row → find (λ row. row.serial == serial) (change_row serial (row_on piece) rows) ≡ Some (row_on piece row)) →
        find (λ row. row.serial == serial) (change_row serial (row_on piece) (x ∷ rows)) ≡ Some (row_on piece row)
    by true is rest =
        let it : x ≡ row = let e : Some x ≡ Some row = rw is at found in cc in
        rw (is, is) (ap (λ y. Some (row_on piece y)) it)
    by false is rest = rw (is, is) (rest (rw is at found))

rest-on : (piece : List ℕ) (phase : Phase) (rest : Rest) → rest_in phase ≡ Some rest → rest_in (phase_on piece phase) ≡ Some (rest_on rest piece)
rest-on piece (Waiting held) rest is = let it : held ≡ rest = let e : Some held ≡ Some rest = is in cc in ap (λ r. Some (rest_on r piece)) it
rest-on piece (Offered assignment) rest is = absurd (let wrong : None ≡ Some rest = is in cc)
rest-on piece (Up assignment) rest is = absurd (let wrong : None ≡ Some rest = is in cc)

-- Counts after the piece.

server-on : (piece : List ℕ) (phase : Phase) → server_of (phase_on piece phase) ≡ server_of phase
server-on piece (Waiting rest) = refl
server-on piece (Offered assignment) = refl
server-on piece (Up assignment) = refl

-- the rows whose server, or whose lack of one, passes
abbrev passing : (Option ServerIdentity → Bool) → List Row → ℕ
passing test rows = length (filter (λ row. test (server_of row.phase)) rows)

passing-on : (test : Option ServerIdentity → Bool) (piece : List ℕ) (serial : ℕ) (rows : List Row) → passing test (change_row serial (row_on piece) rows) ≡ passing test rows
passing-on test piece serial [] = refl
passing-on test piece serial (row ∷ rows) = by (test (server_of row.phase)) refl (passing-on test piece serial rows)
  where
    now : Row
    now = if row.serial == serial then row_on piece row else row

    same : (b : Bool) → test (server_of (if b then row_on piece row else row).phase) ≡ test (server_of row.phase)
    same true = ap test (server-on piece row.phase)
    same false = refl

    later : List Row
    later = change_row serial (row_on piece) rows

    by : (b : Bool) → test (server_of row.phase) ≡ b → passing test later ≡ passing test rows → passing test (now ∷ later) ≡ passing test (row ∷ rows)
    by true is rest = rw (same (row.serial == serial), is) (ap (λ n. suc n) rest)
    by false is rest = rw (same (row.serial == serial), is) rest

-- Tracks after the piece.

tracks-on : (piece : List ℕ) (serial : ℕ) (rows : List Row) → flat_map (λ (row : Row). row.tracks) (change_row serial (row_on piece) rows) ≡ flat_map (λ (row : Row). row.tracks) rows
tracks-on piece serial [] = refl
tracks-on piece serial (row ∷ rows) = by (row.serial == serial) refl (tracks-on piece serial rows)
  where
    by : (b : Bool) → (row.serial == serial) ≡ b → flat_map (λ (row : Row). row.tracks) (change_row serial (row_on piece) rows) ≡ flat_map (λ (row : Row). row.tracks) rows →
        flat_map (λ (row : Row). row.tracks) (change_row serial (row_on piece) (row ∷ rows)) ≡ flat_map (λ (row : Row). row.tracks) (row ∷ rows)
    by true is rest = rw is (ap (λ ts. row.tracks ++ ts) rest)
    by false is rest = rw is (ap (λ ts. row.tracks ++ ts) rest)

open_tracks-same : (frontends : List FrontendRows) (n : ℕ) (own next : FrontendRows) → slice_get frontends n ≡ Some own → tracks_in next ≡ tracks_in own → open_tracks (slice_set frontends n next) ≡ open_tracks frontends
open_tracks-same [] n own next there is = absurd (cc)
open_tracks-same (f ∷ frontends) zero own next there is =
    let it : f ≡ own = cc in
    ap (λ ts. ts ++ open_tracks frontends) (is ∙ ap tracks_in (sym it))
open_tracks-same (f ∷ frontends) (suc n) own next there is = ap (λ ts. tracks_in f ++ ts) (open_tracks-same frontends n own next there is)

-- rules see the same of the connection
pub view_on : (q : Plain) (id : ConnId) (got : List ℕ) (h : Holds q id got) (piece : List ℕ) (source : Addr) →
    view_of (candidate_of (at_moment 0 (state_on q id piece h.own)) id h.version h.frontend) source ≡ view_of (candidate_of (at_moment 0 q) id h.version h.frontend) source
view_on q id got h piece source = fun_ext by
  where
    own : FrontendRows
    own = h.own

    there : slice_get q.frontends id.frontend ≡ Some own
    there = h.there

    next : FrontendRows
    next = own_on id piece own

    longer : length next.rows ≡ length own.rows
    longer = length-map own.rows (λ row. if row.serial == id.serial then row_on piece row else row)

    open_now : open_in (slice_set q.frontends id.frontend next) id.frontend ≡ open_in q.frontends id.frontend
    open_now =
        ap (λ o. option_map_or (λ f. length f.rows) o 0) (get-set q.frontends id.frontend own next there) ∙ longer
        ∙ ap (λ o. option_map_or (λ f. length f.rows) o 0) (sym there)

    named : (name : List ℕ) → open_named (slice_set q.frontends id.frontend next) name ≡ open_named q.frontends name
    named name = total-same (open_if name) q.frontends id.frontend own next there (ap (λ n. if bytes_eq own.name name then n else 0) longer)

    offered : (name : List ℕ) → offered_to (slice_set q.frontends id.frontend next) name ≡ offered_to q.frontends name
    offered name = total-same (offered_in name) q.frontends id.frontend own next there (passing-on (λ server. option_map_or (λ s. bytes_eq s.backend name) server false) piece id.serial own.rows)

    served : (server : ServerIdentity) → served_by (slice_set q.frontends id.frontend next) server ≡ served_by q.frontends server
    served server = total-same (served_in server) q.frontends id.frontend own next there (passing-on (λ other. option_map_or (same_server server) other false) piece id.serial own.rows)

    tracks : open_tracks (slice_set q.frontends id.frontend next) ≡ open_tracks q.frontends
    tracks = open_tracks-same q.frontends id.frontend own next there (tracks-on piece id.serial own.rows)

    row : find (λ row. row.serial == id.serial) own.rows ≡ Some h.row
    row = ap (row_in id.serial) (sym there) ∙ h.row_is

    tracked : tracks_at (slice_set q.frontends id.frontend next) id ≡ tracks_at q.frontends id
    tracked =
        ap (λ (o : Option FrontendRows). option_map_or (λ (row : Row). row.tracks) (row_in id.serial o) []) (get-set q.frontends id.frontend own next there)
        ∙ ap (λ (o : Option Row). option_map_or (λ (row : Row). row.tracks) o []) (find-on id.serial piece own.rows h.row row)
        ∙ ap (λ (o : Option Row). option_map_or (λ (row : Row). row.tracks) o []) (sym h.row_is)

    tables : tables_alive (max (max q.clock 0) 0) (open_tracks (slice_set q.frontends id.frontend next)) (at_moment 0 q).tables ≡ (at_moment 0 q).tables
    tables =
        let now : max (max q.clock 0) 0 ≡ max q.clock 0 = omega arith in
        let itself : max q.clock 0 ≤ max q.clock 0 = omega arith in
        ap (λ n. tables_alive n (open_tracks (slice_set q.frontends id.frontend next)) (at_moment 0 q).tables) now
        ∙ ap (λ ts. tables_alive (max q.clock 0) ts (at_moment 0 q).tables) tracks ∙ tables-twice (max q.clock 0) (max q.clock 0) (open_tracks q.frontends) q.tables itself

    seen : List TableState → List Track → List Track → ℕ → (List ℕ → ℕ) → (List ℕ → ℕ) → (ServerIdentity → ℕ) → List Track → RuleView
    seen those all own count named offered served made = record {
      source = source;
      version = h.version;
      frontend = h.frontend;
      tables = those;
      tracks = all;
      own = own;
      made = made;
      connections = count;
      named = named;
      offered = offered;
      served = served;
      barred = is_down q.down;
    }

    by : (made : List Track) → view_of (candidate_of (at_moment 0 (state_on q id piece own)) id h.version h.frontend) source made ≡ view_of (candidate_of (at_moment 0 q) id h.version h.frontend) source made
    by made =
        let now : List FrontendRows = slice_set q.frontends id.frontend next in
        let before : List FrontendRows = q.frontends in
        ap (λ us. seen us (open_tracks now) (tracks_at now id) (open_in now id.frontend) (open_named now) (offered_to now) (served_by now) made) tables
        ∙ ap (λ ts. seen (at_moment 0 q).tables ts (tracks_at now id) (open_in now id.frontend) (open_named now) (offered_to now) (served_by now) made) tracks
        ∙ ap (λ ts. seen (at_moment 0 q).tables (open_tracks before) ts (open_in now id.frontend) (open_named now) (offered_to now) (served_by now) made) tracked
        ∙ ap (λ n. seen (at_moment 0 q).tables (open_tracks before) (tracks_at before id) n (open_named now) (offered_to now) (served_by now) made) open_now
        ∙ ap (λ f. seen (at_moment 0 q).tables (open_tracks before) (tracks_at before id) (open_in before id.frontend) f (offered_to now) (served_by now) made) (fun_ext named)
        ∙ ap (λ f. seen (at_moment 0 q).tables (open_tracks before) (tracks_at before id) (open_in before id.frontend) (open_named before) f (served_by now) made) (fun_ext offered)
        ∙ ap (λ f. seen (at_moment 0 q).tables (open_tracks before) (tracks_at before id) (open_in before id.frontend) (open_named before) (offered_to before) f made) (fun_ext served)

-- The state after the piece.

change_row-same : (serial : ℕ) (f g : Row → Row) (rows : List Row) → AllByRecursion (λ row. f row ≡ g row) rows → change_row serial f rows ≡ change_row serial g rows
change_row-same serial f g [] same = refl
change_row-same serial f g (row ∷ rows) same =
    ap (λ r. (if row.serial == serial then r else row) ∷ change_row serial f rows) same.0
    ∙ ap (λ rs. (if row.serial == serial then g row else row) ∷ rs) (change_row-same serial f g rows same.1)

pub after_is : (q : Plain) (id : ConnId) (got : List ℕ) (h : Holds q id got) (piece : List ℕ) (count : ℕ) → after q (entry 0 (Piece id piece) (reply_of (saids.Wait id count)) ∷ []) ≡ state_on q id piece h.own
after_is q id got h piece count =
    after-change q h.well (entry 0 (Piece id piece) reply) id h.own h.there tt refl refl
    ∙ ap (λ rows. record (state_on q id piece h.own) { frontends = slice_set q.frontends id.frontend (record h.own { rows = rows }) }) (change_row-same id.serial (row_said q (Piece id piece) reply) (row_on piece) h.own.rows same)
  where
    reply : Reply
    reply = reply_of (saids.Wait id count)

    sorted : AllByRecursion (λ row. by_counter row.tracks ≡ row.tracks) h.own.rows
    sorted = (all-at (IsFrontendWell q.versions) q.frontends id.frontend h.own h.well.frontends h.there).sorted

    same : AllByRecursion (λ row. row_said q (Piece id piece) reply row ≡ row_on piece row) h.own.rows
    same = all-more (λ row. by_counter row.tracks ≡ row.tracks) (λ row. row_said q (Piece id piece) reply row ≡ row_on piece row) h.own.rows
        (λ row is. ap (λ ts. record (row_on piece row) { tracks = ts }) (ap by_counter (append-nil row.tracks) ∙ is)) sorted

pub holds_on : (q : Plain) (id : ConnId) (got : List ℕ) (h : Holds q id got) (piece : List ℕ) → status_on h.rest piece ≡ Wait → Holds (state_on q id piece h.own) id (got ++ piece)
holds_on q id got h piece status = record {
  row = row_on piece h.row;
  rest = rest_on h.rest piece;
  own = own_on id piece h.own;
  version = h.version;
  frontend = h.frontend;
  row_is = ap (row_in id.serial) now_there ∙ find-on id.serial piece h.own.rows h.row row;
  waits = rest-on piece h.row.phase h.rest h.waits;
  there = now_there;
  kept = h.kept;
  found = h.found;
  is_rest = (goes_on got piece h.rest h.is_rest).holds status;
  well = well_now;
}
  where
    now_there : slice_get (slice_set q.frontends id.frontend (own_on id piece h.own)) id.frontend ≡ Some (own_on id piece h.own)
    now_there = get-set q.frontends id.frontend h.own (own_on id piece h.own) h.there

    row : find (λ row. row.serial == id.serial) h.own.rows ≡ Some h.row
    row = ap (row_in id.serial) (sym h.there) ∙ h.row_is

    answered : answer_in q 0 (Piece id piece) ≡ Ok (reply_of (saids.Wait id (length piece)))
    answered = piece_said q id got h piece ∙ ap (λ s. Ok (header_reply (candidate_of (at_moment 0 q) id h.version h.frontend) h.row.real (length piece) s)) status

    well_now : IsWell (state_on q id piece h.own)
    well_now =
        subst IsWell (after_is q id got h piece (length piece))
        (well_after q h.well (entry 0 (Piece id piece) (reply_of (saids.Wait id (length piece))) ∷ []) (tt, subst (λ s. answer_in s 0 (Piece id piece) ≡ Ok (reply_of (saids.Wait id (length piece)))) (sym (after-nil q h.well)) answered))

-- the answer to the piece after it
pub next_said : (q : Plain) (id : ConnId) (got : List ℕ) (h : Holds q id got) (piece more : List ℕ) → status_on h.rest piece ≡ Wait →
    answer_in (state_on q id piece h.own) 0 (Piece id more)
    ≡ Ok (header_reply (candidate_of (at_moment 0 (state_on q id piece h.own)) id h.version h.frontend) h.row.real (length more) (status_on (rest_on h.rest piece) more))
unfolding holds_on
next_said q id got h piece more status = piece_said (state_on q id piece h.own) id (got ++ piece) (holds_on q id got h piece status) more
