-- An event on a part has one answer in two states that agree on it.
use Rattle.std.specs.Prelude.{ℕ, Bool, true, false, List, [], length, find, position, is_some, slice_get, slice_set, Option, Some, None, option_map, IfSome, IsSome, Result, Ok, Err, refl, ◌+◌, ◌≤◌, ◌≡◌, ◌≢◌, ◌==◌, ◌&&◌, ◌||◌, ◌∷◌, ◌++◌, nat_le, nat_lt, if◌then◌else◌}
use Rattle.std.specs.List.{list_any, AllByRecursion}
use Rattle.std.specs.Option.{option_and_then, option_map_or}
use Rattle.std.proofs.Common.{sym, ap, subst, inl, inr, ◌∙◌, arith}
use Rattle.std.proofs.lemmas.Bool.{false≢true, eqb-true}
use Rattle.std.proofs.lemmas.Bool.Decides.{nat_tests}
use Rattle.list_core.specs.Each.{◌>>=◌}
use Rattle.addr_core.specs.PairValue.{PairValue}
use Rattle.proxy_types.specs.declared.balance.Place.{Place}
use Rattle.proxy_types.specs.declared.server.ServerIdentity.{ServerIdentity}
use Rattle.proxy_types.specs.ServerIdentity.{same_server}
use Rattle.pp_any.specs.declared.rest.Rest.{Rest}
use Rattle.pp_any.specs.NextPiece.{status_on}
use Rattle.plan_types.specs.Lines.{has_line}
use Rattle.plan_types.specs.Moves.{moves_of}
use Rattle.plan_types.specs.declared.plan.Backend.{Backend}
use Rattle.plan_types.specs.declared.plan.Frontend.{Frontend}
use Rattle.plan_types.specs.declared.plan.Plan.{Plan}
use Rattle.plan_types.specs.declared.plan.Server.{Server}
use Rattle.plan_types.specs.declared.track.TableId.{TableId}
use Rattle.plan_core.specs.Binds.{same_binds}
use Rattle.config_core.specs.Meaning.{meaning}
use Rattle.config_core.specs.declared.fault.OpenFault.{OpenFault}
use Rattle.conn_model.specs.declared.event.ConnId.{ConnId}
use Rattle.conn_model.specs.declared.event.Health.{Health}
use Rattle.conn_model.specs.declared.event.OwnedEvent.{OwnedEvent}
use Rattle.conn_model.specs.declared.event.OwnedEvent.TheVariants.{Accept, Piece, Connected, ConnectFailed, Close, Expire, Reload, Mark}
use Rattle.conn_model.specs.declared.event.TheConstants.{HEADER_WAIT}
use Rattle.conn_model.specs.declared.plain.Assignment.{Assignment}
use Rattle.conn_model.specs.declared.plain.FrontendRows.{FrontendRows}
use Rattle.conn_model.specs.declared.plain.Listener.{Listener}
use Rattle.conn_model.specs.declared.plain.Phase.{Phase}
use Rattle.conn_model.specs.declared.plain.Phase.TheVariants.{Offered}
use Rattle.conn_model.specs.declared.plain.Plain.{Plain}
use Rattle.conn_model.specs.declared.plain.Row.{Row}
use Rattle.conn_model.specs.declared.plain.TableState.{TableState}
use Rattle.conn_model.specs.declared.plain.Version.{Version}
use Rattle.conn_model.specs.declared.reply.Cause.TheVariants.{Expired}
use Rattle.conn_model.specs.declared.reply.Reply.{Reply}
use Rattle.conn_model.specs.declared.reply.Said.TheVariants as saids
use Rattle.conn_model.specs.declared.reply.Said.TheVariants.{Closed, Marked, Refuse, Reloaded}
use Rattle.conn_model.specs.declared.reply.StepFault.{StepFault}
use Rattle.conn_model.specs.declared.reply.StepFault.TheVariants.{NoListener, NoSuch, NotChecked, NotWaiting, NotOffered, NotDue, BindChanged, Exhausted}
use Rattle.conn_model.specs.Words.{newest, or_fault, row_at, row_in}
use Rattle.conn_model.specs.Answer.{accept_answer, admission, answer_now, awaits_server, backend_at, barred_for, candidate_at, candidate_of, checked_server, expire_answer, failure_answer, failure_said, frontend_in, header_reply, new_row, numbered_server, offer_in, other_in, other_server, piece_answer, reload_answer, reply_of, rest_in, version_at, waiting_row, with_row, NumberedServer}
use Rattle.conn_model.specs.Counts.{newest_backend, served_by, server_of}
use Rattle.conn_model.specs.Servers.{identity_in}
use Rattle.conn_model.specs.History.{mark_of, newest_number, IsWell}
use Rattle.conn_model.specs.Tables.{tracks_at, written_tables}
use Rattle.conn_model.proofs.Lists.{all-append, all-found, all-more, found_there}
use Rattle.conn_model.proofs.Goes.{newest_of, well_at}
use Rattle.conn_model.proofs.Offers.{offer-phase}
use Rattle.conn_model.proofs.Replies.{waiting}
use Rattle.conn_model.proofs.Versions.{newest-at}
use Rattle.tenant_laws.specs.Parts.{keeps_apart, keeps_frontend, keeps_lines, owns_backend_at, owns_table, Part}
use Rattle.tenant_laws.specs.Agreement.{is_own_id, owns_id, IsAlike, IsApart, IsInside, IsOfLine, IsOutside, IsSound, IsWritten, LookAlike}
use Rattle.tenant_laws.specs.Runs.{frontend_of}
use Rattle.tenant_laws.proofs.Lists.{contrary, find-any, find-passes_all, nothing, slice_get-other, slice_get-set, some_same}
use Rattle.tenant_laws.proofs.Counts.{backends-same, named-same, own-is, servers-same, text_same, tracks-same, AreApart}
use Rattle.tenant_laws.proofs.Views.{pick-alike, SeatsAlike}
use Rattle.tenant_laws.proofs.Judging.{admission-same, header-same, keeps-parts, Keeps}
use Rattle.tenant_laws.proofs.Sides.{line-found, IsPhaseOn}

pub apart-of : (part : Part) (p : Plain) → IsApart part p → AreApart part p.tables p.frontends
apart-of part p apart = record { named = apart.named; outside = apart.outside }

-- a frontend of the part once its rows changed
pub set-apart : (part : Part) (tables : List TableState) (frontends : List FrontendRows) (n : ℕ) (own own' : FrontendRows) → part.frontends n ≡ true → slice_get frontends n ≡ Some own →
    own'.name ≡ own.name → AreApart part tables frontends → AreApart part tables (slice_set frontends n own')
set-apart part tables frontends n own own' in' there name apart = record {
  named = λ k. named k (k == n) refl;
  outside = λ k row out at. apart.outside k row out (sym (slice_get-other frontends n k own' (other k out)) ∙ at);
}
  where
    other : (k : ℕ) → part.frontends k ≡ false → k ≢ n
    other k out same = contrary (part.frontends n) in' (ap part.frontends (sym same) ∙ out)

    named : (k : ℕ) (b : Bool) → (k == n) ≡ b → IfSome (slice_get (slice_set frontends n own') k) (λ own. part.frontends k ≡ part.frontend_names own.name)
    named k true e =
        let same : n ≡ k = grind (arith, nat_tests) in
        let before : part.frontends n ≡ part.frontend_names own.name = rw there at (apart.named n) in
        let now : slice_get (slice_set frontends n own') n ≡ Some own' = slice_get-set frontends n own' ∙ ap (option_map (λ y. own')) there in
        subst (λ (k : ℕ). IfSome (slice_get (slice_set frontends n own') k) (λ own. part.frontends k ≡ part.frontend_names own.name)) same
        (rw now (before ∙ ap part.frontend_names (sym name)))
    named k false e =
        let differs : k ≢ n = λ (same : k ≡ n). contrary (k == n) (grind (arith, nat_tests)) e in
        subst (λ (o : Option FrontendRows). IfSome o (λ own. part.frontends k ≡ part.frontend_names own.name)) (sym (slice_get-other frontends n k own' differs)) (apart.named k)

-- a frontend that is found in a plan that keeps the part apart
pub keeps-found : (part : Part) (plan : Plan) (name : List ℕ) (f : Frontend) → keeps_apart part plan ≡ true → frontend_in plan name ≡ Some f → (keeps_frontend part plan f ≡ true) × (f.name ≡ name)
keeps-found part plan name f keeps there =
    let found = find-passes_all (keeps_frontend part plan) _ plan.frontends f keeps there in
    (found.0, text_same f.name name found.1)

-- and is of the part, or is not
pub keeps-side : (part : Part) (side : Bool) (p : Plain) (n : ℕ) (own : FrontendRows) (plan : Plan) (f : Frontend) → IsApart part p → part.frontends n ≡ side → slice_get p.frontends n ≡ Some own →
    keeps_apart part plan ≡ true → frontend_in plan own.name ≡ Some f → Keeps part side plan f
keeps-side part side p n own plan f apart on there keeps found =
    let got = keeps-found part plan own.name f keeps found in
    let named : part.frontends n ≡ part.frontend_names own.name = rw there at (apart.named n) in
    let side_is : part.frontend_names f.name ≡ side = ap part.frontend_names got.1 ∙ sym named ∙ on in
    keeps-parts part side plan f (ap (λ b. keeps_lines part b plan f) (sym side_is) ∙ got.0)

-- the newest version, under its number
pub newest-there : (p : Plain) → IsWell p → (v : Version) → newest p.versions ≡ Some v → (newest_number p ≡ v.number) × (version_at p.versions (newest_number p) ≡ Some v)
newest-there p well v last =
    let number : newest_number p ≡ v.number = ap (λ o. option_map_or (λ (version : Version). version.number) o 0) last in
    (number, ap (version_at p.versions) number ∙ newest-at p.versions v well.rise last)

-- an open connection is one of its frontend's
pub row-own : (frontends : List FrontendRows) (id : ConnId) (row : Row) → row_at frontends id ≡ Some row →
    (own : FrontendRows) × (slice_get frontends id.frontend ≡ Some own) × (find (λ r. r.serial == id.serial) own.rows ≡ Some row)
row-own frontends id row there = by (slice_get frontends id.frontend) refl
  where
    by : (o : Option FrontendRows) → slice_get frontends id.frontend ≡ o → (own : FrontendRows) × (slice_get frontends id.frontend ≡ Some own) × (find (λ r. r.serial == id.serial) own.rows ≡ Some row)
    by None e = nothing (rw e at there)
    by (Some own) e = (own, e, rw e at there)

-- its version is kept
pub row-version : (p : Plain) → IsWell p → (id : ConnId) (row : Row) → row_at p.frontends id ≡ Some row → (v : Version) × (version_at p.versions row.version ≡ Some v)
row-version p well id row there =
    let found = row-own p.frontends id row there in
    let own : FrontendRows = found.0 in
    by (version_at p.versions row.version) refl (all-found (λ (r : Row). IsSome (version_at p.versions r.version)) (λ r. r.serial == id.serial) own.rows row (well_at p well id.frontend own found.1).kept found.2).0
  where
    by : (o : Option Version) → version_at p.versions row.version ≡ o → IsSome (version_at p.versions row.version) → (v : Version) × (version_at p.versions row.version ≡ Some v)
    by None e is = absurd (false≢true (rw e at is))
    by (Some v) e is = (v, e)

-- A connection that awaits the server that it was offered.

-- that is one of a backend on the connection's side
given-named : (part : Part) (side : Bool) (p : Plain) → IsApart part p → (id : ConnId) (row : Row) (given : Assignment) → part.frontends id.frontend ≡ side → row_at p.frontends id ≡ Some row →
    offer_in row.phase ≡ Some given → part.backend_names given.server.backend ≡ side
given-named part side p apart id row given on there offered =
    let got = row-own p.frontends id row there in
    ap (λ (phase : Phase). option_map_or (λ (server : ServerIdentity). part.backend_names server.backend) (server_of phase) side) (sym (offer-phase row.phase given offered)) ∙ by side got.0 on got.1 got.2
  where
    by : (side : Bool) (own : FrontendRows) → part.frontends id.frontend ≡ side → slice_get p.frontends id.frontend ≡ Some own → find (λ r. r.serial == id.serial) own.rows ≡ Some row → IsPhaseOn part side row.phase
    by true own on at found = (all-found (IsInside part p.versions) (λ r. r.serial == id.serial) own.rows row (apart.inside id.frontend own on at) found).0.offered
    by false own on at found = (all-found (IsOutside part p.tables) (λ r. r.serial == id.serial) own.rows row (apart.outside id.frontend own on at) found).0.offered

-- and so is the backend that has its line
pub given-backend : (part : Part) (side : Bool) (p : Plain) → IsSound p → IsApart part p → (id : ConnId) (row : Row) (given : Assignment) → part.frontends id.frontend ≡ side → row_at p.frontends id ≡ Some row →
    offer_in row.phase ≡ Some given → (v : Version) → version_at p.versions row.version ≡ Some v → (number : ℕ) (backend : Backend) → position (has_line given.line) v.plan.backends ≡ Some number →
    slice_get v.plan.backends number ≡ Some backend → part.backend_names backend.name ≡ side
given-backend part side p sound apart id row given on there offered v kept number backend first among =
    let got = row-own p.frontends id row there in
    let own : FrontendRows = got.0 in
    let lined : IsOfLine p.versions row.version row.phase =
    (all-found (λ (r : Row). IsOfLine p.versions r.version r.phase) (λ r. r.serial == id.serial) own.rows row (sound.offers id.frontend own got.1) got.2).0 in
    let phase : row.phase ≡ Offered given = offer-phase row.phase given offered in
    let of_line : IsOfLine p.versions row.version (Offered given) = subst (IsOfLine p.versions row.version) phase lined in
    let found : find (has_line given.line) v.plan.backends ≡ Some backend = found_there (has_line given.line) v.plan.backends number first ∙ among in
    ap part.backend_names (sym (of_line v backend kept found)) ∙ given-named part side p apart id row given on there offered

-- Two states with the same connections of the part show each of them the same.
pub seats-alike : (part : Part) (s t : Plain) (v w : Version) (id : ConnId) → part.frontends id.frontend ≡ true → AreApart part s.tables s.frontends → AreApart part t.tables t.frontends →
    ((n : ℕ) → part.frontends n ≡ true → slice_get s.frontends n ≡ slice_get t.frontends n) → IsAlike part s.tables t.tables v w → AllByRecursion (IsWritten s.tables) (written_tables (Some v)) →
    AllByRecursion (λ track. is_own_id part v track.table ≡ true) (tracks_at s.frontends id) →
    ((server : ServerIdentity) → part.backend_names server.backend ≡ true → list_any (same_server server) s.down ≡ list_any (same_server server) t.down) → SeatsAlike part s t v w id
seats-alike part s t v w id in' left right same alike written inside down = record {
  plan = alike.plan;
  ids = alike.tables;
  own = ap (λ o. option_map_or (λ (row : Row). row.tracks) (row_in id.serial o) []) (same id.frontend in');
  inside = inside;
  tables = alike.entries;
  tracks = λ table own. tracks-same part s.tables t.tables s.frontends t.frontends left right same table (own-is part s.tables v table written own) (owned table own);
  connections = ap (λ o. option_map_or (λ (own : FrontendRows). length own.rows) o 0) (same id.frontend in');
  named = named-same part s.tables t.tables s.frontends t.frontends left right same;
  offered = backends-same part s.tables t.tables s.frontends t.frontends left right same;
  served = servers-same part s.tables t.tables s.frontends t.frontends left right same;
  down = down;
  cursors = alike.cursors;
}
  where
    owned : (table : TableId) → is_own_id part v table ≡ true → owns_id part t.tables table ≡ true
    owned table own = ap (λ o. option_map_or (λ (x : TableState). owns_table part x.table) o false) (sym (alike.entries table own)) ∙ own-is part s.tables v table written own

-- Answers in steps.

abbrev accept_in : Plain → ℕ → PairValue → Listener → FrontendRows → Version → Option Frontend → Result Reply StepFault
accept_in p clock real at own version frontend = or_fault NoListener frontend >>= λ frontend.
    if nat_lt own.serial 0xFFFF_FFFF_FFFF_FFFF then Ok (admission (candidate_at p clock at.frontend real own version frontend) at.accept_proxy real (length own.rows)) else Err Exhausted

abbrev accept_by : Plain → ℕ → PairValue → Listener → FrontendRows → Option Version → Result Reply StepFault
accept_by p clock real at own version = or_fault NoListener version >>= λ version. accept_in p clock real at own version (frontend_in version.plan own.name)

abbrev accept_at : Plain → ℕ → PairValue → Listener → Option FrontendRows → Result Reply StepFault
accept_at p clock real at own = or_fault NoListener own >>= λ own. accept_by p clock real at own (newest p.versions)

abbrev accept_on : Plain → ℕ → PairValue → Option Listener → Result Reply StepFault
accept_on p clock real at = or_fault NoListener at >>= λ at. accept_at p clock real at (slice_get p.frontends at.frontend)

abbrev piece_in : Plain → ConnId → List ℕ → Row → Rest → Version → Option Frontend → Result Reply StepFault
piece_in p id piece row rest version frontend = or_fault NoSuch frontend >>= λ frontend. Ok (header_reply (candidate_of p id version frontend) row.real (length piece) (status_on rest piece))

abbrev piece_by : Plain → ConnId → List ℕ → Row → Rest → FrontendRows → Option Version → Result Reply StepFault
piece_by p id piece row rest own version = or_fault NoSuch version >>= λ version. piece_in p id piece row rest version (frontend_in version.plan own.name)

abbrev piece_at : Plain → ConnId → List ℕ → Row → Rest → Option FrontendRows → Result Reply StepFault
piece_at p id piece row rest own = or_fault NoSuch own >>= λ own. piece_by p id piece row rest own (version_at p.versions row.version)

abbrev piece_on : Plain → ConnId → List ℕ → Result (Row × Rest) StepFault → Result Reply StepFault
piece_on p id piece waiting = waiting >>= λ waiting. piece_at p id piece waiting.0 waiting.1 (slice_get p.frontends id.frontend)

abbrev waiting_of : Option Row → Result (Row × Rest) StepFault
waiting_of row = or_fault NoSuch row >>= λ row. or_fault NotWaiting (rest_in row.phase) >>= λ rest. let pair : Row × Rest = (row, rest) in Ok pair

abbrev expired_by : ℕ → ConnId → Option Row → Result Reply StepFault
expired_by clock id row = waiting_of row >>= λ waiting.
    if nat_le (waiting.0.accepted + HEADER_WAIT) clock then Ok (reply_of (Refuse id 0 Expired)) else Err NotDue

abbrev failure_in : (Row → Assignment → Option NumberedServer) → ConnId → Option Row → Result Reply StepFault
failure_in other id row = or_fault NoSuch row >>= λ row. or_fault NotOffered (offer_in row.phase) >>= λ given. Ok (reply_of (failure_said id given (other row given)))

abbrev other_by : Plain → Assignment → Version → Option (ℕ × Backend) → Option NumberedServer
other_by p given version at = option_and_then (λ (at : ℕ × Backend). other_in p given version at.0 at.1) at

abbrev mark_in : Health → Option (Backend × Server) → Result Reply StepFault
mark_in health found = or_fault NotChecked found >>= λ found. Ok (reply_of (Marked found.1.line health))

module _ (part : Part) (p q : Plain) (sound : IsSound p) (sound' : IsSound q) (agree : LookAlike part p q) where
  pub row_at-same : (id : ConnId) → part.frontends id.frontend ≡ true → row_at p.frontends id ≡ row_at q.frontends id
  row_at-same id in' = ap (row_in id.serial) (agree.frontends id.frontend in')

  -- the newest versions
  pub newest-alike : (v w : Version) → newest p.versions ≡ Some v → newest q.versions ≡ Some w → IsAlike part p.tables q.tables v w
  newest-alike v w last last' =
      agree.versions (newest_number p) (inl refl) v w (newest-there p sound.well v last).1 (ap (version_at q.versions) agree.number ∙ (newest-there q sound'.well w last').1)

  -- and those of an open connection of the part
  pub row-alike : (id : ConnId) (row : Row) (v w : Version) → part.frontends id.frontend ≡ true → row_at p.frontends id ≡ Some row → version_at p.versions row.version ≡ Some v →
      version_at q.versions row.version ≡ Some w → IsAlike part p.tables q.tables v w
  row-alike id row v w in' there found found' =
      let got = row-own p.frontends id row there in
      let own : FrontendRows = got.0 in
      let itself : (row.version == row.version) ≡ true = grind (arith, nat_tests) in
      agree.versions row.version (inr (id.frontend, own, in', got.1, find-any (λ r. r.serial == id.serial) (λ r. r.version == row.version) own.rows row got.2 itself)) v w found found'

  -- An accept.

  accept_in-same : (clock : ℕ) (real : PairValue) (at : Listener) (own : FrontendRows) (v w : Version) → part.frontends at.frontend ≡ true → slice_get p.frontends at.frontend ≡ Some own →
      newest p.versions ≡ Some v → newest q.versions ≡ Some w → (o : Option Frontend) → frontend_in v.plan own.name ≡ o → accept_in p clock real at own v o ≡ accept_in q clock real at own w o
  accept_in-same clock real at own v w in' there last last' None e = refl
  accept_in-same clock real at own v w in' there last last' (Some f) e =
      let n : ℕ = at.frontend in
      let id : ConnId = record { frontend = n; serial = own.serial + 1 } in
      let row : Row = new_row (own.serial + 1) v.number real clock in
      let own' : FrontendRows = record own { serial = own.serial + 1; rows = own.rows ++ row ∷ [] } in
      let s : Plain = with_row p n own row in
      let t : Plain = with_row q n own row in
      let alike : IsAlike part p.tables q.tables v w = newest-alike v w last last' in
      let found : version_at p.versions (newest_number p) ≡ Some v = (newest-there p sound.well v last).1 in
      let keeps : Keeps part true v.plan f = keeps-side part true p n own v.plan f agree.left in' there (agree.left.plans (newest_number p) v found) e in
      let left : AreApart part p.tables s.frontends = set-apart part p.tables p.frontends n own own' in' there refl (apart-of part p agree.left) in
      let there' : slice_get q.frontends n ≡ Some own = sym (agree.frontends n in') ∙ there in
      let right : AreApart part q.tables t.frontends = set-apart part q.tables q.frontends n own own' in' there' refl (apart-of part q agree.right) in
      let seats : SeatsAlike part s t v w id = seats-alike part s t v w id in' left right (set-same n own') alike (sound.written (newest_number p) v found) (none-tracked n own own' there refl) agree.down in
      ap (λ (r : Reply). if nat_lt own.serial 0xFFFF_FFFF_FFFF_FFFF then Ok r else Err Exhausted)
      (admission-same part s t v w f id seats keeps at.accept_proxy real (length own.rows)
      ∙ ap (λ number. admission (candidate_of (with_row q n own (new_row (own.serial + 1) number real clock)) id w f) at.accept_proxy real (length own.rows)) alike.number)
    where
      set-same : (n : ℕ) (own' : FrontendRows) (k : ℕ) → part.frontends k ≡ true → slice_get (slice_set p.frontends n own') k ≡ slice_get (slice_set q.frontends n own') k
      set-same n own' k in' = by (k == n) refl
        where
          by : (b : Bool) → (k == n) ≡ b → slice_get (slice_set p.frontends n own') k ≡ slice_get (slice_set q.frontends n own') k
          by true e =
              let same : k ≡ n = grind (arith, nat_tests) in
              ap (slice_get (slice_set p.frontends n own')) same ∙ slice_get-set p.frontends n own' ∙ ap (λ o. option_map (λ y. own') o) (ap (slice_get p.frontends) (sym same) ∙ agree.frontends k in' ∙ ap (slice_get q.frontends) same)
              ∙ sym (slice_get-set q.frontends n own') ∙ ap (slice_get (slice_set q.frontends n own')) (sym same)
          by false e =
              let differs : k ≢ n = λ (same : k ≡ n). contrary (k == n) (grind (arith, nat_tests)) e in
              slice_get-other p.frontends n k own' differs ∙ agree.frontends k in' ∙ sym (slice_get-other q.frontends n k own' differs)

      none-tracked : (n : ℕ) (own own' : FrontendRows) → slice_get p.frontends n ≡ Some own →
          own'.rows ≡ own.rows ++ new_row (own.serial + 1) v.number real clock ∷ [] →
          AllByRecursion (λ track. is_own_id part v track.table ≡ true) (tracks_at (slice_set p.frontends n own') (record { frontend = n; serial = own.serial + 1 }))
      none-tracked n own own' there rows =
          let now : slice_get (slice_set p.frontends n own') n ≡ Some own' = slice_get-set p.frontends n own' ∙ ap (option_map (λ y. own')) there in
          rw (now, rows) (by (find (λ r. r.serial == own.serial + 1) (own.rows ++ new_row (own.serial + 1) v.number real clock ∷ [])) refl)
        where
          fresh : AllByRecursion (λ (r : Row). r.serial ≡ own.serial + 1 → r.tracks ≡ []) (own.rows ++ new_row (own.serial + 1) v.number real clock ∷ [])
          fresh =
              all-append (λ (r : Row). r.serial ≡ own.serial + 1 → r.tracks ≡ []) own.rows (new_row (own.serial + 1) v.number real clock ∷ [])
              (all-more (λ (r : Row). r.serial ≤ own.serial) (λ (r : Row). r.serial ≡ own.serial + 1 → r.tracks ≡ []) own.rows (λ r below is. absurd (omega (arith, below, is))) (well_at p sound.well n own there).given)
              (λ is. refl, tt)

          by : (o : Option Row) → find (λ r. r.serial == own.serial + 1) (own.rows ++ new_row (own.serial + 1) v.number real clock ∷ []) ≡ o →
              AllByRecursion (λ track. is_own_id part v track.table ≡ true) (option_map_or (λ (row : Row). row.tracks) o [])
          by None e = tt
          by (Some r) e =
              let got = all-found (λ (r : Row). r.serial ≡ own.serial + 1 → r.tracks ≡ []) (λ r. r.serial == own.serial + 1) (own.rows ++ new_row (own.serial + 1) v.number real clock ∷ []) r fresh e in
              let serial : r.serial ≡ own.serial + 1 = eqb-true r.serial (own.serial + 1) got.1 in
              subst (AllByRecursion (λ track. is_own_id part v track.table ≡ true)) (sym (got.0 serial)) tt

  accept-same : (clock listener : ℕ) (real : PairValue) (n : ℕ) → option_map (λ at. at.frontend) (slice_get p.listeners listener) ≡ Some n → part.frontends n ≡ true →
      accept_answer p clock listener real ≡ accept_answer q clock listener real
  accept-same clock listener real n on in' = by (slice_get p.listeners listener) refl ∙ ap (λ ls. accept_on q clock real (slice_get ls listener)) agree.listeners
    where
      at_version : (at : Listener) (own : FrontendRows) → part.frontends at.frontend ≡ true → slice_get p.frontends at.frontend ≡ Some own → accept_by p clock real at own (newest p.versions) ≡ accept_by q clock real at own (newest q.versions)
      at_version at own in'' there =
          let v = newest_of p sound.well in
          let w = newest_of q sound'.well in
          let alike : IsAlike part p.tables q.tables v.0 w.0 = newest-alike v.0 w.0 v.1 w.1 in
          rw (v.1, w.1)
          (accept_in-same clock real at own v.0 w.0 in'' there v.1 w.1 (frontend_in v.0.plan own.name) refl ∙ ap (λ (plan : Plan). accept_in q clock real at own w.0 (frontend_in plan own.name)) alike.plan)

      at_frontend : (at : Listener) → part.frontends at.frontend ≡ true → (o : Option FrontendRows) → slice_get p.frontends at.frontend ≡ o → accept_at p clock real at o ≡ accept_at q clock real at o
      at_frontend at in'' None e = refl
      at_frontend at in'' (Some own) e = at_version at own in'' e

      by : (o : Option Listener) → slice_get p.listeners listener ≡ o → accept_on p clock real (slice_get p.listeners listener) ≡ accept_on q clock real (slice_get p.listeners listener)
      by None e = rw e refl
      by (Some at) e =
          let number : at.frontend ≡ n = some_same (rw e at on) in
          let in'' : part.frontends at.frontend ≡ true = ap part.frontends number ∙ in' in
          rw e (at_frontend at in'' (slice_get p.frontends at.frontend) refl ∙ ap (accept_at q clock real at) (agree.frontends at.frontend in''))

  -- A piece.

  inside-tracks : (id : ConnId) (row : Row) (v : Version) → part.frontends id.frontend ≡ true → row_at p.frontends id ≡ Some row → version_at p.versions row.version ≡ Some v →
      AllByRecursion (λ track. is_own_id part v track.table ≡ true) (tracks_at p.frontends id)
  inside-tracks id row v in' there found =
      let got = row-own p.frontends id row there in
      let own : FrontendRows = got.0 in
      let inside : IsInside part p.versions row = (all-found (IsInside part p.versions) (λ r. r.serial == id.serial) own.rows row (agree.left.inside id.frontend own in' got.1) got.2).0 in
      rw there (rw found at inside.tracks)

  piece-same : (id : ConnId) (piece : List ℕ) → part.frontends id.frontend ≡ true → piece_answer p id piece ≡ piece_answer q id piece
  piece-same id piece in' =
      by (waiting_row p.frontends id) refl ∙ ap (λ (o : Option Row). piece_on q id piece (waiting_of o)) (row_at-same id in')
    where
      at_plan : (row : Row) (rest : Rest) (own : FrontendRows) (v w : Version) → row_at p.frontends id ≡ Some row → slice_get p.frontends id.frontend ≡ Some own → version_at p.versions row.version ≡ Some v →
          IsAlike part p.tables q.tables v w → (o : Option Frontend) → frontend_in v.plan own.name ≡ o → piece_in p id piece row rest v o ≡ piece_in q id piece row rest w o
      at_plan row rest own v w there at found alike None e = refl
      at_plan row rest own v w there at found alike (Some f) e =
          let keeps : Keeps part true v.plan f = keeps-side part true p id.frontend own v.plan f agree.left in' at (agree.left.plans row.version v found) e in
          let seats : SeatsAlike part p q v w id =
          seats-alike part p q v w id in' (apart-of part p agree.left) (apart-of part q agree.right) agree.frontends alike (sound.written row.version v found) (inside-tracks id row v in' there found) agree.down in
          ap (λ (r : Reply). Ok r) (header-same part p q v w f id seats keeps row.real (length piece) (status_on rest piece))

      at_version : (row : Row) (rest : Rest) (own : FrontendRows) → row_at p.frontends id ≡ Some row → slice_get p.frontends id.frontend ≡ Some own →
          piece_by p id piece row rest own (version_at p.versions row.version) ≡ piece_by q id piece row rest own (version_at q.versions row.version)
      at_version row rest own there at =
          let v = row-version p sound.well id row there in
          let w = row-version q sound'.well id row (sym (row_at-same id in') ∙ there) in
          let alike : IsAlike part p.tables q.tables v.0 w.0 = row-alike id row v.0 w.0 in' there v.1 w.1 in
          rw (v.1, w.1)
          (at_plan row rest own v.0 w.0 there at v.1 alike (frontend_in v.0.plan own.name) refl ∙ ap (λ (plan : Plan). piece_in q id piece row rest w.0 (frontend_in plan own.name)) alike.plan)

      at_frontend : (row : Row) (rest : Rest) → row_at p.frontends id ≡ Some row → (o : Option FrontendRows) → slice_get p.frontends id.frontend ≡ o → piece_at p id piece row rest o ≡ piece_at q id piece row rest o
      at_frontend row rest there None e = refl
      at_frontend row rest there (Some own) e = at_version row rest own there e

      by : (r : Result (Row × Rest) StepFault) → waiting_row p.frontends id ≡ r → piece_on p id piece (waiting_row p.frontends id) ≡ piece_on q id piece (waiting_row p.frontends id)
      by (Err fault) e = rw e refl
      by (Ok found) e =
          rw e (at_frontend found.0 found.1 (waiting p.frontends id found e).there (slice_get p.frontends id.frontend) refl ∙ ap (piece_at q id piece found.0 found.1) (agree.frontends id.frontend in'))

  -- A server that is out of reach.

  other_in-same : (given : Assignment) (v w : Version) (number : ℕ) (backend : Backend) → IsAlike part p.tables q.tables v w → slice_get v.plan.backends number ≡ Some backend → part.backend_names backend.name ≡ true →
      other_in p given v number backend ≡ other_in q given w number backend
  other_in-same given v w number backend alike among named =
      let owns : owns_backend_at part v.plan number ≡ true = ap (λ (o : Option Backend). option_map_or (λ backend. part.backend_names backend.name) o false) among ∙ named in
      ap (λ (o : Option Place). if nat_lt (length given.failed) (moves_of backend.retries backend.redispatch) then option_and_then (λ turn. numbered_server backend turn.server) o else None)
      (pick-alike (served_by p.frontends) (served_by q.frontends) (barred_for p.down given) (barred_for q.down given) backend
      (λ server. servers-same part p.tables q.tables p.frontends q.frontends (apart-of part p agree.left) (apart-of part q agree.right) agree.frontends (identity_in backend server) named)
      (λ server. ap (λ b. (is_some server.check && b) || list_any (λ line. line == server.line) (given.line ∷ given.failed)) (agree.down (identity_in backend server) named))
      v.cursors w.cursors number given.judged.source.addr (alike.cursors number owns))

  other-same : (id : ConnId) (row : Row) (given : Assignment) → part.frontends id.frontend ≡ true → row_at p.frontends id ≡ Some row → offer_in row.phase ≡ Some given → other_server p row given ≡ other_server q row given
  other-same id row given in' there offered =
      let v = row-version p sound.well id row there in
      let w = row-version q sound'.well id row (sym (row_at-same id in') ∙ there) in
      let alike : IsAlike part p.tables q.tables v.0 w.0 = row-alike id row v.0 w.0 in' there v.1 w.1 in
      rw (v.1, w.1) (by v.0 w.0 alike v.1 (backend_at v.0.plan given.line) refl ∙ ap (λ (plan : Plan). other_by q given w.0 (backend_at plan given.line)) alike.plan)
    where
      by : (v w : Version) → IsAlike part p.tables q.tables v w → version_at p.versions row.version ≡ Some v → (o : Option (ℕ × Backend)) → backend_at v.plan given.line ≡ o → other_by p given v o ≡ other_by q given w o
      by v w alike kept None e = refl
      by v w alike kept (Some (number, backend)) e =
          let found = line-found v.plan given.line number backend e in
          other_in-same given v w number backend alike found.1 (given-backend part true p sound agree.left id row given in' there offered v kept number backend found.0 found.1)

  failure-same : (id : ConnId) → part.frontends id.frontend ≡ true → failure_answer p id ≡ failure_answer q id
  failure-same id in' = by (row_at p.frontends id) refl ∙ ap (failure_in (other_server q) id) (row_at-same id in')
    where
      at : (row : Row) → row_at p.frontends id ≡ Some row → (o : Option Assignment) → offer_in row.phase ≡ o → failure_in (other_server p) id (Some row) ≡ failure_in (other_server q) id (Some row)
      at row there None e = rw e refl
      at row there (Some given) e = rw e (ap (λ (o : Option NumberedServer). Ok (reply_of (failure_said id given o))) (other-same id row given in' there e))

      by : (o : Option Row) → row_at p.frontends id ≡ o → failure_in (other_server p) id o ≡ failure_in (other_server q) id o
      by None e = refl
      by (Some row) e = at row e (offer_in row.phase) refl

  -- A report of a server.

  pub newest_backend-same : (number : ℕ) → newest_backend p.versions number ≡ newest_backend q.versions number
  newest_backend-same number =
      let v = newest_of p sound.well in
      let w = newest_of q sound'.well in
      let alike : IsAlike part p.tables q.tables v.0 w.0 = newest-alike v.0 w.0 v.1 w.1 in
      rw (v.1, w.1) (ap (λ (plan : Plan). slice_get plan.backends number) alike.plan)

  checked-same : (number n : ℕ) → checked_server p.versions number n ≡ checked_server q.versions number n
  checked-same number n =
      ap
      (λ (o : Option Backend). option_and_then (λ backend. option_and_then {U = Backend × Server} (λ server. if is_some server.check then Some (backend, server) else None) (slice_get backend.servers n)) o)
      (newest_backend-same number)

  -- it reports the same server in both
  pub mark-same : (number n : ℕ) (health : Health) → mark_of p.versions (Mark number n health) ≡ mark_of q.versions (Mark number n health)
  mark-same number n health = ap (λ (o : Option (Backend × Server)). option_map {U = ServerIdentity × Health} (λ found. (identity_in found.0 found.1, health)) o) (checked-same number n)

  pub marks-now : (number n : ℕ) (health : Health) → answer_now p (Mark number n health) ≡ answer_now q (Mark number n health)
  marks-now number n health = ap (mark_in health) (checked-same number n)

  -- an event on the part has one answer in both states, where they are of one moment
  pub answers-now : (n : ℕ) (event : OwnedEvent) → p.clock ≡ q.clock → frontend_of p.listeners event ≡ Some n → part.frontends n ≡ true → answer_now p event ≡ answer_now q event
  answers-now n (Accept listener real) clock on in' = accept-same p.clock listener real n on in' ∙ ap (λ m. accept_answer q m listener real) clock
  answers-now n (Piece id bytes) clock on in' = piece-same id bytes (ap part.frontends (some_same on) ∙ in')
  answers-now n (Connected id) clock on in' =
      ap (λ (o : Option Row). or_fault NoSuch o >>= λ row. if awaits_server row.phase then Ok (reply_of (saids.Up id)) else Err NotOffered) (row_at-same id (ap part.frontends (some_same on) ∙ in'))
  answers-now n (ConnectFailed id) clock on in' = failure-same id (ap part.frontends (some_same on) ∙ in')
  answers-now n (Close id why) clock on in' =
      ap (λ (o : Option Row). or_fault NoSuch o >>= λ row. Ok (reply_of (Closed id why))) (row_at-same id (ap part.frontends (some_same on) ∙ in'))
  answers-now n (Expire id) clock on in' =
      ap (λ m. expire_answer p m id) clock
      ∙ ap (λ (o : Option Row). expired_by q.clock id o) (row_at-same id (ap part.frontends (some_same on) ∙ in'))
  answers-now n (Reload text) clock on in' = nothing on
  answers-now n (Mark number k health) clock on in' = nothing on

  -- and so has a reload
  pub reloads-now : (text : List ℕ) → answer_now p (Reload text) ≡ answer_now q (Reload text)
  reloads-now text =
      let v = newest_of p sound.well in
      let w = newest_of q sound'.well in
      by v.0 w.0 v.1 w.1 (meaning text)
    where
      by : (v w : Version) → newest p.versions ≡ Some v → newest q.versions ≡ Some w → (read : Result Plan OpenFault) → reload_answer p read ≡ reload_answer q read
      by v w last last' (Err fault) = refl
      by v w last last' (Ok plan) =
          let alike : IsAlike part p.tables q.tables v w = newest-alike v w last last' in
          rw (last, last')
          (ap (λ (own : Plan). if same_binds own plan then (if nat_lt v.number 0xFFFF_FFFF_FFFF_FFFF then Ok (reply_of (Reloaded (v.number + 1))) else Err Exhausted) else Err BindChanged) alike.plan
          ∙ ap (λ n. if same_binds w.plan plan then (if nat_lt n 0xFFFF_FFFF_FFFF_FFFF then Ok (reply_of (Reloaded (n + 1))) else Err Exhausted) else Err BindChanged) alike.number)
