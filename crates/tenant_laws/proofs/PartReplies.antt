-- What is known of the answer to an event on a frontend, of a part or of the others.
use Rattle.std.specs.Prelude.{ℕ, zero, suc, Bool, true, false, max, not, List, [], length, find, zip, slice_get, slice_set, Option, Some, None, option_map, option_and_then, Ok, refl, ◌+◌, ◌<◌, ◌≡◌, ◌==◌, ◌∷◌, ◌++◌}
use Rattle.std.specs.List.{AllByRecursion}
use Rattle.std.specs.Option.{option_map_or}
use Rattle.std.proofs.Common.{sym, ap, subst, ◌∙◌, arith}
use Rattle.std.proofs.lemmas.Bool.{eq-eqb}
use Rattle.std.proofs.lemmas.Bool.Decides.{nat_tests}
use Rattle.addr_core.specs.PairValue.{PairValue}
use Rattle.pp_any.specs.NextPiece.{status_on}
use Rattle.plan_types.specs.declared.plan.Backend.{Backend}
use Rattle.plan_types.specs.declared.plan.Frontend.{Frontend}
use Rattle.plan_types.specs.declared.plan.Plan.{Plan}
use Rattle.plan_types.specs.declared.plan.Table.{Table}
use Rattle.plan_types.specs.declared.track.TableId.{TableId}
use Rattle.conn_model.specs.declared.event.ConnId.{ConnId}
use Rattle.conn_model.specs.declared.event.OwnedEvent.{OwnedEvent}
use Rattle.conn_model.specs.declared.event.OwnedEvent.TheVariants.{Accept, Piece, Connected, ConnectFailed, Close, Expire, Reload, Mark}
use Rattle.conn_model.specs.declared.event.Why.{Why}
use Rattle.conn_model.specs.declared.plain.Assignment.{Assignment}
use Rattle.conn_model.specs.declared.plain.FrontendRows.{FrontendRows}
use Rattle.conn_model.specs.declared.plain.Listener.{Listener}
use Rattle.conn_model.specs.declared.plain.Plain.{Plain}
use Rattle.conn_model.specs.declared.plain.Row.{Row}
use Rattle.conn_model.specs.declared.plain.TableState.{TableState}
use Rattle.conn_model.specs.declared.plain.Version.{Version}
use Rattle.conn_model.specs.declared.reply.Cause.TheVariants.{Expired}
use Rattle.conn_model.specs.declared.reply.Reply.{Reply}
use Rattle.conn_model.specs.declared.reply.Said.{Said}
use Rattle.conn_model.specs.declared.reply.Said.TheVariants as saids
use Rattle.conn_model.specs.declared.reply.Said.TheVariants.{Refuse, Closed}
use Rattle.conn_model.specs.declared.reply.StepFault.TheVariants.{NoSuch}
use Rattle.conn_model.specs.Words.{or_fault, row_at, row_in, Rise}
use Rattle.conn_model.specs.Answer.{answer_in, at_moment, candidate_at, failure_said, offer_in, other_server, reply_of, version_at, NumberedServer}
use Rattle.conn_model.specs.Counts.{server_of}
use Rattle.conn_model.specs.History.{after, arrivals, entry, id_of, is_last, judging_version, newest_number, number_said, plan_with, speaks_to, version_of, Entry, IsVersionWell, IsWell}
use Rattle.conn_model.specs.Tables.{table_at, written_tables}
use Rattle.conn_model.proofs.Lists.{all-append, all-both, all-found, all-more}
use Rattle.conn_model.proofs.Goes.{well_at}
use Rattle.conn_model.proofs.Offers.{other_is, IsOther}
use Rattle.conn_model.proofs.Replies.{accepted, admission-id, answered, bind-ok, expired, has_failed, or_fault-ok, received, server_answered, Accepted, HasFailed, IsNew, IsOld, Received}
use Rattle.conn_model.proofs.Serials.{arrival-all, speaks_that}
use Rattle.conn_model.proofs.Steps.{after-accept, after-change, after-end, IsOfOpen}
use Rattle.conn_model.proofs.VersionSteps.{judging-new, judging-old}
use Rattle.tenant_laws.specs.Parts.{keeps_table, owns_backend_at, owns_table, Part}
use Rattle.tenant_laws.specs.Agreement.{is_own_id, owns_id, IsApart, IsSound, IsWritten}
use Rattle.tenant_laws.specs.Runs.{frontend_of}
use Rattle.tenant_laws.proofs.Lists.{nothing, of_not, some_same}
use Rattle.tenant_laws.proofs.Views.{own-at}
use Rattle.tenant_laws.proofs.Judging.{admission-on, header-on, IsOfferOn, IsSaidOn, Keeps}
use Rattle.tenant_laws.proofs.Sides.{is_on_side, server-found}
use Rattle.tenant_laws.proofs.Same.{given-backend, keeps-side, newest-there, row-own, row-version}

-- an incarnation is of the part's tables, by a version, or of the others'
abbrev pub IsOnSide : Part → Bool → List TableState → Version → TableId → Type 0
IsOnSide part true tables v id = is_own_id part v id ≡ true
IsOnSide part false tables v id = owns_id part tables id ≡ false

foreign-at : (part : Part) (tables : List TableState) (v : Version) (number : ℕ) (id : TableId) → length v.tables ≡ length v.plan.tables → AllByRecursion (IsWritten tables) (written_tables (Some v)) →
    keeps_table part false v.plan number ≡ true → slice_get v.tables number ≡ Some id → owns_id part tables id ≡ false
foreign-at part tables v number id many written out there = go v.plan.tables v.tables number many written out there
  where
    found : (o : Option TableState) (t : Table) → option_map (λ (s : TableState). s.table) o ≡ Some t → option_map_or (λ (s : TableState). owns_table part s.table) o false ≡ owns_table part t
    found None t e = nothing e
    found (Some s) t e = ap (owns_table part) (some_same e)

    go : (ts : List Table) (ids : List TableId) (n : ℕ) → length ids ≡ length ts → AllByRecursion (IsWritten tables) (zip ts ids) → not (option_map_or (owns_table part) (slice_get ts n) false) ≡ true → slice_get ids n ≡ Some id →
        owns_id part tables id ≡ false
    go [] [] n many written out there = nothing there
    go [] (i ∷ ids) n many written out there = absurd (omega (arith, many))
    go (t ∷ ts) [] n many written out there = nothing there
    go (t ∷ ts) (i ∷ ids) zero many written out there =
        ap (owns_id part tables) (sym (some_same there)) ∙ found (table_at tables i) t written.0 ∙ of_not (owns_table part t) out
    go (t ∷ ts) (i ∷ ids) (suc n) many written out there = go ts ids n (omega (arith, many)) written.1 out there

-- the tables of a version, by their numbers
pub places-on : (part : Part) (side : Bool) (p : Plain) (k : ℕ) (v : Version) → IsSound p → version_at p.versions k ≡ Some v → (number : ℕ) (id : TableId) → keeps_table part side v.plan number ≡ true →
    slice_get v.tables number ≡ Some id → IsOnSide part side p.tables v id
places-on part true p k v sound there number id kept at = own-at part v number id kept at
places-on part false p k v sound there number id kept at =
    let well : IsVersionWell v = (all-found IsVersionWell (λ version. version.number == k) p.versions v sound.well.versions there).0 in
    foreign-at part p.tables v number id well.tables (sound.written k v there) kept at

-- what is known of an entry
pub record PartReply (part : Part) (side : Bool) (p : Plain) (e : Entry) : Type 0 where
  pub id : ConnId
  pub says : id_of e.reply.said ≡ Some id
  pub on : part.frontends id.frontend ≡ side
  -- the version that judges it
  pub version : Version
  pub found : version_at p.versions (judging_version p.frontends (newest_number p) e.reply.said) ≡ Some version
  pub said : IsSaidOn part side version.plan (IsOnSide part side p.tables version) e.reply
  -- it brings no version, reports no server, and changes one frontend
  pub brings : version_of e ≡ None
  pub stays : (after p (e ∷ [])).down ≡ p.down
  pub own : FrontendRows
  pub own' : FrontendRows
  pub there : slice_get p.frontends id.frontend ≡ Some own
  pub moved : (after p (e ∷ [])).frontends ≡ slice_set p.frontends id.frontend own'
  -- that version judges each connection to which it speaks
  pub judges : (number : ℕ) (rows : FrontendRows) → slice_get p.frontends number ≡ Some rows →
      AllByRecursion (λ row. speaks_to number row.serial e.reply.said ≡ true → row.version ≡ judging_version p.frontends (newest_number p) e.reply.said) (rows.rows ++ arrivals p number (e ∷ []))
  -- a connection that comes is of the newest version, waits and tracks nothing
  pub comes : (number : ℕ) → AllByRecursion (λ row. (row.version ≡ newest_number p) × ((row.tracks ≡ []) × (server_of row.phase ≡ None))) (arrivals p number (e ∷ []))

-- rows are found by their serials
rows-found : (rows : List Row) → Rise (λ row. row.serial) rows → AllByRecursion (λ row. find (λ r. r.serial == row.serial) rows ≡ Some row) rows
rows-found [] rise = tt
rows-found (x ∷ rows) rise = (
  rw (eq-eqb x.serial x.serial refl) refl,
  all-more (λ (row : Row). (x.serial < row.serial) × (find (λ r. r.serial == row.serial) rows ≡ Some row)) (λ (row : Row). find (λ r. r.serial == row.serial) (x ∷ rows) ≡ Some row) rows
      (λ row known. let above : x.serial < row.serial = known.0 in let other : (x.serial == row.serial) ≡ false = grind (arith, nat_tests, above) in rw other known.1)
      (all-both (λ (row : Row). x.serial < row.serial) (λ (row : Row). find (λ r. r.serial == row.serial) rows ≡ Some row) rows rise.0 (rows-found rows rise.1)),
)

-- the version of a row to which a reply speaks is the one that judges
rows-judged : (p : Plain) → IsWell p → (number : ℕ) (own : FrontendRows) (said : Said) (id : ConnId) → slice_get p.frontends number ≡ Some own → id_of said ≡ Some id →
    AllByRecursion (λ row. speaks_to number row.serial said ≡ true → row.version ≡ judging_version p.frontends (newest_number p) said) own.rows
rows-judged p well number own said id there says =
    all-more (λ (row : Row). find (λ r. r.serial == row.serial) own.rows ≡ Some row) (λ (row : Row). speaks_to number row.serial said ≡ true → row.version ≡ judging_version p.frontends (newest_number p) said) own.rows
    (λ row found spoken.
    let that : (id.frontend ≡ number) × (id.serial ≡ row.serial) = speaks_that number row.serial said id says spoken in
    let at : row_at p.frontends id ≡ Some row =
    ap (λ k. row_in id.serial (slice_get p.frontends k)) that.0 ∙ ap (row_in id.serial) there ∙ ap (λ s. find (λ (r : Row). r.serial == s) own.rows) that.1 ∙ found in
    sym (judging-old p.frontends (newest_number p) said id row says at))
    (rows-found own.rows (well_at p well number own there).rise)

abbrev pub IsStep : OwnedEvent → Type 0
IsStep (Reload text) = ⊥
IsStep event = Unit {0}

pub brings-none : (event : OwnedEvent) (number : Option ℕ) → IsStep event → option_and_then {U = ℕ × Plan} (λ n. option_map {U = ℕ × Plan} (λ plan. (n, plan)) (plan_with event)) number ≡ None
brings-none (Accept listener real) None step = refl
brings-none (Accept listener real) (Some n) step = refl
brings-none (Piece id bytes) None step = refl
brings-none (Piece id bytes) (Some n) step = refl
brings-none (Connected id) None step = refl
brings-none (Connected id) (Some n) step = refl
brings-none (ConnectFailed id) None step = refl
brings-none (ConnectFailed id) (Some n) step = refl
brings-none (Close id why) None step = refl
brings-none (Close id why) (Some n) step = refl
brings-none (Expire id) None step = refl
brings-none (Expire id) (Some n) step = refl
brings-none (Reload text) number step = absurd step
brings-none (Mark backend n health) None step = refl
brings-none (Mark backend n health) (Some number) step = refl

-- the frontends after an event of an open connection
moved-open : (p : Plain) → IsWell p → (e : Entry) (id : ConnId) (own : FrontendRows) → slice_get p.frontends id.frontend ≡ Some own → IsOfOpen e.event → id_of e.reply.said ≡ Some id →
    (own' : FrontendRows) × ((after p (e ∷ [])).frontends ≡ slice_set p.frontends id.frontend own') × ((after p (e ∷ [])).down ≡ p.down)
moved-open p well e id own there old says = by (is_last e.reply.said) refl
  where
    by : (b : Bool) → is_last e.reply.said ≡ b → (own' : FrontendRows) × ((after p (e ∷ [])).frontends ≡ slice_set p.frontends id.frontend own') × ((after p (e ∷ [])).down ≡ p.down)
    by true last =
        let state = after-end p well e id own there old says last in
        (_, ap (λ (q : Plain). q.frontends) state, ap (λ (q : Plain). q.down) state)
    by false last =
        let state = after-change p well e id own there old says last in
        (_, ap (λ (q : Plain). q.frontends) state, ap (λ (q : Plain). q.down) state)

module _ (part : Part) (side : Bool) (p : Plain) (sound : IsSound p) (apart : IsApart part p) (moment : ℕ) where
  -- an event of an open connection
  reply-open : (event : OwnedEvent) (reply : Reply) (id : ConnId) (row : Row) (v : Version) → IsOfOpen event → IsStep event → id_of reply.said ≡ Some id → part.frontends id.frontend ≡ side →
      row_at p.frontends id ≡ Some row → version_at p.versions row.version ≡ Some v → IsSaidOn part side v.plan (IsOnSide part side p.tables v) reply →
      ((number : ℕ) → arrivals p number (entry moment event reply ∷ []) ≡ []) → PartReply part side p (entry moment event reply)
  reply-open event reply id row v old step says on there found said none =
      let got = row-own p.frontends id row there in
      let e : Entry = entry moment event reply in
      let moved = moved-open p sound.well e id got.0 got.1 old says in
      record {
        id = id;
        says = says;
        on = on;
        version = v;
        found = ap (version_at p.versions) (judging-old p.frontends (newest_number p) reply.said id row says there) ∙ found;
        said = said;
        brings = brings-none event (number_said reply.said) step;
        stays = moved.2;
        own = got.0;
        own' = moved.0;
        there = got.1;
        moved = moved.1;
        judges = λ number rows at.
            subst (λ more. AllByRecursion (λ (row : Row). speaks_to number row.serial reply.said ≡ true → row.version ≡ judging_version p.frontends (newest_number p) reply.said) (rows.rows ++ more)) (sym (none number))
            (all-append (λ (row : Row). speaks_to number row.serial reply.said ≡ true → row.version ≡ judging_version p.frontends (newest_number p) reply.said) rows.rows []
            (rows-judged p sound.well number rows reply.said id at says) tt);
        comes = λ number. subst (AllByRecursion (λ (row : Row). (row.version ≡ newest_number p) × ((row.tracks ≡ []) × (server_of row.phase ≡ None)))) (sym (none number)) tt;
      }

  -- one that judges nothing
  reply-plain : (event : OwnedEvent) (said : Said) (reply : Reply) (id : ConnId) (row : Row) → IsOfOpen event → IsStep event → id_of said ≡ Some id → part.frontends id.frontend ≡ side →
      row_at p.frontends id ≡ Some row → ((v : Version) → IsOfferOn part side v.plan said) → reply_of said ≡ reply →
      ((number : ℕ) (reply : Reply) → arrivals p number (entry moment event reply ∷ []) ≡ []) → PartReply part side p (entry moment event reply)
  reply-plain event said reply id row old step says on there quiet same none =
      let v = row-version p sound.well id row there in
      subst (λ (r : Reply). PartReply part side p (entry moment event r)) same
      (reply-open event (reply_of said) id row v.0 old step says on there v.1 (record { tracks = tt; offered = quiet v.0 }) (λ number. none number (reply_of said)))

  reply-accept : (listener : ℕ) (real : PairValue) (n : ℕ) (reply : Reply) → option_map (λ at. at.frontend) (slice_get p.listeners listener) ≡ Some n → part.frontends n ≡ side →
      Accepted (at_moment moment p) (max p.clock moment) listener real reply → IsNew p reply.said → PartReply part side p (entry moment (Accept listener real) reply)
  reply-accept listener real n reply is_on in' got new =
      let clock : ℕ = max p.clock moment in
      let at : Listener = got.at in
      let own : FrontendRows = got.own in
      let v : Version = got.version in
      let f : Frontend = got.frontend in
      let e : Entry = entry moment (Accept listener real) reply in
      let s : Plain = (candidate_at (at_moment moment p) clock at.frontend real own v f).state in
      let id : ConnId = record { frontend = at.frontend; serial = own.serial + 1 } in
      let number : at.frontend ≡ n = some_same (ap (option_map (λ (l : Listener). l.frontend)) (sym got.listens) ∙ is_on) in
      let on : part.frontends at.frontend ≡ side = ap part.frontends number ∙ in' in
      let says : id_of reply.said ≡ Some id = ap (λ (r : Reply). id_of r.said) (sym got.reply_is) ∙ admission-id (candidate_at (at_moment moment p) clock at.frontend real own v f) at.accept_proxy real (length own.rows) in
      let last = newest-there p sound.well v got.newest_is in
      let keeps : Keeps part side v.plan f = keeps-side part side p at.frontend own v.plan f apart on got.there (apart.plans (newest_number p) v last.1) got.found in
      let judging : judging_version p.frontends (newest_number p) reply.said ≡ newest_number p =
      judging-new p.frontends (newest_number p) reply.said id own says got.there (well_at p sound.well at.frontend own got.there).given refl in
      let moved = after-accept p sound.well moment listener real reply id own got.there says refl in
      record {
        id = id;
        says = says;
        on = on;
        version = v;
        found = ap (version_at p.versions) judging ∙ last.1;
        said = subst (IsSaidOn part side v.plan (IsOnSide part side p.tables v)) got.reply_is
            (admission-on part side s v f id keeps (IsOnSide part side p.tables v) (places-on part side p (newest_number p) v sound last.1) at.accept_proxy real (length own.rows));
        brings = brings-none (Accept listener real) (number_said reply.said) tt;
        stays = refl;
        own = own;
        own' = _;
        there = got.there;
        moved = ap (λ (q : Plain). q.frontends) moved;
        judges = λ k rows there.
            all-append (λ (row : Row). speaks_to k row.serial reply.said ≡ true → row.version ≡ judging_version p.frontends (newest_number p) reply.said) rows.rows (arrivals p k (e ∷ []))
            (rows-judged p sound.well k rows reply.said id there says)
            (all-more (λ (row : Row). (row.version ≡ newest_number p) × ((row.tracks ≡ []) × (server_of row.phase ≡ None)))
            (λ (row : Row). speaks_to k row.serial reply.said ≡ true → row.version ≡ judging_version p.frontends (newest_number p) reply.said) (arrivals p k (e ∷ []))
            (λ row known spoken. known.0 ∙ sym judging) (comes k));
        comes = comes;
      }
    where
      comes : (k : ℕ) → AllByRecursion (λ (row : Row). (row.version ≡ newest_number p) × ((row.tracks ≡ []) × (server_of row.phase ≡ None))) (arrivals p k (entry moment (Accept listener real) reply ∷ []))
      comes k =
          arrival-all (λ (row : Row). (row.version ≡ newest_number p) × ((row.tracks ≡ []) × (server_of row.phase ≡ None))) p k (max p.clock moment) (newest_number p) (Accept listener real) reply.said new
          (λ new' real' here accepting. (refl, (refl, refl)))

  reply-piece : (id : ConnId) (bytes : List ℕ) (reply : Reply) → part.frontends id.frontend ≡ side → Received (at_moment moment p) id bytes reply → IsOld p id reply.said → PartReply part side p (entry moment (Piece id bytes) reply)
  reply-piece id bytes reply on got old =
      let v : Version = got.version in
      let f : Frontend = got.frontend in
      let keeps : Keeps part side v.plan f = keeps-side part side p id.frontend got.own v.plan f apart on got.there (apart.plans got.row.version v got.kept) got.found in
      reply-open (Piece id bytes) reply id got.row v tt tt old.speaks on got.row_is got.kept
      (subst (IsSaidOn part side v.plan (IsOnSide part side p.tables v)) got.reply_is
      (header-on part side (at_moment moment p) v f id keeps (IsOnSide part side p.tables v) (places-on part side p got.row.version v sound got.kept) got.row.real (length bytes) (status_on got.rest bytes)))
      (λ number. refl)

  reply-closed : (id : ConnId) (why : Why) (reply : Reply) → part.frontends id.frontend ≡ side → answer_in p moment (Close id why) ≡ Ok reply → PartReply part side p (entry moment (Close id why) reply)
  reply-closed id why reply on is =
      let one = bind-ok (or_fault NoSuch (row_at p.frontends id)) _ reply is in
      let same : reply_of (Closed id why) ≡ reply = let it : Ok (reply_of (Closed id why)) ≡ Ok reply = one.2 in cc in
      reply-plain (Close id why) (Closed id why) reply id one.0 tt tt refl on (or_fault-ok NoSuch (row_at p.frontends id) one.0 one.1) (λ v. tt) same (λ number r. refl)

  -- where its server is out of reach, another one is of the same backend
  moved-on : (id : ConnId) (row : Row) (given : Assignment) (v : Version) → part.frontends id.frontend ≡ side → row_at p.frontends id ≡ Some row → offer_in row.phase ≡ Some given →
      version_at p.versions row.version ≡ Some v → (o : Option NumberedServer) → other_server (at_moment moment p) row given ≡ o → IsOfferOn part side v.plan (failure_said id given o)
  moved-on id row given v on there offered kept None e = tt
  moved-on id row given v on there offered kept (Some other) e =
      let at : IsOther (at_moment moment p) row given other = other_is (at_moment moment p) row given other e in
      let same : at.version ≡ v = some_same (sym at.of_accept ∙ kept) in
      let named : part.backend_names at.backend.name ≡ side =
      given-backend part side p sound apart id row given on there offered at.version at.of_accept at.number at.backend at.has_line at.among in
      let owns : owns_backend_at part at.version.plan at.number ≡ side = ap (λ (o : Option Backend). option_map_or (λ backend. part.backend_names backend.name) o false) at.among ∙ named in
      subst (λ (x : Version). IsOfferOn part side x.plan (failure_said id given (Some other))) same
      (at.number, at.backend, other.server, at.among, server-found at.backend at.turn.server other at.server_is, refl, is_on_side side (owns_backend_at part at.version.plan at.number) owns)

  reply-failed : (id : ConnId) (reply : Reply) → part.frontends id.frontend ≡ side → HasFailed (at_moment moment p) id reply → IsOld p id reply.said → PartReply part side p (entry moment (ConnectFailed id) reply)
  reply-failed id reply on got old =
      let v = row-version p sound.well id got.row got.row_is in
      reply-open (ConnectFailed id) reply id got.row v.0 tt tt old.speaks on got.row_is v.1
      (subst (IsSaidOn part side v.0.plan (IsOnSide part side p.tables v.0)) got.reply_is
      (record { tracks = tt; offered = moved-on id got.row got.given v.0 on got.row_is got.offered v.1 (other_server (at_moment moment p) got.row got.given) refl }))
      (λ number. refl)

  pub part_reply : (n : ℕ) (event : OwnedEvent) (reply : Reply) → frontend_of p.listeners event ≡ Some n → part.frontends n ≡ side → answer_in p moment event ≡ Ok reply → PartReply part side p (entry moment event reply)
  part_reply n (Accept listener real) reply is_on in' is =
      reply-accept listener real n reply is_on in' (accepted (at_moment moment p) (max p.clock moment) listener real reply is) (answered p moment (Accept listener real) reply is)
  part_reply n (Piece id bytes) reply is_on in' is = reply-piece id bytes reply (ap part.frontends (some_same is_on) ∙ in') (received (at_moment moment p) id bytes reply is) (answered p moment (Piece id bytes) reply is)
  part_reply n (Connected id) reply is_on in' is =
      let got = server_answered (at_moment moment p) id (saids.Up id) reply is in
      reply-plain (Connected id) (saids.Up id) reply id got.row tt tt refl (ap part.frontends (some_same is_on) ∙ in') got.row_is (λ v. tt) got.reply_is (λ number r. refl)
  part_reply n (ConnectFailed id) reply is_on in' is =
      reply-failed id reply (ap part.frontends (some_same is_on) ∙ in') (has_failed (at_moment moment p) id reply is) (answered p moment (ConnectFailed id) reply is)
  part_reply n (Close id why) reply is_on in' is = reply-closed id why reply (ap part.frontends (some_same is_on) ∙ in') is
  part_reply n (Expire id) reply is_on in' is =
      let got = expired (at_moment moment p) (max p.clock moment) id reply is in
      reply-plain (Expire id) (Refuse id 0 Expired) reply id got.row tt tt refl (ap part.frontends (some_same is_on) ∙ in') got.row_is (λ v. tt) got.reply_is (λ number r. refl)
  part_reply n (Reload text) reply is_on in' is = nothing is_on
  part_reply n (Mark number k health) reply is_on in' is = nothing is_on
