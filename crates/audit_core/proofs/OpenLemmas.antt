-- How many connections are open after one entry more.
use Rattle.std.proofs.Common.{◌≡◌, ℕ, ◌+◌, ◌≤◌, Bool, true, false, List, [], ◌∷◌, ◌++◌, length, Option, Some, None, Result, Ok, Err, refl, arith}
use Rattle.std.specs.Prelude.{◌==◌, ◌&&◌, not, nat_le, map, filter, if◌then◌else◌}
use Rattle.std.proofs.lemmas.Bool.Decides.{nat_tests}
use Rattle.std.proofs.lemmas.List.{length-append, length-map}
use Rattle.addr_core.specs.PairValue.{PairValue}
use Rattle.plan_types.specs.declared.plan.Frontend.{Frontend}
use Rattle.plan_types.specs.declared.plan.Plan.{Plan}
use Rattle.conn_model.specs.declared.event.ConnId.{ConnId}
use Rattle.conn_model.specs.declared.event.OwnedEvent.{OwnedEvent}
use Rattle.conn_model.specs.declared.event.OwnedEvent.TheVariants.{Accept, Piece, Connected, ConnectFailed, Close, Expire, Reload, Mark}
use Rattle.conn_model.specs.declared.plain.FrontendRows.{FrontendRows}
use Rattle.conn_model.specs.declared.plain.Plain.{Plain}
use Rattle.conn_model.specs.declared.plain.Row.{Row}
use Rattle.conn_model.specs.declared.reply.Reply.{Reply}
use Rattle.conn_model.specs.declared.reply.Said.{Said}
use Rattle.conn_model.specs.declared.reply.StepFault.{StepFault}
use Rattle.conn_model.specs.Answer.{new_row}
use Rattle.conn_model.specs.Counts.{total, open_connections}
use Rattle.conn_model.specs.History.{Entry, after, arrival, arrival_of, arrivals, entry, frontend_after, has_ended, id_of, leaves_open, opening, row_after}
use Rattle.conn_model.specs.Words.{map_from}
use Rattle.replay_core.specs.Turns.{plain_after}

rows_of : FrontendRows → ℕ
rows_of own = length own.rows

abbrev hits : ℕ → ℕ → ℕ
hits place n = if place == n then 1 else 0

abbrev ahead : ℕ → ℕ → ℕ
ahead place n = if nat_le n place then 1 else 0

one_ahead : (place n : ℕ) → hits place n + ahead place (n + 1) ≤ ahead place n
one_ahead place n = by (place == n) refl (nat_le (n + 1) place) refl (nat_le n place) refl
  where
    by : (a : Bool) → (place == n) ≡ a → (b : Bool) → nat_le (n + 1) place ≡ b → (c : Bool) → nat_le n place ≡ c → (if a then 1 else 0) + (if b then 1 else 0) ≤ (if c then 1 else 0)
    by true here true next true there = grind (arith, nat_tests)
    by true here true next false there = grind (arith, nat_tests)
    by true here false next true there = omega arith
    by true here false next false there = grind (arith, nat_tests)
    by false here true next true there = omega arith
    by false here true next false there = grind (arith, nat_tests)
    by false here false next true there = omega arith
    by false here false next false there = omega arith

-- where one frontend at most gets a row more
few_more : (change : ℕ → FrontendRows → FrontendRows) (place : ℕ) → ((n : ℕ) (own : FrontendRows) → length (change n own).rows ≤ length own.rows + hits place n)
    → (n : ℕ) (owns : List FrontendRows) → total (λ own. length own.rows) (map_from change n owns) ≤ total (λ own. length own.rows) owns + ahead place n
few_more change place one n [] = omega arith
few_more change place one n (own ∷ owns) = omega (arith, one n own, few_more change place one (n + 1) owns, one_ahead place n)

filter_few : (test : Row → Bool) (rows : List Row) → length (filter test rows) ≤ length rows
filter_few test [] = omega arith
filter_few test (row ∷ rows) = by (test row) refl (filter_few test rows)
  where
    by : (b : Bool) → test row ≡ b → length (filter test rows) ≤ length rows → length (filter test (row ∷ rows)) ≤ length (row ∷ rows)
    by true is few = rw is (omega (arith, few))
    by false is few = rw is (omega (arith, few))

-- at most one row comes, in one frontend
one_comes : (id : Option ConnId) (clock version : ℕ) (real : PairValue) (said : Said)
    → (place : ℕ) × ((n : ℕ) → length (arrival_of n clock version real said id) ≤ hits place n)
one_comes None clock version real said = (0, λ n. omega arith)
one_comes (Some id) clock version real said = (id.frontend, λ n. by n (leaves_open said) (id.frontend == n))
  where
    by : (n : ℕ) → (a b : Bool) → length (if a && b then new_row id.serial version real clock ∷ [] else []) ≤ (if b then 1 else 0)
    by n true true = omega arith
    by n true false = omega arith
    by n false true = omega arith
    by n false false = omega arith

one_arrives : (clock version : ℕ) (event : OwnedEvent) (said : Said) → (place : ℕ) × ((n : ℕ) → length (arrival n clock version event said) ≤ hits place n)
one_arrives clock version (Accept listener real) said = one_comes (id_of said) clock version real said
one_arrives clock version (Piece id bytes) said = (0, λ n. omega arith)
one_arrives clock version (Connected id) said = (0, λ n. omega arith)
one_arrives clock version (ConnectFailed id) said = (0, λ n. omega arith)
one_arrives clock version (Close id why) said = (0, λ n. omega arith)
one_arrives clock version (Expire id) said = (0, λ n. omega arith)
one_arrives clock version (Reload text) said = (0, λ n. omega arith)
one_arrives clock version (Mark backend n health) said = (0, λ n. omega arith)

-- at most one connection more is open
pub open_after : (p : Plain) (e : Entry) → open_connections (after p (e ∷ [])) ≤ open_connections p + 1
open_after p e =
    let one = one_arrives _ _ e.event e.reply.said in
    let more : (n : ℕ) (own : FrontendRows) → length (frontend_after p (e ∷ []) n own).rows ≤ length own.rows + hits one.0 n =
    λ n own.
    let comes : length (arrivals p n (e ∷ [])) ≤ hits one.0 n = one.1 n in
    let mapped = length-map (filter (λ row. not (has_ended n (e ∷ []) row.serial)) (own.rows ++ arrivals p n (e ∷ []))) (row_after p n (e ∷ [])) in
    let kept = filter_few (λ row. not (has_ended n (e ∷ []) row.serial)) (own.rows ++ arrivals p n (e ∷ [])) in
    let both = length-append own.rows (arrivals p n (e ∷ [])) in
    omega (arith, comes, mapped, kept, both) in
    let all = few_more (frontend_after p (e ∷ [])) one.0 more 0 p.frontends in
    let most : ahead one.0 0 ≤ 1 = at_most one.0 in
    omega (arith, all, most)
  where
    at_most : (place : ℕ) → ahead place 0 ≤ 1
    at_most place = by (nat_le 0 place)
      where
        by : (b : Bool) → (if b then 1 else 0) ≤ 1
        by true = omega arith
        by false = omega arith

pub open_answered : (p : Plain) (moment : ℕ) (event : OwnedEvent) (answered : Result Reply StepFault) → open_connections (plain_after p moment event answered) ≤ open_connections p + 1
open_answered p moment event (Ok reply) = open_after p (entry moment event reply)
open_answered p moment event (Err fault) = omega arith

none_in : (frontends : List Frontend) (last : ℕ) → total (λ (own : FrontendRows). length own.rows) (map (λ (frontend : Frontend). record { name = frontend.name; serial = last; rows = [] }) frontends) ≡ 0
none_in [] last = refl
none_in (frontend ∷ frontends) last = omega (arith, none_in frontends last)

-- none is open at first
pub none_open : (plan : Plan) (last : ℕ) → open_connections (opening plan last) ≡ 0
none_open plan last = none_in plan.frontends last
