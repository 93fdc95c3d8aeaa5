-- Lists of steps, each with its moment, and those of their answers that are to a part.
use Rattle.std.specs.Prelude.{ℕ, Bool, true, false, List, [], slice_get, Option, Some, None, Result, Ok, Err, is_ok, nat_le, ◌≡◌, ◌&&◌, ◌∷◌, if◌then◌else◌}
use Rattle.std.specs.Option.{option_map, option_map_or}
use Rattle.plan_types.specs.declared.plan.Plan.{Plan}
use Rattle.config_core.specs.Meaning.{meaning}
use Rattle.conn_model.specs.declared.event.OwnedEvent.{OwnedEvent}
use Rattle.conn_model.specs.declared.event.OwnedEvent.TheVariants.{Accept, Piece, Connected, ConnectFailed, Close, Expire, Reload, Mark}
use Rattle.conn_model.specs.declared.plain.Listener.{Listener}
use Rattle.conn_model.specs.declared.plain.Plain.{Plain}
use Rattle.conn_model.specs.declared.reply.Reply.{Reply}
use Rattle.conn_model.specs.declared.reply.StepFault.{StepFault}
use Rattle.conn_model.specs.Answer.{answer_in}
use Rattle.conn_model.specs.Counts.{newest_backend}
use Rattle.conn_model.specs.History.{after, answer, entry, Entry}
use Rattle.tenant_laws.specs.Parts.{keeps_apart, Part}

-- a step is an event with the moment that is handed in
abbrev pub Steps : Type 0
Steps = List (ℕ × OwnedEvent)

-- the state after a step with that answer: a fault changes nothing
abbrev pub next_state : Plain → ℕ → OwnedEvent → Result Reply StepFault → Plain
next_state p moment event (Ok reply) = after p (entry moment event reply ∷ [])
next_state p moment event (Err fault) = p

-- the answers to the steps, one after the other
abbrev pub answers_to : Plain → Steps → List (Result Reply StepFault)
answers_to p [] = []
answers_to p ((moment, event) ∷ steps) =
    let said : Result Reply StepFault = answer_in p moment event in
    said ∷ answers_to (next_state p moment event said) steps

-- the same by the history of the steps that were answered

abbrev pub history_with : List Entry → ℕ → OwnedEvent → Result Reply StepFault → List Entry
history_with h moment event (Ok reply) = entry moment event reply ∷ h
history_with h moment event (Err fault) = h

abbrev pub answers_after : Plain → List Entry → Steps → List (Result Reply StepFault)
answers_after p h [] = []
answers_after p h ((moment, event) ∷ steps) =
    let said : Result Reply StepFault = answer p h moment event in
    said ∷ answers_after p (history_with h moment event said) steps

-- the number of the frontend that an event is on; a reload and a report of a server are on none
abbrev pub frontend_of : List Listener → OwnedEvent → Option ℕ
frontend_of listeners (Accept listener real) = option_map (λ at. at.frontend) (slice_get listeners listener)
frontend_of listeners (Piece id bytes) = Some id.frontend
frontend_of listeners (Connected id) = Some id.frontend
frontend_of listeners (ConnectFailed id) = Some id.frontend
frontend_of listeners (Close id why) = Some id.frontend
frontend_of listeners (Expire id) = Some id.frontend
frontend_of listeners (Reload text) = None
frontend_of listeners (Mark number n health) = None

-- The side that an event is on, the part's (`true`) or the others': that of its frontend, or of the backend whose server
-- is reported, by its name in the newest version. A reload is on neither, nor is an event where there is no such frontend
-- or backend.
abbrev pub side_of : Part → Plain → OwnedEvent → Option Bool
side_of part p (Mark number n health) = option_map (λ backend. part.backend_names backend.name) (newest_backend p.versions number)
side_of part p event = option_map part.frontends (frontend_of p.listeners event)

-- the event is on the part
abbrev pub is_on : Part → Plain → OwnedEvent → Bool
is_on part p event = option_map_or (λ side. side) (side_of part p event) false

-- the answers to the steps on the part, faults included
abbrev pub part_answers : Part → Plain → Steps → List (Result Reply StepFault)
part_answers part p [] = []
part_answers part p ((moment, event) ∷ steps) =
    let said : Result Reply StepFault = answer_in p moment event in
    let rest : List (Result Reply StepFault) = part_answers part (next_state p moment event said) steps in
    if is_on part p event then said ∷ rest else rest

-- a reload that is accepted
abbrev pub is_accepted : OwnedEvent → Result Reply StepFault → Bool
is_accepted (Reload text) said = is_ok said
is_accepted event said = false

-- the step is on the part, or it is a reload that is accepted
abbrev pub is_alone : Part → Plain → OwnedEvent → Result Reply StepFault → Bool
is_alone part p event said = if is_on part p event then true else is_accepted event said

-- the run without the others' steps: the steps on the part and the accepted reloads, in their order
abbrev pub alone : Part → Plain → Steps → Steps
alone part p [] = []
alone part p ((moment, event) ∷ steps) =
    let said : Result Reply StepFault = answer_in p moment event in
    let rest : Steps = alone part (next_state p moment event said) steps in
    if is_alone part p event said then (moment, event) ∷ rest else rest

-- the moments never fall
abbrev pub is_rising : ℕ → Steps → Bool
is_rising start [] = true
is_rising start ((moment, event) ∷ steps) = nat_le start moment && is_rising moment steps

-- the text that comes with an event, if it is a plan's, keeps the part apart
abbrev pub TextKeepsApart : Part → OwnedEvent → Type 0
TextKeepsApart part (Reload text) = (plan : Plan) → meaning text ≡ Ok plan → keeps_apart part plan ≡ true
TextKeepsApart part event = Unit {0}

-- so of the text of each accepted reload
abbrev pub TextsKeepApart : Part → Plain → Steps → Type 0
TextsKeepApart part p [] = Unit {0}
TextsKeepApart part p ((moment, event) ∷ steps) =
    (is_ok (answer_in p moment event) ≡ true → TextKeepsApart part event) × TextsKeepApart part (next_state p moment event (answer_in p moment event)) steps
