-- What is tried for one connection, and what it is answered.
use Rattle.std.specs.Prelude.{◌≡◌, ℕ, Bool, true, false, not, ◌&&◌, ◌||◌, nat_lt, List, [], ◌∷◌, ◌++◌, Option, Some, None, is_none, slice_get, Ok, if◌then◌else◌}
use Rattle.std.specs.Option.{option_map_or}
use Rattle.addr_core.specs.PairValue.{PairValue}
use Rattle.conf_text.specs.declared.line.Line.{Line}
use Rattle.pp_any.specs.declared.rest.Rest.TheVariants.{Read}
use Rattle.pp_any.specs.NextPiece.{status_on}
use Rattle.pp_any.specs.Status.{Status, Wait, Whole, Fault}
use Rattle.rule_engine.specs.Meaning.{present}
use Rattle.rule_engine.specs.Judging.{TrackSlots, judged, judged_after, no_tracks}
use Rattle.rule_engine.specs.declared.judging.Judged.{Judged}
use Rattle.conn_model.specs.declared.event.ConnId.{ConnId}
use Rattle.conn_model.specs.declared.event.OwnedEvent.TheVariants.{Accept, Piece}
use Rattle.conn_model.specs.declared.plain.Listener.{Listener}
use Rattle.conn_model.specs.declared.plain.Plain.{Plain}
use Rattle.conn_model.specs.declared.reply.Reply.{Reply}
use Rattle.conn_model.specs.declared.reply.Said.{Said}
use Rattle.conn_model.specs.declared.reply.Said.TheVariants as saids
use Rattle.conn_model.specs.Answer.{answer_in, at_moment, judged_pair}
use Rattle.conn_model.specs.Rules.{rejection, scene_of, worth}
use Rattle.conn_model.specs.History.{after, entry}
use Rattle.event_text.specs.Replies.{reply_line}
use Rattle.conn_core.specs.declared.facts.RuleFacts.{RuleFacts}
use Rattle.conn_core.specs.Judging.{facts_view}
use Rattle.conn_core.specs.Seeing.{SeesNext, SeesWaiting}
use Rattle.explain_core.specs.declared.explaining.Explanation.{Explanation}
use Rattle.explain_core.specs.declared.explaining.Trials.{Trials}
use Rattle.explain_core.specs.declared.tried.Tried.{Tried}
use Rattle.explain_core.specs.declared.tried.TriedChoice.{TriedChoice}
use Rattle.explain_core.specs.Text.{accept_text, header_text, trials_text}
use Rattle.explain_core.specs.Tried.{tried, tried_choices}

-- Lists of rules.

-- its frontend has no place for the connection
abbrev pub is_full : RuleFacts → Bool
is_full facts = nat_lt facts.frontend.now.limit facts.connections

-- the connection rules that are tried
abbrev pub entry_tried : RuleFacts → List Tried
entry_tried facts = if is_full facts then [] else tried (scene_of (facts_view facts)) no_tracks facts.frontend.now.connection_rules

-- what they say
abbrev pub entry_says : RuleFacts → Judged
entry_says facts = judged (scene_of (facts_view facts)) facts.frontend.now.connection_rules

-- what the session rules say, where the step tracks those before
abbrev pub session_says : RuleFacts → TrackSlots → Judged
session_says facts earlier = judged_after (scene_of (facts_view facts)) earlier facts.frontend.now.session_rules

-- the `use_backend` lines that are tried, unless a session rule rejects
abbrev pub choices_unless : Option ℕ → RuleFacts → TrackSlots → List TriedChoice
choices_unless (Some line) facts tracks = []
choices_unless None facts tracks = tried_choices facts.frontend.now.acls (worth (facts_view facts (present tracks))) facts.frontend.now.choices

-- what is tried once it is known who the client is
pub record AreTried (facts : RuleFacts) (earlier : TrackSlots) (trials : Trials) : Type 0 where
  pub session : trials.session.items ≡ tried (scene_of (facts_view facts)) earlier facts.frontend.now.session_rules
  pub says : trials.says ≡ session_says facts earlier
  pub choices : trials.choices.items ≡ choices_unless (rejection (session_says facts earlier)) facts (session_says facts earlier).tracks

abbrev pub AreTriedBy : RuleFacts → TrackSlots → Option Trials → Type 0
AreTriedBy facts earlier None = ⊥
AreTriedBy facts earlier (Some trials) = AreTried facts earlier trials

-- At its accept.

-- the connection rules let it in, and no header has to come
abbrev pub goes_on : Bool → Judged → Bool
goes_on accept_proxy says = is_none (rejection says) && not (accept_proxy || says.expects_header)

-- its accept decides what becomes of it after the connection rules
abbrev pub is_judged_at : Bool → RuleFacts → Bool
is_judged_at accept_proxy facts = not (is_full facts) && goes_on accept_proxy (entry_says facts)

-- what its accept tries after the connection rules
pub record AreTriedAt (accept_proxy : Bool) (facts : RuleFacts) (trials : Option Trials) : Type 0 where
  pub judged : is_judged_at accept_proxy facts ≡ true → AreTriedBy facts (entry_says facts).tracks trials
  pub nothing : is_judged_at accept_proxy facts ≡ false → trials ≡ None

-- all that its accept tries, at moment 0
pub record IsTriedNext (p : Plain) (listener : ℕ) (real : PairValue) (accept_proxy : Bool) (rules : List Tried) (rest : Option Trials) : Type 0 where
  pub facts : RuleFacts
  pub sees : SeesNext (at_moment 0 p) listener real facts
  pub entry : rules ≡ entry_tried facts
  pub trials : AreTriedAt accept_proxy facts rest

-- After its header.

-- what is tried at moment 0 of a connection that is judged by that pair, once its header of so many bytes is whole, and
-- as text
pub record IsTriedLater (p : Plain) (lines : List Line) (id : ConnId) (judged : PairValue) (header : List ℕ) (count : ℕ) (trials : Option Trials) (text : List ℕ) : Type 0 where
  pub facts : RuleFacts
  pub sees : SeesWaiting (at_moment 0 p) id judged facts
  pub tried : AreTriedBy facts no_tracks trials
  pub text_is : text ≡ header_text header count judged ++ option_map_or (trials_text lines facts) trials []

-- what is tried once a connection that waits has that header, and as text: nothing unless the header is whole
abbrev pub AreTriedLater : Plain → List Line → ConnId → PairValue → List ℕ → Status → Option Trials → List ℕ → Type 0
AreTriedLater p lines id real header Wait trials text = (trials ≡ None) × (text ≡ [])
AreTriedLater p lines id real header (Fault fault count) trials text = (trials ≡ None) × (text ≡ [])
AreTriedLater p lines id real header (Whole count meaning) trials text = IsTriedLater p lines id (judged_pair real meaning) header count trials text

-- what a header says that comes in one piece
abbrev pub header_status : List ℕ → Status
header_status bytes = status_on (Read (record { items = [] })) bytes

-- the connection that a reply lets wait
abbrev pub waiting_in : Said → Option ConnId
waiting_in (saids.Wait id used) = Some id
waiting_in said = None

-- All of it.

-- What is tried after the connection rules, the last reply, and what is written between the accept and that reply: those of
-- its accept, or of its header where it waits for one that came.
abbrev pub IsDecided : Plain → List Line → PairValue → Reply → Option Trials → Option ConnId → Option (List ℕ) → Option Trials → Reply → List ℕ → Type 0
IsDecided p lines real first at_accept (Some id) (Some header) trials reply text =
    AreTriedLater p lines id real header (header_status header) trials text × (answer_in p 0 (Piece id header) ≡ Ok reply)
IsDecided p lines real first at_accept None header trials reply text = (trials ≡ at_accept) × (reply ≡ first) × (text ≡ [])
IsDecided p lines real first at_accept (Some id) None trials reply text = (trials ≡ at_accept) × (reply ≡ first) × (text ≡ [])

-- what is tried for the connection of that pair, its last reply, and the text of both, in a balancer of that state whose
-- configuration has those lines
pub record IsExplained (p : Plain) (lines : List Line) (real : PairValue) (header : Option (List ℕ)) (e : Explanation) : Type 0 where
  pub at : Listener
  pub at_accept : Option Trials
  pub first : Reply
  pub later : List ℕ
  pub listens : slice_get p.listeners e.listener ≡ Some at
  pub next : IsTriedNext p e.listener real at.accept_proxy e.entry.items at_accept
  pub answers : answer_in p 0 (Accept e.listener real) ≡ Ok first
  pub decided : IsDecided (after p (entry 0 (Accept e.listener real) first ∷ [])) lines real first at_accept (waiting_in first.said) header e.trials e.reply later
  pub text : e.text.items ≡ accept_text lines next.facts at e.entry.items at_accept ++ later ++ reply_line e.reply
