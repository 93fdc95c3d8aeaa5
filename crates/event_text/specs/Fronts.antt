-- What the first of some words says, with the words after it.
use Rattle.std.specs.Prelude.{ℕ, List, [], ◌∷◌, Option, None, option_map}
use Rattle.text_core.specs.Decimal.{decimal_of}
use Rattle.addr_core.specs.PairValue.{PairValue}
use Rattle.conn_model.specs.declared.event.ConnId.{ConnId}
use Rattle.conn_model.specs.declared.event.OwnedEvent.{OwnedEvent}
use Rattle.event_text.specs.Script.{ends_of, event_by_verb, head_by_verb, id_of, EventHead}

-- the number of the first of some words, and the others
abbrev pub number_first : ℕ → List (List ℕ) → Option (ℕ × List (List ℕ))
number_first most (word ∷ next ∷ more) = option_map (λ number. (number, next ∷ more)) (decimal_of word most)
number_first most words = None

-- the connection that the first of some words names, and the others
abbrev pub id_first : List (List ℕ) → Option (ConnId × List (List ℕ))
id_first (word ∷ next ∷ more) = option_map (λ id. (id, next ∷ more)) (id_of word)
id_first words = None

-- the connection that one word names
abbrev pub id_alone : List (List ℕ) → Option ConnId
id_alone (word ∷ []) = id_of word
id_alone words = None

-- the pair of two words
abbrev pub ends_in : List (List ℕ) → Option PairValue
ends_in (peer ∷ local ∷ []) = ends_of peer local
ends_in words = None

-- the event of the words after its moment
abbrev pub event_after : List (List ℕ) → Option OwnedEvent
event_after [] = None
event_after (verb ∷ words) = event_by_verb verb words

-- what the words after its moment say of an event
abbrev pub head_after : ℕ → List (List ℕ) → Option EventHead
head_after moment [] = None
head_after moment (verb ∷ words) = head_by_verb moment verb words
