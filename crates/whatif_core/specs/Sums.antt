-- What is counted of what both say of a record.
use Rattle.std.specs.Prelude.{ℕ, ◌+◌, nat_lt, Bool, ◌||◌, List, [], ◌∷◌, ◌++◌, codes, Option, Some, None, is_some, if◌then◌else◌}
use Rattle.std.specs.List.{flat_map}
use Rattle.std.specs.Str.{bytes_eq}
use Rattle.text_core.specs.Decimal.{decimal}
use Rattle.whatif_core.specs.declared.decision.ComparedDecision.{ComparedDecision}
use Rattle.whatif_core.specs.declared.tally.PairCount.{PairCount}
use Rattle.whatif_core.specs.declared.turn.Turn.{Turn}
use Rattle.whatif_core.specs.Deciding.{difference, is_lost, is_other_server, is_parted, is_saved, of_both, pair_text}

-- how often each two decisions differ, in the order in which they came up first; how many connections differ, of how many
-- that were accepted; how many got another server of their backend; how many are let in that were refused; how many are
-- lost, and how many saved, whose server was out of reach; and how often anything differs
pub record Sums : Type 0 where
  pub pairs : List PairCount
  pub changed : ℕ
  pub accepted : ℕ
  pub other_server : ℕ
  pub let_in : ℕ
  pub lost : ℕ
  pub saved : ℕ
  pub differing : ℕ

-- nothing was counted yet
abbrev pub no_sums : Sums
no_sums = record {
  pairs = [];
  changed = 0;
  accepted = 0;
  other_server = 0;
  let_in = 0;
  lost = 0;
  saved = 0;
  differing = 0;
}

-- one more; a count does not pass 2^64 - 1
abbrev pub one_more : ℕ → ℕ
one_more count = if nat_lt count 0xFFFF_FFFF_FFFF_FFFF then count + 1 else count

abbrev pub more : ℕ → Bool → ℕ
more count is = if is then one_more count else count

abbrev pub first_of_its_kind : List ℕ → PairCount
first_of_its_kind text = record { text = text; count = 1 }

abbrev pub counted_again : PairCount → PairCount
counted_again pair = record { text = pair.text; count = one_more pair.count }

abbrev pub has_text : List ℕ → PairCount → Bool
has_text text pair = bytes_eq pair.text text

-- two decisions of that text came up once more
abbrev pub pairs_on : List ℕ → List PairCount → List PairCount
pairs_on text [] = first_of_its_kind text ∷ []
pairs_on text (pair ∷ pairs) = if has_text text pair then counted_again pair ∷ pairs else pair ∷ pairs_on text pairs

abbrev pub pairs_with : List PairCount → Option (ComparedDecision × ComparedDecision) → List PairCount
pairs_with pairs None = pairs
pairs_with pairs (Some pair) = pairs_on (pair_text pair) pairs

-- anything differs: the decisions, or what comes of a connection whose server is out of reach
abbrev pub is_differing : Turn → Bool
is_differing turn =
    is_some (difference turn.was turn.would) || is_parted turn.came turn.would_come

-- the counts after what both say of an entry
abbrev pub sums_with : Sums → Turn → Sums
sums_with sums turn = record {
  pairs = pairs_with sums.pairs (difference turn.was turn.would);
  changed = more sums.changed (is_some (difference turn.was turn.would));
  accepted = more sums.accepted (is_some turn.peer);
  other_server = more sums.other_server (of_both is_other_server turn.was turn.would);
  let_in = more sums.let_in turn.let_in;
  lost = more sums.lost (is_lost turn.came turn.would_come);
  saved = more sums.saved (is_saved turn.came turn.would_come);
  differing = more sums.differing (is_differing turn);
}

abbrev pub pair_line : PairCount → List ℕ
pair_line pair = decimal pair.count ++ codes " " ++ pair.text ++ codes "\n"

abbrev pub changed_text : ℕ → ℕ → List ℕ
changed_text changed accepted = (codes "changed " ++ decimal changed) ++ (codes " of " ++ decimal accepted)

abbrev pub others_text : ℕ → ℕ → List ℕ
others_text other_server let_in = (codes "\nother server " ++ decimal other_server) ++ (codes "\nlet in " ++ decimal let_in)

abbrev pub failures_text : ℕ → ℕ → List ℕ
failures_text lost saved =
    (codes "\nlost " ++ decimal lost) ++ (codes "\nsaved " ++ decimal saved) ++ codes "\n"

-- the counts as lines
abbrev pub sums_text : Sums → List ℕ
sums_text sums =
    flat_map pair_line sums.pairs
    ++ changed_text sums.changed sums.accepted
    ++ others_text sums.other_server sums.let_in
    ++ failures_text sums.lost sums.saved
