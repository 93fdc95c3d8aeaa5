use Rattle.std.proofs.Common.{◌≡◌, ℕ, List, ◌++◌, length, take}
use Rattle.pp_any.specs.Rest.{IsRest}
use Rattle.pp_any.specs.Fed.{bytes_of}
use Rattle.pp_any.proofs.parser.Parser.feed_all.Given as goal

abbrev pub invariant-loop-piece : goal.invariant-loop-piece
invariant-loop-piece l = record {
  read : l.read ≡ length (bytes_of (take l.piece-index l.pieces));
  held : (b : List ℕ) → IsRest b l.initial.parser → IsRest (b ++ bytes_of (take l.piece-index l.pieces)) l.parser;
}
