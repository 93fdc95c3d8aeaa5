use Rattle.std.proofs.Common.{◌+◌, ◌++◌, ℕ, List, [], Bor, length, take, drop, get_or, ap, arith, length-append}
use Rattle.std.specs.Prelude.{Ok, Err}
use Rattle.pp_any.specs.Fed.{bytes_of}
use Rattle.pp_any.proofs.Pieces.{decided_by, joined_around, joined_more, rest_after_piece, rest_at_end, used_of_all}
use Rattle.pp_any.proofs.parser.Parser.feed_all.Goals as goal

abbrev nothing : Bor (List ℕ)
nothing = record { ref_ptr = (0, 0); now = [] }

pub overflow_add-result : goal.overflow_add-result
overflow_add-result c =
    let within = used_of_all (bytes_of (take c.loop-piece.piece-index c.args.pieces.now)) (get_or c.args.pieces.now c.loop-piece.piece-index nothing).now (bytes_of (drop (c.loop-piece.piece-index + 1) c.args.pieces.now)) (bytes_of c.args.pieces.now) c.loop-piece.read c.in-Whole.used (joined_around c.args.pieces.now c.loop-piece.piece-index nothing c.loop-piece-test.true) c.loop-piece.invariant.read c.in-Whole.ensures.used in
    omega arith

pub returns-in-Whole : goal.returns-in-Whole
returns-in-Whole c = record {
  answers = λ b rest. (
    used_of_all (bytes_of (take c.loop-piece.piece-index c.args.pieces.now)) (get_or c.args.pieces.now c.loop-piece.piece-index nothing).now (bytes_of (drop (c.loop-piece.piece-index + 1) c.args.pieces.now)) (bytes_of c.args.pieces.now) c.loop-piece.read c.in-Whole.used (joined_around c.args.pieces.now c.loop-piece.piece-index nothing c.loop-piece-test.true) c.loop-piece.invariant.read c.in-Whole.ensures.used,
    decided_by b (bytes_of (take c.loop-piece.piece-index c.args.pieces.now)) (get_or c.args.pieces.now c.loop-piece.piece-index nothing).now (bytes_of (drop (c.loop-piece.piece-index + 1) c.args.pieces.now)) (bytes_of c.args.pieces.now) c.loop-piece.read c.in-Whole.used (Ok c.in-Whole.meaning) (joined_around c.args.pieces.now c.loop-piece.piece-index nothing c.loop-piece-test.true) c.loop-piece.invariant.read
        (c.in-Whole.ensures.answers (b ++ (bytes_of (take c.loop-piece.piece-index c.args.pieces.now))) (c.loop-piece.invariant.held b rest)).1,
  );
}

pub overflow_add-result-in-Bad : goal.overflow_add-result-in-Bad
overflow_add-result-in-Bad c =
    let within = used_of_all (bytes_of (take c.loop-piece.piece-index c.args.pieces.now)) (get_or c.args.pieces.now c.loop-piece.piece-index nothing).now (bytes_of (drop (c.loop-piece.piece-index + 1) c.args.pieces.now)) (bytes_of c.args.pieces.now) c.loop-piece.read c.in-Bad.used (joined_around c.args.pieces.now c.loop-piece.piece-index nothing c.loop-piece-test.true) c.loop-piece.invariant.read c.in-Bad.ensures.used in
    omega arith

pub returns-in-Bad : goal.returns-in-Bad
returns-in-Bad c = record {
  answers = λ b rest. (
    used_of_all (bytes_of (take c.loop-piece.piece-index c.args.pieces.now)) (get_or c.args.pieces.now c.loop-piece.piece-index nothing).now (bytes_of (drop (c.loop-piece.piece-index + 1) c.args.pieces.now)) (bytes_of c.args.pieces.now) c.loop-piece.read c.in-Bad.used (joined_around c.args.pieces.now c.loop-piece.piece-index nothing c.loop-piece-test.true) c.loop-piece.invariant.read c.in-Bad.ensures.used,
    decided_by b (bytes_of (take c.loop-piece.piece-index c.args.pieces.now)) (get_or c.args.pieces.now c.loop-piece.piece-index nothing).now (bytes_of (drop (c.loop-piece.piece-index + 1) c.args.pieces.now)) (bytes_of c.args.pieces.now) c.loop-piece.read c.in-Bad.used (Err c.in-Bad.fault) (joined_around c.args.pieces.now c.loop-piece.piece-index nothing c.loop-piece-test.true) c.loop-piece.invariant.read
        (c.in-Bad.ensures.answers (b ++ (bytes_of (take c.loop-piece.piece-index c.args.pieces.now))) (c.loop-piece.invariant.held b rest)).1,
  );
}

pub overflow_add-read : goal.overflow_add-read
overflow_add-read c =
    let within = used_of_all (bytes_of (take c.loop-piece.piece-index c.args.pieces.now)) (get_or c.args.pieces.now c.loop-piece.piece-index nothing).now (bytes_of (drop (c.loop-piece.piece-index + 1) c.args.pieces.now)) (bytes_of c.args.pieces.now) c.loop-piece.read (length (get_or c.args.pieces.now c.loop-piece.piece-index nothing).now) (joined_around c.args.pieces.now c.loop-piece.piece-index nothing c.loop-piece-test.true) c.loop-piece.invariant.read (omega arith) in
    omega arith

pub loop-piece-preserved : goal.loop-piece-preserved
loop-piece-preserved c = record {
  read =
      let more = ap length (joined_more c.args.pieces.now c.loop-piece.piece-index nothing c.loop-piece-test.true) in
      let both = length-append (bytes_of (take c.loop-piece.piece-index c.args.pieces.now)) (get_or c.args.pieces.now c.loop-piece.piece-index nothing).now in
      let count = c.loop-piece.invariant.read in
      omega arith;
  held = λ b rest.
      rest_after_piece b (bytes_of (take c.loop-piece.piece-index c.args.pieces.now)) (get_or c.args.pieces.now c.loop-piece.piece-index nothing).now (bytes_of (take (c.loop-piece.piece-index + 1) c.args.pieces.now)) c.in-More.next
      (joined_more c.args.pieces.now c.loop-piece.piece-index nothing c.loop-piece-test.true)
      (c.in-More.ensures.answers (b ++ (bytes_of (take c.loop-piece.piece-index c.args.pieces.now))) (c.loop-piece.invariant.held b rest));
}

pub returns : goal.returns
returns c = record {
  answers = λ b rest. rest_at_end b c.args.pieces.now c.loop-piece.piece-index c.loop-piece.parser c.loop-piece-test.false (c.loop-piece.invariant.held b rest);
}
