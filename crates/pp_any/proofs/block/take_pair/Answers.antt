use Rattle.std.proofs.Common.{◌≡◌, ◌-◌, ◌++◌, take, length, min, ap, ◌∙◌, sym, arith}
use Rattle.std.proofs.lemmas.List.{take_min}
use Rattle.pp_v2.specs.Head.{pair_length}
use Rattle.pp_any.proofs.Rests.{take-append_front}
use Rattle.pp_any.proofs.block.take_pair.Goals as goal

pub returns : goal.returns
returns c =
    let wanting : c.from.result - c.len.result ≡ pair_length c.args.family - length c.args.bytes.now.items = omega arith in
    let taken : c.min-taken.result ≡ min (pair_length c.args.family - length c.args.bytes.now.items) (length c.args.piece.now) =
    c.min-taken.ensures ∙ ap (λ n. min n (length c.args.piece.now)) wanting in
    c.in-Ok.ensures.ok
    ∙ ap (λ n. c.args.bytes.now.items ++ take n c.args.piece.now) taken
    ∙ ap (λ e. c.args.bytes.now.items ++ e) (take_min (pair_length c.args.family - length c.args.bytes.now.items) c.args.piece.now)
    ∙ sym (take-append_front (pair_length c.args.family) c.args.bytes.now.items c.args.piece.now c.requires)
