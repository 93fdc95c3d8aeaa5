-- What a read from memory moves.
use Rattle.std.proofs.Common.{◌≡◌, ℕ, ◌≤◌, List, ◌++◌, length, take, drop, Result, Ok, Err, Some, ◌∙◌, sym, ap, arith, refl, length-append}
use Rattle.std.proofs.Math.Seq.{take-append_seam}
use Rattle.std.proofs.lemmas.List.{take-append-drop, length-take-le}
use Rattle.device_core.specs.Device.{Reads}
use Rattle.device_core.specs.Memory.{got_count, IsFairRead}
use Rattle.device_core.specs.declared.device.Got.{Got}
use Rattle.device_core.specs.declared.device.Got.TheVariants as got
use Rattle.device_core.specs.declared.device.Failed.{Failed}

given : (left buffer after : List ℕ) (n : ℕ) → n ≤ length left → n ≤ length buffer → after ≡ take n left ++ drop n buffer
    → (n ≤ length after) × (left ≡ take n after ++ drop n left)
given left buffer after n within fits is =
    let size : length (take n left) ≡ n = length-take-le n left within in
    let front : take n after ≡ take n left =
    ap (λ xs. take n xs) is ∙ ap (λ k. take k (take n left ++ drop n buffer)) (sym size) ∙ take-append_seam (take n left) (drop n buffer) in (
      omega (arith, ap length is, length-append (take n left) (drop n buffer), size),
      sym (ap (λ xs. xs ++ drop n left) front ∙ take-append-drop n left),
    )

pub reads_memory : (answer : Result Got Failed) (left buffer after : List ℕ) → got_count answer ≤ length left → got_count answer ≤ length buffer
    → IsFairRead answer left → after ≡ take (got_count answer) left ++ drop (got_count answer) buffer
    → Reads answer (Some left) (Some (drop (got_count answer) left)) after
reads_memory (Ok (got.Bytes n)) left buffer after within fits fair is = let moved = given left buffer after n within fits is in (fair, moved.0, moved.1)
reads_memory (Ok got.End) left buffer after within fits fair is = (fair, refl)
reads_memory (Ok got.Blocked) left buffer after within fits fair is = refl
reads_memory (Err e) left buffer after within fits fair is = refl
