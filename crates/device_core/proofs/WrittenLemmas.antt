-- What two writes in turn add.
use Rattle.std.proofs.Common.{◌≡◌, ℕ, ◌+◌, ◌-◌, ◌≤◌, List, ◌++◌, length, take, drop, Option, Some, None, ap, ◌∙◌, arith, append_assoc, length-drop}
use Rattle.std.proofs.Math.Seq.{take-add}
use Rattle.std.proofs.lemmas.Grind.{common_steps}
use Rattle.std.specs.Io.KnownBytes.{Appends}

Appends-both : (old mid new : Option (List ℕ)) (xs ys : List ℕ) → Appends old mid xs → Appends mid new ys → Appends old new (xs ++ ys)
Appends-both None mid new xs ys first second = tt
Appends-both (Some held) None new xs ys first second = absurd first
Appends-both (Some held) (Some more) None xs ys first second = absurd second
Appends-both (Some held) (Some more) (Some most) xs ys first second = second ∙ ap (λ zs. zs ++ ys) first ∙ append_assoc held xs ys

rest_all : (bytes : List ℕ) (w : ℕ) → take (length bytes - w) (drop w bytes) ≡ drop w bytes
rest_all bytes w = grind (arith, common_steps)

pub more_written : (old mid new : Option (List ℕ)) (bytes : List ℕ) (w n : ℕ) → Appends old mid (take w bytes)
    → Appends mid new (take n (take (length bytes - w) (drop w bytes))) → Appends old new (take (w + n) bytes)
more_written old mid new bytes w n first second =
    let more : Appends mid new (take n (drop w bytes)) = rw rest_all at second in
    rw (take-add w n bytes) (Appends-both old mid new (take w bytes) (take n (drop w bytes)) first more)

pub rest_length : (bytes : List ℕ) (w n : ℕ) → w ≤ length bytes → n ≤ length (take (length bytes - w) (drop w bytes)) → w + n ≤ length bytes
rest_length bytes w n within fits = omega (arith, ap length (rest_all bytes w), length-drop w bytes)
