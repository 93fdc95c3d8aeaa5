-- Reads one after another into one piece.
use Rattle.std.proofs.Common.{◌≡◌, ℕ, ◌+◌, ◌-◌, ◌*◌, ◌<◌, ◌≤◌, min, List, ◌++◌, length, take, Option, zero, suc, refl, ap, subst, ◌∙◌, arith}
use Rattle.std.proofs.lemmas.List.{length-take-le, take-append-le}
use Rattle.std.proofs.Math.Seq.{take-append-add}
use Rattle.std.specs.Io.KnownBytes.{Consumes}
use Rattle.device_core.specs.Device.{raised, raised_by}
use Rattle.relay_core.specs.Burst.{stalls_before}
use Rattle.relay_core.proofs.Runs.{Consumes-both}

taken_more : (count more : ℕ) (piece part rest : List ℕ) → count ≤ length piece → more ≤ length part →
    take (count + more) (take count piece ++ (part ++ rest)) ≡ take count piece ++ take more part
taken_more count more piece part rest fits inside =
    subst (λ n. take (n + more) (take count piece ++ (part ++ rest)) ≡ take count piece ++ take more part)
    (length-take-le count piece fits)
    (take-append-add (take count piece) (part ++ rest) more ∙ ap (λ zs. take count piece ++ zs) (take-append-le more part rest inside))

pub consumes_more : (a b c : Option (List ℕ)) (count more : ℕ) (piece part rest : List ℕ) → count ≤ length piece → more ≤ length part →
    Consumes a b (take count piece) → Consumes b c (take more part) → Consumes a c (take (count + more) (take count piece ++ (part ++ rest)))
consumes_more a b c count more piece part rest fits inside p q =
    rw (taken_more count more piece part rest fits inside) (Consumes-both a b c (take count piece) (take more part) p q)

pub stalls_some : (count stalls : ℕ) → 0 < count → stalls_before count stalls ≡ 0
stalls_some zero stalls some = absurd (omega arith)
stalls_some (suc count) stalls some = refl

-- So many bytes came in by reads in full, of which only the last one may have been for fewer than `most`.
abbrev pub AsksOn : ℕ → ℕ → ℕ → ℕ → ℕ → Type 0
AsksOn most limit count old new =
    (n : ℕ) × (count < limit → n * most ≤ count) × (count ≤ n * most) × (n * most < count + most) × (new ≡ raised_by n old)

pub asks-first : (most limit old : ℕ) → 0 < most → AsksOn most limit 0 old old
asks-first most limit old some = (0, (λ _. omega arith), (omega arith), (omega arith), (omega arith))

times-suc : (n most : ℕ) → (n + 1) * most ≡ n * most + most
times-suc n most = grind arith

raised_once : (n old mid new : ℕ) → mid ≡ raised_by n old → new ≡ raised mid → new ≡ raised_by (n + 1) old
raised_once n old mid new p q = omega arith

pub asks-on : (most limit count more old mid new : ℕ) → AsksOn most limit count old mid → new ≡ raised mid → count < limit →
    more ≡ min most (limit - count) → 0 < more → AsksOn most limit (count + more) old new
asks-on most limit count more old mid new (n, low, up, near, is) once inside asked some =
    let next : (n + 1) * most ≡ n * most + most = times-suc n most in
    let here : n * most ≤ count = low inside in
    (n + 1, (λ before. omega arith), (omega arith), (omega arith), raised_once n old mid new is once)
