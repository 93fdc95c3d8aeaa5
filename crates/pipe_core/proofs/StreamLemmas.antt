-- What is read and written in turn.
use Rattle.std.proofs.Common.{◌≡◌, ℕ, ◌+◌, ◌-◌, ◌*◌, ◌^◌, ◌<◌, ◌≤◌, List, [], ◌++◌, length, take, Option, Some, None, Result, Ok, Err, refl, sym, ap, subst, ◌∙◌, arith, append_assoc, append-nil, length-append}
use Rattle.std.proofs.Math.Seq.{take-append-add}
use Rattle.std.proofs.lemmas.List.{length-take-le, take-append-le}
use Rattle.std.proofs.lemmas.Grind.{common_steps}
use Rattle.std.specs.Io.KnownBytes.{Appends, Consumes, IsAtEnd, Keeps}
use Rattle.device_core.specs.declared.patience.Moved.{Moved}
use Rattle.device_core.specs.declared.patience.Moved.TheVariants.{Bytes, End}
use Rattle.pipe_core.specs.declared.end.PipeFault.{PipeFault}
use Rattle.pipe_core.specs.Devices.{Gives, GivesAtMost}
use Rattle.pipe_core.specs.Stream.{Carried, Dropped, ReadsAll}

pub consumes-nil : (left : Option (List ℕ)) → Consumes left left []
consumes-nil None = tt
consumes-nil (Some xs) = refl

pub appends-nil : (held : Option (List ℕ)) → Appends held held []
appends-nil None = tt
appends-nil (Some xs) = sym (append-nil xs)

pub consumes-both : (a b c : Option (List ℕ)) (xs ys : List ℕ) → Consumes a b xs → Consumes b c ys → Consumes a c (xs ++ ys)
consumes-both None b c xs ys p q = tt
consumes-both (Some l) None c xs ys p q = absurd p
consumes-both (Some l) (Some m) None xs ys p q = absurd q
consumes-both (Some l) (Some m) (Some n) xs ys p q = p ∙ ap (λ zs. xs ++ zs) q ∙ sym (append_assoc xs ys n)

pub appends-both : (a b c : Option (List ℕ)) (xs ys : List ℕ) → Appends a b xs → Appends b c ys → Appends a c (xs ++ ys)
appends-both None b c xs ys p q = tt
appends-both (Some l) None c xs ys p q = absurd p
appends-both (Some l) (Some m) None xs ys p q = absurd q
appends-both (Some l) (Some m) (Some n) xs ys p q = q ∙ ap (λ zs. zs ++ ys) p ∙ append_assoc l xs ys

-- a call that gives nothing consumes nothing
pub keeps-consumes : (a b c : Option (List ℕ)) (xs : List ℕ) → Consumes a b xs → Keeps b c → Consumes a c xs
keeps-consumes None b c xs p q = tt
keeps-consumes (Some l) None c xs p q = absurd p
keeps-consumes (Some l) (Some m) None xs p q = absurd q
keeps-consumes (Some l) (Some m) (Some n) xs p q = p ∙ ap (λ zs. xs ++ zs) (sym q)

take-length : (xs : List ℕ) → take (length xs) xs ≡ xs
take-length xs = grind (arith, common_steps)

-- nothing yet
pub carried-none : (left held : Option (List ℕ)) (before : ℕ) → Carried left left held held before before
carried-none left held before = record { got = []; read = consumes-nil left; wrote = appends-nil held; counts = omega arith }

-- the front of a buffer more
pub carried-more : (l0 l1 l2 h0 h1 h2 : Option (List ℕ)) (before count n : ℕ) (buffer : List ℕ) → Carried l0 l1 h0 h1 before count → n ≤ length buffer → Consumes l1 l2 (take n buffer) → Appends h1 h2 (take n buffer) →
    Carried l0 l2 h0 h2 before (count + n)
carried-more l0 l1 l2 h0 h1 h2 before count n buffer carried within read wrote = record {
  got = carried.got ++ take n buffer;
  read = consumes-both l0 l1 l2 carried.got (take n buffer) carried.read read;
  wrote = appends-both h0 h1 h2 carried.got (take n buffer) carried.wrote wrote;
  counts = omega (arith, carried.counts, length-append carried.got (take n buffer), length-take-le n buffer within);
}

pub carried-end : (l0 l1 l2 h0 h1 : Option (List ℕ)) (before count : ℕ) → Carried l0 l1 h0 h1 before count → Keeps l1 l2 → Carried l0 l2 h0 h1 before count
carried-end l0 l1 l2 h0 h1 before count carried kept = record { got = carried.got; read = keeps-consumes l0 l1 l2 carried.got carried.read kept; wrote = carried.wrote; counts = carried.counts }

-- all of it was written
pub dropped-none : (l0 l1 h0 h1 : Option (List ℕ)) (before count : ℕ) → Carried l0 l1 h0 h1 before count → Dropped l0 l1 h0 h1
dropped-none l0 l1 h0 h1 before count carried = record {
  got = carried.got;
  count = length carried.got;
  within = omega arith;
  read = carried.read;
  wrote = subst (λ xs. Appends h0 h1 xs) (sym (take-length carried.got)) carried.wrote;
}

-- of one piece more only the first bytes were written
pub dropped-more : (l0 l1 l2 h0 h1 h2 : Option (List ℕ)) (before count : ℕ) (piece : List ℕ) → Carried l0 l1 h0 h1 before count → Consumes l1 l2 piece →
    (part : (n : ℕ) × (n < length piece) × Appends h1 h2 (take n piece)) → Dropped l0 l2 h0 h2
dropped-more l0 l1 l2 h0 h1 h2 before count piece carried read part = record {
  got = carried.got ++ piece;
  count = length carried.got + part.0;
  within = omega (arith, length-append carried.got piece, part.1);
  read = consumes-both l0 l1 l2 carried.got piece carried.read read;
  wrote = subst (λ xs. Appends h0 h2 xs) (sym (take-append-add carried.got piece part.0)) (appends-both h0 h1 h2 carried.got (take part.0 piece) carried.wrote part.2);
}

pub read_out : (a b c : Option (List ℕ)) (xs : List ℕ) → Consumes a b xs → IsAtEnd b → Keeps b c → ReadsAll a c
read_out None b c xs read is kept = tt
read_out (Some l) None c xs read is kept = absurd read
read_out (Some l) (Some m) None xs read is kept = absurd kept
read_out (Some l) (Some m) (Some n) xs read is kept = ap (λ ys. Some ys) (kept ∙ is)

-- a read of so many bytes, where the rest of the reads still fit
pub fits_on : (written count reads fewer size : ℕ) → written + reads * size < 2 ^ 64 → fewer < reads → count ≤ size → written + count + fewer * size < 2 ^ 64
fits_on written count reads fewer size fits less within =
    let k : ℕ = reads - (fewer + 1) in
    let is : reads ≡ fewer + 1 + k = omega arith in
    let all : reads * size ≡ (fewer + 1 + k) * size = ap (λ n. n * size) is in
    let parts : (fewer + 1 + k) * size ≡ fewer * size + size + k * size = omega arith in
    omega (arith, all, parts)

-- what is at the front of a part of a buffer is at the front of the buffer
pub gives_front : (result : Result Moved PipeFault) (old new' : Option (List ℕ)) (front rest : List ℕ) → Gives result old new' front → Gives result old new' (front ++ rest)
gives_front (Ok (Bytes n)) old new' front rest gives = (
  gives.0,
  omega (arith, gives.1, length-append front rest),
  subst (λ xs. Consumes old new' xs) (sym (take-append-le n front rest gives.1)) gives.2,
)
gives_front (Ok End) old new' front rest gives = gives
gives_front (Err fault) old new' front rest gives = gives

pub gives_few : (result : Result Moved PipeFault) (old new' : Option (List ℕ)) (front : List ℕ) (most : ℕ) → Gives result old new' front → length front ≤ most → GivesAtMost most result
gives_few (Ok (Bytes n)) old new' front most gives few = omega (arith, gives.1, few)
gives_few (Ok End) old new' front most gives few = tt
gives_few (Err fault) old new' front most gives few = tt
