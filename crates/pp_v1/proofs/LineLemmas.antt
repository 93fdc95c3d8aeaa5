-- Lines of version 1.
use Rattle.std.proofs.Common.{◌≡◌, ℕ, refl, true, List, [], ◌∷◌, None, ap, length, arith}
use Rattle.std.specs.Prelude.{Result, Ok, Err}
use Rattle.std.specs.List.{slice_split}
use Rattle.std.proofs.lemmas.List.Splits.{length-slice_split}
use Rattle.addr_core.specs.PairValue.{pair_of}
use Rattle.addr_core.specs.Family.{same_family}
use Rattle.addr_core.specs.declared.addr.Addr.{Addr}
use Rattle.addr_core.specs.declared.addr.Addr.TheVariants.{V4, V6}
use Rattle.addr_core.specs.declared.addr.Endpoint.{Endpoint}
use Rattle.addr_core.specs.declared.reading.AddrFault.{AddrFault}
use Rattle.pp_v1.specs.declared.reading.Protocol.{Protocol}
use Rattle.pp_v1.specs.declared.reading.Protocol.TheVariants.{Tcp4, Tcp6}
use Rattle.pp_v1.specs.declared.reading.V1Fault.TheVariants.{BadLine}
use Rattle.pp_v1.specs.Line.{fields_of, is_blank, of_family}

-- two addresses of one protocol are of one family
pub one_family : (protocol : Protocol) (r q : Result Addr AddrFault) (a b : Addr) → of_family protocol r ≡ Ok a → of_family protocol q ≡ Ok b → same_family a b ≡ true
one_family Tcp4 (Ok (V4 m)) (Ok (V4 n)) (V4 a) (V4 b) first second = refl
one_family Tcp4 (Ok (V4 m)) (Ok (V4 n)) (V6 a) b first second = absurd cc
one_family Tcp4 (Ok (V4 m)) (Ok (V4 n)) (V4 a) (V6 b) first second = absurd cc
one_family Tcp4 (Ok (V4 m)) (Ok (V6 n)) a b first second = absurd cc
one_family Tcp4 (Ok (V4 m)) (Err fault) a b first second = absurd cc
one_family Tcp4 (Ok (V6 m)) q a b first second = absurd cc
one_family Tcp4 (Err fault) q a b first second = absurd cc
one_family Tcp6 (Ok (V6 m)) (Ok (V6 n)) (V6 a) (V6 b) first second = refl
one_family Tcp6 (Ok (V6 m)) (Ok (V6 n)) (V4 a) b first second = absurd cc
one_family Tcp6 (Ok (V6 m)) (Ok (V6 n)) (V6 a) (V4 b) first second = absurd cc
one_family Tcp6 (Ok (V6 m)) (Ok (V4 n)) a b first second = absurd cc
one_family Tcp6 (Ok (V6 m)) (Err fault) a b first second = absurd cc
one_family Tcp6 (Ok (V4 m)) q a b first second = absurd cc
one_family Tcp6 (Err fault) q a b first second = absurd cc

pub is_pair : (source destination : Endpoint) → same_family source.addr destination.addr ≡ true → pair_of source destination ≡ None → ⊥
is_pair source destination same none = let wrong = rw same at none in absurd cc

-- five fields or more
pub fields_of-more : (protocol : Protocol) (a b c d x y : List ℕ) → slice_split is_blank d ≡ x ∷ slice_split is_blank y → fields_of protocol (a ∷ b ∷ c ∷ slice_split is_blank d) ≡ Err BadLine
fields_of-more protocol a b c d x y is = by (slice_split is_blank y) refl
  where
    by : (rest : List (List ℕ)) → slice_split is_blank y ≡ rest → fields_of protocol (a ∷ b ∷ c ∷ slice_split is_blank d) ≡ Err BadLine
    by [] some = absurd (let count = length-slice_split is_blank y in omega (arith, count, ap length some))
    by (z ∷ more) some = rw (is, some) refl
