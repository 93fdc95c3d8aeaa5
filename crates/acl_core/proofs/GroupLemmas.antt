-- A group, term by term.
use Rattle.std.proofs.Common.{◌≡◌, ℕ, Bool, true, false, not, List, [], ◌∷◌, ◌++◌, refl, append_assoc}
use Rattle.std.specs.Prelude.{Result, Ok, Err}
use Rattle.list_core.specs.Each.{◌>>=◌, Fails}
use Rattle.list_core.specs.declared.stop.Stop.{Stop}
use Rattle.list_core.specs.declared.stop.Stop.TheVariants as stops
use Rattle.acl_core.specs.declared.fault.AclFault.{AclFault}
use Rattle.acl_core.specs.declared.condition.Term.{Term}
use Rattle.acl_core.specs.declared.token.Token.{Token}
use Rattle.acl_core.specs.Tokens.{is_not}
use Rattle.acl_core.specs.Reading.{operand_of, group_of}

-- the terms that follow, where one has to or none may
abbrev pub followed : List (List ℕ) → Bool → Bool → List Token → Result (List Term) AclFault
followed known true negated tokens = group_of known negated tokens
followed known false negated [] = Ok []
followed known false negated (token ∷ rest) = group_of known negated (token ∷ rest)

-- after `!` a term has to follow
pub marked : (known : List (List ℕ)) (awaited negated : Bool) (token : Token) (rest : List Token) → is_not token ≡ true →
    followed known awaited negated (token ∷ rest) ≡ followed known true (not negated) rest
marked known true negated token [] is = rw is refl
marked known true negated token (next ∷ rest) is = rw is refl
marked known false negated token [] is = rw is refl
marked known false negated token (next ∷ rest) is = rw is refl

-- where the first step fails, so does the whole
pub fails_early : {A B F : Type 0} (stop : Stop F) (read : Result A F) (next : A → Result B F) → Fails stop read → Fails stop (read >>= next)
fails_early stops.Memory read next fails = tt
fails_early (stops.Fault fault) read next fails = rw fails refl

-- an operand, and the terms after it
pub asked : (known : List (List ℕ)) (awaited negated : Bool) (token : Token) (rest : List Token) → is_not token ≡ false →
    followed known awaited negated (token ∷ rest)
    ≡ (operand_of known token >>= λ operand. followed known false false rest >>= λ terms. Ok (record { negated = negated; operand = operand } ∷ terms))
asked known true negated token [] is = rw is refl
asked known true negated token (next ∷ rest) is = rw is refl
asked known false negated token [] is = rw is refl
asked known false negated token (next ∷ rest) is = rw is refl

-- a term moves from those that follow to those that are done
pub joined : (done : List Term) (term : Term) (read : Result (List Term) AclFault) →
    ((read >>= λ terms. Ok (term ∷ terms)) >>= λ more. Ok (done ++ more)) ≡ (read >>= λ more. Ok ((done ++ term ∷ []) ++ more))
joined done term (Ok terms) = rw (append_assoc done (term ∷ []) terms) refl
joined done term (Err fault) = refl
