-- Any list of calls does together what one call does.
use Rattle.std.proofs.Common.{ℕ, List, [], ◌∷◌, ◌++◌, Option, Some, None, refl, sym, ap, ◌∙◌, append_assoc, append-nil}
use Rattle.std.specs.Io.KnownBytes.{Consumes, Appends}
use Rattle.relay_core.specs.Law.{Moves, Stream, Carries, HasCarried, Step, Follows, all_read, all_written}

pub Consumes-nil : (left : Option (List ℕ)) → Consumes left left []
Consumes-nil None = tt
Consumes-nil (Some xs) = refl

Appends-nil : (written : Option (List ℕ)) → Appends written written []
Appends-nil None = tt
Appends-nil (Some xs) = sym (append-nil xs)

pub Consumes-both : (a b c : Option (List ℕ)) (xs ys : List ℕ) → Consumes a b xs → Consumes b c ys → Consumes a c (xs ++ ys)
Consumes-both None b c xs ys p q = tt
Consumes-both (Some l) None c xs ys p q = absurd p
Consumes-both (Some l) (Some m) None xs ys p q = absurd q
Consumes-both (Some l) (Some m) (Some n) xs ys p q = p ∙ ap (λ zs. xs ++ zs) q ∙ sym (append_assoc xs ys n)

Appends-both : (a b c : Option (List ℕ)) (xs ys : List ℕ) → Appends a b xs → Appends b c ys → Appends a c (xs ++ ys)
Appends-both None b c xs ys p q = tt
Appends-both (Some l) None c xs ys p q = absurd p
Appends-both (Some l) (Some m) None xs ys p q = absurd q
Appends-both (Some l) (Some m) (Some n) xs ys p q = q ∙ ap (λ zs. zs ++ ys) p ∙ append_assoc l xs ys

Moves-both : (a b c r s w v : List ℕ) → Moves a r w b → Moves b s v c → Moves a (r ++ s) (w ++ v) c
Moves-both a b c r s w v p q =
    sym (append_assoc a r s) ∙ ap (λ zs. zs ++ s) p ∙ append_assoc w b s ∙ ap (λ zs. w ++ zs) q ∙ sym (append_assoc w v c)

pub carries_both : (a b c : Stream) (r w s v : List ℕ) → Carries a r w b → Carries b s v c → Carries a (r ++ s) (w ++ v) c
carries_both a b c r w s v first next = (
  Consumes-both a.left b.left c.left r s first.0 next.0,
  Moves-both a.held b.held c.held r s w v first.1 next.1,
  Appends-both a.written b.written c.written w v first.2 next.2,
)

-- nothing was read or written
pub carries_nothing : (a : Stream) → Carries a [] [] a
carries_nothing a = (Consumes-nil a.left, append-nil a.held, Appends-nil a.written)

pub has_carried_both : (a b c : Stream) → HasCarried a b → HasCarried b c → HasCarried a c
has_carried_both a b c first next = (first.0 ++ next.0, first.1 ++ next.1, carries_both a b c first.0 first.1 next.0 next.1 first.2 next.2)

pub run_carries_lem : (first last : Stream) (steps : List Step) → Follows first steps last → Carries first (all_read steps) (all_written steps) last
run_carries_lem first last [] follows = rw follows (carries_nothing first)
run_carries_lem first last (step ∷ rest) follows =
    carries_both first step.after last step.read step.written (all_read rest) (all_written rest) follows.0 (run_carries_lem step.after last rest follows.1)
