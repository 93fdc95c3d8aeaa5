-- No byte is lost, none comes twice, and none overtakes another.
use Rattle.std.specs.Prelude.{◌≡◌, ℕ, List, [], ◌∷◌, ◌++◌, Option}
use Rattle.std.specs.Io.KnownBytes.{Consumes, Appends}

-- What was held, followed by what was read in, is what was written out, followed by what is held.
abbrev pub Moves : List ℕ → List ℕ → List ℕ → List ℕ → Type 0
Moves before read written after = before ++ read ≡ written ++ after

-- a flow between its devices: what the reader has left, what is held, and what the writer holds, where they tell
pub record Stream : Type 0 where
  pub left : Option (List ℕ)
  pub held : List ℕ
  pub written : Option (List ℕ)

-- The bytes were read from the one device and written to the other, and the rest is held.
abbrev pub Carries : Stream → List ℕ → List ℕ → Stream → Type 0
Carries old read written new = Consumes old.left new.left read × Moves old.held read written new.held × Appends old.written new.written written

-- Some bytes were.
abbrev pub HasCarried : Stream → Stream → Type 0
HasCarried old new = (read : List ℕ) × (written : List ℕ) × Carries old read written new

-- one call of a flow, of whichever kind: what it read, what it wrote, and what it left
pub record Step : Type 0 where
  pub read : List ℕ
  pub written : List ℕ
  pub after : Stream

-- The calls follow one another.
abbrev pub Follows : Stream → List Step → Stream → Type 0
Follows first [] last = last ≡ first
Follows first (step ∷ rest) last = Carries first step.read step.written step.after × Follows step.after rest last

abbrev pub all_read : List Step → List ℕ
all_read [] = []
all_read (step ∷ rest) = step.read ++ all_read rest

abbrev pub all_written : List Step → List ℕ
all_written [] = []
all_written (step ∷ rest) = step.written ++ all_written rest

-- Any list of calls does together what one call does.
abbrev pub RunCarries : Type 0
RunCarries = (first last : Stream) (steps : List Step) → Follows first steps last → Carries first (all_read steps) (all_written steps) last
