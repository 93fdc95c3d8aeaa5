-- The links of a ring of places.
use Rattle.std.specs.Prelude.{◌≡◌, ◌≢◌, ◌<◌, ◌⊎◌, ℕ, List, length, get_or, cond, eqb}
use Rattle.stick_core.specs.declared.links.Link.{Link}
use Rattle.stick_core.specs.Ring.{walk, IsRing, Lacks}

-- the place between the last and the first
abbrev pub end : ℕ
end = 0xFFFF_FFFF

abbrev pub nowhere : Link
nowhere = record { before = 0; after = 0 }

abbrev pub link_at : Link → List Link → ℕ → Link
link_at ends links q = cond (eqb q end) ends (get_or links q nowhere)

abbrev pub after_of : Link → List Link → ℕ → ℕ
after_of ends links q = (link_at ends links q).after

abbrev pub before_of : Link → List Link → ℕ → ℕ
before_of ends links q = (link_at ends links q).before

abbrev pub IsPlace : ℕ → ℕ → Type 0
IsPlace n q = (q < n) ⊎ (q ≡ end)

-- the places from the end round to it
abbrev pub ordered : Link → List Link → List ℕ
ordered ends links = walk (after_of ends links) end (length links) end

abbrev pub IsLinked : Link → List Link → Type 0
IsLinked ends links = IsRing (after_of ends links) (before_of ends links) (length links) end (ordered ends links)

-- the links of all places that are in neither ring are as they were
pub record KeepsOthers (ends : Link) (links : List Link) (ends' : Link) (links' : List Link) : Type 0 where
  pub after : (q : ℕ) → q ≢ end → Lacks q (ordered ends links) → Lacks q (ordered ends' links') → after_of ends' links' q ≡ after_of ends links q
  pub before : (q : ℕ) → q ≢ end → Lacks q (ordered ends links) → Lacks q (ordered ends' links') → before_of ends' links' q ≡ before_of ends links q
