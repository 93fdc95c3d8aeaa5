-- How many open connections the versions judge.
use Rattle.std.specs.Prelude.{ℕ, Bool, true, List, [], ◌∷◌, filter, nat_lt, IsSome, ◌≡◌, ◌==◌, ◌||◌, if◌then◌else◌}
use Rattle.std.specs.Option.{option_map_or}
use Rattle.conn_model.specs.declared.plain.Version.{Version}
use Rattle.conn_model.specs.Answer.{version_at}
use Rattle.conn_model.specs.Words.{newest}
use Rattle.conn_versions.specs.Versions.{VersionsValue}

-- of the version of a number, where each of the versions judges so many; 0 where it is not kept
abbrev pub judged_in : List Version → List ℕ → ℕ → ℕ
judged_in [] judged number = 0
judged_in (version ∷ versions) [] number = 0
judged_in (version ∷ versions) (own ∷ judged) number = if version.number == number then own else judged_in versions judged number

abbrev pub judged_of : VersionsValue → ℕ → ℕ
judged_of kept number = judged_in kept.versions kept.judged number

-- one for the connection of a version that is this one, and none for another
abbrev pub judged_by : ℕ → ℕ → ℕ
judged_by number version = if version == number then 1 else 0

-- the version of that number is in force, where that is the one, or judges an open connection
abbrev pub is_in_use : (ℕ → ℕ) → ℕ → ℕ → Bool
is_in_use judged force number = (number == force) || nat_lt 0 (judged number)

-- the versions that are
abbrev pub in_use : (ℕ → ℕ) → ℕ → List Version → List Version
in_use judged force versions = filter (λ version. is_in_use judged force version.number) versions

-- each version is, where the newest is the one in force
abbrev pub AreAllInUse : VersionsValue → Type 0
AreAllInUse kept =
    (number : ℕ) → IsSome (version_at kept.versions number) →
    is_in_use (judged_of kept) (option_map_or (λ version. version.number) (newest kept.versions) 0) number ≡ true
