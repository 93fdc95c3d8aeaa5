-- What a crew did.
use Rattle.std.specs.Prelude.{◌≡◌, false}
use Rattle.crew_core.specs.declared.crew.Summary.{Summary}

-- nothing was done
abbrev pub IsIdle : Summary → Type 0
IsIdle summary = (summary.accepted ≡ 0) × (summary.taken ≡ 0) × (summary.closed ≡ 0) × (summary.recorded ≡ 0) × (summary.sink_failed ≡ 0)

-- where not all threads began, nothing was accepted
abbrev pub IsUnbegun : Summary → Type 0
IsUnbegun summary = summary.began ≡ false → (summary.accepted ≡ 0) × (summary.taken ≡ 0)
