use Rattle.std.proofs.Common.{◌≡◌, ◌<◌, ℕ, true, Some}
use Rattle.std.specs.Prelude.{slice_get}
use Rattle.conn_model.specs.declared.plain.Version.{Version}
use Rattle.conn_versions.specs.Judged.{is_in_use, judged_of}
use Rattle.conn_versions.proofs.versions.Versions.first_idle.Given as goal

abbrev pub invariant-loop-place : goal.invariant-loop-place
invariant-loop-place l = (n : ℕ) (version : Version) → n < l.place → slice_get l.self.versions n ≡ Some version → is_in_use (judged_of l.self) l.force version.number ≡ true
