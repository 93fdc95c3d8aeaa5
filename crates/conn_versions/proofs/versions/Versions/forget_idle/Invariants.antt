use Rattle.std.proofs.Common.{◌≡◌, ◌<◌, ◌≤◌, ℕ, true, false, length}
use Rattle.std.specs.Prelude.{IsSome}
use Rattle.conn_model.specs.Answer.{version_at}
use Rattle.conn_versions.specs.Judged.{in_use, judged_of}
use Rattle.conn_versions.proofs.versions.Versions.forget_idle.Given as goal

abbrev pub invariant-loop-number : goal.invariant-loop-number
invariant-loop-number l = record {
  left : in_use (judged_of l.fn.self) l.force l.self.versions ≡ in_use (judged_of l.fn.self) l.force l.fn.self.versions;
  counts : l.self.counts ≡ l.fn.self.counts;
  judged : (number : ℕ) → IsSome (version_at l.self.versions number) → judged_of l.self number ≡ judged_of l.fn.self number;
  no_more : length l.self.versions ≤ length l.fn.self.versions;
  fewer : l.some ≡ true → length l.self.versions < length l.fn.self.versions;
  same : l.some ≡ false → l.self.versions ≡ l.fn.self.versions;
}

abbrev pub decreases-loop-number : goal.decreases-loop-number
decreases-loop-number l = length l.self.versions
