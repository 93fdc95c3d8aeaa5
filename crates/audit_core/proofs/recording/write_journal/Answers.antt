use Rattle.std.proofs.Common.{subst}
use Rattle.std.proofs.lemmas.Result.{on_ok_weaker}
use Rattle.std.specs.Io.KnownBytes.{Appends}
use Rattle.audit_core.proofs.RecordingLemmas.{records_history}
use Rattle.audit_core.proofs.recording.write_journal.Goals as goal

pub returns-clause-history : goal.returns-clause-history
returns-clause-history g c =
    on_ok_weaker c.write_through.result
    (λ added numbered. subst (Appends _ _) (records_history c.args.records.now numbered) added)
    c.write_through.ensures.ok
