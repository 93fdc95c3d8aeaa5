-- What a writer of the record does with a segment.
use Rattle.std.specs.Prelude.{◌≡◌, ◌⊎◌, ℕ, List, length, Option, None, IsSome}
use Rattle.std.specs.Io.KnownBytes.{Appends}
use Rattle.record_core.specs.declared.segment.Segment.{Segment}
use Rattle.conn_model.specs.declared.plain.Plain.{Plain}
use Rattle.device_core.specs.Device.{raised}
use Rattle.device_core.specs.Patience.{IsWornOut}
use Rattle.audit_core.specs.Recording.{records_text, AppendsFront, IsCutOff, IsRecorded}
use Rattle.crew_core.specs.declared.record_sink.RecordSink.{RecordSink}

-- nothing was refused, and its records are written
abbrev pub Writes : {W : Type 0} → (W → Option (List ℕ)) → RecordSink W → Segment → RecordSink W → Type 0
Writes held old segment new = (old.fault ≡ None) × (new.fault ≡ None) × Appends (held old.writer) (held new.writer) (records_text segment.records)

-- A segment is refused from now on. If it is the first, a front of its records is written, and else nothing.
abbrev pub Refuses : {W : Type 0} → (W → Option (List ℕ)) → RecordSink W → Segment → RecordSink W → Type 0
Refuses held old segment new = IsSome new.fault
    × (old.fault ≡ None → AppendsFront (held old.writer) (held new.writer) (records_text segment.records))
    × (IsSome old.fault → new.writer ≡ old.writer)

-- what was written is the record of a legal history from that base on, of so many decisions
abbrev pub RecordsAll : Plain → ℕ → Option (List ℕ) → Option (List ℕ) → Type 0
RecordsAll base count old new = (written : IsRecorded base old new) × (length written.history ≡ count)

-- what was written is a front of such a record
abbrev pub RecordsFront : Plain → ℕ → Option (List ℕ) → Option (List ℕ) → Type 0
RecordsFront base count old new = (written : IsCutOff base old new) × (length written.history ≡ count)

-- the writer gave up between the two: it failed once, or it did not and its patience ran out
abbrev pub HasGivenUp : {W : Type 0} → (W → ℕ) → (W → ℕ) → W → W → Type 0
HasGivenUp failures stalls old new = (failures new ≡ raised (failures old)) ⊎ ((failures new ≡ failures old) × IsWornOut (stalls old) (stalls new))
