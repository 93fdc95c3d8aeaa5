-- What a contract sees of a pass, and what a call leaves of it.
use Rattle.std.specs.Prelude.{◌≡◌, ◌≢◌, ◌≤◌, ◌+◌, ◌++◌, ◌∷◌, ℕ, Bool, true, List, [], length, map, sum_by, Ok, Option, None, if◌then◌else◌}
use Rattle.std.specs.List.{All}
use Rattle.book_core.specs.Book.{after_cut, book_answer, segment_of, BookState, IsBookFault}
use Rattle.book_core.specs.declared.book.CutFault.{CutFault}
use Rattle.book_core.specs.declared.book.CutFault.TheVariants.{Nothing, Full}
use Rattle.book_core.specs.declared.book.Receipt.{Receipt}
use Rattle.conn_model.specs.Counts.{counts_in, newest_table, AreInMemory}
use Rattle.conn_model.specs.declared.ask.Ask.{Ask}
use Rattle.conn_model.specs.declared.ask.Counts.{Counts}
use Rattle.conn_model.specs.declared.event.ConnId.{ConnId}
use Rattle.conn_model.specs.declared.event.OwnedEvent.{OwnedEvent}
use Rattle.conn_model.specs.declared.reply.Said.{Said}
use Rattle.conn_model.specs.declared.event.Health.{Health}
use Rattle.conn_model.specs.declared.reply.Said.TheVariants.{Marked, Reloaded}
use Rattle.conn_model.specs.declared.reply.StepFault.{StepFault}
use Rattle.conn_model.specs.History.{answer, entry, id_of, leaves_open}
use Rattle.desk_core.specs.Books.{moment_in, IsDeskBook}
use Rattle.record_core.specs.declared.record.Record.{Record}
use Rattle.record_core.specs.Records.{history_of, record_of}
use Rattle.rtrb.specs.Ring.{known_free, sent}

-- what a contract sees of a pass: how many of its calls were answered, whether it keeps their records, and those records
pub record PassState : Type 0 where
  pub calls : ℕ
  pub keeps : Bool
  pub kept : List Record

-- a pass with one more call
abbrev pub with_call : PassState → Record → PassState
with_call p r = record p { calls = p.calls + 1; kept = if p.keeps then p.kept ++ r ∷ [] else p.kept }

-- The event was answered by a book of the desk: the receipt has its next number, and the answer after all its records. The pass
-- has one call more, with the record of that under this number, which is at least the number of its calls.
pub record IsAnswered (named : Option BookState) (old new : PassState) (moment : ℕ) (event : OwnedEvent) (receipt : Receipt) : Type 0 where
  pub book : BookState
  pub legal : IsDeskBook named book
  pub number : receipt.number ≡ book.made + 1
  pub reply : answer book.base (history_of book.records) (moment_in book moment) event ≡ Ok receipt.reply
  pub call : new ≡ with_call old (record_of receipt.number (entry (moment_in book moment) event receipt.reply))
  pub calls : new.calls ≤ receipt.number

-- A book of the desk has that fault for the event.
pub record IsRefused (named : Option BookState) (moment : ℕ) (event : OwnedEvent) (fault : StepFault) : Type 0 where
  pub book : BookState
  pub legal : IsDeskBook named book
  pub is : IsBookFault book (book_answer book (moment_in book moment) event) fault

-- So many are counted of that in a book of the desk.
pub record IsCounted (named : Option BookState) (ask : Ask) (counts : Option Counts) : Type 0 where
  pub book : BookState
  pub legal : IsDeskBook named book
  pub is : counts ≡ counts_in book.state ask

-- So many entries of the table of that number are in memory, in a book of the desk.
pub record HasEntries (named : Option BookState) (number : ℕ) (count : Option ℕ) : Type 0 where
  pub book : BookState
  pub legal : IsDeskBook named book
  pub is : AreInMemory (newest_table book.state.versions book.state.tables number) count

-- So many versions are kept in a book of the desk.
pub record HasVersions (named : Option BookState) (count : ℕ) : Type 0 where
  pub book : BookState
  pub legal : IsDeskBook named book
  pub is : count ≡ length book.state.versions

-- the book cannot be cut, as the fault says: it has no record in memory, or its ring no room
abbrev pub IsCutFault : BookState → CutFault → Type 0
IsCutFault b Nothing = b.journal ≡ []
IsCutFault b Full = known_free b.segments ≡ 0

-- A book of the desk has that fault.
pub record IsNotCut (named : Option BookState) (fault : CutFault) : Type 0 where
  pub book : BookState
  pub legal : IsDeskBook named book
  pub is : IsCutFault book fault

-- A book of the desk handed the records in its memory over as the newest segment.
pub record IsCut (named : Option BookState) : Type 0 where
  pub before : BookState
  pub after : BookState
  pub legal : IsDeskBook named before
  pub legal_after : IsDeskBook named after
  pub some : before.journal ≢ []
  pub sent : sent after.segments ≡ sent before.segments ++ segment_of before ∷ []
  pub is : after ≡ after_cut before after.segments

-- the connection that a reply to an accept leaves open
abbrev pub open_id : Said → Option ConnId
open_id said = if leaves_open said then id_of said else None

-- a new configuration is in force
abbrev pub IsReloaded : Said → Type 0
IsReloaded said = (version : ℕ) × (said ≡ Reloaded version)

-- a server was reported so
abbrev pub IsMarked : Health → Said → Type 0
IsMarked health said = (line : ℕ) × (said ≡ Marked line health)

-- what the passes keep
abbrev pub kept_of : List PassState → List (List Record)
kept_of = map (λ (p : PassState). p.kept)

-- the calls of all these passes
abbrev pub calls_of : List PassState → ℕ
calls_of = sum_by (λ (p : PassState). p.calls)

-- a pass has as many records as calls, if it keeps them, and else none
abbrev pub IsWhole : PassState → Type 0
IsWhole p = length p.kept ≡ (if p.keeps then p.calls else 0)

abbrev pub AreWhole : List PassState → Type 0
AreWhole = All IsWhole

-- all passes keep their records
abbrev pub AllKeep : List PassState → Type 0
AllKeep = All (λ p. p.keeps ≡ true)
