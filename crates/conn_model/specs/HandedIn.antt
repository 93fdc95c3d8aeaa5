-- Events as a caller hands them in.
use Rattle.std.specs.Prelude.{◌≡◌, ℕ, ◌<◌, ◌≤◌, ◌^◌, true, List, [], ◌∷◌, length, slice_index}
use Rattle.std.specs.Str.{IsUtf8}
use Rattle.addr_core.specs.Family.{same_family}
use Rattle.addr_core.specs.Text.{IsEndpoint}
use Rattle.conn_model.specs.declared.event.ConnId.{ConnId}
use Rattle.conn_model.specs.declared.event.OwnedEvent.{OwnedEvent}
use Rattle.conn_model.specs.declared.event.OwnedEvent.TheVariants.{Accept, Piece, Connected, ConnectFailed, Close, Expire, Reload, Mark}
use Rattle.conn_model.specs.declared.event.TheConstants.{PIECE_LIMIT}
use Rattle.conn_model.specs.History.{Entry}

-- an event that is a piece has at most `PIECE_LIMIT` bytes
abbrev pub HasPieceInLimit : OwnedEvent → Type 0
HasPieceInLimit (Piece id bytes) = length bytes ≤ PIECE_LIMIT
HasPieceInLimit event = Unit {0}

abbrev pub IsId : ConnId → Type 0
IsId id = (id.frontend < 2 ^ 16) × (id.serial < 2 ^ 64)

abbrev pub AreBytes : List ℕ → Type 0
AreBytes bytes = (place : ℕ) → slice_index bytes place < 256

-- the numbers of an event are in range, its pair is of one family, its piece is not too long, and its text is one in
-- UTF-8 that memory can hold
abbrev pub IsHandedIn : OwnedEvent → Type 0
IsHandedIn (Accept listener real) =
    (listener < 2 ^ 16) × IsEndpoint real.source × IsEndpoint real.destination × (same_family real.source.addr real.destination.addr ≡ true)
IsHandedIn (Piece id bytes) = IsId id × (length bytes ≤ PIECE_LIMIT) × AreBytes bytes
IsHandedIn (Connected id) = IsId id
IsHandedIn (ConnectFailed id) = IsId id
IsHandedIn (Close id why) = IsId id
IsHandedIn (Expire id) = IsId id
IsHandedIn (Reload text) = IsUtf8 text × (length text < 2 ^ 63)
IsHandedIn (Mark backend n health) = (backend < 2 ^ 16) × (n < 2 ^ 16)

-- so is each event of a history, at a moment that is in range
abbrev pub AreHandedIn : List Entry → Type 0
AreHandedIn [] = Unit {0}
AreHandedIn (e ∷ h) = (e.moment < 2 ^ 64) × IsHandedIn e.event × AreHandedIn h
