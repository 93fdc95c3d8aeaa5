-- Scripts: the lines that hand in events, and those that ask for counts.
use Rattle.std.specs.Prelude.{◌≡◌, ℕ, Bool, false, ◌<◌, ◌/◌, ◌-◌, ◌==◌, ◌&&◌, ◌||◌, nat_le, nat_lt, List, [], ◌∷◌, ◌++◌, length, map, take, codes, Option, Some, None, option_map, if◌then◌else◌}
use Rattle.std.specs.List.{flat_map, join_with_byte, list_any, slice_split}
use Rattle.std.specs.Result.{result_ok}
use Rattle.std.specs.Str.{bytes_eq, is_utf8}
use Rattle.hex.specs.Hex.{decode_sized, encode_lower}
use Rattle.text_core.specs.Decimal.{decimal, decimal_of}
use Rattle.text_core.specs.Parts.{is_line_feed}
use Rattle.addr_core.specs.PairValue.{PairValue, pair_of}
use Rattle.addr_core.specs.Text.{addr_of, endpoint_of, endpoint_text}
use Rattle.conn_model.specs.declared.ask.Ask.{Ask}
use Rattle.conn_model.specs.declared.ask.Ask.TheVariants as asks
use Rattle.conn_model.specs.declared.event.ConnId.{ConnId}
use Rattle.conn_model.specs.declared.event.TheConstants.{PIECE_LIMIT}
use Rattle.conn_model.specs.declared.event.Health.{Health}
use Rattle.conn_model.specs.declared.event.Health.TheVariants as healths
use Rattle.conn_model.specs.declared.event.OwnedEvent.{OwnedEvent}
use Rattle.conn_model.specs.declared.event.OwnedEvent.TheVariants.{Accept, Piece, Connected, ConnectFailed, Close, Expire, Reload, Mark}
use Rattle.conn_model.specs.declared.event.Why.{Why}
use Rattle.conn_model.specs.declared.event.Why.TheVariants.{Done, Fault, Stopped, Failed, ClientTimeout, ServerTimeout}
use Rattle.event_text.specs.declared.script.FirstLine.{FirstLine}
use Rattle.event_text.specs.declared.script.FirstLine.TheVariants as firsts
use Rattle.event_text.specs.declared.script.EventRequest.{EventRequest}
use Rattle.event_text.specs.declared.script.EventRequest.TheVariants as reads
use Rattle.event_text.specs.declared.script.Request.{Request}
use Rattle.event_text.specs.declared.script.Request.TheVariants as requests

-- ---- what is written

-- the name of a connection
abbrev pub id_text : ConnId → List ℕ
id_text id = decimal id.frontend ++ codes "." ++ decimal id.serial

abbrev pub why_text : Why → List ℕ
why_text Done = codes "done"
why_text Fault = codes "fault"
why_text Stopped = codes "stopped"
why_text Failed = codes "failed"
why_text ClientTimeout = codes "client-timeout"
why_text ServerTimeout = codes "server-timeout"

abbrev pub health_text : Health → List ℕ
health_text healths.Down = codes "down"
health_text healths.Up = codes "up"

-- bytes in hexadecimal, two digits each
abbrev pub bytes_text : List ℕ → List ℕ
bytes_text bytes = if length bytes == 0 then codes "-" else encode_lower bytes

-- the lines of a text: its parts between line feeds
abbrev pub text_lines : List ℕ → List (List ℕ)
text_lines text = slice_split is_line_feed text

-- the words of the first line of an event at a moment
abbrev pub event_words : ℕ → OwnedEvent → List (List ℕ)
event_words moment (Accept listener real) =
    decimal moment ∷ codes "accept" ∷ decimal listener ∷ endpoint_text real.source ∷ endpoint_text real.destination ∷ []
event_words moment (Piece id bytes) = decimal moment ∷ codes "piece" ∷ id_text id ∷ bytes_text bytes ∷ []
event_words moment (Connected id) = decimal moment ∷ codes "connected" ∷ id_text id ∷ []
event_words moment (ConnectFailed id) = decimal moment ∷ codes "failed" ∷ id_text id ∷ []
event_words moment (Close id why) = decimal moment ∷ codes "close" ∷ id_text id ∷ why_text why ∷ []
event_words moment (Expire id) = decimal moment ∷ codes "expire" ∷ id_text id ∷ []
event_words moment (Reload text) = decimal moment ∷ codes "reload" ∷ decimal (length (text_lines text)) ∷ []
event_words moment (Mark backend server health) =
    decimal moment ∷ codes "server" ∷ decimal backend ∷ decimal server ∷ health_text health ∷ []

-- that line, with one space between each two words
abbrev pub event_line : ℕ → OwnedEvent → List ℕ
event_line moment event = join_with_byte 0x20 (event_words moment event)

-- the lines of a text, each after a bar
abbrev pub bar_lines : List ℕ → List (List ℕ)
bar_lines text = map (λ line. 0x7C ∷ line) (text_lines text)

-- the lines after the first one: those of the text of a reload
abbrev pub lines_after : OwnedEvent → List (List ℕ)
lines_after (Reload text) = bar_lines text
lines_after event = []

-- all lines of an event
abbrev pub event_lines : ℕ → OwnedEvent → List (List ℕ)
event_lines moment event = event_line moment event ∷ lines_after event

-- lines, each with its end
abbrev pub ended_lines : List (List ℕ) → List ℕ
ended_lines lines = flat_map (λ line. line ++ codes "\n") lines

-- how an event is written
abbrev pub event_text : ℕ → OwnedEvent → List ℕ
event_text moment event = ended_lines (event_lines moment event)

-- ---- what is read

infixl 10 ◌>>=◌
abbrev pub ◌>>=◌ : {A B : Type 0} → Option A → (A → Option B) → Option B
None >>= f = None
(Some x) >>= f = f x

abbrev pub is_mark : ℕ → ℕ → Bool
is_mark mark byte = byte == mark

-- the words of a line: there is one space between each two
abbrev pub words_of : List ℕ → List (List ℕ)
words_of line = slice_split (is_mark 0x20) line

-- the name of the connection of two parts
abbrev pub id_in : List (List ℕ) → Option ConnId
id_in (frontend ∷ serial ∷ []) = do
  number ← decimal_of frontend 0xFFFF
  last ← decimal_of serial 0xFFFF_FFFF_FFFF_FFFF
  Some (record { frontend = number; serial = last })
id_in parts = None

abbrev pub id_of : List ℕ → Option ConnId
id_of word = id_in (slice_split (is_mark 0x2E) word)

abbrev pub why_of : List ℕ → Option Why
why_of word =
    if bytes_eq word (codes "done") then Some Done
    else if bytes_eq word (codes "fault") then Some Fault
    else if bytes_eq word (codes "stopped") then Some Stopped
    else if bytes_eq word (codes "failed") then Some Failed
    else if bytes_eq word (codes "client-timeout") then Some ClientTimeout
    else if bytes_eq word (codes "server-timeout") then Some ServerTimeout
    else None

abbrev pub health_of : List ℕ → Option Health
health_of word =
    if bytes_eq word (codes "down") then Some healths.Down
    else if bytes_eq word (codes "up") then Some healths.Up
    else None

-- the pair of the endpoints that two words stand for, if they are of one family
abbrev pub ends_of : List ℕ → List ℕ → Option PairValue
ends_of peer local = do
  source ← result_ok (endpoint_of peer)
  destination ← result_ok (endpoint_of local)
  pair_of source destination

-- a digit of hexadecimal in upper case, which is not taken
abbrev pub is_upper_digit : ℕ → Bool
is_upper_digit byte = nat_le 65 byte && nat_le byte 70

-- the bytes of a text in hexadecimal, which are at most so many
abbrev pub bytes_in : ℕ → List ℕ → Option (List ℕ)
bytes_in most text =
    if list_any is_upper_digit text || nat_lt most (length text / 2) then None else result_ok (decode_sized text (length text / 2))

-- the bytes of a word: none are written as a dash
abbrev pub bytes_of : ℕ → List ℕ → Option (List ℕ)
bytes_of most word = if bytes_eq word (codes "-") then Some [] else if length word == 0 then None else bytes_in most word

abbrev pub accept_of : List (List ℕ) → Option OwnedEvent
accept_of (listener ∷ peer ∷ local ∷ []) = do
  number ← decimal_of listener 0xFFFF
  real ← ends_of peer local
  Some (Accept number real)
accept_of words = None

abbrev pub close_of : List (List ℕ) → Option OwnedEvent
close_of (name ∷ note ∷ []) = do
  id ← id_of name
  why ← why_of note
  Some (Close id why)
close_of words = None

-- a report of a server
abbrev pub mark_of : List (List ℕ) → Option OwnedEvent
mark_of (backend ∷ server ∷ note ∷ []) = do
  number ← decimal_of backend 0xFFFF
  place ← decimal_of server 0xFFFF
  health ← health_of note
  Some (Mark number place health)
mark_of words = None

abbrev pub piece_of : List (List ℕ) → Option OwnedEvent
piece_of (name ∷ bytes ∷ []) = do
  id ← id_of name
  piece ← bytes_of PIECE_LIMIT bytes
  Some (Piece id piece)
piece_of words = None

-- the event of a verb that takes the name of a connection and no more
abbrev pub event_on : List ℕ → ConnId → Option OwnedEvent
event_on verb id =
    if bytes_eq verb (codes "connected") then Some (Connected id)
    else if bytes_eq verb (codes "failed") then Some (ConnectFailed id)
    else if bytes_eq verb (codes "expire") then Some (Expire id)
    else None

abbrev pub bare_event_of : List ℕ → List (List ℕ) → Option OwnedEvent
bare_event_of verb (name ∷ []) = id_of name >>= event_on verb
bare_event_of verb words = None

-- the event of a verb and the words after it
abbrev pub event_by_verb : List ℕ → List (List ℕ) → Option OwnedEvent
event_by_verb verb words =
    if bytes_eq verb (codes "accept") then accept_of words
    else if bytes_eq verb (codes "piece") then piece_of words
    else if bytes_eq verb (codes "close") then close_of words
    else if bytes_eq verb (codes "server") then mark_of words
    else bare_event_of verb words

-- it is none of the verbs that each connection has
pub record IsRareVerb (verb : List ℕ) : Type 0 where
  pub accept : bytes_eq verb (codes "accept") ≡ false
  pub piece : bytes_eq verb (codes "piece") ≡ false
  pub connected : bytes_eq verb (codes "connected") ≡ false
  pub close : bytes_eq verb (codes "close") ≡ false

-- What the first line of an event says: all of the event with its moment, or a reload at a moment, whose text is on so
-- many lines after it.
pub data EventHead : Type 0 where
  whole : ℕ × OwnedEvent → EventHead
  reload : ℕ → ℕ → EventHead

-- a reload by the words after its verb: its text has a line at least
abbrev pub reload_of : ℕ → List (List ℕ) → Option EventHead
reload_of moment (count ∷ []) = do
  lines ← decimal_of count 0xFFFF_FFFF_FFFF_FFFF
  if lines == 0 then None else Some (EventHead.reload moment lines)
reload_of moment words = None

abbrev pub head_by_verb : ℕ → List ℕ → List (List ℕ) → Option EventHead
head_by_verb moment verb words =
    if bytes_eq verb (codes "reload") then reload_of moment words
    else option_map (λ event. EventHead.whole (moment, event)) (event_by_verb verb words)

-- what the words of the first line of an event say
abbrev pub head_of : List (List ℕ) → Option EventHead
head_of (moment ∷ verb ∷ words) = decimal_of moment 0xFFFF_FFFF_FFFF_FFFF >>= λ number. head_by_verb number verb words
head_of words = None

-- the text of a line after its bar
abbrev pub bar_text : List ℕ → Option (List ℕ)
bar_text [] = None
bar_text (byte ∷ text) = if (byte == 0x7C) && is_utf8 text then Some text else None

-- the texts of lines, each after its bar
abbrev pub bar_texts : List (List ℕ) → Option (List (List ℕ))
bar_texts [] = Some []
bar_texts (line ∷ lines) = do
  text ← bar_text line
  texts ← bar_texts lines
  Some (text ∷ texts)

-- the moment and the event of a first line and all the lines after it
abbrev pub event_with : EventHead → List (List ℕ) → Option (ℕ × OwnedEvent)
event_with (EventHead.whole timed) [] = Some timed
event_with (EventHead.whole timed) (line ∷ lines) = None
event_with (EventHead.reload moment count) lines =
    if length lines == count then option_map (λ texts. (moment, Reload (join_with_byte 0x0A texts))) (bar_texts lines) else None

-- the moment and the event of all of its lines
abbrev pub event_in_lines : List (List ℕ) → Option (ℕ × OwnedEvent)
event_in_lines [] = None
event_in_lines (line ∷ lines) = head_of (words_of line) >>= λ head. event_with head lines

-- A reload of which lines are missing: what is there of its text, which is all before the next line.
pub record Pending : Type 0 where
  pub moment : ℕ
  pub missing : ℕ
  pub text : List ℕ

-- one of which all lines are missing
abbrev pub pending_reload : ℕ → ℕ → Pending
pending_reload moment lines = record { moment = moment; missing = lines; text = [] }

-- with the text of the next line, which has its end unless it is the last one
abbrev pub with_text : Pending → List ℕ → Pending
with_text pending text = record {
  moment = pending.moment;
  missing = pending.missing - 1;
  text = if nat_lt 1 pending.missing then pending.text ++ text ++ codes "\n" else pending.text ++ text;
}

-- its text, once the missing lines have these texts
abbrev pub text_with : Pending → List (List ℕ) → List ℕ
text_with pending texts = pending.text ++ join_with_byte 0x0A texts

-- the same of an event that was read, where a piece is so many bytes in front of a buffer
abbrev pub event_read : List ℕ → EventRequest → OwnedEvent
event_read buffer (reads.Accept listener real) = Accept listener real
event_read buffer (reads.Piece id length) = Piece id (take length buffer)
event_read buffer (reads.Connected id) = Connected id
event_read buffer (reads.ConnectFailed id) = ConnectFailed id
event_read buffer (reads.Close id why) = Close id why
event_read buffer (reads.Expire id) = Expire id
event_read buffer (reads.Mark backend server health) = Mark backend server health

abbrev pub head_read : List ℕ → FirstLine → EventHead
head_read buffer (firsts.Whole moment event) = EventHead.whole (moment, event_read buffer event)
head_read buffer (firsts.Reload moment lines) = EventHead.reload moment lines

-- what the first line of an event says that is written
abbrev pub head_written : ℕ → OwnedEvent → EventHead
head_written moment (Accept listener real) = EventHead.whole (moment, Accept listener real)
head_written moment (Piece id bytes) = EventHead.whole (moment, Piece id bytes)
head_written moment (Connected id) = EventHead.whole (moment, Connected id)
head_written moment (ConnectFailed id) = EventHead.whole (moment, ConnectFailed id)
head_written moment (Close id why) = EventHead.whole (moment, Close id why)
head_written moment (Expire id) = EventHead.whole (moment, Expire id)
head_written moment (Reload text) = EventHead.reload moment (length (text_lines text))
head_written moment (Mark backend server health) = EventHead.whole (moment, Mark backend server health)

-- what is asked for by the words after `ask frontend`
abbrev pub frontend_asked : List (List ℕ) → Option Ask
frontend_asked (number ∷ []) = option_map (λ n. asks.Frontend n) (decimal_of number 0xFFFF)
frontend_asked words = None

-- and after `ask backend`: a backend of the newest version by its number
abbrev pub backend_asked : List (List ℕ) → Option Ask
backend_asked (number ∷ []) = option_map (λ n. asks.Backend n) (decimal_of number 0xFFFF)
backend_asked words = None

-- and after `ask server`: such a backend, and a server by its number there
abbrev pub server_asked : List (List ℕ) → Option Ask
server_asked (number ∷ server ∷ []) = decimal_of number 0xFFFF >>= λ n. option_map (λ m. asks.Server n m) (decimal_of server 0xFFFF)
server_asked words = None

-- and after `ask entry`: a table of the newest version by its number, and an address
abbrev pub entry_asked : List (List ℕ) → Option Ask
entry_asked (number ∷ addr ∷ []) = decimal_of number 0xFFFF >>= λ n. option_map (λ a. asks.Entry n a) (result_ok (addr_of addr))
entry_asked words = None

-- what is asked for by the words after `ask`
abbrev pub ask_of : List (List ℕ) → Option Ask
ask_of [] = None
ask_of (kind ∷ words) =
    if bytes_eq kind (codes "frontend") then frontend_asked words
    else if bytes_eq kind (codes "backend") then backend_asked words
    else if bytes_eq kind (codes "server") then server_asked words
    else if bytes_eq kind (codes "entry") then entry_asked words
    else None

-- What a line wants: an answer to an event of which it is the first line, or counts.
pub data Wanted : Type 0 where
  reply : EventHead → Wanted
  count : Ask → Wanted

-- what the words of a line want
abbrev pub wanted_of : List (List ℕ) → Option Wanted
wanted_of [] = None
wanted_of (word ∷ words) =
    if bytes_eq word (codes "ask") then option_map (λ ask. Wanted.count ask) (ask_of words)
    else option_map (λ head. Wanted.reply head) (head_of (word ∷ words))

-- the same of a request that was read
abbrev pub wanted : List ℕ → Request → Wanted
wanted buffer (requests.Event first) = Wanted.reply (head_read buffer first)
wanted buffer (requests.Ask ask) = Wanted.count ask

-- the text of a reload has a line at least
abbrev pub HasLines : FirstLine → Type 0
HasLines (firsts.Whole moment event) = Unit {0}
HasLines (firsts.Reload moment lines) = 0 < lines

abbrev pub IsCounted : Request → Type 0
IsCounted (requests.Event first) = HasLines first
IsCounted (requests.Ask ask) = Unit {0}
