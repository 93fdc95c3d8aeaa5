-- Replies and counts as lines.
use Rattle.std.specs.Prelude.{ℕ, List, ◌++◌, codes, Option, Some, None}
use Rattle.std.specs.List.{flat_map}
use Rattle.text_core.specs.Decimal.{decimal}
use Rattle.addr_core.specs.Text.{endpoint_text, text_of}
use Rattle.pp_any.specs.declared.fault.HeaderFault.{HeaderFault}
use Rattle.pp_any.specs.declared.fault.HeaderFault.TheVariants as faults
use Rattle.plan_types.specs.declared.track.Track.{Track}
use Rattle.config_core.specs.Names.{open_text}
use Rattle.conn_model.specs.declared.ask.Ask.{Ask}
use Rattle.conn_model.specs.declared.ask.Ask.TheVariants as asks
use Rattle.conn_model.specs.declared.ask.Counts.{Counts}
use Rattle.conn_model.specs.declared.reply.Cause.{Cause}
use Rattle.conn_model.specs.declared.reply.Cause.TheVariants.{Line, Header, Expired, NoBackend, NoServer}
use Rattle.conn_model.specs.declared.reply.Said.{Said}
use Rattle.conn_model.specs.declared.reply.Said.TheVariants.{Wait, Offer, Refuse, Up, Closed, Reloaded, Marked}
use Rattle.conn_model.specs.declared.reply.Reply.{Reply}
use Rattle.conn_model.specs.declared.reply.StepFault.{StepFault}
use Rattle.conn_model.specs.declared.reply.StepFault.TheVariants.{NoListener, NoSuch, NotWaiting, NotOffered, NotDue, NotChecked, BadConfig, BindChanged, Exhausted, NoMemory}
use Rattle.event_text.specs.Script.{bytes_text, id_text, why_text, health_text}

abbrev pub header_fault_text : HeaderFault → List ℕ
header_fault_text faults.NotProxy = codes "NotProxy"
header_fault_text faults.TooLong = codes "TooLong"
header_fault_text faults.BadLine = codes "BadLine"
header_fault_text faults.BadAddress = codes "BadAddress"
header_fault_text faults.BadPort = codes "BadPort"
header_fault_text faults.BadVersion = codes "BadVersion"
header_fault_text faults.BadCommand = codes "BadCommand"
header_fault_text faults.BadFamily = codes "BadFamily"
header_fault_text faults.ShortBlock = codes "ShortBlock"

abbrev pub cause_text : Cause → List ℕ
cause_text (Line line) = codes "line " ++ decimal line
cause_text (Header fault) = codes "header " ++ header_fault_text fault
cause_text Expired = codes "expired"
cause_text (NoBackend line) = codes "nobackend line " ++ decimal line
cause_text (NoServer line) = codes "noserver line " ++ decimal line

abbrev pub said_text : Said → List ℕ
said_text (Wait id used) = codes "wait " ++ id_text id ++ codes " used " ++ decimal used
said_text (Offer id used line server to judged send) =
    codes "offer " ++ id_text id ++ codes " used " ++ decimal used ++ codes " line " ++ decimal line ++ codes " to " ++ endpoint_text to
    ++ codes " src " ++ endpoint_text judged.source ++ codes " dst " ++ endpoint_text judged.destination ++ codes " send " ++ bytes_text send.items
said_text (Refuse id used cause) = codes "refuse " ++ id_text id ++ codes " used " ++ decimal used ++ codes " " ++ cause_text cause
said_text (Up id) = codes "up " ++ id_text id
said_text (Closed id why) = codes "closed " ++ id_text id ++ codes " " ++ why_text why
said_text (Reloaded version) = codes "reloaded " ++ decimal version
said_text (Marked line health) = codes "marked line " ++ decimal line ++ codes " " ++ health_text health

-- a tracked key: its counter, its table and the address
abbrev pub track_text : Track → List ℕ
track_text track =
    codes " sc" ++ decimal track.counter ++ codes "=" ++ decimal track.table.version ++ codes "." ++ decimal track.table.position
    ++ codes "/" ++ text_of track.key

-- a reply, without the end of its line
abbrev pub reply_text : Reply → List ℕ
reply_text reply = said_text reply.said ++ flat_map track_text reply.tracks.items

-- the line that a reply is
abbrev pub reply_line : Reply → List ℕ
reply_line reply = said_text reply.said ++ flat_map track_text reply.tracks.items ++ codes "\n"

abbrev pub fault_name : StepFault → List ℕ
fault_name NoListener = codes "NoListener"
fault_name NoSuch = codes "NoSuch"
fault_name NotWaiting = codes "NotWaiting"
fault_name NotOffered = codes "NotOffered"
fault_name NotDue = codes "NotDue"
fault_name NotChecked = codes "NotChecked"
fault_name (BadConfig fault) = codes "BadConfig " ++ open_text fault
fault_name BindChanged = codes "BindChanged"
fault_name Exhausted = codes "Exhausted"
fault_name NoMemory = codes "NoMemory"

-- the line of counts that were asked for, or of no such thing
abbrev pub count_line : Ask → Option Counts → List ℕ
count_line ask None = codes "count none\n"
count_line (asks.Frontend number) (Some counts) = codes "count " ++ decimal counts.cur ++ codes "\n"
count_line (asks.Backend number) (Some counts) = codes "count " ++ decimal counts.cur ++ codes "\n"
count_line (asks.Server number server) (Some counts) = codes "count " ++ decimal counts.cur ++ codes "\n"
count_line (asks.Entry number addr) (Some counts) = codes "count " ++ decimal counts.cur ++ codes " " ++ decimal counts.cnt ++ codes "\n"

-- the line that a refused step is
abbrev pub fault_line : StepFault → List ℕ
fault_line fault = codes "fault " ++ fault_name fault ++ codes "\n"
