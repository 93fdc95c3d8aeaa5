-- Events and replies are written on one line each: no byte of them is a line feed.
use Rattle.std.proofs.Common.{◌≡◌, ℕ, false, List, [], ◌∷◌, ◌++◌, refl, subst, sym, arith}
use Rattle.std.specs.Prelude.{codes}
use Rattle.std.specs.List.{flat_map, join_with_byte, All, AllByRecursion}
use Rattle.std.proofs.lemmas.List.Elements.{All-nil}
use Rattle.text_core.specs.Decimal.{decimal}
use Rattle.text_core.specs.Parts.{is_line_feed}
use Rattle.addr_core.specs.Text.{endpoint_text, text_of}
use Rattle.pp_any.specs.declared.fault.HeaderFault.{HeaderFault}
use Rattle.pp_any.specs.declared.fault.HeaderFault.TheVariants as faults
use Rattle.plan_types.specs.declared.track.Track.{Track}
use Rattle.conn_model.specs.declared.event.OwnedEvent.{OwnedEvent}
use Rattle.conn_model.specs.declared.reply.Cause.{Cause}
use Rattle.conn_model.specs.declared.reply.Cause.TheVariants.{Line, Header, Expired, NoBackend, NoServer}
use Rattle.conn_model.specs.declared.reply.Said.{Said}
use Rattle.conn_model.specs.declared.reply.Said.TheVariants.{Wait, Offer, Refuse, Up, Closed, Reloaded, Marked}
use Rattle.conn_model.specs.declared.reply.Reply.{Reply}
use Rattle.event_text.specs.Script.{bytes_text, event_line, health_text, id_text, is_mark, why_text}
use Rattle.event_text.specs.Replies.{cause_text, header_fault_text, reply_text, said_text, track_text}
use Rattle.event_text.proofs.LackLemmas.{addr_lacks, both_lack, bytes_lack, endpoint_lacks, health_lacks, id_lacks, number_lacks, text_lacks, why_lacks, IsAside, Lacks}
use Rattle.event_text.proofs.EventLemmas.{words_lack}

aside : IsAside 10
aside = record { some = omega arith; low = omega arith }

join_lacks : (word : List ℕ) (words : List (List ℕ)) → AllByRecursion (Lacks 10) (word ∷ words) → Lacks 10 (join_with_byte 0x20 (word ∷ words))
join_lacks word [] lack = lack.0
join_lacks word (next ∷ words) lack =
    both_lack 10 word (0x20 ∷ join_with_byte 0x20 (next ∷ words)) lack.0
    (both_lack 10 (0x20 ∷ []) (join_with_byte 0x20 (next ∷ words)) (text_lacks 10 (0x20 ∷ []) refl) (join_lacks next words lack.1))

-- the line of an event
pub event_on_line : (moment : ℕ) (event : OwnedEvent) → All (λ b. is_line_feed b ≡ false) (event_line moment event)
event_on_line moment event =
    let parts = words_lack 10 aside moment event in
    subst (λ ws. Lacks 10 (join_with_byte 0x20 ws)) (sym parts.2) (join_lacks parts.0 parts.1 parts.3)

header_lacks : (fault : HeaderFault) → Lacks 10 (header_fault_text fault)
header_lacks faults.NotProxy = text_lacks 10 (codes "NotProxy") refl
header_lacks faults.TooLong = text_lacks 10 (codes "TooLong") refl
header_lacks faults.BadLine = text_lacks 10 (codes "BadLine") refl
header_lacks faults.BadAddress = text_lacks 10 (codes "BadAddress") refl
header_lacks faults.BadPort = text_lacks 10 (codes "BadPort") refl
header_lacks faults.BadVersion = text_lacks 10 (codes "BadVersion") refl
header_lacks faults.BadCommand = text_lacks 10 (codes "BadCommand") refl
header_lacks faults.BadFamily = text_lacks 10 (codes "BadFamily") refl
header_lacks faults.ShortBlock = text_lacks 10 (codes "ShortBlock") refl

number : (n : ℕ) → Lacks 10 (decimal n)
number n = number_lacks 10 n aside

cause_lacks : (cause : Cause) → Lacks 10 (cause_text cause)
cause_lacks (Line line) = both_lack 10 (codes "line ") (decimal line) (text_lacks 10 (codes "line ") refl) (number line)
cause_lacks (Header fault) = both_lack 10 (codes "header ") (header_fault_text fault) (text_lacks 10 (codes "header ") refl) (header_lacks fault)
cause_lacks Expired = text_lacks 10 (codes "expired") refl
cause_lacks (NoBackend line) = both_lack 10 (codes "nobackend line ") (decimal line) (text_lacks 10 (codes "nobackend line ") refl) (number line)
cause_lacks (NoServer line) = both_lack 10 (codes "noserver line ") (decimal line) (text_lacks 10 (codes "noserver line ") refl) (number line)

-- a text of several parts
abbrev chain : List ℕ → List (List ℕ) → List ℕ
chain text [] = text
chain text (part ∷ parts) = chain (text ++ part) parts

chain_lacks : (text : List ℕ) (parts : List (List ℕ)) → Lacks 10 text → AllByRecursion (Lacks 10) parts → Lacks 10 (chain text parts)
chain_lacks text [] first rest = first
chain_lacks text (part ∷ parts) first rest = chain_lacks (text ++ part) parts (both_lack 10 text part first rest.0) rest.1

said_lacks : (said : Said) → Lacks 10 (said_text said)
said_lacks (Wait id used) =
    chain_lacks (codes "wait ") (id_text id ∷ codes " used " ∷ decimal used ∷ [])
    (text_lacks 10 (codes "wait ") refl) (id_lacks 10 aside id, (text_lacks 10 (codes " used ") refl, (number used, tt)))
said_lacks (Offer id used line server to judged send) =
    chain_lacks (codes "offer ") (id_text id ∷ codes " used " ∷ decimal used ∷ codes " line " ∷ decimal line ∷ codes " to " ∷ endpoint_text to ∷ codes " src " ∷ endpoint_text judged.source ∷ codes " dst " ∷ endpoint_text judged.destination ∷ codes " send " ∷ bytes_text send.items ∷ [])
    (text_lacks 10 (codes "offer ") refl) (id_lacks 10 aside id, (text_lacks 10 (codes " used ") refl, (number used, (text_lacks 10 (codes " line ") refl, (number line, (text_lacks 10 (codes " to ") refl, (endpoint_lacks 10 aside to, (text_lacks 10 (codes " src ") refl, (endpoint_lacks 10 aside judged.source, (text_lacks 10 (codes " dst ") refl, (endpoint_lacks 10 aside judged.destination, (text_lacks 10 (codes " send ") refl, (bytes_lack 10 aside send.items, tt)))))))))))))
said_lacks (Refuse id used cause) =
    chain_lacks (codes "refuse ") (id_text id ∷ codes " used " ∷ decimal used ∷ codes " " ∷ cause_text cause ∷ [])
    (text_lacks 10 (codes "refuse ") refl) (id_lacks 10 aside id, (text_lacks 10 (codes " used ") refl, (number used, (text_lacks 10 (codes " ") refl, (cause_lacks cause, tt)))))
said_lacks (Up id) = chain_lacks (codes "up ") (id_text id ∷ []) (text_lacks 10 (codes "up ") refl) (id_lacks 10 aside id, tt)
said_lacks (Closed id why) =
    chain_lacks (codes "closed ") (id_text id ∷ codes " " ∷ why_text why ∷ [])
    (text_lacks 10 (codes "closed ") refl) (id_lacks 10 aside id, (text_lacks 10 (codes " ") refl, (why_lacks 10 aside why, tt)))
said_lacks (Reloaded version) = chain_lacks (codes "reloaded ") (decimal version ∷ []) (text_lacks 10 (codes "reloaded ") refl) (number version, tt)
said_lacks (Marked line health) =
    chain_lacks (codes "marked line ") (decimal line ∷ codes " " ∷ health_text health ∷ [])
    (text_lacks 10 (codes "marked line ") refl) (number line, (text_lacks 10 (codes " ") refl, (health_lacks 10 aside health, tt)))

track_lacks : (track : Track) → Lacks 10 (track_text track)
track_lacks track =
    chain_lacks (codes " sc") (decimal track.counter ∷ codes "=" ∷ decimal track.table.version ∷ codes "." ∷ decimal track.table.position ∷ codes "/" ∷ text_of track.key ∷ [])
    (text_lacks 10 (codes " sc") refl) (number track.counter, (text_lacks 10 (codes "=") refl, (number track.table.version, (text_lacks 10 (codes ".") refl, (number track.table.position, (text_lacks 10 (codes "/") refl, (addr_lacks 10 aside track.key, tt)))))))

tracks_lack : (tracks : List Track) → Lacks 10 (flat_map track_text tracks)
tracks_lack [] = All-nil (λ b. is_mark 10 b ≡ false)
tracks_lack (track ∷ tracks) = both_lack 10 (track_text track) (flat_map track_text tracks) (track_lacks track) (tracks_lack tracks)

-- a reply
pub reply_on_line : (reply : Reply) → All (λ b. is_line_feed b ≡ false) (reply_text reply)
reply_on_line reply = both_lack 10 (said_text reply.said) (flat_map track_text reply.tracks.items) (said_lacks reply.said) (tracks_lack reply.tracks.items)
