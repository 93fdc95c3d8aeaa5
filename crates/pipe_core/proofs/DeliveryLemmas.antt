-- What a server gets.
use Rattle.std.proofs.Common.{◌≡◌, ◌⊎◌, ℕ, ◌+◌, ◌-◌, ◌<◌, ◌≤◌, List, [], ◌++◌, length, take, drop, Option, Some, None, Ok, refl, ◌∙◌, sym, ap, subst, arith, append_assoc, append-nil, length-append, inl, inr}
use Rattle.std.proofs.Math.Seq.{take-append-add}
use Rattle.std.proofs.lemmas.List.{take-append-drop, take-append-le}
use Rattle.std.specs.Io.KnownBytes.{Appends, Consumes}
use Rattle.addr_core.specs.PairValue.{PairValue}
use Rattle.plan_types.specs.declared.plan.Plan.{Plan}
use Rattle.config_core.specs.Meaning.{meaning}
use Rattle.conn_model.specs.declared.plain.Plain.{Plain}
use Rattle.conn_model.specs.History.{opening}
use Rattle.pipe_core.specs.Pipe.{end_by, listener_of, output_of, said_to, IsCutShort, IsEnded, IsPipedFrom, IsStopped}
use Rattle.pipe_core.specs.Judged.{HasOffer}
use Rattle.pipe_core.specs.Stream.{Carried, Dropped, ReadsAll, Delivery, DeliveryFront}
use Rattle.pipe_core.specs.declared.end.PipeEnd.TheVariants as ends
use Rattle.pipe_core.specs.declared.end.PipeFault.{PipeFault}
use Rattle.pipe_core.specs.declared.end.PipeFault.TheVariants as faults
use Rattle.pipe_core.specs.declared.header.HeaderOffer.{HeaderOffer}
use Rattle.pipe_core.proofs.StreamLemmas.{appends-both, consumes-both, consumes-nil}

-- the first write failed
pub delivery_send : (l h0 h1 : Option (List ℕ)) (send payload : List ℕ) → ((n : ℕ) × (n < length send) × Appends h0 h1 (take n send)) → DeliveryFront l l h0 h1 (send ++ payload)
delivery_send l h0 h1 send payload part = record {
  got = [];
  count = part.0;
  read = consumes-nil l;
  wrote = subst (λ xs. Appends h0 h1 xs) (sym text) part.2;
}
  where
    text : take part.0 ((send ++ payload) ++ []) ≡ take part.0 send
    text = let within : part.0 ≤ length send = omega (arith, part.1) in ap (take part.0) (append_assoc send payload []) ∙ take-append-le part.0 send (payload ++ []) within

-- the second one did
pub delivery_payload : (l h0 h1 h2 : Option (List ℕ)) (send payload : List ℕ) → Appends h0 h1 send → ((n : ℕ) × (n < length payload) × Appends h1 h2 (take n payload)) → DeliveryFront l l h0 h2 (send ++ payload)
delivery_payload l h0 h1 h2 send payload sent part = record {
  got = [];
  count = length send + part.0;
  read = consumes-nil l;
  wrote = subst (λ xs. Appends h0 h2 xs) (sym text) (appends-both h0 h1 h2 send (take part.0 payload) sent part.2);
}
  where
    text : take (length send + part.0) ((send ++ payload) ++ []) ≡ send ++ take part.0 payload
    text = ap (take (length send + part.0)) (append-nil (send ++ payload)) ∙ take-append-add send payload part.0

-- a later one did, or a read
pub delivery_part : (l0 l1 h0 h1 h2 h3 : Option (List ℕ)) (send payload : List ℕ) → Appends h0 h1 send → Appends h1 h2 payload → Dropped l0 l1 h2 h3 → DeliveryFront l0 l1 h0 h3 (send ++ payload)
delivery_part l0 l1 h0 h1 h2 h3 send payload sent paid dropped = record {
  got = dropped.got;
  count = length (send ++ payload) + dropped.count;
  read = dropped.read;
  wrote = subst (λ xs. Appends h0 h3 xs) (sym (take-append-add (send ++ payload) dropped.got dropped.count))
      (appends-both h0 h2 h3 (send ++ payload) (take dropped.count dropped.got) (appends-both h0 h1 h2 send payload sent paid) dropped.wrote);
}

-- all was written
pub delivery_all : (l0 l1 h0 h1 h2 h3 : Option (List ℕ)) (send payload : List ℕ) (before count : ℕ) → Appends h0 h1 send → Appends h1 h2 payload → before ≡ length send + length payload → Carried l0 l1 h2 h3 before count →
    Delivery l0 l1 h0 h3 (send ++ payload) count
delivery_all l0 l1 h0 h1 h2 h3 send payload before count sent paid is carried = record {
  got = carried.got;
  read = carried.read;
  wrote = appends-both h0 h2 h3 (send ++ payload) carried.got (appends-both h0 h1 h2 send payload sent paid) carried.wrote;
  counts = omega (arith, carried.counts, is, length-append (send ++ payload) carried.got, length-append send payload);
}

-- Where the devices report their bytes.

left_known : (left : Option (List ℕ)) (input got : List ℕ) → Consumes (Some input) left got → (rest : List ℕ) × (left ≡ Some rest) × (input ≡ got ++ rest)
left_known None input got read = absurd read
left_known (Some rest) input got read = (rest, refl, read)

read_out : (l1 l2 : Option (List ℕ)) (input got : List ℕ) → Consumes (Some input) l1 got → ReadsAll l1 l2 → l2 ≡ Some []
read_out None l2 input got read all = absurd read
read_out (Some rest) l2 input got read all = all

wrote_known : (held : Option (List ℕ)) (sent text : List ℕ) → Appends (Some sent) held text → held ≡ Some (sent ++ text)
wrote_known None sent text wrote = absurd wrote
wrote_known (Some now) sent text wrote = ap (λ xs. Some xs) wrote

-- the bytes of an offer, and those after them
offer_text : (offer : HeaderOffer) (buffer got : List ℕ) →
    (offer.send.items ++ take (offer.to - offer.from) (drop offer.from buffer)) ++ got ≡ offer.send.items ++ (take (offer.to - offer.from) (drop offer.from buffer) ++ got)
offer_text offer buffer got = append_assoc offer.send.items (take (offer.to - offer.from) (drop offer.from buffer)) got

-- all that the server gets was written
pub piped : (p : Plain) (name : List ℕ) (listener : ℕ) (real : PairValue) (l0 l1 l2 h0 h1 : Option (List ℕ)) (buffer : List ℕ) (offer : HeaderOffer) (count : ℕ) → listener_of p name ≡ Some listener →
    HasOffer (said_to p listener real) l0 l1 buffer offer → Delivery l1 l2 h0 h1 (offer.send.items ++ take (offer.to - offer.from) (drop offer.from buffer)) count → ReadsAll l1 l2 →
    (input sent : List ℕ) → l0 ≡ Some input → h0 ≡ Some sent → IsPipedFrom p name real input sent l2 h1 (ends.Offered count)
piped p name listener real l0 l1 l2 h0 h1 buffer offer count listens has delivery all input sent left held = record {
  listener = listener;
  listens = listens;
  ends = ap (λ bytes. end_by bytes (said_to p listener real bytes)) input_is ∙ (has.offers delivery.got).1 ∙ ap (λ n. Some (ends.Offered n)) (sym count_is);
  wrote = wrote_known h1 sent text (subst (λ xs. Appends (Some sent) h1 xs) text_is (subst (λ h. Appends h h1 (first ++ delivery.got)) held delivery.wrote))
      ∙ ap (λ xs. Some (sent ++ xs)) (sym (has.offers delivery.got).0 ∙ ap (λ bytes. output_of bytes (said_to p listener real bytes)) (sym input_is));
  read = none;
}
  where
    first : List ℕ
    first = offer.send.items ++ take (offer.to - offer.from) (drop offer.from buffer)

    text : List ℕ
    text = offer.send.items ++ (take (offer.to - offer.from) (drop offer.from buffer) ++ delivery.got)

    text_is : first ++ delivery.got ≡ text
    text_is = offer_text offer buffer delivery.got

    count_is : count ≡ length text
    count_is = delivery.counts ∙ ap length text_is

    read_first : Consumes (Some input) l1 has.got
    read_first = subst (λ l. Consumes l l1 has.got) left has.read

    none : l2 ≡ Some []
    none = read_out l1 l2 input has.got read_first all

    input_is : input ≡ has.got ++ delivery.got
    input_is =
        let known = left_known l2 input (has.got ++ delivery.got) (consumes-both (Some input) l1 l2 has.got delivery.got read_first delivery.read) in
        let nothing : known.0 ≡ [] = let e : Some known.0 ≡ Some [] = sym known.1 ∙ none in cc in
        known.2 ∙ ap (λ xs. (has.got ++ delivery.got) ++ xs) nothing ∙ append-nil (has.got ++ delivery.got)

-- the first bytes of it were written
pub cut : (p : Plain) (name : List ℕ) (listener : ℕ) (real : PairValue) (l0 l1 l2 h0 h1 : Option (List ℕ)) (buffer : List ℕ) (offer : HeaderOffer) → listener_of p name ≡ Some listener →
    HasOffer (said_to p listener real) l0 l1 buffer offer → DeliveryFront l1 l2 h0 h1 (offer.send.items ++ take (offer.to - offer.from) (drop offer.from buffer)) →
    (input sent : List ℕ) → l0 ≡ Some input → h0 ≡ Some sent → IsCutShort p name real input sent l2 h1
cut p name listener real l0 l1 l2 h0 h1 buffer offer listens has delivery input sent left held = record {
  listener = listener;
  listens = listens;
  got = has.got ++ delivery.got;
  rest = known.0;
  is_left = known.1;
  is_read = known.2;
  front = (
    sent ++ take delivery.count (first ++ delivery.got),
    drop delivery.count (first ++ delivery.got),
    wrote_known h1 sent (take delivery.count (first ++ delivery.got)) (subst (λ h. Appends h h1 (take delivery.count (first ++ delivery.got))) held delivery.wrote),
    ap (λ xs. sent ++ xs) ((has.offers delivery.got).0 ∙ sym (offer_text offer buffer delivery.got) ∙ sym (take-append-drop delivery.count (first ++ delivery.got)))
        ∙ sym (append_assoc sent (take delivery.count (first ++ delivery.got)) (drop delivery.count (first ++ delivery.got))),
  );
}
  where
    first : List ℕ
    first = offer.send.items ++ take (offer.to - offer.from) (drop offer.from buffer)

    known : (rest : List ℕ) × (l2 ≡ Some rest) × (input ≡ (has.got ++ delivery.got) ++ rest)
    known = left_known l2 input (has.got ++ delivery.got) (consumes-both (Some input) l1 l2 has.got delivery.got (subst (λ l. Consumes l l1 has.got) left has.read) delivery.read)

-- a read or a write failed
pub stopped : (p : Plain) (name : List ℕ) (real : PairValue) (input sent : List ℕ) (left held : Option (List ℕ)) (fault : PipeFault) → (fault ≡ faults.Read) ⊎ (fault ≡ faults.Write) → IsCutShort p name real input sent left held → IsStopped p name real input sent left held fault
stopped p name real input sent left held fault (inl is) short = subst (IsStopped p name real input sent left held) (sym is) short
stopped p name real input sent left held fault (inr is) short = subst (IsStopped p name real input sent left held) (sym is) short

-- a whole run, where the state is the opening of the configuration's plan
pub ended : (config name : List ℕ) (real : PairValue) (input sent : List ℕ) (left held : Option (List ℕ)) (p : Plain) (plan : Plan) → meaning config ≡ Ok plan → p ≡ opening plan 0 → (fault : PipeFault) → IsStopped p name real input sent left held fault →
    IsEnded config name real input sent left held fault
ended config name real input sent left held p plan means opens (faults.Config fault) stop = absurd stop
ended config name real input sent left held p plan means opens faults.NoFrontend stop = (plan, means, subst (λ s. IsStopped s name real input sent left held faults.NoFrontend) opens stop)
ended config name real input sent left held p plan means opens faults.Read stop = (plan, means, subst (λ s. IsStopped s name real input sent left held faults.Read) opens stop)
ended config name real input sent left held p plan means opens faults.Write stop = (plan, means, subst (λ s. IsStopped s name real input sent left held faults.Write) opens stop)
ended config name real input sent left held p plan means opens faults.NoMemory stop = stop
