-- Addresses, endpoints and networks: the texts that stand for them, and what is read.
use Rattle.std.proofs.Common.{◌≡◌, ℕ, ◌^◌, ◌<◌, ◌≤◌, Bool, true, false, List, [], ◌∷◌, ◌++◌, length, get_or, drop, Some, None, Option, refl, ◌∙◌, sym, ap, subst, arith, append_assoc, inl, inr}
use Rattle.std.specs.Prelude.{◌==◌, slice_index, Result, Ok}
use Rattle.std.specs.List.{list_any, slice_split, All}
use Rattle.std.proofs.lemmas.Bool.Decides.{nat_tests}
use Rattle.std.proofs.lemmas.List.Folds.{list_any_none}
use Rattle.std.proofs.lemmas.List.Elements.{All-weaker, All-get_or}
use Rattle.list_core.specs.Each.{◌>>=◌}
use Rattle.text_core.specs.Decimal.{decimal, decimal_of}
use Rattle.text_core.specs.Cut.{cut}
use Rattle.addr_core.specs.Dotted.{dotted_of, dotted_text, is_colon, is_dot, is_empty}
use Rattle.addr_core.specs.Prefix.{Prefix, width_of}
use Rattle.addr_core.specs.Six.{is_six_byte, six_of}
use Rattle.addr_core.specs.Text.{addr_of, bare_of, bracketed_of, endpoint_of, endpoint_text, host_text, in_brackets, net_in, net_of, one_address, text_of, with_bits, with_port, IsAddr, IsEndpoint, IsEndpointText, IsHost, IsNet, IsNetText, IsText}
use Rattle.addr_core.specs.declared.addr.Addr.{Addr}
use Rattle.addr_core.specs.declared.addr.Addr.TheVariants.{V4, V6}
use Rattle.addr_core.specs.declared.addr.Endpoint.{Endpoint}
use Rattle.addr_core.specs.declared.reading.AddrFault.{AddrFault}
use Rattle.text_core.proofs.DecimalLemmas.{decimal-decimal_of, decimal_of_written}
use Rattle.addr_core.proofs.DottedLemmas.{bind_is, dotted_of-dotted_text, dotted_text-dotted_of, dotted_text_all, some_dotted}
use Rattle.addr_core.proofs.SixLemmas.{six_of_text, six_text_all, six_text_colon, six_text_some}
use Rattle.addr_core.proofs.SixReading.{six_is}
use Rattle.addr_core.proofs.SixWritten.{six_text_written}
use Rattle.text_core.proofs.CutLemmas.{cut-at_mark, cut-first, cut-joins, cut-no_mark, cut_pair-at_mark, cut_pair-joins}

-- one answer has one value
addr_is : (a b : Addr) → ◌≡◌ {A = Result Addr AddrFault} (Ok a) (Ok b) → a ≡ b
addr_is a b is = cc

endpoint_is : (a b : Endpoint) → ◌≡◌ {A = Result Endpoint AddrFault} (Ok a) (Ok b) → a ≡ b
endpoint_is a b is = cc

net_is : (a b : Prefix) → ◌≡◌ {A = Result Prefix AddrFault} (Ok a) (Ok b) → a ≡ b
net_is a b is = cc

not_empty : (text : List ℕ) → 0 < length text → is_empty text ≡ false
not_empty text some = grind (arith, nat_tests)

-- ---- addresses

no_colon : (n : ℕ) → list_any is_colon (dotted_text n) ≡ false
no_colon n = list_any_none is_colon (dotted_text n) (dotted_text_all (λ b. is_colon b ≡ false) (λ b low high. grind (arith, nat_tests)) refl n)

-- an address is read of each of its texts
pub addr_of_text : (text : List ℕ) (addr : Addr) → IsAddr addr → IsText text addr → addr_of text ≡ Ok addr
addr_of_text text (V4 n) small is = ap (λ t. addr_of t) is ∙ rw (not_empty (dotted_text n) (some_dotted n), no_colon n, dotted_of-dotted_text n small) refl
addr_of_text text (V6 n) small is = rw (not_empty text (six_text_some text n is), six_text_colon text n is, six_of_text text n is) refl

-- and of no other
pub addr_text-addr_of : (text : List ℕ) (addr : Addr) → addr_of text ≡ Ok addr → IsText text addr
addr_text-addr_of text addr is = by (is_empty text) (list_any is_colon text) refl refl
  where
    by : (empty colon : Bool) → is_empty text ≡ empty → list_any is_colon text ≡ colon → IsText text addr
    by true colon a b = let wrong = rw a at is in absurd cc
    by false true a b =
        let read = bind_is (six_of text) (λ number. Ok (V6 number)) addr (rw (a, b) at is) in
        let same : V6 read.0 ≡ addr = addr_is (V6 read.0) addr read.2 in
        let P : Addr → Type 0 = λ own. IsText text own in
        subst P same (six_is text read.0 read.1)
    by false false a b =
        let read = bind_is (dotted_of (slice_split is_dot text)) (λ number. Ok (V4 number)) addr (rw (a, b) at is) in
        let same : V4 read.0 ≡ addr = addr_is (V4 read.0) addr read.2 in
        let P : Addr → Type 0 = λ own. IsText text own in
        subst P same (dotted_text-dotted_of text read.0 read.1).0

-- an address without a colon is of IPv4
without_colon : (text : List ℕ) (addr : Addr) → list_any is_colon text ≡ false → addr_of text ≡ Ok addr → (n : ℕ) × (addr ≡ V4 n)
without_colon text addr none is = by (is_empty text) refl
  where
    by : (empty : Bool) → is_empty text ≡ empty → (n : ℕ) × (addr ≡ V4 n)
    by true a = let wrong = rw a at is in absurd cc
    by false a =
        let read = bind_is (dotted_of (slice_split is_dot text)) (λ number. Ok (V4 number)) addr (rw (a, none) at is) in
        (read.0, sym (addr_is (V4 read.0) addr read.2))

-- the written text is a text of the address
pub is_text_of : (addr : Addr) → IsAddr addr → IsText (text_of addr) addr
is_text_of (V4 n) small = refl
is_text_of (V6 n) small = six_text_written n small

pub addr_of_written : (text : List ℕ) (addr : Addr) → IsAddr addr → text ≡ text_of addr → addr_of text ≡ Ok addr
addr_of_written text addr small is = ap (λ t. addr_of t) is ∙ addr_of_text (text_of addr) addr small (is_text_of addr small)

digit_is_six_byte : (b : ℕ) → 48 ≤ b → b < 58 → is_six_byte b ≡ true
digit_is_six_byte b low high = grind (arith, nat_tests)

-- what holds of the bytes of addresses holds of each byte of a text
text_all : (P : ℕ → Type 0) → ((b : ℕ) → is_six_byte b ≡ true → P b) → (text : List ℕ) (addr : Addr) → IsAddr addr → IsText text addr → All P text
text_all P each text (V4 n) small is = subst (λ (t : List ℕ). All P t) (sym is) (dotted_text_all P (λ b low high. each b (digit_is_six_byte b low high)) (each 46 refl) n)
text_all P each text (V6 n) small is = All-weaker (λ b. is_six_byte b ≡ true) P each text (six_text_all text n is)

-- ---- endpoints

port_is : (text : List ℕ) (addr : Addr) (endpoint : Endpoint) → with_port text addr ≡ Ok endpoint → (text ≡ decimal endpoint.port) × (addr ≡ endpoint.addr)
port_is text addr endpoint is = by (decimal_of text 65535) refl
  where
    by : (o : Option ℕ) → decimal_of text 65535 ≡ o → (text ≡ decimal endpoint.port) × (addr ≡ endpoint.addr)
    by None read = let wrong = rw read at is in absurd cc
    by (Some port) read =
        let same = endpoint_is (record { addr = addr; port = port }) endpoint (rw read at is) in
        let written = decimal-decimal_of text 65535 port read in
        (written.0 ∙ ap (λ e. decimal e.port) same, ap (λ e. e.addr) same)

bare_is : (text : List ℕ) (parts : Option (List ℕ × List ℕ)) (endpoint : Endpoint) → cut (58 ∷ []) text ≡ parts → bare_of parts ≡ Ok endpoint → IsEndpointText text endpoint
bare_is text None endpoint found is = absurd cc
bare_is text (Some parts) endpoint found is =
    let read = bind_is (addr_of parts.0) (with_port parts.1) endpoint is in
    let port = port_is parts.1 read.0 endpoint read.2 in
    let four = without_colon parts.0 read.0 (cut-first 58 text parts.0 parts.1 found) read.1 in
    let host : IsText parts.0 endpoint.addr = addr_text-addr_of parts.0 endpoint.addr (read.1 ∙ ap (λ a. Ok a) port.1) in
    (parts.0, cut-joins 58 text parts.0 parts.1 found ∙ rw port.0 refl, as_host parts.0 endpoint.addr four.0 (sym port.1 ∙ four.1) host)
  where
    as_host : (text : List ℕ) (addr : Addr) (n : ℕ) → addr ≡ V4 n → IsText text addr → IsHost text addr
    as_host text (V4 m) n same is = is
    as_host text (V6 m) n same is = absurd cc

bracketed_is : (text : List ℕ) (parts : Option (List ℕ × List ℕ)) (endpoint : Endpoint) → cut (93 ∷ 58 ∷ []) text ≡ parts → bracketed_of parts ≡ Ok endpoint → IsEndpointText (91 ∷ text) endpoint
bracketed_is text None endpoint found is = absurd cc
bracketed_is text (Some parts) endpoint found is =
    let outer = bind_is (addr_of parts.0 >>= in_brackets) (with_port parts.1) endpoint is in
    let inner = bind_is (addr_of parts.0) in_brackets outer.0 outer.1 in
    let port = port_is parts.1 outer.0 endpoint outer.2 in
    let same = in_brackets_is inner.0 endpoint.addr (inner.2 ∙ ap (λ a. Ok a) port.1) in
    let host : IsText parts.0 endpoint.addr = addr_text-addr_of parts.0 endpoint.addr (inner.1 ∙ ap (λ a. Ok a) same.0) in
    (91 ∷ parts.0 ++ 93 ∷ [], ap (λ t. 91 ∷ t) (cut_pair-joins 93 58 text parts.0 parts.1 found ∙ rw port.0 (sym (append_assoc parts.0 (93 ∷ []) (58 ∷ decimal endpoint.port)))), as_host parts.0 endpoint.addr same.1 same.2 host)
  where
    in_brackets_is : (addr own : Addr) → in_brackets addr ≡ Ok own → (addr ≡ own) × (n : ℕ) × (own ≡ V6 n)
    in_brackets_is (V4 n) own is = absurd cc
    in_brackets_is (V6 n) own is = let same = addr_is (V6 n) own is in (same, n, sym same)

    as_host : (text : List ℕ) (addr : Addr) (n : ℕ) → addr ≡ V6 n → IsText text addr → IsHost (91 ∷ text ++ 93 ∷ []) addr
    as_host text (V4 m) n same is = absurd cc
    as_host text (V6 m) n same is = (text, refl, is)

first_and_rest : (text : List ℕ) → is_empty text ≡ false → (slice_index text 0 == 91) ≡ true → text ≡ 91 ∷ drop 1 text
first_and_rest [] some first = absurd cc
first_and_rest (b ∷ text) some first = let same : b ≡ 91 = grind (arith, nat_tests) in rw same refl

pub endpoint_text-endpoint_of : (text : List ℕ) (endpoint : Endpoint) → endpoint_of text ≡ Ok endpoint → IsEndpointText text endpoint
endpoint_text-endpoint_of text endpoint is = by (is_empty text) (slice_index text 0 == 91) refl refl
  where
    by : (empty bracket : Bool) → is_empty text ≡ empty → (slice_index text 0 == 91) ≡ bracket → IsEndpointText text endpoint
    by true bracket a b = let wrong = rw a at is in absurd cc
    by false true a b =
        let P : List ℕ → Type 0 = λ t. IsEndpointText t endpoint in
        subst P (sym (first_and_rest text a b)) (bracketed_is (drop 1 text) (cut (93 ∷ 58 ∷ []) (drop 1 text)) endpoint refl (rw (a, b) at is))
    by false false a b = bare_is text (cut (58 ∷ []) text) endpoint refl (rw (a, b) at is)

first_append : (xs ys : List ℕ) → 0 < length xs → get_or (xs ++ ys) 0 0 ≡ get_or xs 0 0
first_append [] ys some = absurd (omega arith)
first_append (x ∷ xs) ys some = refl

some_append : (xs ys : List ℕ) → 0 < length xs → is_empty (xs ++ ys) ≡ false
some_append [] ys some = absurd (omega arith)
some_append (x ∷ xs) ys some = grind (arith, nat_tests)

bare_joined : (n port : ℕ) → n < 2 ^ 32 → port < 2 ^ 16 → endpoint_of (dotted_text n ++ 58 ∷ decimal port) ≡ Ok (record { addr = V4 n; port = port })
bare_joined n port fits small =
    let plain : (get_or (dotted_text n) 0 0 == 91) ≡ false = All-get_or (λ b. (b == 91) ≡ false) (dotted_text n) 0 0 (some_dotted n) (dotted_text_all (λ b. (b == 91) ≡ false) (λ b low high. grind (arith, nat_tests)) refl n) in
    rw (
      some_append (dotted_text n) (58 ∷ decimal port) (some_dotted n),
      first_append (dotted_text n) (58 ∷ decimal port) (some_dotted n),
      plain,
      cut-at_mark 58 (dotted_text n) (decimal port) (no_colon n),
      addr_of_text (dotted_text n) (V4 n) fits refl,
      decimal_of_written (decimal port) 65535 port (omega arith) refl,
    ) refl

no_bracket : (b : ℕ) → is_six_byte b ≡ true → (b == 93) ≡ false
no_bracket b is = grind (arith, nat_tests)

bracketed_joined : (text : List ℕ) (n port : ℕ) → IsAddr (V6 n) → IsText text (V6 n) → port < 2 ^ 16 → endpoint_of (91 ∷ text ++ 93 ∷ 58 ∷ decimal port) ≡ Ok (record { addr = V6 n; port = port })
bracketed_joined text n port fits is small =
    let none = list_any_none (λ b. b == 93) text (text_all (λ b. (b == 93) ≡ false) no_bracket text (V6 n) fits is) in
    rw (not_empty (91 ∷ text ++ 93 ∷ 58 ∷ decimal port) (omega arith), cut_pair-at_mark 93 58 text (decimal port) none, addr_of_text text (V6 n) fits is, decimal_of_written (decimal port) 65535 port (omega arith) refl) refl

endpoint_of_host : (host : List ℕ) (addr : Addr) (port : ℕ) → IsAddr addr → IsHost host addr → port < 2 ^ 16 → endpoint_of (host ++ 58 ∷ decimal port) ≡ Ok (record { addr = addr; port = port })
endpoint_of_host host (V4 n) port fits is small = ap (λ t. endpoint_of (t ++ 58 ∷ decimal port)) is ∙ bare_joined n port fits small
endpoint_of_host host (V6 n) port fits is small =
    ap (λ t. endpoint_of (t ++ 58 ∷ decimal port)) is.1
    ∙ ap (λ t. endpoint_of (91 ∷ t)) (append_assoc is.0 (93 ∷ []) (58 ∷ decimal port))
    ∙ bracketed_joined is.0 n port fits is.2 small

pub endpoint_of_text : (text : List ℕ) (endpoint : Endpoint) → IsEndpoint endpoint → IsEndpointText text endpoint → endpoint_of text ≡ Ok endpoint
endpoint_of_text text endpoint fits is = ap (λ t. endpoint_of t) is.1 ∙ endpoint_of_host is.0 endpoint.addr endpoint.port fits.0 is.2 fits.1

is_host_text : (addr : Addr) → IsAddr addr → IsHost (host_text addr) addr
is_host_text (V4 n) fits = refl
is_host_text (V6 n) fits = (text_of (V6 n), refl, is_text_of (V6 n) fits)

pub endpoint_of_written : (text : List ℕ) (endpoint : Endpoint) → IsEndpoint endpoint → text ≡ endpoint_text endpoint → endpoint_of text ≡ Ok endpoint
endpoint_of_written text endpoint fits is =
    endpoint_of_text text endpoint fits (host_text endpoint.addr, is ∙ append_assoc (host_text endpoint.addr) (58 ∷ []) (decimal endpoint.port), is_host_text endpoint.addr fits.0)

-- ---- networks

bits_is : (text : List ℕ) (addr : Addr) (net : Prefix) → with_bits text addr ≡ Ok net → (text ≡ decimal net.bits) × (addr ≡ net.addr)
bits_is text addr net is = by (decimal_of text (width_of addr)) refl
  where
    by : (o : Option ℕ) → decimal_of text (width_of addr) ≡ o → (text ≡ decimal net.bits) × (addr ≡ net.addr)
    by None read = let wrong = rw read at is in absurd cc
    by (Some bits) read =
        let same = net_is (record { addr = addr; bits = bits }) net (rw read at is) in
        let written = decimal-decimal_of text (width_of addr) bits read in
        (written.0 ∙ ap (λ n. decimal n.bits) same, ap (λ n. n.addr) same)

net_in_is : (text : List ℕ) (parts : Option (List ℕ × List ℕ)) (net : Prefix) → cut (47 ∷ []) text ≡ parts → net_in text parts ≡ Ok net → IsNetText text net
net_in_is text None net found is =
    let read = bind_is (addr_of text) one_address net is in
    let same = net_is (record { addr = read.0; bits = width_of read.0 }) net read.2 in
    inr (addr_text-addr_of text net.addr (read.1 ∙ ap (λ n. Ok n.addr) same), ap (λ n. n.bits) (sym same) ∙ ap (λ n. width_of n.addr) same)
net_in_is text (Some parts) net found is =
    let read = bind_is (addr_of parts.0) (with_bits parts.1) net is in
    let bits = bits_is parts.1 read.0 net read.2 in
    inl (parts.0, cut-joins 47 text parts.0 parts.1 found ∙ rw bits.0 refl, addr_text-addr_of parts.0 net.addr (read.1 ∙ ap (λ a. Ok a) bits.1))

pub net_text-net_of : (text : List ℕ) (net : Prefix) → net_of text ≡ Ok net → IsNetText text net
net_text-net_of text net is = net_in_is text (cut (47 ∷ []) text) net refl is

no_slash : (b : ℕ) → is_six_byte b ≡ true → (b == 47) ≡ false
no_slash b is = grind (arith, nat_tests)

none_in : (text : List ℕ) (addr : Addr) → IsAddr addr → IsText text addr → list_any (λ b. b == 47) text ≡ false
none_in text addr fits is = list_any_none (λ b. b == 47) text (text_all (λ b. (b == 47) ≡ false) no_slash text addr fits is)

net_of-joined : (front : List ℕ) (addr : Addr) (bits : ℕ) → IsAddr addr → IsText front addr → bits ≤ width_of addr → net_of (front ++ 47 ∷ decimal bits) ≡ Ok (record { addr = addr; bits = bits })
net_of-joined front addr bits fits is small =
    rw (cut-at_mark 47 front (decimal bits) (none_in front addr fits is), addr_of_text front addr fits is, decimal_of_written (decimal bits) (width_of addr) bits small refl) refl

net_of-address : (text : List ℕ) (addr : Addr) → IsAddr addr → IsText text addr → net_of text ≡ Ok (record { addr = addr; bits = width_of addr })
net_of-address text addr fits is = rw (cut-no_mark 47 text (none_in text addr fits is), addr_of_text text addr fits is) refl

pub net_of_text : (text : List ℕ) (net : Prefix) → IsNet net → IsNetText text net → net_of text ≡ Ok net
net_of_text text net fits (inl is) = ap (λ t. net_of t) is.1 ∙ net_of-joined is.0 net.addr net.bits fits.0 is.2 fits.1
net_of_text text net fits (inr is) = net_of-address text net.addr fits.0 is.0 ∙ ap (λ bits. Ok (record { addr = net.addr; bits = bits })) (sym is.1)
