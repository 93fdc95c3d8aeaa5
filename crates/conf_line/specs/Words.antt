-- The words of a line, read from the left: the first that is wrong decides.
use Rattle.std.specs.Prelude.{ℕ, ◌≡◌, ◌==◌, ◌∷◌, ◌++◌, List, [], Option, Some, None, Result, Ok, Err, if◌then◌else◌}
use Rattle.std.specs.Option.{option_or}
use Rattle.list_core.specs.Each.{◌>>=◌}
use Rattle.addr_core.specs.declared.addr.Addr.TheVariants.{V4}
use Rattle.addr_core.specs.declared.addr.Endpoint.{Endpoint}
use Rattle.addr_core.specs.declared.reading.AddrFault.{AddrFault}
use Rattle.text_core.specs.Names.{is_name}
use Rattle.text_core.specs.Decimal.{decimal_of, number_of}
use Rattle.addr_core.specs.Text.{endpoint_of}
use Rattle.conf_line.specs.declared.fault.ConfKind.{ConfKind}
use Rattle.conf_line.specs.declared.fault.ConfKind.TheVariants.{MissingWord, ExtraWord, BadNumber, BadAddress, Unsupported}

-- What a function returned, seen by view, is what reading gives.
abbrev pub Sees : {X Y F : Type 0} → (X → Y) → Result X F → Result Y F → Type 0
Sees view (Ok x) read = read ≡ Ok (view x)
Sees view (Err e) read = read ≡ Err e

-- a word, and the words after it
abbrev pub word_at : List (List ℕ) → Result (List ℕ × List (List ℕ)) ConfKind
word_at [] = Err MissingWord
word_at (word ∷ rest) = Ok (word, rest)

-- no word is left
abbrev pub end_at : List (List ℕ) → Result (Unit {0}) ConfKind
end_at [] = Ok tt
end_at (word ∷ rest) = Err ExtraWord

-- the name of a section or a server
abbrev pub name_at : List (List ℕ) → Result (List ℕ × List (List ℕ)) ConfKind
name_at words = do
  word ← word_at words
  if is_name word.0 then Ok word else Err Unsupported

-- Numbers.

abbrev pub number_in : Option ℕ → Result ℕ ConfKind
number_in None = Err BadNumber
number_in (Some n) = Ok n

-- a number of 64 bits, leading zeros or not
abbrev pub number_at : List ℕ → Result ℕ ConfKind
number_at word = number_in (number_of word 0xFFFF_FFFF_FFFF_FFFF)

-- Options.

-- the last of the values that items of a list have
abbrev pub last_of : {X Y : Type 0} → (X → Option Y) → List X → Option Y
last_of value [] = None
last_of value (x ∷ xs) = option_or (last_of value xs) (value x)

-- an item, and those after it
abbrev pub onto : {X F : Type 0} → X → Result (List X) F → Result (List X) F
onto x (Err fault) = Err fault
onto x (Ok more) = Ok (x ∷ more)

-- items that follow those that were read
abbrev pub after : {X F : Type 0} → List X → Result (List X) F → Result (List X) F
after done (Err fault) = Err fault
after done (Ok more) = Ok (done ++ more)

-- Endpoints.

-- an endpoint with a port from 1 on
abbrev pub address_at : Result Endpoint AddrFault → Result Endpoint ConfKind
address_at (Err fault) = Err BadAddress
address_at (Ok endpoint) = if endpoint.port == 0 then Err BadAddress else Ok endpoint

-- every address of IPv4, and a port
abbrev pub wildcard_at : Option ℕ → Result Endpoint ConfKind
wildcard_at None = Err BadAddress
wildcard_at (Some port) = if port == 0 then Err BadAddress else Ok (record { addr = V4 0; port = port })

-- after a star
abbrev pub star_at : List ℕ → Result Endpoint ConfKind
star_at [] = Err BadAddress
star_at (b ∷ port) = if b == 58 then wildcard_at (decimal_of port 65535) else Err BadAddress

-- where a `bind` line listens: `:port`, `*:port` or an endpoint
abbrev pub bind_at : List ℕ → Result Endpoint ConfKind
bind_at [] = Err BadAddress
bind_at (a ∷ rest) =
    if a == 58 then wildcard_at (decimal_of rest 65535)
    else if a == 42 then star_at rest
    else address_at (endpoint_of (a ∷ rest))
