-- By source.
use Rattle.std.specs.Prelude.{ℕ, List, length, take, find, Option, Some, None, option_and_then, ◌+◌, ◌%◌, ◌/◌, ◌^◌, bit_xor, ◌==◌, nat_lt, if◌then◌else◌}
use Rattle.std.specs.List.{range_with_len}
use Rattle.addr_core.specs.declared.addr.Addr.{Addr}
use Rattle.addr_core.specs.declared.addr.Addr.TheVariants.{V4, V6}
use Rattle.balance_core.specs.declared.load.ServerLoad.{ServerLoad}
use Rattle.balance_core.specs.Loads.{has_room_at, total_weight}

-- the 32-bit words of an address, joined by exclusive or
abbrev pub mixed : Addr → ℕ
mixed (V4 n) = n
mixed (V6 n) = bit_xor (bit_xor (bit_xor (n / 2 ^ 96 % 2 ^ 32) (n / 2 ^ 64 % 2 ^ 32)) (n / 2 ^ 32 % 2 ^ 32)) (n % 2 ^ 32)

-- the server into whose part a number falls, where the weights are laid one after another
abbrev pub share_of : List ServerLoad → ℕ → Option ℕ
share_of servers n = find (λ k. nat_lt n (total_weight (take (k + 1) servers))) (range_with_len 0 (length servers))

-- the server of the source, if some server is usable and that one has room
abbrev pub of_source : List ServerLoad → Addr → Option ℕ
of_source servers source =
    if total_weight servers == 0
    then None
    else option_and_then (λ n. if has_room_at servers n then Some n else None) (share_of servers (mixed source % total_weight servers))
