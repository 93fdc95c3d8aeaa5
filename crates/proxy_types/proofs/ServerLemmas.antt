-- Servers that pass for one are one.
use Rattle.std.proofs.Common.{◌≡◌, ℕ, Bool, true, false, List, refl, ap, ◌∙◌, arith}
use Rattle.std.specs.Prelude.{◌==◌, ◌&&◌}
use Rattle.std.specs.Str.{bytes_eq}
use Rattle.std.proofs.lemmas.Bool.{false≢true}
use Rattle.std.proofs.lemmas.Bool.Decides.{nat_tests}
use Rattle.std.proofs.lemmas.Slice.Eq.{bytes_eq-Decides}
use Rattle.addr_core.specs.declared.addr.Addr.{Addr}
use Rattle.addr_core.specs.declared.addr.Endpoint.{Endpoint}
use Rattle.addr_core.specs.Same.{same_addr, same_endpoint}
use Rattle.addr_core.proofs.SameLemmas.{same_addr-is, same_addr-refl}
use Rattle.proxy_types.specs.declared.server.ServerIdentity.{ServerIdentity}
use Rattle.proxy_types.specs.ServerIdentity.{same_server}

same_text : (xs : List ℕ) → bytes_eq xs xs ≡ true
same_text xs = (bytes_eq-Decides xs xs).1 refl

same_port : (n : ℕ) → (n == n) ≡ true
same_port n = grind (arith, nat_tests)

pub same_server-refl : (a : ServerIdentity) → same_server a a ≡ true
same_server-refl a = rw (same_text a.backend, same_text a.name, same_addr-refl a.to.addr, same_port a.to.port) refl

and_true : (a b : Bool) → (a && b) ≡ true → (a ≡ true) × (b ≡ true)
and_true true b is = (refl, is)
and_true false b is = absurd (false≢true is)

port_is : (m n : ℕ) → (m == n) ≡ true → m ≡ n
port_is m n e = grind (arith, nat_tests)

pub server_is : (a b : ServerIdentity) → same_server a b ≡ true → a ≡ b
server_is a b is =
    let parts = and_true (bytes_eq a.backend b.backend && bytes_eq a.name b.name) (same_endpoint a.to b.to) is in
    let names = and_true (bytes_eq a.backend b.backend) (bytes_eq a.name b.name) parts.0 in
    let at = and_true (same_addr a.to.addr b.to.addr) (a.to.port == b.to.port) parts.1 in
    let backend : a.backend ≡ b.backend = (bytes_eq-Decides a.backend b.backend).0 names.0 in
    let name : a.name ≡ b.name = (bytes_eq-Decides a.name b.name).0 names.1 in
    let addr : a.to.addr ≡ b.to.addr = same_addr-is a.to.addr b.to.addr at.0 in
    let port : a.to.port ≡ b.to.port = port_is a.to.port b.to.port at.1 in
    let to : a.to ≡ b.to = ap (λ x. endpoint x a.to.port) addr ∙ ap (λ n. endpoint b.to.addr n) port in
    ap (λ x. server x a.name a.to) backend ∙ ap (λ x. server b.backend x a.to) name ∙ ap (λ x. server b.backend b.name x) to
  where
    endpoint : Addr → ℕ → Endpoint
    endpoint addr port = record { addr = addr; port = port }

    server : List ℕ → List ℕ → Endpoint → ServerIdentity
    server backend name to = record { backend = backend; name = name; to = to }
