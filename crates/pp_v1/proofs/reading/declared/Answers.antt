use Rattle.std.proofs.Common.{◌∙◌, sym}
use Rattle.addr_core.specs.Text.{addr_of}
use Rattle.pp_v1.proofs.LineLemmas.{is_pair, one_family}
use Rattle.pp_v1.proofs.reading.declared.Goals as goal

pub returns-in-None : goal.returns-in-None
returns-in-None c =
    let same = one_family c.args.protocol (addr_of c.args.a.now) (addr_of c.args.b.now) c.in_ok-from.from c.in_ok-to.to (sym c.address.ensures ∙ c.in_ok-from.was) (sym c.address-2.ensures ∙ c.in_ok-to.was) in
    absurd (is_pair (record { addr = c.in_ok-from.from; port = c.in_ok-first.first }) (record { addr = c.in_ok-to.to; port = c.in_ok-second.second }) same (sym c.of.ensures ∙ c.in-None.is))
