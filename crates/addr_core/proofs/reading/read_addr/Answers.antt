use Rattle.std.proofs.Common.{◌∙◌, sym}
use Rattle.addr_core.proofs.AddrLemmas.{addr_of_text, addr_text-addr_of}
use Rattle.addr_core.proofs.reading.read_addr.Goals as goal

pub returns-clause-own_texts : goal.returns-clause-own_texts
returns-clause-own_texts c = λ addr fits. (
  λ is. addr_text-addr_of c.args.text.now addr (sym c.addr_in.ensures ∙ is),
  λ is. c.addr_in.ensures ∙ addr_of_text c.args.text.now addr fits is,
)
