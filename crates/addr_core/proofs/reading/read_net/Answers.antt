use Rattle.std.proofs.Common.{◌∙◌, sym}
use Rattle.addr_core.proofs.AddrLemmas.{net_of_text, net_text-net_of}
use Rattle.addr_core.proofs.reading.read_net.Goals as goal

pub returns-clause-own_texts : goal.returns-clause-own_texts
returns-clause-own_texts c = λ net fits. (
  λ is. net_text-net_of c.args.text.now net (sym c.net_in.ensures ∙ is),
  λ is. c.net_in.ensures ∙ net_of_text c.args.text.now net fits is,
)
