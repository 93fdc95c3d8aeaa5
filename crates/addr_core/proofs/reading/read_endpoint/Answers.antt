use Rattle.std.proofs.Common.{◌∙◌, sym}
use Rattle.addr_core.proofs.AddrLemmas.{endpoint_of_text, endpoint_text-endpoint_of}
use Rattle.addr_core.proofs.reading.read_endpoint.Goals as goal

pub returns-clause-own_texts : goal.returns-clause-own_texts
returns-clause-own_texts c = λ endpoint fits. (
  λ is. endpoint_text-endpoint_of c.args.text.now endpoint (sym c.endpoint_in.ensures ∙ is),
  λ is. c.endpoint_in.ensures ∙ endpoint_of_text c.args.text.now endpoint fits is,
)
