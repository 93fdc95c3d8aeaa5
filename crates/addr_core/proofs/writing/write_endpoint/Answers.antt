use Rattle.addr_core.proofs.AddrLemmas.{endpoint_of_written}
use Rattle.addr_core.proofs.writing.write_endpoint.Goals as goal

pub returns-clause-read_again : goal.returns-clause-read_again
returns-clause-read_again c = endpoint_of_written c.endpoint_text.result.bytes c.args.endpoint.now c.endpoint_text.ensures.in_range c.endpoint_text.ensures.text
