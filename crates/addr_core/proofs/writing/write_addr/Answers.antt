use Rattle.addr_core.proofs.AddrLemmas.{addr_of_written}
use Rattle.addr_core.proofs.writing.write_addr.Goals as goal

pub returns-clause-read_again : goal.returns-clause-read_again
returns-clause-read_again c = addr_of_written c.addr_text.result.bytes c.args.addr.now c.addr_text.ensures.in_range c.addr_text.ensures.text
