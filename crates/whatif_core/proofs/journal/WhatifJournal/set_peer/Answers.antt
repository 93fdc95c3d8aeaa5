use Rattle.std.proofs.Common.{None, Some, ap, sym, ◌∙◌}
use Rattle.whatif_core.specs.Noting.{noted_in}
use Rattle.whatif_core.specs.Reporting.{with_peer}
use Rattle.whatif_core.proofs.PeerLemmas.{updated}
use Rattle.whatif_core.proofs.journal.WhatifJournal.set_peer.Goals as goal

pub returns-in-Ok : goal.returns-in-Ok
returns-in-Ok c =
    ap (λ peers. record { summary = c.args.self.now.summary; peers = peers; unsent = c.args.self.now.unsent.items; sums = c.args.self.now.tally })
    (updated c.args.self.now.peers c.insert.new.self c.args.id.now (Some c.in-Some.peer) (rw c.of.ensures at c.in-Ok.ensures.updates)
    ∙ ap (λ p. with_peer c.args.id.now p (noted_in c.args.self.now).peers) (sym c.in-Some.is))

pub returns-in-None : goal.returns-in-None
returns-in-None c =
    ap (λ peers. record { summary = c.args.self.now.summary; peers = peers; unsent = c.args.self.now.unsent.items; sums = c.args.self.now.tally })
    (updated c.args.self.now.peers c.remove-before.new.self c.args.id.now None (rw c.of-in-None.ensures at c.remove-before.ensures.updates)
    ∙ ap (λ p. with_peer c.args.id.now p (noted_in c.args.self.now).peers) (sym c.in-None.is))
