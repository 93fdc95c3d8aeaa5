use Rattle.std.proofs.Common.{◌≡◌, ◌++◌, ◌∙◌, List, ℕ, Some, ap, append_assoc, sym}
use Rattle.std.proofs.lemmas.Result.{on_ok_weaker}
use Rattle.whatif_core.specs.Deciding.{difference, is_lost}
use Rattle.whatif_core.specs.Noting.{noted_in, Noted}
use Rattle.whatif_core.specs.Reporting.{line_by, parting_by, parting_text, shown}
use Rattle.whatif_core.proofs.journal.WhatifJournal.note_line.Goals as goal

-- two texts were added, one after the other
both_added : (k mid : Noted) (a b unsent : List ℕ) → mid ≡ record k { unsent = k.unsent ++ a } → unsent ≡ mid.unsent ++ b → record mid { unsent = unsent } ≡ record k { unsent = k.unsent ++ (a ++ b) }
both_added k mid a b unsent first second =
    ap (λ (m : Noted). record m { unsent = unsent }) first ∙ ap (λ xs. record k { unsent = xs }) (second ∙ ap (λ (m : Noted). m.unsent ++ b) first ∙ append_assoc k.unsent a b)

pub returns : goal.returns
returns c =
    let k = noted_in c.args.self.now in
    let mid = noted_in c.note_difference.new.self in
    let turn = c.args.turn.now in
    let id = c.in-Some.id in
    let pair = difference turn.was turn.would in
    let added = line_by k.peers turn (Some id) pair in
    let parting = parting_by turn (Some id) in
    on_ok_weaker c.write_parting.result
    (λ is.
    both_added k mid added parting c.write_parting.new.out.items c.in_ok-note_difference.ensures
    (is
    ∙ ap (λ lost. mid.unsent ++ parting_text turn.moment id lost c.is_saved.result) c.is_lost.ensures
    ∙ ap (λ saved. mid.unsent ++ parting_text turn.moment id (is_lost turn.came turn.would_come) saved) c.is_saved.ensures)
    ∙ ap (λ i. record k { unsent = k.unsent ++ (line_by k.peers turn i pair ++ parting_by turn i) }) (sym c.in-Some.is)
    ∙ ap (λ summary. record k { unsent = k.unsent ++ shown summary (line_by k.peers turn turn.id pair ++ parting_by turn turn.id) }) (sym c.if-self.false))
    c.write_parting.ensures
