-- The report of lines, after a report of earlier lines.
use Rattle.std.proofs.Common.{◌≡◌, ◌⊎◌, inl, inr, ℕ, Bool, List, [], ◌∷◌, ◌++◌, Option, Some, None, Result, Ok, Err, refl, ap, sym, ◌∙◌, append_assoc, append-nil}
use Rattle.std.specs.Prelude.{option_and_then}
use Rattle.list_core.specs.Each.{◌>>=◌}
use Rattle.conn_model.specs.declared.plain.Plain.{Plain}
use Rattle.conn_model.specs.History.{Entry}
use Rattle.replay_core.specs.declared.fault.PrintFault.{PrintFault}
use Rattle.replay_core.specs.declared.fault.PrintFault.TheVariants as prints
use Rattle.audit_core.specs.Standing.{Standing, on_line}
use Rattle.audit_core.proofs.SpentLemmas.{IsAgain}
use Rattle.audit_core.specs.declared.fault.CheckFault.{CheckFault}
use Rattle.whatif_core.specs.declared.turn.Turn.{Turn}
use Rattle.whatif_core.specs.Deciding.{played}
use Rattle.whatif_core.specs.Lines.{both_on, entry_at, report_by, report_on_lines, report_if_right, trial_with, turn_at, Both}
use Rattle.whatif_core.specs.Noting.{noted_with, report_from, Noted}
use Rattle.whatif_core.specs.Reporting.{peers_on, shown, report_of_turn, turn_line, turn_of, Report}
use Rattle.whatif_core.specs.Sums.{sums_with}

-- ---- lines that were reported before

-- the same report after these bytes
abbrev pub prefixed : List ℕ → Report → Report
prefixed sent t = record { trial = t.trial; peers = t.peers; text = sent ++ t.text; sums = t.sums }

turn_prefixed : (sent : List ℕ) (summary : Bool) (next : Plain) (t : Report) (turn : Option Turn) → report_of_turn summary next (prefixed sent t) turn ≡ prefixed sent (report_of_turn summary next t turn)
turn_prefixed sent summary next t None = refl
turn_prefixed sent summary next t (Some turn) =
    ap (λ xs. record { trial = next; peers = peers_on t.peers turn; text = xs; sums = sums_with t.sums turn }) (append_assoc sent t.text (shown summary (turn_line t.peers turn)))

entry_prefixed : (sent : List ℕ) (summary : Bool) (p : Plain) (t : Report) (e : Option Entry) → report_by summary p (prefixed sent t) e ≡ prefixed sent (report_by summary p t e)
entry_prefixed sent summary p t None = refl
entry_prefixed sent summary p t (Some e) = turn_prefixed sent summary (played p.versions t.trial e.moment e.event e.reply.said) t (turn_of p t.trial e)

pub lines_prefixed : (sent : List ℕ) (summary : Bool) (s : Standing) (t : Report) (lines : List (List ℕ)) → report_on_lines summary s (prefixed sent t) lines ≡ prefixed sent (report_on_lines summary s t lines)
lines_prefixed sent summary s t [] = refl
lines_prefixed sent summary s t (line ∷ lines) =
    by (on_line s line) (λ next. lines_prefixed sent summary next (report_by summary s.plain t (entry_at s line)) lines)
  where
    by : (step : Result Standing CheckFault)
        → ((next : Standing) → report_on_lines summary next (prefixed sent (report_by summary s.plain t (entry_at s line))) lines ≡ prefixed sent (report_on_lines summary next (report_by summary s.plain t (entry_at s line)) lines))
        → report_if_right step (prefixed sent t) (λ next. report_on_lines summary next (report_by summary s.plain (prefixed sent t) (entry_at s line)) lines)
        ≡ prefixed sent (report_if_right step t (λ next. report_on_lines summary next (report_by summary s.plain t (entry_at s line)) lines))
    by (Err fault) goes_on = refl
    by (Ok next) goes_on = ap (λ u. report_on_lines summary next u lines) (entry_prefixed sent summary s.plain t (entry_at s line)) ∙ goes_on next

-- the earlier report is the front of all
pub earlier_report : (summary : Bool) (s : Standing) (t : Report) (lines : List (List ℕ)) → (rest : List ℕ) × ((report_on_lines summary s t lines).text ≡ t.text ++ rest)
earlier_report summary s t lines =
    let bare : Report = record { trial = t.trial; peers = t.peers; text = []; sums = t.sums } in (
      (report_on_lines summary s bare lines).text,
      ap (λ xs. (report_on_lines summary s (record { trial = t.trial; peers = t.peers; text = xs; sums = t.sums }) lines).text) (sym (append-nil t.text))
          ∙ ap (λ u. u.text) (lines_prefixed t.text summary s bare lines),
    )

-- ---- one line

pub both_parts : (s u : Both) (line : List ℕ) → both_on s line ≡ Ok u → (on_line s.checked line ≡ Ok u.checked) × (u.trial ≡ trial_with s.checked.plain.versions s.trial (entry_at s.checked line))
both_parts s u line is = by (on_line s.checked line) is
  where
    by : (step : Result Standing CheckFault) → (step >>= λ next. Ok (record { checked = next; trial = trial_with s.checked.plain.versions s.trial (entry_at s.checked line) })) ≡ Ok u
        → (step ≡ Ok u.checked) × (u.trial ≡ trial_with s.checked.plain.versions s.trial (entry_at s.checked line))
    by (Err fault) step = absurd (cc)
    by (Ok next) step =
        let both : Both = record { checked = next; trial = trial_with s.checked.plain.versions s.trial (entry_at s.checked line) } in
        let same : both ≡ u = cc in (ap (λ b. Ok b.checked) same, sym (ap (λ b. b.trial) same))

pub both_wrong : (s : Both) (line : List ℕ) (fault : CheckFault) → both_on s line ≡ Err fault → on_line s.checked line ≡ Err fault
both_wrong s line fault is = by (on_line s.checked line) is
  where
    by : (step : Result Standing CheckFault) → ◌>>=◌ {B = Both} step (λ next. Ok (record { checked = next; trial = trial_with s.checked.plain.versions s.trial (entry_at s.checked line) })) ≡ Err fault → step ≡ Err fault
    by (Err other) step = let same : other ≡ fault = cc in ap (λ f. Err f) same
    by (Ok next) step = absurd (cc)

pub both_right : (s : Both) (line : List ℕ) (next : Standing) (trial : Plain) → on_line s.checked line ≡ Ok next → trial ≡ trial_with s.checked.plain.versions s.trial (entry_at s.checked line)
    → both_on s line ≡ Ok (record { checked = next; trial = trial })
both_right s line next trial step is =
    ap (λ r. r >>= λ u. Ok (record { checked = u; trial = trial_with s.checked.plain.versions s.trial (entry_at s.checked line) })) step ∙ ap (λ p. Ok (record { checked = next; trial = p })) (sym is)

pub both_fault : (s : Both) (line : List ℕ) (fault : CheckFault) → on_line s.checked line ≡ Err fault → both_on s line ≡ Err fault
both_fault s line fault step = ap (λ r. r >>= λ u. Ok (record { checked = u; trial = trial_with s.checked.plain.versions s.trial (entry_at s.checked line) })) step

-- ---- the journal after a line

summary_kept : (k : Noted) (turn : Option Turn) → (noted_with k turn).summary ≡ k.summary
summary_kept k None = refl
summary_kept k (Some turn) = refl

turn_noted : (now : List ℕ) (k : Noted) (t u : Both) (next : Plain) (turn : Option Turn) → u.trial ≡ next → report_from now (noted_with k turn) u ≡ report_of_turn k.summary next (report_from now k t) turn
turn_noted now k t u next None is = ap (λ p. record { trial = p; peers = k.peers; text = now ++ k.unsent; sums = k.sums }) is
turn_noted now k t u next (Some turn) is =
    ap (λ p. record { trial = p; peers = peers_on k.peers turn; text = now ++ (k.unsent ++ shown k.summary (turn_line k.peers turn)); sums = sums_with k.sums turn }) is
    ∙ ap (λ xs. record { trial = next; peers = peers_on k.peers turn; text = xs; sums = sums_with k.sums turn }) (sym (append_assoc now k.unsent (shown k.summary (turn_line k.peers turn))))

-- what both decide of an entry, if one begins
abbrev by_entry : Both → Option Entry → Option Turn
by_entry t e = option_and_then (turn_of t.checked.plain t.trial) e

entry_noted : (now : List ℕ) (k : Noted) (t u : Both) (e : Option Entry) → u.trial ≡ trial_with t.checked.plain.versions t.trial e
    → report_from now (noted_with k (by_entry t e)) u ≡ report_by k.summary t.checked.plain (report_from now k t) e
entry_noted now k t u None is = ap (λ p. record { trial = p; peers = k.peers; text = now ++ k.unsent; sums = k.sums }) is
entry_noted now k t u (Some e) is = turn_noted now k t u (played t.checked.plain.versions t.trial e.moment e.event e.reply.said) (turn_of t.checked.plain t.trial e) is

-- a right line, with what both decide in the journal
pub line_report : (now : List ℕ) (k : Noted) (t u : Both) (line : List ℕ) (more : List (List ℕ)) → both_on t line ≡ Ok u
    → report_on_lines (noted_with k (turn_at t line)).summary u.checked (report_from now (noted_with k (turn_at t line)) u) more ≡ report_on_lines k.summary t.checked (report_from now k t) (line ∷ more)
line_report now k t u line more is =
    let step = both_parts t u line is in
    ap (λ b. report_on_lines b u.checked (report_from now (noted_with k (turn_at t line)) u) more) (summary_kept k (turn_at t line))
    ∙ ap (λ v. report_on_lines k.summary u.checked v more) (entry_noted now k t u (entry_at t.checked line) step.1)
    ∙ ap (λ r. report_if_right r (report_from now k t) (λ next. report_on_lines k.summary next (report_by k.summary t.checked.plain (report_from now k t) (entry_at t.checked line)) more)) (sym step.0)

-- want of memory, or a fault of the record
pub again_checked : (f : PrintFault) (t : Both) (line : List ℕ) → (f ≡ prints.NoMemory) ⊎ ((f ≡ prints.Read) × (fault : CheckFault) × (both_on t line ≡ Err fault)) → IsAgain f (on_line t.checked line)
again_checked f t line (inl none) = inl none
again_checked f t line (inr wrong) = inr (wrong.0, wrong.1, both_wrong t line wrong.1 wrong.2)
