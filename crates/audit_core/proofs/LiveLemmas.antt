-- How many connections are open, by the counts of the frontends.
use Rattle.std.proofs.Common.{◌≡◌, ℕ, zero, suc, ◌+◌, List, [], ◌∷◌, length, drop, Some, None, refl, ap, arith}
use Rattle.std.specs.Prelude.{option_map, slice_get}
use Rattle.conn_model.specs.declared.ask.Counts.{Counts}
use Rattle.conn_model.specs.declared.plain.FrontendRows.{FrontendRows}
use Rattle.conn_model.specs.Counts.{count_of, total}

abbrev pub rows_from : List FrontendRows → ℕ → ℕ
rows_from owns n = total (λ own. length own.rows) (drop n owns)

open_after : (owns : List FrontendRows) (n : ℕ) (counts : Counts) → option_map (λ own. count_of (length own.rows)) (slice_get owns n) ≡ Some counts
    → rows_from owns n ≡ counts.cur + rows_from owns (suc n)
open_after [] n counts is = absurd (cc)
open_after (own ∷ owns) zero counts is = let same : count_of (length own.rows) ≡ counts = cc in ap (λ c. c.cur + total (λ own. length own.rows) owns) same
open_after (own ∷ owns) (suc n) counts is = open_after owns n counts is

-- the frontend of a number, and those after it
pub open_from : (owns : List FrontendRows) (n : ℕ) (counts : Counts) → option_map (λ own. count_of (length own.rows)) (slice_get owns n) ≡ Some counts
    → rows_from owns n ≡ counts.cur + rows_from owns (n + 1)
open_from owns n counts is = let next : n + 1 ≡ suc n = omega arith in rw next (open_after owns n counts is)

-- no frontend has the number
pub none_from : (owns : List FrontendRows) (n : ℕ) → option_map (λ own. count_of (length own.rows)) (slice_get owns n) ≡ None → rows_from owns n ≡ 0
none_from [] zero is = refl
none_from [] (suc n) is = refl
none_from (own ∷ owns) zero is = absurd (cc)
none_from (own ∷ owns) (suc n) is = none_from owns n is
