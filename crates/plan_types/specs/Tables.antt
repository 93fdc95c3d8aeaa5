-- Which table a rule or a criterion means.
use Rattle.std.specs.Prelude.{ℕ, Bool, true, false, List, Option, Some, None, position, ◌&&◌}
use Rattle.std.specs.Str.{bytes_eq}
use Rattle.plan_types.specs.declared.plan.Section.{Section}
use Rattle.plan_types.specs.declared.plan.Section.TheVariants as sections
use Rattle.plan_types.specs.declared.plan.Table.{Table}

abbrev pub is_frontend_section : Section → Bool
is_frontend_section sections.Frontend = true
is_frontend_section sections.Backend = false

-- it is the table of the frontend of that name
abbrev pub is_table_of : List ℕ → Table → Bool
is_table_of name table = is_frontend_section table.section && bytes_eq table.name name

-- the number of the table that a rule or a criterion means in the frontend of that name: the frontend's own where none is
-- named, and else that of the section that is named
abbrev pub table_number : List Table → List ℕ → Option (List ℕ) → Option ℕ
table_number tables name None = position (is_table_of name) tables
table_number tables name (Some other) = position (λ table. bytes_eq table.name other) tables
