-- The lines of a section.
use Rattle.std.specs.Prelude.{Bool, true, false, List}
use Rattle.std.specs.List.{before_first}
use Rattle.conf_line.specs.declared.statement.Statement.{Statement}
use Rattle.conf_line.specs.declared.statement.Statement.TheVariants as statements
use Rattle.conf_tree.specs.declared.tree.ConfigLine.{ConfigLine}

-- the line opens a section
abbrev pub opens : Statement → Bool
opens statements.Global = true
opens statements.Defaults = true
opens (statements.Frontend name) = true
opens (statements.Backend name) = true
opens statements.Nothing = false
opens (statements.MaxConn limit) = false
opens (statements.Timeout kind ms) = false
opens (statements.Retries count) = false
opens (statements.Redispatch every) = false
opens (statements.DefaultBackend name) = false
opens (statements.Balance method) = false
opens (statements.Acl name test) = false
opens (statements.UseBackend name when) = false
opens (statements.Bind at proxy) = false
opens (statements.Rule list action when) = false
opens (statements.StickTable table) = false
opens (statements.Server server) = false

-- the lines up to the next section
abbrev pub own_lines : List ConfigLine → List ConfigLine
own_lines items = before_first (λ item. opens item.statement) items
