-- The frontends and backends of a configuration, each with its lines.
use Rattle.std.specs.Prelude.{ℕ, Bool, true, false, List, [], ◌∷◌, ◌++◌, filter, option_map, option_to_list, Option, Some, None}
use Rattle.conf_tree.specs.declared.tree.ConfigLine.{ConfigLine}
use Rattle.conf_tree.specs.Sections.{own_lines}
use Rattle.conf_line.specs.declared.statement.Statement.{Statement}
use Rattle.conf_line.specs.declared.statement.Statement.TheVariants as statements
use Rattle.plan_types.specs.declared.plan.Section.{Section}
use Rattle.plan_types.specs.declared.plan.Section.TheVariants as sections
pub use Rattle.plan_types.specs.Tables.{is_frontend_section}
use Rattle.plan_core.specs.declared.proxies.SectionHead.{SectionHead}
use Rattle.plan_core.specs.declared.proxies.Proxy.{Proxy}

-- the frontend or backend that a line opens
abbrev pub line_head : ℕ → Statement → Option SectionHead
line_head line (statements.Frontend name) = Some (record { section = sections.Frontend; name = name; line = line })
line_head line (statements.Backend name) = Some (record { section = sections.Backend; name = name; line = line })
line_head line other = None

-- the lines of the `defaults` in force after a line: a `defaults` line starts from nothing
abbrev pub base_after : List ConfigLine → List ConfigLine → Statement → List ConfigLine
base_after base own statements.Defaults = own
base_after base own other = base

abbrev pub proxy_with : List ConfigLine → List ConfigLine → SectionHead → Proxy
proxy_with base own head = record { head = head; own = own; base = base }

-- the frontend or backend that an item opens, with its own lines
abbrev pub line_proxy : List ConfigLine → List ConfigLine → ConfigLine → Option Proxy
line_proxy base own item = option_map (proxy_with base own) (line_head item.line item.statement)

-- the frontends and backends that those lines open, in their order, where the lines of the `defaults`
-- before them are given
abbrev pub proxies : List ConfigLine → List ConfigLine → List Proxy
proxies base [] = []
proxies base (item ∷ rest) =
    option_to_list (line_proxy base (own_lines rest) item) ++ proxies (base_after base (own_lines rest) item.statement) rest

abbrev pub is_backend_section : Section → Bool
is_backend_section sections.Frontend = false
is_backend_section sections.Backend = true

abbrev pub is_frontend : Proxy → Bool
is_frontend proxy = is_frontend_section proxy.head.section

abbrev pub is_backend : Proxy → Bool
is_backend proxy = is_backend_section proxy.head.section

-- the frontends and the backends, each in the order of the text
abbrev pub frontends : List Proxy → List Proxy
frontends all = filter is_frontend all

abbrev pub backends : List Proxy → List Proxy
backends all = filter is_backend all
