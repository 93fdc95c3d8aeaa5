-- The keywords, and their sections (HAProxy manual, "proxy keywords matrix").
use Rattle.std.specs.Prelude.{ℕ, Bool, true, false, List, Result, Ok, Err, codes, if◌then◌else◌}
use Rattle.std.specs.Str.{bytes_eq}
use Rattle.conf_line.specs.declared.fault.ConfKind.{ConfKind}
use Rattle.conf_line.specs.declared.fault.ConfKind.TheVariants.{NoSection, UnknownKeyword, Unsupported}
use Rattle.conf_line.specs.declared.statement.SectionKind.{SectionKind}
use Rattle.conf_line.specs.declared.statement.SectionKind.TheVariants as sections
use Rattle.conf_line.specs.declared.keyword.Keyword.{Keyword}
use Rattle.conf_line.specs.declared.keyword.Keyword.TheVariants as k

abbrev pub keyword_of : List ℕ → Keyword
keyword_of word =
    if bytes_eq word (codes "global") then k.Global
    else if bytes_eq word (codes "defaults") then k.Defaults
    else if bytes_eq word (codes "frontend") then k.Frontend
    else if bytes_eq word (codes "backend") then k.Backend
    else if bytes_eq word (codes "listen") then k.Listen
    else if bytes_eq word (codes "mode") then k.Mode
    else if bytes_eq word (codes "maxconn") then k.MaxConn
    else if bytes_eq word (codes "default_backend") then k.DefaultBackend
    else if bytes_eq word (codes "balance") then k.Balance
    else if bytes_eq word (codes "bind") then k.Bind
    else if bytes_eq word (codes "acl") then k.Acl
    else if bytes_eq word (codes "tcp-request") then k.TcpRequest
    else if bytes_eq word (codes "use_backend") then k.UseBackend
    else if bytes_eq word (codes "stick-table") then k.StickTable
    else if bytes_eq word (codes "server") then k.Server
    else if bytes_eq word (codes "log") then k.Log
    else if bytes_eq word (codes "option") then k.Option
    else if bytes_eq word (codes "timeout") then k.Timeout
    else if bytes_eq word (codes "retries") then k.Retries
    else if bytes_eq word (codes "daemon") then k.Daemon
    else if bytes_eq word (codes "user") then k.User
    else if bytes_eq word (codes "group") then k.Group
    else if bytes_eq word (codes "chroot") then k.Chroot
    else if bytes_eq word (codes "pidfile") then k.Pidfile
    else if bytes_eq word (codes "nbthread") then k.Nbthread
    else k.Unknown

-- the keywords of global
abbrev pub in_global : Keyword → Bool
in_global k.Log = true
in_global k.Daemon = true
in_global k.User = true
in_global k.Group = true
in_global k.Chroot = true
in_global k.Pidfile = true
in_global k.Nbthread = true
in_global other = false

-- the keywords of defaults
abbrev pub in_defaults : Keyword → Bool
in_defaults k.Mode = true
in_defaults k.MaxConn = true
in_defaults k.DefaultBackend = true
in_defaults k.Balance = true
in_defaults k.Log = true
in_defaults k.Option = true
in_defaults k.Timeout = true
in_defaults k.Retries = true
in_defaults other = false

-- the keywords of a frontend
abbrev pub in_frontend : Keyword → Bool
in_frontend k.Mode = true
in_frontend k.MaxConn = true
in_frontend k.DefaultBackend = true
in_frontend k.Bind = true
in_frontend k.Acl = true
in_frontend k.TcpRequest = true
in_frontend k.UseBackend = true
in_frontend k.StickTable = true
in_frontend k.Log = true
in_frontend k.Option = true
in_frontend k.Timeout = true
in_frontend k.Retries = true
in_frontend other = false

-- the keywords of a backend
abbrev pub in_backend : Keyword → Bool
in_backend k.Mode = true
in_backend k.Balance = true
in_backend k.StickTable = true
in_backend k.Server = true
in_backend k.Log = true
in_backend k.Option = true
in_backend k.Timeout = true
in_backend k.Retries = true
in_backend other = false

abbrev pub check_support : Bool → Result (Unit {0}) ConfKind
check_support true = Ok tt
check_support false = Err Unsupported

abbrev pub check_keyword_in : SectionKind → Keyword → Result (Unit {0}) ConfKind
check_keyword_in sections.Outside keyword = Err NoSection
check_keyword_in sections.Global keyword = check_support (in_global keyword)
check_keyword_in sections.Defaults keyword = check_support (in_defaults keyword)
check_keyword_in sections.Frontend keyword = check_support (in_frontend keyword)
check_keyword_in sections.Backend keyword = check_support (in_backend keyword)

-- whether the keyword is one of such a section; those that open a section are taken everywhere
abbrev pub check_keyword : SectionKind → Keyword → Result (Unit {0}) ConfKind
check_keyword kind k.Unknown = Err UnknownKeyword
check_keyword kind k.Listen = Err Unsupported
check_keyword kind k.Global = Ok tt
check_keyword kind k.Defaults = Ok tt
check_keyword kind k.Frontend = Ok tt
check_keyword kind k.Backend = Ok tt
check_keyword kind other = check_keyword_in kind other
