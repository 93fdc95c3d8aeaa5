-- Configurations of two tenants, two that keep them apart and three that join them, and short runs.
use Rattle.std.specs.Prelude.{ℕ, Bool, false, List, [], length, map, codes, Result, Ok, Err, ◌==◌, ◌&&◌, ◌||◌, ◌∷◌, ◌++◌}
use Rattle.std.specs.Option.{option_map_or}
use Rattle.std.specs.Str.{bytes_eq}
use Rattle.addr_core.specs.declared.addr.Addr.TheVariants.{V4}
use Rattle.config_core.specs.Meaning.{meaning}
use Rattle.plan_types.specs.Tables.{is_frontend_section}
use Rattle.conn_model.specs.History.{opening, plan_in}
use Rattle.conn_model.specs.declared.event.OwnedEvent.{OwnedEvent}
use Rattle.conn_model.specs.declared.event.OwnedEvent.TheVariants.{Accept, Mark}
use Rattle.conn_model.specs.declared.event.Health.TheVariants.{Down}
use Rattle.conn_model.specs.declared.reply.Reply.{Reply}
use Rattle.conn_model.specs.declared.reply.Said.{Said}
use Rattle.conn_model.specs.declared.reply.Said.TheVariants.{Offer}
use Rattle.conn_model.specs.declared.reply.StepFault.{StepFault}
use Rattle.tenant_laws.specs.Parts.{keeps_apart, Part}
use Rattle.tenant_laws.specs.Runs.{alone, part_answers, Steps}

-- lines of a text, each ended by a line feed
abbrev lines : List (List ℕ) → List ℕ
lines [] = []
lines (line ∷ rest) = line ++ 10 ∷ lines rest

abbrev defaults : List (List ℕ)
defaults = codes "defaults" ∷ codes "    mode tcp" ∷ codes "    maxconn 100" ∷ codes "    timeout connect 5s" ∷ []

abbrev acorn_head : List (List ℕ)
acorn_head =
    codes "frontend acorn" ∷ codes "    bind 192.0.2.11:443" ∷ codes "    stick-table type ipv6 size 1k store conn_cur,conn_cnt" ∷ codes "    acl busy sc0_conn_cur gt 20"
    ∷ codes "    tcp-request connection track-sc0 src" ∷ codes "    tcp-request connection reject if busy" ∷ codes "    tcp-request connection reject if { fe_conn gt 90 }" ∷ []

abbrev acorn_choice : List (List ℕ)
acorn_choice = codes "    use_backend acorn_spare if { be_conn(acorn) gt 60 }" ∷ []

abbrev acorn_default : List (List ℕ)
acorn_default = codes "    default_backend acorn" ∷ []

abbrev acorn_backends : List (List ℕ)
acorn_backends =
    codes "backend acorn" ∷ codes "    balance leastconn" ∷ codes "    server web1 10.11.0.1:8443 maxconn 40" ∷ codes "    server web2 10.11.0.2:8443 maxconn 40"
    ∷ codes "backend acorn_spare" ∷ codes "    server web1 10.11.0.9:8443" ∷ []

abbrev birch_head : List (List ℕ)
birch_head =
    codes "frontend birch" ∷ codes "    bind 192.0.2.12:443" ∷ codes "    stick-table type ipv6 size 4k store conn_cur" ∷ codes "    acl busy sc0_conn_cur gt 50"
    ∷ codes "    tcp-request session track-sc0 src" ∷ codes "    tcp-request session reject if busy" ∷ []

abbrev birch_default : List (List ℕ)
birch_default = codes "    default_backend birch" ∷ []

abbrev birch_backends : List (List ℕ)
birch_backends = codes "backend birch" ∷ codes "    balance source" ∷ codes "    server web1 10.11.0.9:8443" ∷ codes "    server web2 10.12.0.2:8443" ∷ []

abbrev pub two_tenants : List ℕ
two_tenants = lines (defaults ++ acorn_head ++ acorn_choice ++ acorn_default ++ acorn_backends ++ birch_head ++ birch_default ++ birch_backends)

-- both count in one table
abbrev pub joined_by_table : List ℕ
joined_by_table =
    lines (defaults ++ (codes "backend all_sources" ∷ codes "    stick-table type ipv6 size 100k store conn_cur,conn_cnt" ∷ []) ++ acorn_head
    ++ (codes "    tcp-request connection track-sc1 src table all_sources" ∷ codes "    tcp-request connection reject if { src_conn_cur(all_sources) gt 2 }" ∷ []) ++ acorn_choice ++ acorn_default ++ acorn_backends
    ++ birch_head ++ (codes "    tcp-request session track-sc1 src table all_sources" ∷ []) ++ birch_default ++ birch_backends)

-- both take the default backend of the section above them
abbrev pub joined_by_backend : List ℕ
joined_by_backend =
    lines (defaults ++ (codes "    default_backend sorry" ∷ codes "backend sorry" ∷ codes "    server page1 10.10.0.80:8080" ∷ codes "    server page2 10.10.0.81:8080" ∷ []) ++ acorn_head ++ acorn_choice
    ++ acorn_backends ++ birch_head ++ birch_backends)

-- one looks at the count of the other
abbrev pub joined_by_count : List ℕ
joined_by_count =
    lines (defaults ++ acorn_head ++ (codes "    tcp-request connection reject if { fe_conn(birch) gt 1 }" ∷ []) ++ acorn_choice ++ acorn_default ++ acorn_backends ++ birch_head ++ birch_default
    ++ birch_backends)

-- both have their servers checked
abbrev pub two_checked : List ℕ
two_checked =
    lines (defaults ++ acorn_head ++ acorn_default ++ (codes "backend acorn" ∷ codes "    server web1 10.11.0.1:8443 check" ∷ codes "    server web2 10.11.0.2:8443 check" ∷ []) ++ birch_head ++ birch_default
    ++ (codes "backend birch" ∷ codes "    server web1 10.11.0.9:8443 check" ∷ codes "    server web2 10.12.0.2:8443 check" ∷ []))

-- Acorn's, with or without the table of the section `all_sources`, and birch's.

abbrev pub acorn : Bool → Part
acorn with_sources = record {
  frontends = λ n. n == 0;
  frontend_names = λ name. bytes_eq name (codes "acorn");
  backend_names = λ name. bytes_eq name (codes "acorn") || bytes_eq name (codes "acorn_spare");
  table_names = λ section name. (is_frontend_section section && bytes_eq name (codes "acorn")) || (with_sources && bytes_eq name (codes "all_sources"));
}

abbrev pub birch : Part
birch = record {
  frontends = λ n. n == 1;
  frontend_names = λ name. bytes_eq name (codes "birch");
  backend_names = λ name. bytes_eq name (codes "birch");
  table_names = λ section name. is_frontend_section section && bytes_eq name (codes "birch");
}

-- the text means a plan, and that keeps the part apart
abbrev pub text_keeps_apart : Part → List ℕ → Bool
text_keeps_apart part text = option_map_or (keeps_apart part) (plan_in (meaning text)) false

-- Runs.

-- a connection from 198.51.100.1 to the listener of that number
abbrev pub arrives : ℕ → ℕ × OwnedEvent
arrives listener = (0, Accept listener (record { source = record { addr = V4 0xC633_6401; port = 1024 }; destination = record { addr = V4 0xC000_020B; port = 443 } }))

-- a short form of an answer: the number of the server that is offered, or 100 where none is
abbrev pub server_said : Said → ℕ
server_said (Offer id used line server to judged send) = server
server_said said = 100

abbrev pub server_in : Result Reply StepFault → ℕ
server_in (Ok reply) = server_said reply.said
server_in (Err fault) = 100

-- the servers that a part is offered in a run, and alone

abbrev pub offered_to : Part → List ℕ → Steps → List ℕ
offered_to part text steps = option_map_or (λ plan. map server_in (part_answers part (opening plan 0) steps)) (plan_in (meaning text)) []

abbrev pub offered_alone : Part → List ℕ → Steps → List ℕ
offered_alone part text steps = option_map_or (λ plan. map server_in (part_answers part (opening plan 0) (alone part (opening plan 0) steps))) (plan_in (meaning text)) []

-- birch is first, twice, and then acorn
abbrev pub birch_first : Steps
birch_first = arrives 1 ∷ arrives 1 ∷ arrives 0 ∷ []

-- birch is first, once, and then acorn
abbrev pub birch_once : Steps
birch_once = arrives 1 ∷ arrives 0 ∷ []

-- the number of the steps that are left in the run of a part alone
abbrev pub steps_alone : Part → List ℕ → Steps → ℕ
steps_alone part text steps = option_map_or (λ plan. length (alone part (opening plan 0) steps)) (plan_in (meaning text)) 0

-- the first server of birch, or of acorn, is reported down before a connection to acorn

abbrev pub birch_reported : Steps
birch_reported = (0, Mark 1 0 Down) ∷ arrives 0 ∷ []

abbrev pub acorn_reported : Steps
acorn_reported = (0, Mark 0 0 Down) ∷ arrives 0 ∷ []
