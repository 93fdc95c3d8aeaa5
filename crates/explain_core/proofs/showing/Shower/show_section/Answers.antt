use Rattle.std.proofs.Common.{◌≡◌, ℕ, List, [], ◌++◌, Option, ap, ◌∙◌, append_assoc}
use Rattle.std.specs.Prelude.{codes, if◌then◌else◌}
use Rattle.std.specs.List.{enumerate_from, flat_map}
use Rattle.conn_core.specs.Judging.{facts_view}
use Rattle.explain_core.specs.Text.{picked_in, section_text, server_text}
use Rattle.explain_core.proofs.OnceLemmas.{on_ok}
use Rattle.explain_core.proofs.showing.Shower.show_section.Goals as goal

pub returns : goal.returns
returns c =
    let out : List ℕ = c.args.out.now.items in
    let backend = c.args.backend.now in
    let first : List ℕ = section_text (codes "backend ") backend.name backend.line in
    let second : List ℕ = if c.args.is_default then codes ", the default\n" else codes "\n" in
    let servers : Option ℕ → List ℕ = λ picked. flat_map (server_text c.args.self.now.lines.now (facts_view c.args.facts.now []) backend picked) (enumerate_from 0 backend.servers) in
    let third : List ℕ = servers (picked_in (facts_view c.args.facts.now []) c.args.number backend) in
    on_ok c.show_servers.result (c.show_servers.new.out.items ≡ c.write_either.new.out.items ++ servers c.picked-picked.result) (c.show_servers.new.out.items ≡ out ++ ((first ++ second) ++ third))
    (λ e.
    e
    ∙ ap (λ picked. c.write_either.new.out.items ++ servers picked) c.picked-picked.ensures
    ∙ ap (λ xs. xs ++ third) (c.in_ok-write_either.ensures ∙ ap (λ xs. xs ++ second) (c.in_ok-write_section.ensures ∙ ap (λ name. out ++ section_text (codes "backend ") name backend.line) c.as_slice.ensures))
    ∙ ap (λ xs. xs ++ third) (append_assoc out first second)
    ∙ append_assoc out (first ++ second) third)
    c.show_servers.ensures
