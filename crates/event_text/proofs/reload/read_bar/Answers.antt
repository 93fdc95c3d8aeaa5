use Rattle.std.proofs.Common.{◌∙◌, ◌-◌, sym, ap, length, drop, take}
use Rattle.std.specs.Prelude.{option_map, if◌then◌else◌, Some, None}
use Rattle.std.specs.Str.{is_utf8}
use Rattle.std.proofs.lemmas.List.{take_rest}
use Rattle.event_text.proofs.ReloadLemmas.{bar_text-bar, utf8_text}
use Rattle.event_text.proofs.reload.read_bar.Goals as goal

pub returns : goal.returns
returns c =
    let line = c.args.line.now in
    ap (option_map (λ text. text.now)) c.ok.ensures.value
    ∙ utf8_text _ (take (length line - 1) (drop 1 line)) c.from_utf8.result c.from_utf8.ensures.cases
    ∙ ap (λ text. if is_utf8 text then Some text else None) (take_rest line 1)
    ∙ sym (bar_text-bar line c.if-line-ne124.false)
