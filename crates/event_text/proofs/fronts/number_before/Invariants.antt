use Rattle.std.proofs.Common.{◌≡◌, ◌<◌, ◌^◌, take, true}
use Rattle.std.specs.List.{list_all}
use Rattle.std.specs.Char.{is_ascii_digit}
use Rattle.text_core.specs.Decimal.{value_of}
use Rattle.event_text.proofs.fronts.number_before.Given as goal

abbrev pub invariant-loop-at : goal.invariant-loop-at
invariant-loop-at l = record {
  digits : list_all is_ascii_digit (take l.at l.text) ≡ true;
  number : l.number ≡ value_of (take l.at l.text);
  small : l.number < 10 ^ l.at;
}
