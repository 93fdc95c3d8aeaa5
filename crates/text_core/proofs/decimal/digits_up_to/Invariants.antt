use Rattle.std.proofs.Common.{◌≡◌, ◌≤◌, take, true}
use Rattle.std.specs.List.{list_all}
use Rattle.std.specs.Char.{is_ascii_digit}
use Rattle.text_core.specs.Decimal.{value_of}
use Rattle.text_core.proofs.decimal.digits_up_to.Given as goal

abbrev pub invariant-loop-byte : goal.invariant-loop-byte
invariant-loop-byte l = record {
  digits : list_all is_ascii_digit (take l.byte-index l.text) ≡ true;
  number : l.number ≡ value_of (take l.byte-index l.text);
  small : l.number ≤ l.most;
}
