use Rattle.std.proofs.Common.{length, ◌-◌, ◌≡◌, ◌≤◌, ◌<◌, ◌^◌, true, take}
use Rattle.std.specs.List.{list_all}
use Rattle.std.specs.Char.{is_ascii_digit}
use Rattle.bus_text.specs.Numbers.{decimal_value}
use Rattle.bus_text.proofs.leading.leading_fours.Given as goal

abbrev pub invariant-loop-value : goal.invariant-loop-value
invariant-loop-value l = record {
  within : l.count ≤ length l.text;
  digits : list_all is_ascii_digit (take l.count l.text) ≡ true;
  value : l.value ≡ decimal_value (take l.count l.text);
  room : l.value < 10 ^ 18;
}

abbrev pub decreases-loop-value : goal.decreases-loop-value
decreases-loop-value l = length l.text - l.count
