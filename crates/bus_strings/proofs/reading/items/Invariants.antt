use Rattle.std.proofs.Common.{◌≡◌}
use Rattle.std.specs.List.{AllByRecursion}
use Rattle.bus_text.specs.AllOf.{all_of}
use Rattle.bus_text.proofs.AllOfLaws.{with_front}
use Rattle.bus_strings.specs.Items.{IsItem}
use Rattle.bus_strings.specs.Reading.{item_line}
use Rattle.bus_strings.proofs.reading.items.Given as goal

abbrev pub invariant-loop-line : goal.invariant-loop-line
invariant-loop-line l = record {
  exact : with_front l.items.items (all_of item_line l.line-iterator) ≡ all_of item_line l.fn.lines;
  ranges : AllByRecursion IsItem l.items.items;
}
