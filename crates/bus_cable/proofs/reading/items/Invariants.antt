use Rattle.std.proofs.Common.{◌≡◌, length}
use Rattle.std.specs.List.{AllByRecursion}
use Rattle.bus_text.specs.AllOf.{all_of}
use Rattle.bus_text.proofs.AllOfLaws.{with_front}
use Rattle.bus_strings.specs.Items.{IsItem}
use Rattle.bus_strings.specs.Reading.{item_line}
use Rattle.bus_cable.specs.inside.Ahead.{ahead}
use Rattle.bus_cable.proofs.reading.items.Given as goal

-- the items so far, and what the lines ahead read as, are what all read as
abbrev pub invariant-loop-next : goal.invariant-loop-next
invariant-loop-next l = record {
  read : with_front l.items.items (all_of item_line (ahead l.next l.lines)) ≡ all_of item_line (ahead l.fn.first l.fn.lines);
  ranges : AllByRecursion IsItem l.items.items;
}

abbrev pub decreases-loop-next : goal.decreases-loop-next
decreases-loop-next l = length (ahead l.next l.lines)
