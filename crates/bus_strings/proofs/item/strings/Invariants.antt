use Rattle.std.proofs.Common.{◌≡◌, [], length}
use Rattle.bus_strings.specs.Items.{numbers}
use Rattle.bus_strings.specs.inside.Building.{with_strings}
use Rattle.bus_strings.proofs.item.strings.Given as goal

abbrev pub invariant-loop-field : goal.invariant-loop-field
invariant-loop-field l = with_strings (numbers l.strings.items) l.words.items l.fields ≡ with_strings [] [] l.fn.fields

abbrev pub decreases-loop-field : goal.decreases-loop-field
decreases-loop-field l = length l.fields
