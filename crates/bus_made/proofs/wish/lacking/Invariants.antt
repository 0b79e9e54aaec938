use Rattle.std.proofs.Common.{◌≡◌, drop}
use Rattle.bus_table.specs.Turns.{turn_order}
use Rattle.bus_made.specs.Wishes.{lacking, lacking_of}
use Rattle.bus_made.proofs.wish.lacking.Given as goal

-- those from here on tell
abbrev pub invariant-loop-k : goal.invariant-loop-k
invariant-loop-k l = lacking_of l.bounds l.table l.wishes l.known (drop l.k (turn_order l.table)) ≡ lacking l.bounds l.table l.wishes
