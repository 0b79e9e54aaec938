use Rattle.std.proofs.Common.{◌≡◌}
use Rattle.bus_text.specs.Lines.{entries_of}
use Rattle.bus_table.specs.Drafts.{start}
use Rattle.bus_table.specs.Reading.{steps}
use Rattle.bus_table.specs.Stops.{stops}
use Rattle.bus_table.proofs.reading.read_or_stop.Given as goal

abbrev pub invariant-loop-line : goal.invariant-loop-line
invariant-loop-line l = record {
  read : steps l.draft l.line-iterator ≡ steps start (entries_of l.text);
  stop : stops l.draft l.line-iterator ≡ stops start (entries_of l.text);
}
