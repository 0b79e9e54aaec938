use Rattle.std.proofs.Common.{◌≡◌, take}
use Rattle.bus_strings.specs.Items.{numbers}
use Rattle.bus_table.specs.Filling.{filling_strings}
use Rattle.bus_regime.proofs.witnessing.filling_strings.Given as goal

-- the strings of the lines so far
abbrev pub invariant-loop-line : goal.invariant-loop-line
invariant-loop-line l = numbers l.strings.items ≡ filling_strings l.mode (take l.line-index l.sends)
