use Rattle.std.proofs.Common.{◌≡◌, map, take}
use Rattle.bus_regime.specs.Gaps.{gaps}
use Rattle.bus_page.specs.Slots.{slot_of}
use Rattle.bus_page.proofs.slot.slots.Given as goal

abbrev pub invariant-loop-k : goal.invariant-loop-k
invariant-loop-k l = l.slots.items ≡ map (slot_of l.table) (take l.k (gaps l.table))
