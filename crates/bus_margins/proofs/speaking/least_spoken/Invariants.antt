use Rattle.std.proofs.Common.{◌≡◌, ◌≤◌, ◌*◌, take}
use Rattle.bus_margins.specs.Rooms.{least_spoken}
use Rattle.bus_margins.proofs.speaking.least_spoken.Given as goal

-- how long those so far take
abbrev pub invariant-loop-sender : goal.invariant-loop-sender
invariant-loop-sender l = record {
  told : l.spoken ≡ least_spoken l.bounds (take l.sender-index l.sender-items);
  few : l.spoken ≤ 268435456 * l.sender-index;
}
