use Rattle.std.proofs.Common.{◌≡◌, ◌≤◌, ◌*◌, take}
use Rattle.bus_margins.specs.Rooms.{longest_spoken}
use Rattle.bus_margins.proofs.speaking.longest_spoken.Given as goal

-- how long those so far take
abbrev pub invariant-loop-sender : goal.invariant-loop-sender
invariant-loop-sender l = record {
  told : l.spoken ≡ longest_spoken l.bounds l.delay (take l.sender-index l.sender-items);
  few : l.spoken ≤ 1073741824 * l.sender-index;
}
