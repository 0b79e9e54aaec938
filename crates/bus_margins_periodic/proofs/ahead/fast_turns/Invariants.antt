use Rattle.std.proofs.Common.{◌≡◌, ℕ, ◌*◌, ◌^◌, ◌<◌, ◌≤◌, length, get_or}
use Rattle.bus_drift.specs.Turns.{fastest}
use Rattle.bus_margins.specs.Buses.{bus_of}
use Rattle.bus_margins_periodic.proofs.ahead.fast_turns.Given as goal

-- those so far are told
abbrev pub invariant-loop-due : goal.invariant-loop-due
invariant-loop-due l = record {
  size : length l.turns ≡ 256;
  told : (j : ℕ) → j < l.due → get_or l.turns j 0 ≡ fastest (bus_of l.bounds l.table) 0 j;
  bound : (j : ℕ) → j < l.due → get_or l.turns j 0 ≤ 2 ^ 40;
  fast : l.fast ≡ fastest (bus_of l.bounds l.table) 0 l.due;
  small : l.fast ≤ l.due * 2 ^ 31;
}
