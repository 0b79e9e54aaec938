use Rattle.std.proofs.Common.{◌≡◌, ℕ, ◌<◌, take, get_or, length}
use Rattle.bus_wave.specs.Counted.{entries_of}
use Rattle.bus_wave.proofs.holds.counts.Given as goal

-- the entries so far are counted
abbrev pub invariant-loop-entry : goal.invariant-loop-entry
invariant-loop-entry l = record {
  all : length l.counts ≡ 256;
  counted : (number : ℕ) → number < 256 → get_or l.counts number 0 ≡ entries_of (take l.entry-index l.list) number;
}
