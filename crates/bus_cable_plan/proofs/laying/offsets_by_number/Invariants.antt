use Rattle.std.proofs.Common.{◌≡◌, ◌≤◌, ◌+◌, ◌*◌, ◌<◌, ℕ, drop, take, get_or, length}
use Rattle.bus_table.specs.Turns.{turn_order}
use Rattle.bus_plan.specs.Plans.{offset_in}
use Rattle.bus_cable_plan.specs.Plans.{behind, laid_out}
use Rattle.bus_cable_plan.specs.Shapes.{gap_in}
use Rattle.bus_cable_plan.proofs.laying.offsets_by_number.Given as goal

-- the senders so far have their offsets, and the others are still to come
abbrev pub invariant-loop-k : goal.invariant-loop-k
invariant-loop-k l = record {
  told : (number : ℕ) → number < 129 → get_or l.offsets number 0
      ≡ offset_in (take l.k (laid_out (λ sender. gap_in l.d l.shape sender + l.left.share) l.left.rest (turn_order l.table))) number;
  still : drop l.k (laid_out (λ sender. gap_in l.d l.shape sender + l.left.share) l.left.rest (turn_order l.table))
      ≡ behind (λ sender. gap_in l.d l.shape sender + l.left.share) l.end l.rest (drop l.k (turn_order l.table));
  size : length l.offsets ≡ 129;
  room : l.end ≤ 600000 * l.k;
}
