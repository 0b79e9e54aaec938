use Rattle.std.specs.Prelude.{◌≡◌, ◌≤◌, ◌-◌, ◌&&◌, ◌==◌}
use Rattle.bus_best.specs.Asked.{asked, asked_from}
use Rattle.bus_best.specs.Blames.{above, all_wait, first_above}
use Rattle.bus_best.proofs.chain.asked.Given as goal

-- the gaps from here on tell what all of them do
abbrev pub invariant-loop-place : goal.invariant-loop-place
invariant-loop-place l = record {
  above : first_above l.bounds l.sg l.place l.rule (asked_from l.bounds l.sg l.low (l.count - l.place)) ≡ above l.bounds l.count l.sg;
  waits : (l.waiting && all_wait l.bounds l.sg l.alone (asked_from l.bounds l.sg l.low (l.count - l.place)))
      ≡ all_wait l.bounds l.sg (l.count == 1) (asked l.bounds l.count l.sg);
  few : l.low ≤ 1073741824;
}
