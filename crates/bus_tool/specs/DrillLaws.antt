-- What holds of every drill.
use Rattle.std.specs.Prelude.{ℕ, ◌≤◌, IsTrue}
use Rattle.bus_table.specs.Valid.{is_valid}
use Rattle.bus_regime.specs.Verdicts.{verdict_of, is_accepted}
use Rattle.bus_schedule.specs.Closed.{closed_end}
use Rattle.bus_schedule.specs.Even.{are_even}
use Rattle.bus_vectors.specs.Made.{made_table}
use Rattle.bus_tool.specs.Drills.{drill_hands}

-- The greatest moment at which a drill can end: 500 rounds of the longest cycle of 31 senders.
abbrev pub longest_drill : ℕ
longest_drill = 13914000

-- Its table is valid and accepted, its hands are even, and its closed schedule doesn't end behind that moment.
pub record IsDrillable (number : ℕ) : Type 0 where
  pub valid : IsTrue (is_valid (made_table number))
  pub accepted : IsTrue (is_accepted (verdict_of (made_table number)))
  pub even : IsTrue (are_even (made_table number) (drill_hands number))
  pub short : closed_end (made_table number) (drill_hands number) ≤ longest_drill

-- The same of every number.
abbrev pub DrillsAreAccepted : Type 0
DrillsAreAccepted = (number : ℕ) → IsDrillable number
