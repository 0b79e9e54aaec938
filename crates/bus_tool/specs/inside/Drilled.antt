-- What a drill found, and its line. No public clause cites it.
use Rattle.std.specs.Prelude.{◌≡◌, ℕ, List, length}
use Rattle.bus_schedule.specs.Closed.{closed_end}
use Rattle.bus_filter.specs.ReceivedTexts.{received_count}
use Rattle.bus_vectors.specs.Made.{sender_count, round_count, made_table}
use Rattle.bus_tool.specs.declared.drill.DrillFigures.{DrillFigures}
use Rattle.bus_audit.specs.Breaches.{garbled_count}
use Rattle.bus_tool.specs.Drills.{drill_hands, drill_list, figures}

-- The figures of a drill.
pub record IsDrilled (drilled : DrillFigures) (number : ℕ) : Type 0 where
  pub made : drilled.number ≡ number
  pub senders : drilled.senders ≡ sender_count number
  pub rounds : drilled.rounds ≡ round_count number
  pub messages : drilled.messages ≡ length (drill_list number)
  pub end : drilled.end ≡ closed_end (made_table number) (drill_hands number)
  pub collided : drilled.collided ≡ garbled_count (drill_list number)
  pub received : drilled.received ≡ received_count (made_table number) (drill_list number)

-- The line of what a drill found.
abbrev pub line_of : DrillFigures → List ℕ
line_of drilled =
    figures drilled.number drilled.senders drilled.rounds drilled.messages drilled.end drilled.collided drilled.received
