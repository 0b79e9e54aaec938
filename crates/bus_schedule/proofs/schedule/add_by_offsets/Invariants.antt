use Rattle.std.proofs.Common.{◌≡◌, ◌≤◌, ◌++◌, drop}
use Rattle.bus_strings.specs.Marking.{greatest_end}
use Rattle.bus_table.specs.Turns.{turn_order}
use Rattle.bus_schedule.specs.Even.{messages_of}
use Rattle.bus_schedule.specs.Closed.{offset_turns}
use Rattle.bus_schedule.specs.Limits.{longest_end}
use Rattle.bus_schedule.proofs.schedule.add_by_offsets.Given as goal

-- with the turns that are left, the list becomes the whole, and they end within the limit
abbrev pub invariant-loop-place : goal.invariant-loop-place
invariant-loop-place l =
    (l.list.items ++ offset_turns (messages_of l.hands) l.round (drop l.place-index (turn_order l.table)) l.base ≡ l.initial.list.items ++ offset_turns (messages_of l.hands) l.round (turn_order l.table) l.base)
    × (greatest_end (offset_turns (messages_of l.hands) l.round (drop l.place-index (turn_order l.table)) l.base) ≤ longest_end)
