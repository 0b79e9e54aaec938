use Rattle.std.proofs.Common.{◌++◌, drop}
use Rattle.bus_table.specs.Turns.{turn_order}
use Rattle.bus_schedule.specs.Even.{messages_of}
use Rattle.bus_schedule.specs.Closed.{turns, turns_end}
use Rattle.bus_schedule.proofs.PlaceLemmas.{Leads}
use Rattle.bus_schedule.proofs.schedule.add_by_gaps.Given as goal

abbrev pub invariant-loop-place : goal.invariant-loop-place
invariant-loop-place l =
    Leads (messages_of l.hands) l.round (drop l.place-index (turn_order l.table)) l.from (turns_end (messages_of l.hands) l.round (turn_order l.table) l.initial.from)
    l.list.items (l.initial.list.items ++ turns (messages_of l.hands) l.round (turn_order l.table) l.initial.from)
