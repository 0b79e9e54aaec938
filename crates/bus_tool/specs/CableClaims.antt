-- What is claimed of `cable`.
use Rattle.std.specs.Prelude.{◌≡◌, ◌⊎◌, ℕ, ◌<◌, ◌≤◌, Bool, false, IsTrue, List, length}
use Rattle.std.specs.List.{AllByRecursion}
use Rattle.bus_strings.specs.Marking.{greatest_end}
use Rattle.bus_strings.specs.Members.{In}
use Rattle.bus_strings.specs.Messages.{Entry}
use Rattle.bus_table.specs.declared.mode.Mode.{Mode}
use Rattle.bus_table.specs.declared.mode.Mode.TheVariants.{Aperiodic, Periodic}
use Rattle.bus_table.specs.Tables.{Sender, Table, Hand}
use Rattle.bus_medium.specs.Wakes.{AreWakes}
use Rattle.bus_propagation.specs.Lists.{IsOnlyListOnCable}
use Rattle.bus_regime.specs.Verdicts.{verdict_of, is_accepted}
use Rattle.bus_schedule.specs.Closed.{closed, closed_end}
use Rattle.bus_schedule.specs.Even.{are_even}
use Rattle.bus_reach.specs.Bearing.{bears}
use Rattle.bus_reach.specs.Schedule.{cable_closed}
use Rattle.bus_cable.specs.Cables.{Cable, place_on, delays_on, wakes_on}
use Rattle.bus_cable.specs.Hearing.{hearings}
use Rattle.bus_cable.specs.HeardTexts.{terminals}
use Rattle.bus_cable.specs.Layouts.{AreNear}
use Rattle.bus_trace.specs.Traces.{Recording}
use Rattle.bus_tool.specs.Replies.{Reply, OnTheCable, hearings_of}
use Rattle.bus_tool.specs.Texts.{IsObserved, IsOnCable}

-- All senders of the table are at one place of the cable, and wake at the settled start, whatever is named for others.
pub record IsPlain (table : Table) (cable : Cable) : Type 0 where
  pub places : (a b : Sender) → In a table.senders → In b table.senders → place_on cable a.number ≡ place_on cable b.number
  pub wakes : (sender : Sender) → In sender table.senders → wakes_on cable sender.number ≡ 0

-- The table is accepted and of this mode, the hands are even, and no terminal is farther from a sender than this many bit times, which the
-- table bears.
pub record IsBorne (mode : Mode) (most : ℕ) (table : Table) (cable : Cable) (hands : List Hand) : Type 0 where
  pub mode_is : table.mode ≡ mode
  pub accepted : IsTrue (is_accepted (verdict_of table))
  pub even : IsTrue (are_even table hands)
  pub borne : IsTrue (bears table most)
  pub near : AreNear most table (place_on cable)

-- The list is this schedule, and no terminal hears a transmission of another garbled, with one sender alone where none is farther from it
-- than the synchronization gap.
pub record IsInOrder (table : Table) (cable : Cable) (schedule list : List Entry) : Type 0 where
  pub list_is : list ≡ schedule
  pub clear : (1 < length table.senders) ⊎ AreNear table.sg table (place_on cable) → (number : ℕ) → In number (terminals table)
      → AllByRecursion (λ (marked : Entry × Bool). marked.1 ≡ false) (hearings (delays_on cable) list number)

-- A trace up to the horizon, and what each terminal hears of its list:
--   observed   the list is lawful with the delays and wakes of the cable
--   only       there is no other such list
--   plain      on a plain cable the trace is that of `observe`
--   aperiodic  where the table bears the cable and wakes that late, and the horizon isn't before its end, the list is the closed schedule
--              with these delays, and nothing is garbled
--   periodic   where all its senders wake at the settled start it is so of a periodic table, with the closed schedule without delays
pub record IsTheTraceOnCable (table : Table) (cable : Cable) (hands : List Hand) (horizon : ℕ) (reply : Reply) : Type 0 where
  pub trace : Recording
  pub observed : IsOnCable table cable hands horizon trace
  pub only : IsOnlyListOnCable table hands (place_on cable) (wakes_on cable) horizon trace.list
  pub plain : IsPlain table cable → IsObserved table hands horizon trace
  pub aperiodic : (most : ℕ) → IsBorne Aperiodic most table cable hands → AreWakes most table.senders (wakes_on cable)
      → greatest_end (cable_closed (delays_on cable) (wakes_on cable) table hands) ≤ horizon
      → IsInOrder table cable (cable_closed (delays_on cable) (wakes_on cable) table hands) trace.list
  pub periodic : (most : ℕ) → IsBorne Periodic most table cable hands → AreWakes 0 table.senders (wakes_on cable)
      → closed_end table hands ≤ horizon → IsInOrder table cable (closed table hands) trace.list
  pub reply_is : reply ≡ OnTheCable trace (hearings_of table (delays_on cable) trace.list)
