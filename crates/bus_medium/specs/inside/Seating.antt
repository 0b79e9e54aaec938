-- A sender at the settled start.
use Rattle.std.specs.Prelude.{◌≡◌, ◌^◌, ◌≤◌, false, replicate, None, ℕ, ◌<◌, List, length, slice_index}
use Rattle.bus_timers.specs.declared.cores.Core.{Ghosts}
use Rattle.bus_timers.specs.Timings.{IsSound}
use Rattle.bus_strings.specs.Members.{In}
use Rattle.bus_table.specs.Tables.{Sender, Table, Hand}
use Rattle.bus_medium.specs.Timings.{timing_of}
use Rattle.bus_medium.specs.Buses.{Seat}

-- It has the sender's timing and its hand, its core is settled, and it has begun nothing.
pub record Seated {C : Type 0} (core : Ghosts C) (table : Table) (sender : Sender) (messages : Hand) (seat : Seat C) : Type 0 where
  pub timing : seat.timing ≡ timing_of table sender
  pub sound : IsSound seat.timing
  pub hand : seat.terminal.hand ≡ messages
  pub sent : seat.terminal.sent ≡ 0
  pub running : seat.terminal.running ≡ None
  pub stands : core.stands seat.terminal.core seat.timing (replicate seat.timing.quiet false) None
  pub room : 2 ^ 62 ≤ core.room seat.terminal.core
  pub moves : core.moves seat.terminal.core ≡ 0

-- It is one of the table's senders, with the hand of that sender.
pub record IsSeated {C : Type 0} (core : Ghosts C) (table : Table) (seat : Seat C) : Type 0 where
  pub sender : Sender
  pub there : In sender table.senders
  pub messages : Hand
  pub number : messages.terminal ≡ sender.number
  pub seated : Seated core table sender messages seat

-- No two numbers are the same.
abbrev pub AreDistinct : List ℕ → Type 0
AreDistinct numbers = (p r : ℕ) → p < length numbers → r < length numbers → slice_index numbers p ≡ slice_index numbers r → p ≡ r
