-- A bus as contracts see it: its senders, in the order of the table, and the quiet before its settled start.
use Rattle.std.specs.Prelude.{◌≡◌, ℕ, ◌+◌, ◌-◌, ◌^◌, ◌≤◌, nat_lt, List, length, map, fold, Option, Some, None, if◌then◌else◌}
use Rattle.std.specs.Option.{option_and_then}
use Rattle.bus_timers.specs.declared.timing.Timing.{Timing}
use Rattle.bus_timers.specs.declared.cores.Core.{Ghosts}
use Rattle.bus_timers.specs.Timings.{IsSound}
use Rattle.bus_strings.specs.Members.{In}
use Rattle.bus_strings.specs.Messages.{Entry}
use Rattle.bus_strings.specs.Transmissions.{end_of}
use Rattle.bus_medium.specs.Terminals.{Terminal}
use Rattle.bus_medium.specs.Past.{past, own, last_place}
use Rattle.bus_medium.specs.Lawful.{Station}

-- The greatest horizon of the plain run, bit time for bit time.
abbrev pub observe_limit : ℕ
observe_limit = 20000000

-- A sender's timing, and its terminal.
pub record Seat (C : Type 0) : Type 0 where
  pub timing : Timing
  pub terminal : Terminal C

-- The quiet before the settled start, and the senders in the order of the table.
pub record Bus (C : Type 0) : Type 0 where
  pub quiet : ℕ
  pub seats : List (Seat C)

-- What the rules read of a sender.
abbrev pub station_of : {C : Type 0} → Seat C → Station
station_of seat = record { number = seat.terminal.hand.terminal; timing = seat.timing; hand = seat.terminal.hand.messages }

-- A sender's number.
abbrev pub number_of : {C : Type 0} → Seat C → ℕ
number_of seat = seat.terminal.hand.terminal

-- What the rules read of the senders of a bus.
abbrev pub stations : {C : Type 0} → Bus C → List Station
stations bus = map station_of bus.seats

-- The last of these transmissions.
abbrev pub last_of : List Entry → Option Entry
last_of list = fold (λ _ x. Some x) None list

-- At which bit time the transmission is at moment t, if it is running then.
abbrev pub running_at : ℕ → Entry → Option ℕ
running_at t x = if nat_lt t (end_of x) then Some (t - x.moment) else None

-- A sender stands at moment t: its core stands for its timing, the past that the list makes and the last of its starts, and has room
-- left; and its terminal has begun the messages of its transmissions, the last of which is running as far as it goes.
pub record SeatStands {C : Type 0} (core : Ghosts C) (quiet : ℕ) (seat : Seat C) (list : List Entry) (t : ℕ) : Type 0 where
  pub sound : IsSound seat.timing
  pub stands : core.stands seat.terminal.core seat.timing (past quiet list t) (last_place quiet (own list seat.terminal.hand.terminal t))
  pub room : 2 ^ 62 ≤ core.room seat.terminal.core + t
  pub sent : seat.terminal.sent ≡ length (own list seat.terminal.hand.terminal t)
  pub running : seat.terminal.running ≡ option_and_then (running_at t) (last_of (own list seat.terminal.hand.terminal t))

-- The bus stands at moment t, where the list is what was sent so far.
abbrev pub StandsAt : {C : Type 0} → Ghosts C → Bus C → List Entry → ℕ → Type 0
StandsAt {C} core bus list t = (seat : Seat C) → In seat bus.seats → SeatStands core bus.quiet seat list t
