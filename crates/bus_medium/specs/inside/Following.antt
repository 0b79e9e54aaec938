-- How a sender of a bus goes with the list of what was sent so far, within a moment too.
use Rattle.std.specs.Prelude.{◌≡◌, ℕ, ◌+◌, ◌<◌, ◌≤◌, ◌⊎◌, [], Bool, List, length, slice_get, slice_index_or, Option, Some, None}
use Rattle.bus_timers.specs.declared.timing.Timing.{Timing}
use Rattle.bus_timers.specs.declared.cores.Core.{Ghosts}
use Rattle.bus_timers.specs.Timings.{IsSound}
use Rattle.bus_timers.specs.MayStart.{MayStart}
use Rattle.bus_strings.specs.Members.{In}
use Rattle.bus_strings.specs.Messages.{Entry, bits}
use Rattle.bus_strings.specs.Transmissions.{end_of}
use Rattle.bus_table.specs.Tables.{Hand}
use Rattle.bus_medium.specs.Terminals.{last_begun, with_begun}
use Rattle.bus_medium.specs.Past.{past, own, last_place}
use Rattle.bus_medium.specs.Buses.{Seat, last_of}

-- The last of a sender's transmissions is at its bit time d at moment t, and its others have ended.
pub record Running (hand : Hand) (sent d : ℕ) (mine : List Entry) (t : ℕ) : Type 0 where
  pub entry : Entry
  pub there : In entry mine
  pub last : last_of mine ≡ Some entry
  pub place : entry.moment + d ≡ t
  pub within : d < bits entry.message
  pub message : last_begun hand sent ≡ entry.message
  pub others : (x : Entry) → In x mine → (x ≡ entry) ⊎ (end_of x ≤ t)

-- After the past p, of t bit times from the settled start, a sender stands where its own transmissions leave it.
pub record Follows (stands : Timing → List Bool → Option ℕ
    → Type 0) (quiet : ℕ) (timing : Timing) (hand : Hand) (sent : ℕ) (now : Option ℕ) (p : List Bool) (mine : List Entry)
    (t : ℕ) : Type 0 where
  pub sound : IsSound timing
  pub core : stands timing p (last_place quiet mine)
  pub count : sent ≡ length mine
  pub idle : now ≡ None → (x : Entry) → In x mine → end_of x ≤ t
  pub running : (d : ℕ) → now ≡ Some d → Running hand sent d mine t

-- The same of the list of all transmissions, of which those before `cut` count as its own.
abbrev pub FollowsAt : {C : Type 0} → Ghosts C → ℕ → Seat C → List Entry → ℕ → ℕ → Type 0
FollowsAt core quiet seat list t cut =
    Follows (core.stands seat.terminal.core) quiet seat.timing seat.terminal.hand seat.terminal.sent seat.terminal.running
    (past quiet list t) (own list seat.terminal.hand.terminal cut) t

-- Every sender does.
abbrev pub AllFollow : {C : Type 0} → Ghosts C → ℕ → List (Seat C) → List Entry → ℕ → ℕ → Type 0
AllFollow {C} core quiet seats list t cut = (j : ℕ) (seat : Seat C) → slice_get seats j ≡ Some seat → FollowsAt core quiet seat list t cut

-- Every sender's core can be passed so many bit times more.
abbrev pub AllHaveRoom : {C : Type 0} → Ghosts C → List (Seat C) → ℕ → Type 0
AllHaveRoom {C} core seats n = (j : ℕ) (seat : Seat C) → slice_get seats j ≡ Some seat → n ≤ core.room seat.terminal.core

-- The sender is as before, and wasn't due.
pub record Idle {C : Type 0} (core : Ghosts C) (x y : Seat C) : Type 0 where
  pub same : y ≡ x
  pub not : (timing : Timing) (past : List Bool) (last : Option ℕ) → core.stands x.terminal.core timing past last
      → MayStart timing past last × (x.terminal.running ≡ None) × (x.terminal.sent < length x.terminal.hand.messages) → ⊥

-- The sender began a message at moment t.
pub record Started {C : Type 0} (core : Ghosts C) (x y : Seat C) (t : ℕ) (entry : Entry) : Type 0 where
  pub free : x.terminal.running ≡ None
  pub unsent : x.terminal.sent < length x.terminal.hand.messages
  pub may : (timing : Timing) (past : List Bool) (last : Option ℕ) → core.stands x.terminal.core timing past last
      → MayStart timing past last
  pub told : (timing : Timing) (past : List Bool) (last : Option ℕ) → core.stands x.terminal.core timing past last
      → core.stands y.terminal.core timing past (Some (length past))
  pub timing : y.timing ≡ x.timing
  pub terminal : y.terminal ≡ with_begun x.terminal y.terminal.core
  pub room : core.room y.terminal.core ≡ core.room x.terminal.core
  pub moves : core.moves y.terminal.core ≡ core.moves x.terminal.core
  pub moment : entry.moment ≡ t
  pub number : entry.terminal ≡ x.terminal.hand.terminal
  pub message : slice_index_or x.terminal.hand.messages x.terminal.sent [] ≡ entry.message
  pub some : 0 < length entry.message
