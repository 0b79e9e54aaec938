-- How the senders on the cable go with the list of what was sent so far.
use Rattle.std.specs.Prelude.{◌≡◌, ℕ, ◌+◌, ◌-◌, ◌<◌, ◌≤◌, ◌⊎◌, List, length, map, slice_get, Option, Some, MatchOption}
use Rattle.bus_timers.specs.Timings.{IsSound}
use Rattle.bus_strings.specs.Limits.{most_terminal}
use Rattle.bus_strings.specs.Messages.{Entry}
use Rattle.bus_table.specs.Tables.{Sender, Table, Hand}
use Rattle.bus_medium.specs.Past.{own}
use Rattle.bus_medium.specs.Timings.{timing_of}
use Rattle.bus_medium.specs.Lawful.{Station}
use Rattle.bus_medium.specs.Delays.{Delays}
use Rattle.bus_medium.specs.Wakes.{Wakes}
use Rattle.bus_medium.specs.CableLawful.{IsLawfulOnCableTo}
use Rattle.bus_propagation.specs.declared.seat.Seat.{Seat}
use Rattle.bus_propagation.specs.inside.Arrivals.{ArePassed}
use Rattle.bus_propagation.specs.inside.Hearing.{HaveBegun, Hears, RestsUntil, IsNextStart, HaveWords}
use Rattle.bus_propagation.specs.inside.Seats.{station_of}

-- Its timing is sound, and its number one of a terminal.
pub record IsSender (x : Seat) : Type 0 where
  pub sound : IsSound x.timing
  pub least : 1 ≤ x.terminal
  pub most : x.terminal ≤ most_terminal

-- The places of the list that it has passed are heard to the end.
pub record KeepsPlace (delay : Delays) (list : List Entry) (x : Seat) : Type 0 where
  pub within : x.cursor ≤ length list
  pub passed : ArePassed delay x.terminal list x.cursor x.timers.moment

-- At moment t a sender has heard what the list tells: what it has heard for certain is no later than t, unless it is to be powered up.
pub record Listens (delay : Delays) (wake : Wakes) (list : List Entry) (t : ℕ) (x : Seat) : Type 0 where
  pub sender : IsSender x
  pub place : KeepsPlace delay list x
  pub count : (u : ℕ) → HaveBegun list x.terminal u → length (own list x.terminal u) ≡ x.sent
  pub hears : Hears delay wake (station_of x) list x.timers.moment x.timers.due x.timers.gap_from
  pub sure : (x.timers.moment ≤ t) ⊎ (x.timing.quiet + x.timers.moment ≡ wake x.terminal)

-- It has no message left, or doesn't start before the moment that it keeps.
abbrev pub Rests : Delays → Wakes → List Entry → Seat → Type 0
Rests delay wake list x =
    MatchOption x.next (length x.messages.items ≤ x.sent)
    (λ u. (x.sent < length x.messages.items) × RestsUntil delay wake (station_of x) list x.timers.moment u)

-- It knows its next start.
abbrev pub Awaits : Delays → Wakes → List Entry → Seat → Type 0
Awaits delay wake list x =
    MatchOption x.next (length x.messages.items ≤ x.sent)
    (λ u. (x.sent < length x.messages.items) × IsNextStart delay wake (station_of x) list x.timers.moment u)

-- A sender x has become y, which has heard of the list up to moment t, and knows its next start.
pub record Attended (delay : Delays) (list : List Entry) (t : ℕ) (x y : Seat) : Type 0 where
  pub station : station_of y ≡ station_of x
  pub sent : y.sent ≡ x.sent
  pub place : KeepsPlace delay list y
  pub on : (wake : Wakes) → Listens delay wake list t x → Listens delay wake list t y × Awaits delay wake list y

-- A sender x has become y, which has heard of the list up to moment t as far as it needs: it goes with it as before.
pub record Follows (delay : Delays) (list : List Entry) (t : ℕ) (x y : Seat) : Type 0 where
  pub station : station_of y ≡ station_of x
  pub place : KeepsPlace delay list y
  pub on : (wake : Wakes) → Listens delay wake list t x → Rests delay wake list x → Listens delay wake list t y × Rests delay wake list y

-- The sender at a place has attended.
abbrev pub HasAttended : Delays → List Entry → ℕ → List Seat → List Seat → ℕ → Type 0
HasAttended delay list t xs ys p = (x y : Seat) → slice_get xs p ≡ Some x → slice_get ys p ≡ Some y → Attended delay list t x y

-- The moment is where the transmit interval of a sender elapses; none where no message is left.
abbrev pub EndsInterval : Option ℕ → Seat → Type 0
EndsInterval next x =
    MatchOption next (length x.messages.items ≤ x.sent) (λ u. (x.sent < length x.messages.items) × (u ≡ x.timers.due - x.timing.quiet))

-- The list is lawful on the cable before moment t, and at it for numbers below n, and each sender goes with it.
pub record GoesTo (quiet : ℕ) (delay : Delays) (wake : Wakes) (stations : List Station) (list : List Entry) (seats : List Seat)
    (t n : ℕ) : Type 0 where
  pub same : map station_of seats ≡ stations
  pub lawful : IsLawfulOnCableTo quiet delay wake stations t n list
  pub words : HaveWords list
  pub quiet_is : (j : ℕ) (x : Seat) → slice_get seats j ≡ Some x → x.timing.quiet ≡ quiet
  pub listen : (j : ℕ) (x : Seat) → slice_get seats j ≡ Some x → Listens delay wake list t x
  pub rest : (j : ℕ) (x : Seat) → slice_get seats j ≡ Some x → Rests delay wake list x

-- Moment u with number n comes before moment m with number k, or is it.
abbrev pub NoLater : ℕ → ℕ → ℕ → ℕ → Type 0
NoLater u n m k = (u < m) ⊎ ((u ≡ m) × (n ≤ k))

-- The sender at a place is the next to start, at moment u, and nobody else is before it.
pub record IsTurn (seats : List Seat) (place u : ℕ) : Type 0 where
  pub seat : Seat
  pub at : slice_get seats place ≡ Some seat
  pub next : seat.next ≡ Some u
  pub first : (j : ℕ) (y : Seat) (m : ℕ) → slice_get seats j ≡ Some y → y.next ≡ Some m → NoLater u seat.terminal m y.terminal

-- A sender x has begun its next message at moment u, and has become y.
pub record Begun (u : ℕ) (x y : Seat) (entry : Entry) : Type 0 where
  pub station : station_of y ≡ station_of x
  pub moment : entry.moment ≡ u
  pub terminal : entry.terminal ≡ x.terminal
  pub message : slice_get x.messages.items x.sent ≡ Some entry.message
  pub words : 0 < length entry.message
  pub sent : y.sent ≡ x.sent + 1
  pub cursor : y.cursor ≡ x.cursor
  pub timers_moment : y.timers.moment ≡ u
  pub timers_due : y.timers.due ≡ x.timing.quiet + u + x.timing.ti
  pub timers_gap : y.timers.gap_from ≡ x.timing.quiet + u + x.timing.sg
  pub next : EndsInterval y.next y

-- Nobody starts before the horizon.
abbrev pub NobodyBefore : List Seat → ℕ → Type 0
NobodyBefore seats horizon = (j : ℕ) (y : Seat) (m : ℕ) → slice_get seats j ≡ Some y → y.next ≡ Some m → horizon ≤ m

-- Before anything is sent, a sender with this quiet before the settled start is powered up, or to be.
pub record IsSeated (quiet : ℕ) (wake : Wakes) (x : Seat) : Type 0 where
  pub sender : IsSender x
  pub quiet_is : x.timing.quiet ≡ quiet
  pub sent : x.sent ≡ 0
  pub cursor : x.cursor ≡ 0
  pub timers_moment : x.timers.moment ≡ wake x.terminal - x.timing.quiet
  pub timers_due : x.timers.due ≡ x.timing.quiet + x.timing.due + wake x.terminal
  pub timers_gap : x.timers.gap_from ≡ x.timing.sg + wake x.terminal
  pub next : EndsInterval x.next x

-- It is this sender of the table, with this hand, before anything is sent.
pub record IsSeatOf (table : Table) (sender : Sender) (hand : Hand) (wake : Wakes) (x : Seat) : Type 0 where
  pub timing : x.timing ≡ timing_of table sender
  pub sound : IsSound x.timing
  pub terminal : x.terminal ≡ hand.terminal
  pub messages : x.messages.items ≡ hand.messages
  pub sent : x.sent ≡ 0
  pub cursor : x.cursor ≡ 0
  pub timers_moment : x.timers.moment ≡ wake x.terminal - x.timing.quiet
  pub timers_due : x.timers.due ≡ x.timing.quiet + x.timing.due + wake x.terminal
  pub timers_gap : x.timers.gap_from ≡ x.timing.sg + wake x.terminal
  pub next : EndsInterval x.next x
