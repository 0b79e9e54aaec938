-- A run that tells a core what was heard only where its sender starts, and at the horizon. Beside each sender stand numbers that tell when
-- that is: its clock. Their places are those of the past. `Timers` is how the code keeps a clock: by the end of what all have heard.
use Rattle.std.specs.Prelude.{◌≡◌, ◌≢◌, ℕ, ◌+◌, ◌-◌, ◌^◌, ◌<◌, ◌≤◌, ◌⊎◌, Bool, nat_lt, nat_le, max, [], ◌∷◌, List, length}
use Rattle.std.specs.Prelude.{map, take, slice_get, Option, Some, None, IfSome, if◌then◌else◌}
use Rattle.std.specs.Option.{MatchOption, option_and_then}
use Rattle.bus_timers.specs.declared.timing.Timing.{Timing}
use Rattle.bus_timers.specs.declared.cores.Core.{Ghosts}
use Rattle.bus_timers.specs.Timings.{IsSound, due_place}
use Rattle.bus_timers.specs.MayStart.{MayStart}
use Rattle.bus_timers.specs.GapPlace.{GapFrom}
use Rattle.bus_medium.specs.Terminals.{last_begun}
use Rattle.bus_medium.specs.MessageStretches.{later_place, with_passed_many}
use Rattle.bus_strings.specs.Members.{In}
use Rattle.bus_strings.specs.Messages.{Entry}
use Rattle.bus_strings.specs.Transmissions.{end_of}
use Rattle.bus_medium.specs.Jumps.{Each}
use Rattle.bus_medium.specs.inside.Following.{Idle, Started}
use Rattle.bus_medium.specs.inside.Runs.{RunsTo, Decided}
use Rattle.bus_medium.specs.Buses.{Seat}
use Rattle.bus_medium.specs.declared.timers.Timers.{Timers}
use Rattle.bus_medium.specs.declared.timers.BusIdle.{BusIdle}
use Rattle.bus_medium.specs.Lawful.{Station}

-- Every transmission of the list has ended at moment t.
abbrev pub HaveEnded : List Entry → ℕ → Type 0
HaveEnded list t = (x : Entry) → In x list → end_of x ≤ t

-- A sender's clock:
--   sg, tg     its gaps
--   told       the place up to which its core has been told
--   due        the place at which its transmit interval elapses, or `never` where no message is left
--   gap_from   the place from which its terminal gap counts, or will
--   ready      the first place at which it may start, if the bus stays quiet
pub record Clock : Type 0 where
  pub sg : ℕ
  pub tg : ℕ
  pub told : ℕ
  pub due : ℕ
  pub gap_from : ℕ
  pub ready : ℕ

-- The clock that timers keep, where the bus became quiet at the place `ended`.
abbrev pub clock_of : ℕ → Timers → Clock
clock_of ended timers = record {
  sg = timers.sg;
  tg = timers.tg;
  told = timers.told;
  due = timers.due;
  gap_from = ended + timers.behind;
  ready = max timers.due (ended + timers.behind + timers.tg);
}

-- The clocks of all.
abbrev pub clocks_of : ℕ → List Timers → List Clock
clocks_of ended all_timers = map (clock_of ended) all_timers

-- The place of a moment that never comes.
abbrev pub never : ℕ
never = 18446744073709551615

-- The place at which something of the sender is due, and `never` where no message is left.
abbrev pub due_at : {C : Type 0} → Seat C → ℕ → ℕ
due_at seat place = if nat_lt seat.terminal.sent (length seat.terminal.hand.messages) then place else never

-- When it may start on a quiet bus: its interval has elapsed, and its terminal gap.
abbrev pub IsReady : Clock → Type 0
IsReady clock = clock.ready ≡ max clock.due (clock.gap_from + clock.tg)

-- Where the terminal gap counts from behind a stretch that is busy from one place to another.
abbrev pub gap_after : ℕ → ℕ → ℕ → ℕ → ℕ
gap_after sg gap_from from to = if nat_le gap_from from then to else to + sg

-- The clock behind such a stretch.
abbrev pub clock_after : ℕ → ℕ → Clock → Clock
clock_after from to clock = record {
  sg = clock.sg;
  tg = clock.tg;
  told = clock.told;
  due = clock.due;
  gap_from = gap_after clock.sg clock.gap_from from to;
  ready = max clock.due (gap_after clock.sg clock.gap_from from to + clock.tg);
}

-- A sender, and its clock.
pub record Clocked (C : Type 0) : Type 0 where
  pub seat : Seat C
  pub clock : Clock

-- The past p ends at the place now. The clock goes with all of it. The core stands for what it has been told: the quiet before the settled
-- start at least.
pub record StandsLazily {C : Type 0} (core : Ghosts C) (quiet now : ℕ) (x : Clocked C) (timing : Timing) (p : List Bool) (last : Option ℕ)
    : Type 0 where
  pub sound : IsSound timing
  pub same : x.seat.timing ≡ timing
  pub at : length p ≡ now
  pub sg : x.clock.sg ≡ timing.sg
  pub tg : x.clock.tg ≡ timing.tg
  pub gap : GapFrom timing.sg p last x.clock.gap_from
  pub due : x.clock.due ≡ due_at x.seat (due_place timing last)
  pub ready : IsReady x.clock
  pub from : quiet ≤ x.clock.told
  pub told : x.clock.told ≤ now
  pub stands : core.stands x.seat.terminal.core timing (take x.clock.told p) last
  pub room : 2 ^ 62 + quiet ≤ core.room x.seat.terminal.core + x.clock.told

-- A sender with its clock in the place of a core.
abbrev pub lazy : {C : Type 0} → Ghosts C → ℕ → ℕ → Ghosts (Clocked C)
lazy core quiet now = record { stands = StandsLazily core quiet now; room = λ _. 2 ^ 62; moves = λ _. 0 }

-- The sender at the place now: what ran when its core was told has gone on since.
abbrev pub lazy_seat : {C : Type 0} → ℕ → Seat C → Clock → Seat (Clocked C)
lazy_seat now seat clock = record {
  timing = seat.timing;
  terminal = record {
    core = record { seat = seat; clock = clock };
    hand = seat.terminal.hand;
    sent = seat.terminal.sent;
    running = option_and_then
        (later_place (last_begun seat.terminal.hand seat.terminal.sent) (now - clock.told)) seat.terminal.running;
  };
}

-- All senders.
abbrev pub lazy_seats : {C : Type 0} → ℕ → List (Seat C) → List Clock → List (Seat (Clocked C))
lazy_seats now [] clocks = []
lazy_seats now (x ∷ xs) [] = []
lazy_seats now (x ∷ xs) (k ∷ ks) = lazy_seat now x k ∷ lazy_seats now xs ks

-- At moment t nobody has decided, and the list is what was sent.
abbrev pub RunsLazily : {C : Type 0} → Ghosts C → ℕ → List (Seat C) → List Clock → List Entry → ℕ → Type 0
RunsLazily core quiet seats clocks list t = RunsTo (lazy core quiet (quiet + t)) quiet (lazy_seats (quiet + t) seats clocks) list t

-- At moment t the senders xs have decided, and have become ys.
abbrev pub DecidedLazily : {C : Type 0} → Ghosts C → ℕ → ℕ → List (Seat C) → List Clock → List (Seat C) → List Clock → List Entry
    → List Entry → Type 0
DecidedLazily core quiet t xs ks ys cs old new =
    Decided (lazy core quiet (quiet + t)) quiet t (lazy_seats (quiet + t) xs ks) (lazy_seats (quiet + t) ys cs) old new

-- At moment t the sender x has decided, and has become y: it began this message, or none.
abbrev pub BegunLazily : {C : Type 0} → Ghosts C → ℕ → ℕ → Seat C → Clock → Seat C → Clock → Option Entry → Type 0
BegunLazily core quiet t x k y c begun =
    MatchOption begun (Idle (lazy core quiet (quiet + t)) (lazy_seat (quiet + t) x k) (lazy_seat (quiet + t) y c))
    (λ entry. Started (lazy core quiet (quiet + t)) (lazy_seat (quiet + t) x k) (lazy_seat (quiet + t) y c) t entry)

-- The sender stands lazily for some past, and if it may start then nothing of it runs.
pub record Sits {C : Type 0} (core : Ghosts C) (quiet now : ℕ) (seat : Seat C) (clock : Clock) : Type 0 where
  pub past : List Bool
  pub last : Option ℕ
  pub stands : StandsLazily core quiet now (record { seat = seat; clock = clock }) seat.timing past last
  pub free : MayStart seat.timing past last → (lazy_seat now seat clock).terminal.running ≡ None

-- Every sender does.
abbrev pub AllSit : {C : Type 0} → Ghosts C → ℕ → ℕ → List (Seat C) → List Clock → Type 0
AllSit {C} core quiet now seats clocks =
    (j : ℕ) (x : Seat C) (k : Clock) → slice_get seats j ≡ Some x → slice_get clocks j ≡ Some k → Sits core quiet now x k

-- The core of a sender made a move for each message that was begun.
abbrev pub MovesOnce : {C : Type 0} → Ghosts C → Seat C → Seat C → Type 0
MovesOnce core x y = core.moves y.terminal.core + x.terminal.sent ≤ core.moves x.terminal.core + y.terminal.sent

-- Each of them, in turn.
abbrev pub MovedBySent : {C : Type 0} → Ghosts C → List (Seat C) → List (Seat C) → Type 0
MovedBySent core xs ys = Each (MovesOnce core) xs ys

-- What the list has gained at moment t has ended at moment `end`, where the longest of it does.
pub record EndsAt (t : ℕ) (old new : List Entry) (end : ℕ) : Type 0 where
  pub from : t ≤ end
  pub ended : HaveEnded old t → HaveEnded new end
  pub last : (end ≡ t) ⊎ ((x : Entry) × In x new × (x.moment ≡ t) × (end_of x ≡ end))

-- The first place at which the clock of some sender is ready, or `most` where none is before that.
pub record FirstReady (most : ℕ) (clocks : List Clock) (first : ℕ) : Type 0 where
  pub high : first ≤ most
  pub before : (j : ℕ) (k : Clock) → slice_get clocks j ≡ Some k → first ≤ k.ready
  pub found : (first ≡ most) ⊎ ((j : ℕ) × (k : Clock) × (slice_get clocks j ≡ Some k) × (k.ready ≤ first))

-- The first place, from `now` on, at which the clock of some sender is ready, or `most` where none is before that.
pub record NextPlace (now most : ℕ) (clocks : List Clock) (place : ℕ) : Type 0 where
  pub low : now ≤ place
  pub high : place ≤ most
  pub before : (j : ℕ) (k : Clock) → slice_get clocks j ≡ Some k → (place ≤ k.ready) ⊎ (place ≡ now)
  pub found : (place ≡ most) ⊎ ((j : ℕ) × (k : Clock) × (slice_get clocks j ≡ Some k) × (k.ready ≤ place))

-- No clock but number p of the list, counted from 0, is ready at this place or before.
pub record IsAlone (place : ℕ) (clocks : List Clock) (p : ℕ) : Type 0 where
  pub within : p < length clocks
  pub others : (j : ℕ) (k : Clock) → j ≢ p → slice_get clocks j ≡ Some k → place < k.ready

-- Timers between two messages: their synchronization gap elapsed before the bus became quiet, or counts from there, and their terminal gap
-- counts behind that.
pub record IsKept (timers : Timers) : Type 0 where
  pub counted : (timers.behind ≡ 0) ⊎ (timers.behind ≡ timers.sg)
  pub small : timers.behind < 2 ^ 32
  pub over : timers.over ≡ timers.behind + timers.tg

-- No sender's synchronization gap is shorter than `least`.
abbrev pub AreNoShorter : ℕ → List Clock → Type 0
AreNoShorter least clocks = (j : ℕ) (k : Clock) → slice_get clocks j ≡ Some k → least ≤ k.sg

-- The timers of each sender are kept.
abbrev pub EachKept : List Timers → Type 0
EachKept all_timers = (j : ℕ) (w : Timers) → slice_get all_timers j ≡ Some w → IsKept w

-- All timers are kept between two messages, at the place now; `idle` has what all have heard.
pub record AreKept (idle : BusIdle) (now : ℕ) (all_timers : List Timers) : Type 0 where
  pub ended : idle.ended ≤ now
  pub least : AreNoShorter idle.least (clocks_of idle.ended all_timers)
  pub each : EachKept all_timers

-- Where one sender started alone, the timers of all others are kept. Where none did, nothing is said.
abbrev pub OthersKept : Option ℕ → List Timers → Type 0
OthersKept alone all_timers =
    IfSome alone (λ p. (p < length all_timers) × ((j : ℕ) (w : Timers) → j ≢ p → slice_get all_timers j ≡ Some w → IsKept w))

-- Timers tell that their sender is ready later than `most`, a place so far behind the one at which the bus became quiet: its interval
-- elapses later, or its terminal gap is over later.
abbrev pub IsLater : ℕ → ℕ → Timers → Type 0
IsLater most behind timers = (most < timers.due) ⊎ (behind < timers.over)

-- They tell that their sender is ready by then.
abbrev pub IsSoon : ℕ → ℕ → Timers → Type 0
IsSoon most behind timers = (timers.due ≤ most) × (timers.over ≤ behind)

-- The timers from one place of the list up to another tell that their senders are ready later.
abbrev pub AreLater : ℕ → ℕ → List Timers → ℕ → ℕ → Type 0
AreLater most behind all_timers from to = (j : ℕ) (w : Timers) → from ≤ j → j < to → slice_get all_timers j ≡ Some w → IsLater most behind w

-- The clock of a sender at the settled start.
pub record IsSettled {C : Type 0} (quiet : ℕ) (seat : Seat C) (clock : Clock) : Type 0 where
  pub sg : clock.sg ≡ seat.timing.sg
  pub tg : clock.tg ≡ seat.timing.tg
  pub told : clock.told ≡ quiet
  pub due : clock.due ≡ due_at seat (due_place seat.timing None)
  pub gap : clock.gap_from ≡ seat.timing.sg
  pub ready : IsReady clock

-- The clocks of all senders.
pub record AreSettled {C : Type 0} (quiet : ℕ) (seats : List (Seat C)) (clocks : List Clock) : Type 0 where
  pub same_length : length clocks ≡ length seats
  pub each : (j : ℕ) (x : Seat C) (k : Clock) → slice_get seats j ≡ Some x → slice_get clocks j ≡ Some k → IsSettled quiet x k

-- At moment t nobody has decided, and all that was sent has ended, or the horizon has come.
pub record RestsAt {C : Type 0} (core : Ghosts C) (quiet horizon : ℕ) (seats : List (Seat C)) (clocks : List Clock) (list : List Entry)
    (t : ℕ) : Type 0 where
  pub same_length : length clocks ≡ length seats
  pub to : RunsLazily core quiet seats clocks list t
  pub ended : HaveEnded list t ⊎ (t ≡ horizon)
  pub some : (x : Entry) → In x list → 0 < length x.message
  pub within : t ≤ horizon

-- The clocks of a bus that was busy from one place to another.
abbrev pub AreAfter : ℕ → ℕ → List Clock → List Clock → Type 0
AreAfter from to clocks after = Each (λ k c. c ≡ clock_after from to k) clocks after

-- A sender whose core was told all up to the place now.
pub record IsTold {C : Type 0} (core : Ghosts C) (quiet now : ℕ) (clock : Clock) (x y : Seat C) : Type 0 where
  pub timing : y.timing ≡ x.timing
  pub terminal : y.terminal ≡ with_passed_many x.terminal (now - clock.told) y.terminal.core
  pub stands : (timing : Timing) (past : List Bool) (last : Option ℕ)
      → StandsLazily core quiet now (record { seat = x; clock = clock }) timing past last → core.stands y.terminal.core timing past last
  pub room : 2 ^ 62 + quiet ≤ core.room y.terminal.core + now
  pub moves : core.moves y.terminal.core ≤ core.moves x.terminal.core + 1

-- Every sender was.
pub record AreTold {C : Type 0} (core : Ghosts C) (quiet now : ℕ) (clocks : List Clock) (xs ys : List (Seat C)) : Type 0 where
  pub same_length : length ys ≡ length xs
  pub each : (j : ℕ) (x y : Seat C) (k : Clock) → slice_get xs j ≡ Some x → slice_get ys j ≡ Some y → slice_get clocks j ≡ Some k
      → IsTold core quiet now k x y

-- The numbers of a sender on a cable don't let it start up to moment m.
abbrev pub IsLate : ℕ → Station → ℕ → ℕ → ℕ → ℕ → Type 0
IsLate quiet s due gap_from sent m = (quiet + m < gap_from + s.timing.tg) ⊎ ((quiet + m < due) ⊎ (length s.hand ≤ sent))
