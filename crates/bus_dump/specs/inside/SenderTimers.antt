-- What a writer keeps of the timers of a sender, what that stands for, and how it moves.
use Rattle.std.specs.Prelude.{◌≡◌, ℕ, ◌+◌, ◌^◌, ◌<◌, min, Bool, ◌&&◌, ◌||◌, nat_le, nat_lt, List, Option, Some, if◌then◌else◌}
use Rattle.bus_timers.specs.Timings.{IsSound, due_place}
use Rattle.bus_timers.specs.GapPlace.{GapFrom}
use Rattle.bus_dump.specs.declared.sender_timers.SenderTimers.{SenderTimers}
use Rattle.bus_dump.specs.declared.sender_timers.Elapsed.{Elapsed}

-- What is kept stands for the timers of a sender with this timing, after this past and this last own start.
pub record Keeps (sender_timers : SenderTimers) (past : List Bool) (last : Option ℕ) : Type 0 where
  pub sound : IsSound sender_timers.timing
  pub interval : sender_timers.due ≡ due_place sender_timers.timing last
  pub from : GapFrom sender_timers.timing.sg past last sender_timers.gap

-- Its numbers are far below the end of their type.
pub record IsLow (sender_timers : SenderTimers) : Type 0 where
  pub sound : IsSound sender_timers.timing
  pub due : sender_timers.due < 2 ^ 43
  pub gap : sender_timers.gap < 2 ^ 43

-- The timers that it tells at a place.
abbrev pub tells_at : ℕ → SenderTimers → Elapsed
tells_at place sender_timers = record {
  terminal = sender_timers.terminal;
  interval = nat_le sender_timers.due place;
  synchronization = nat_le sender_timers.gap place;
  gap = nat_le (sender_timers.gap + sender_timers.timing.tg) place;
  may = nat_le sender_timers.due place && nat_le (sender_timers.gap + sender_timers.timing.tg) place;
}

-- The place from which the terminal gap counts behind a start at this place, if there is one.
abbrev pub gap_from : ℕ → Bool → SenderTimers → ℕ
gap_from place starts sender_timers = if starts then place + sender_timers.timing.sg else sender_timers.gap

-- The place from which it counts behind a stretch of carrier.
abbrev pub gap_behind : ℕ → ℕ → ℕ → ℕ → ℕ
gap_behind from to sg gap = if nat_le gap from then to else to + sg

-- The timers at a later place, where its terminal starts at the first or not, and the bus has carrier from there on or not.
abbrev pub passed : ℕ → ℕ → Bool → Bool → SenderTimers → SenderTimers
passed from to starts carrier sender_timers = record sender_timers {
  due = if starts then from + sender_timers.timing.ti else sender_timers.due;
  gap = if carrier then gap_behind from to sender_timers.timing.sg (gap_from from starts sender_timers)
      else gap_from from starts sender_timers;
}

-- The last own start, where the terminal starts at this place or not.
abbrev pub last_behind : ℕ → Bool → Option ℕ → Option ℕ
last_behind place starts last = if starts then Some place else last

-- The lesser of a place and a limit, where the place lies behind another; else the limit.
abbrev pub later_or : ℕ → ℕ → ℕ → ℕ
later_or behind limit place = if nat_lt behind place then min place limit else limit

-- The next place, up to a limit, at which one of its timers may turn.
abbrev pub next_turn : ℕ → ℕ → Bool → Bool → SenderTimers → ℕ
next_turn place limit starts carrier sender_timers =
    if starts || (carrier && nat_lt sender_timers.gap place) then place + 1
    else (if carrier then later_or place limit sender_timers.due
    else later_or place (later_or place (later_or place limit sender_timers.due) sender_timers.gap)
    (sender_timers.gap + sender_timers.timing.tg))
