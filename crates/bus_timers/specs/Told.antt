-- What the calls of a core do to what it stands for, and to the count of its moves.
--   stands   what a core stands for: a timing, a past, and the place of the last own start in it
use Rattle.std.specs.Prelude.{◌≡◌, ◌↔◌, ◌⊎◌, ℕ, ◌+◌, ◌-◌, ◌^◌, ◌++◌, Bool, IsTrue, List, length, Option, Some}
use Rattle.bus_timers.specs.declared.timing.Timing.{Timing}
use Rattle.bus_timers.specs.MayStart.{MayStart}

-- What a core stands for.
abbrev pub Stands : Type 1
Stands = Timing → List Bool → Option ℕ → Type 0

-- It tells whether the terminal may start, after every past for which it stands.
abbrev pub TellsReady : Stands → Bool → Type 0
TellsReady stands ready =
    (timing : Timing) (past : List Bool) (last : Option ℕ) → stands timing past last → (IsTrue ready ↔ MayStart timing past last)

-- The terminal has started: the last own start is at the end of each past for which it stood.
abbrev pub HasStarted : Stands → Stands → Type 0
HasStarted before after =
    (timing : Timing) (past : List Bool) (last : Option ℕ) → before timing past last → after timing past (Some (length past))

-- It has heard these bit times: they are behind each past for which it stood.
abbrev pub HasHeard : Stands → Stands → List Bool → Type 0
HasHeard before after bits =
    (timing : Timing) (past : List Bool) (last : Option ℕ) → before timing past last → after timing (past ++ bits) last

-- A count rose by one, or stands at the last value of its type.
abbrev pub CountsOne : ℕ → ℕ → Type 0
CountsOne old new = (new ≡ old + 1) ⊎ ((new ≡ old) × (old ≡ 2 ^ 64 - 1))
