-- Whole stretches of a bus: a stretch in which nobody is due, a moment at which one sender alone is, and a message from
-- its first to its last bit time.
use Rattle.std.specs.Prelude.{◌≡◌, ◌≢◌, ℕ, zero, suc, ◌+◌, ◌<◌, ◌≤◌, ◌↔◌, Bool, true, List, [], ◌∷◌, ◌++◌, length, replicate, slice_get}
use Rattle.std.specs.Prelude.{Option, Some}
use Rattle.bus_timers.specs.declared.timing.Timing.{Timing}
use Rattle.bus_timers.specs.Timings.{IsSound}
use Rattle.bus_timers.specs.MayStart.{MayStart}
use Rattle.bus_timers.specs.GapPlace.{GapFrom}
use Rattle.bus_strings.specs.Members.{In}
use Rattle.bus_strings.specs.Messages.{Message, Entry, bits}
use Rattle.bus_strings.specs.Pulses.{is_on}
use Rattle.bus_medium.specs.Past.{own}
use Rattle.bus_medium.specs.Lawful.{Station, HaveOwnNumbers, IsDue, IsLawfulTo}

-- The past, and then the first d bit times of a message.
abbrev pub during : List Bool → Message → ℕ → List Bool
during heard message zero = heard
during heard message (suc d) = during heard message d ++ is_on message d ∷ []

-- A list that is lawful up to moment t stays so over a stretch of n bit times in which nobody is due.
abbrev pub IdleStretch : Type 0
IdleStretch =
    (quiet : ℕ) (stations : List Station) (t n : ℕ) (list : List Entry) → IsLawfulTo quiet stations t 0 list
    → ((u : ℕ) (sender : Station) → t ≤ u → u < t + n → In sender stations → IsDue quiet list sender u → ⊥)
    → IsLawfulTo quiet stations (t + n) 0 list

-- A list that is lawful up to the moment of one more transmission stays so with it, where its sender alone is due then.
abbrev pub LoneStart : Type 0
LoneStart =
    (quiet : ℕ) (stations : List Station) (list : List Entry) (sender : Station) (x : Entry) → HaveOwnNumbers stations
    → IsLawfulTo quiet stations x.moment 0 list → In sender stations → IsDue quiet list sender x.moment
    → ((other : Station) → In other stations → other.number ≢ sender.number → IsDue quiet list other x.moment → ⊥)
    → x.terminal ≡ sender.number → slice_get sender.hand (length (own list sender.number x.moment)) ≡ Some x.message
    → IsLawfulTo quiet stations (x.moment + 1) 0 (list ++ x ∷ [])

-- For the timers a whole message is as good as carrier on each of its bit times: it puts the place from which the terminal gap counts
-- where that carrier would.
abbrev pub MessageIsCarrier : Type 0
MessageIsCarrier =
    (sg : ℕ) (heard : List Bool) (last : Option ℕ) (message : Message) (g h : ℕ) → 5 ≤ sg → 0 < length message → GapFrom sg heard last g
    → GapFrom sg (during heard message (bits message)) last h ↔ GapFrom sg (heard ++ replicate (bits message) true) last h

-- Once the synchronization gap has elapsed, a message puts the place right behind it.
abbrev pub MessageElapsed : Type 0
MessageElapsed =
    (sg : ℕ) (heard : List Bool) (last : Option ℕ) (message : Message) (g : ℕ) → 5 ≤ sg → 0 < length message → GapFrom sg heard last g
    → g ≤ length heard → GapFrom sg (during heard message (bits message)) last (length heard + bits message)

-- Before that, a message puts the place one synchronization gap behind it.
abbrev pub MessageWaiting : Type 0
MessageWaiting =
    (sg : ℕ) (heard : List Bool) (last : Option ℕ) (message : Message) (g : ℕ) → 5 ≤ sg → 0 < length message → GapFrom sg heard last g
    → length heard < g → GapFrom sg (during heard message (bits message)) last (length heard + bits message + sg)

-- Behind the first bit time of a message, and up to its last, nobody may start.
abbrev pub NoStartDuring : Type 0
NoStartDuring =
    (timing : Timing) (heard : List Bool) (last : Option ℕ) (message : Message) (d : ℕ) → IsSound timing → 1 ≤ d → d < bits message
    → MayStart timing (during heard message d) last → ⊥
