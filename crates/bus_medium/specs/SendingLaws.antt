-- What a message says of the timers of the terminal that sends it.
-- The contract of `laws::sending_is_not_ready` says that this holds; the proof is for the crates above to cite.
use Rattle.std.specs.Prelude.{◌≡◌, ℕ, ◌+◌, ◌<◌, Bool, true, false, List, length, Some}
use Rattle.std.specs.Prelude.{slice_index_or}
use Rattle.bus_timers.specs.declared.timing.Timing.{Timing}
use Rattle.bus_timers.specs.Timings.{IsSound}
use Rattle.bus_timers.specs.MayStart.{MayStart}
use Rattle.bus_strings.specs.Messages.{Message, bits}
use Rattle.bus_strings.specs.Pulses.{is_on}

-- A terminal whose message began at its last own start, and is at bit time d, may not start, where each pulse so far was carrier.
abbrev pub SendingIsNotReady : Type 0
SendingIsNotReady =
    (timing : Timing) (past : List Bool) (start d : ℕ) (message : Message) → IsSound timing → start + d ≡ length past → d < bits message
    → ((k : ℕ) → k < d → is_on message k ≡ true → slice_index_or past (start + k) false ≡ true)
    → MayStart timing past (Some start) → ⊥
