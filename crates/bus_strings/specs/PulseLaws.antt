-- What follows of the pulses of a message, whatever its words.
-- The contract of `laws::pulses_cover` says that each of these holds; `PulsesAlongLaws` has the proofs, for the crates above to cite.
use Rattle.std.specs.Prelude.{◌≡◌, ℕ, ◌+◌, ◌-◌, ◌<◌, ◌≤◌, true, false, nat_lt, length}
use Rattle.bus_strings.specs.Limits.{inner_gap}
use Rattle.bus_strings.specs.Messages.{Message, bits}
use Rattle.bus_strings.specs.Pulses.{pulse_start, pulse_length, is_on}

-- The first bit time of a message is on.
abbrev pub FirstIsOn : Type 0
FirstIsOn = (message : Message) → 0 < length message → is_on message 0 ≡ true

-- The last bit time of a message is on.
abbrev pub LastIsOn : Type 0
LastIsOn = (message : Message) → 0 < length message → is_on message (bits message - 1) ≡ true

-- Behind its last bit time a message is quiet.
abbrev pub QuietBehind : Type 0
QuietBehind = (message : Message) (d : ℕ) → bits message ≤ d → is_on message d ≡ false

-- From bit time k of a message on, one is on before an inner gap has passed.
pub record Pulse (message : Message) (k : ℕ) : Type 0 where
  pub at : ℕ
  pub low : k ≤ at
  pub high : at ≤ k + inner_gap
  pub is_on : is_on message at ≡ true

-- Quiet within a message is no longer than the inner gap.
abbrev pub PulseSoon : Type 0
PulseSoon = (message : Message) (k : ℕ) → k + inner_gap < bits message → Pulse message k

-- From the beginning of a pulse to the beginning of the next one, what is on is the pulse.
abbrev pub OnWithinPulse : Type 0
OnWithinPulse =
    (message : Message) (k d : ℕ) → k < length message → d < pulse_length message k + inner_gap
    → is_on message (pulse_start message k + d) ≡ nat_lt d (pulse_length message k)

-- The last pulse ends with the message.
abbrev pub LastPulseEnds : Type 0
LastPulseEnds =
    (message : Message) (k : ℕ) → k + 1 ≡ length message
    → pulse_start message k + pulse_length message k ≡ bits message

-- The next pulse begins the inner gap behind the end of this one.
abbrev pub NextPulse : Type 0
NextPulse =
    (message : Message) (k : ℕ) → k < length message
    → pulse_start message (k + 1) ≡ pulse_start message k + pulse_length message k + inner_gap
