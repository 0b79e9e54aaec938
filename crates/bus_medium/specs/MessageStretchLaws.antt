-- What follows of the stretches of a message, whatever its words.
-- The contract of `laws::stretches_are_bit_times` says that each of these holds; the proofs are for the crates above to cite.
use Rattle.std.specs.Prelude.{◌≡◌, ℕ, ◌+◌, ◌<◌, ◌≤◌}
use Rattle.std.specs.Option.{option_and_then}
use Rattle.bus_strings.specs.Messages.{Message, bits}
use Rattle.bus_medium.specs.Terminals.{next_place}
use Rattle.bus_medium.specs.MessageStretches.{IsSteady, IsStretch, later_place}

-- A bit time at once is a single bit time, and one more behind n is n + 1.
abbrev pub LaterIsStepByStep : Type 0
LaterIsStepByStep =
    (message : Message) (n d : ℕ) → (later_place message 1 d ≡ next_place message d)
    × (later_place message (n + 1) d ≡ option_and_then (next_place message) (later_place message n d))

-- A stretch is as long as it can be, so there is one.
abbrev pub OneStretch : Type 0
OneStretch = (message : Message) (d n k : ℕ) → IsStretch message d n → IsStretch message d k → n ≡ k

-- A message stays as it is no further than to its end.
abbrev pub SteadyWithin : Type 0
SteadyWithin = (message : Message) (d n : ℕ) → d < bits message → IsSteady message d n → d + n ≤ bits message
