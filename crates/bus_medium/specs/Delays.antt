-- What terminals hear of a list of transmissions where the cable has length: each hears a transmission later than it is sent, by a number
-- of bit times that may be another for each terminal and for each transmission, and need not be the same the other way round.
use Rattle.std.specs.Prelude.{◌≡◌, ℕ, ◌+◌, ◌≤◌, List, map}
use Rattle.std.specs.Int.{abs_diff}
use Rattle.bus_strings.specs.Members.{In}
use Rattle.bus_strings.specs.Messages.{Entry}
use Rattle.bus_strings.specs.Transmissions.{end_of}

-- For a transmission and the number of a terminal: by how many bit times later the terminal hears it.
abbrev pub Delays : Type 0
Delays = Entry → ℕ → ℕ

-- The terminal with this number hears nothing of the senders with these numbers later by more than `most`.
abbrev pub HearsWithin : ℕ → List ℕ → Delays → ℕ → Type 0
HearsWithin most senders delay number = (x : Entry) → In x.terminal senders → delay x number ≤ most

-- A terminal hears itself at once, and none of the senders with these numbers hears another later by more than `most`.
pub record AreDelays (most : ℕ) (senders : List ℕ) (delay : Delays) : Type 0 where
  pub own : (x : Entry) → delay x x.terminal ≡ 0
  pub within : (number : ℕ) → In number senders → HearsWithin most senders delay number

-- Nobody hears anything later than it is sent.
abbrev pub at_once : Delays
at_once transmission number = 0

-- The transmission so many bit times later.
abbrev pub later : ℕ → Entry → Entry
later bits x = record { moment = x.moment + bits; terminal = x.terminal; message = x.message }

-- What the terminal with this number hears of a list.
abbrev pub heard : Delays → ℕ → List Entry → List Entry
heard delay number list = map (λ x. later (delay x number) x) list

-- The moment at which the terminal with this number has heard a transmission to its end.
abbrev pub heard_end : Delays → Entry → ℕ → ℕ
heard_end delay x number = end_of x + delay x number

-- How far two places on a straight cable are apart, each counted in bit times from its beginning.
abbrev pub distance : ℕ → ℕ → ℕ
distance a b = abs_diff a b

-- The delays of terminals at these places of a straight cable: the distance between two of them.
abbrev pub cable : (ℕ → ℕ) → Delays
cable place x number = distance (place x.terminal) (place number)
