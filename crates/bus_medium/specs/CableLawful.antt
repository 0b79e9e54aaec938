-- When a list of transmissions is the one that the senders of a bus make on a cable with length, whenever they were powered up. It differs
-- from the definition without delays and wakes in who is due alone.
use Rattle.std.specs.Prelude.{ℕ, ◌<◌, List, length}
use Rattle.bus_timers.specs.MayStart.{MayStart}
use Rattle.bus_strings.specs.Messages.{Entry}
use Rattle.bus_medium.specs.Past.{own}
use Rattle.bus_medium.specs.Lawful.{Station, IsRuled, IsRuledTo}
use Rattle.bus_medium.specs.Delays.{Delays, heard}
use Rattle.bus_medium.specs.Wakes.{Wakes, woken_past, woken_place}

-- At moment t, after the past that it made of what it heard since its power-up, the sender may start and has a message left.
pub record IsDueOnCable (quiet : ℕ) (delay : Delays) (wake : Wakes) (list : List Entry) (sender : Station) (t : ℕ) : Type 0 where
  pub may : MayStart sender.timing (woken_past quiet (wake sender.number) (heard delay sender.number list) t)
      (woken_place quiet (wake sender.number) (own list sender.number t))
  pub left : length (own list sender.number t) < length sender.hand

-- The list is lawful for these senders, delays and wakes up to the horizon: a sender starts exactly where it is due on the cable.
abbrev pub IsLawfulOnCable : ℕ → Delays → Wakes → List Station → ℕ → List Entry → Type 0
IsLawfulOnCable quiet delay wake = IsRuled (IsDueOnCable quiet delay wake)

-- It is so for all moments before t, and at t for the terminals with numbers below n.
abbrev pub IsLawfulOnCableTo : ℕ → Delays → Wakes → List Station → ℕ → ℕ → List Entry → Type 0
IsLawfulOnCableTo quiet delay wake = IsRuledTo (IsDueOnCable quiet delay wake)
