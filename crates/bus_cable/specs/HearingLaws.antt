-- What follows of what a terminal hears in order.
use Rattle.std.specs.Prelude.{◌≡◌, ◌↔◌, ℕ, Bool, false, List, length}
use Rattle.std.specs.List.{AllByRecursion}
use Rattle.bus_strings.specs.Members.{In}
use Rattle.bus_strings.specs.Messages.{Entry}
use Rattle.bus_strings.specs.Transmissions.{IsAscending, IsTransmission, IsClear}
use Rattle.bus_medium.specs.Delays.{Delays, cable, heard}
use Rattle.bus_cable.specs.Hearing.{hearing, hearings}

-- What a terminal hears in order is what it hears, and as many.
abbrev pub HearsEach : Type 0
HearsEach =
    (delay : Delays) (list : List Entry) (number : ℕ)
    → ((x : Entry) → In x (heard delay number list) ↔ In x (hearing delay list number)) × (length (hearing delay list number) ≡ length list)

-- On a straight cable it ascends strictly by the moment at which it is heard, then by terminal.
abbrev pub HearsInOrder : Type 0
HearsInOrder =
    (place : ℕ → ℕ) (list : List Entry) (number : ℕ) → IsAscending list → AllByRecursion IsTransmission list
    → IsAscending (hearing (cable place) list number)

-- Where no two transmissions overlap in what a terminal hears, none that it hears of others is garbled there.
abbrev pub ClearIsUngarbled : Type 0
ClearIsUngarbled =
    (delay : Delays) (list : List Entry) (number : ℕ) → IsClear (heard delay number list)
    → AllByRecursion (λ (marked : Entry × Bool). marked.1 ≡ false) (hearings delay list number)
