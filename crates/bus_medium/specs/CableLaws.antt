-- Laws of lawful lists on a cable: whatever the delays and the wakes are there is exactly one for each horizon, it can be computed, and
-- without delays and wakes it is the lawful list of the bus.
use Rattle.std.specs.Prelude.{◌≡◌, ◌↔◌, ℕ, List, map, IsTrue}
use Rattle.bus_strings.specs.Members.{In}
use Rattle.bus_strings.specs.Messages.{Entry}
use Rattle.bus_table.specs.Tables.{Table, Hand}
use Rattle.bus_table.specs.Hands.{are_hands}
use Rattle.bus_table.specs.Valid.{is_valid}
use Rattle.bus_medium.specs.Lawful.{Station, HaveOwnNumbers, IsLawful}
use Rattle.bus_medium.specs.Delays.{Delays, AreDelays}
use Rattle.bus_medium.specs.Wakes.{Wakes}
use Rattle.bus_medium.specs.CableLawful.{IsLawfulOnCable}
use Rattle.bus_medium.specs.LawfulList.{cable_list}
use Rattle.bus_medium.specs.Timings.{quiet_of, stations_of}

-- Where no two senders have the same number there is one lawful list on a cable at most.
abbrev pub OneCableList : Type 0
OneCableList =
    (quiet : ℕ) (delay : Delays) (wake : Wakes) (stations : List Station) (horizon : ℕ) (list other : List Entry) → HaveOwnNumbers stations
    → IsLawfulOnCable quiet delay wake stations horizon list → IsLawfulOnCable quiet delay wake stations horizon other → list ≡ other

-- And the one that is computed is lawful.
abbrev pub TheComputedCableList : Type 0
TheComputedCableList =
    (quiet : ℕ) (delay : Delays) (wake : Wakes) (stations : List Station) (horizon : ℕ) → HaveOwnNumbers stations
    → IsLawfulOnCable quiet delay wake stations horizon (cable_list quiet delay wake stations horizon)

-- Every valid table, with a hand for each of its senders, has exactly one lawful list for all delays, all wakes and each horizon.
abbrev pub OneCableListOfATable : Type 0
OneCableListOfATable =
    (table : Table) (hands : List Hand) (delay : Delays) (wake : Wakes) (horizon : ℕ) → IsTrue (is_valid table)
    → IsTrue (are_hands table.senders hands)
    → (list : List Entry) × IsLawfulOnCable (quiet_of table) delay wake (stations_of table hands) horizon list
    × ((other : List Entry) → IsLawfulOnCable (quiet_of table) delay wake (stations_of table hands) horizon other → other ≡ list)

-- Without delays, where all senders wake at the settled start, a list is lawful on the cable exactly where it is lawful on the bus.
abbrev pub NoDelayIsTheBus : Type 0
NoDelayIsTheBus =
    (quiet : ℕ) (delay : Delays) (wake : Wakes) (stations : List Station) (horizon : ℕ) (list : List Entry)
    → AreDelays 0 (map (λ sender. sender.number) stations) delay
    → ((sender : Station) → In sender stations → wake sender.number ≡ 0)
    → IsLawfulOnCable quiet delay wake stations horizon list ↔ IsLawful quiet stations horizon list
