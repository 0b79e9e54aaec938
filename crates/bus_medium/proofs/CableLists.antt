-- Whatever the delays and the wakes are there is exactly one lawful list: the one that is computed.
use Rattle.std.proofs.Common.{◌≡◌, ℕ, ◌↔◌, true, List, length, refl}
use Rattle.std.proofs.lemmas.Bool.{and_parts, lt-ltb, ltb-true}
use Rattle.bus_timers.specs.MayStartTest.{may_start, TestDecides}
use Rattle.bus_strings.specs.Messages.{Entry}
use Rattle.bus_medium.specs.Past.{own}
use Rattle.bus_medium.specs.Lawful.{Station, HaveOwnNumbers}
use Rattle.bus_medium.specs.Delays.{Delays, heard}
use Rattle.bus_medium.specs.Wakes.{Wakes, woken_past, woken_place}
use Rattle.bus_medium.specs.CableLawful.{IsDueOnCable, IsLawfulOnCable}
use Rattle.bus_medium.specs.CableLaws.{OneCableList, TheComputedCableList, OneCableListOfATable}
use Rattle.bus_medium.specs.LawfulList.{is_due_on_cable, cable_list}
use Rattle.bus_medium.specs.Timings.{quiet_of, stations_of}
use Rattle.bus_medium.proofs.StationLaws.{stations_have_own_numbers}
use Rattle.bus_medium.proofs.Hearing.{cable_looks}
use Rattle.bus_medium.proofs.Ruled.{ruled_once}
use Rattle.bus_medium.proofs.RuledList.{ruled_list_is}

pub cable_once : OneCableList
cable_once q delay wake = ruled_once (IsDueOnCable q delay wake) (cable_looks q delay wake)

-- the test of being due says so
pub cable_decides : TestDecides → (q : ℕ) (delay : Delays) (wake : Wakes) (l : List Entry) (s : Station) (t : ℕ)
    → (is_due_on_cable q delay wake l s t ≡ true) ↔ IsDueOnCable q delay wake l s t
cable_decides test q delay wake l s t =
    let past = woken_past q (wake s.number) (heard delay s.number l) t in
    let place = woken_place q (wake s.number) (own l s.number t) in
    let timers = test s.timing past place in (
      (λ e. let both = and_parts (may_start s.timing past place) _ e in
          record { may = timers.0 both.0; left = ltb-true (length (own l s.number t)) (length s.hand) both.1 }),
      (λ d. rw (timers.1 d.may, lt-ltb (length (own l s.number t)) (length s.hand) d.left) refl),
    )

pub cable_list_is : TestDecides → TheComputedCableList
cable_list_is test q delay wake =
    ruled_list_is (IsDueOnCable q delay wake) (cable_looks q delay wake) (is_due_on_cable q delay wake) (cable_decides test q delay wake) (λ l s t d. d.left)

pub one_cable_list_of_a_table : TestDecides → OneCableListOfATable
one_cable_list_of_a_table test table hands delay wake horizon valid dealt =
    let q = quiet_of table in
    let ss = stations_of table hands in
    let own : HaveOwnNumbers ss = stations_have_own_numbers table hands valid dealt in
    let law : IsLawfulOnCable q delay wake ss horizon (cable_list q delay wake ss horizon) = cable_list_is test q delay wake ss horizon own in
    (cable_list q delay wake ss horizon, law, λ other is. cable_once q delay wake ss horizon other (cable_list q delay wake ss horizon) own is law)
