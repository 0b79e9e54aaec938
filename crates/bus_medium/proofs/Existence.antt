-- There is a lawful list: the one that is computed.
use Rattle.std.proofs.Common.{◌≡◌, ℕ, ◌↔◌, true, List, length, refl}
use Rattle.std.proofs.lemmas.Bool.{and_parts, lt-ltb, ltb-true}
use Rattle.bus_timers.specs.MayStartTest.{may_start, TestDecides}
use Rattle.bus_strings.specs.Messages.{Entry}
use Rattle.bus_medium.specs.Past.{past, own, last_place}
use Rattle.bus_medium.specs.Lawful.{Station, HaveOwnNumbers, IsDue, IsLawful}
use Rattle.bus_medium.specs.LawfulLaws.{OneListOfATable}
use Rattle.bus_medium.specs.LawfulList.{is_due, lawful_list}
use Rattle.bus_medium.specs.Timings.{quiet_of, stations_of}
use Rattle.bus_medium.proofs.StationLaws.{stations_have_own_numbers}
use Rattle.bus_medium.proofs.RuledList.{ruled_list_is}
use Rattle.bus_medium.proofs.Steps.{due_looks, lawful_once}

-- the test of being due says so
pub due_decides : TestDecides → (q : ℕ) (l : List Entry) (s : Station) (t : ℕ) → (is_due q l s t ≡ true) ↔ IsDue q l s t
due_decides test q l s t =
    let timers = test s.timing (past q l t) (last_place q (own l s.number t)) in (
      (λ e. let both = and_parts (may_start s.timing (past q l t) (last_place q (own l s.number t))) _ e in
          record { may = timers.0 both.0; left = ltb-true (length (own l s.number t)) (length s.hand) both.1 }),
      (λ d. rw (timers.1 d.may, lt-ltb (length (own l s.number t)) (length s.hand) d.left) refl),
    )

-- the computed list is lawful
pub lawful_list_is : TestDecides → (q : ℕ) (ss : List Station) (horizon : ℕ) → HaveOwnNumbers ss → IsLawful q ss horizon (lawful_list q ss horizon)
lawful_list_is test q = ruled_list_is (IsDue q) (due_looks q) (is_due q) (due_decides test q) (λ l s t d. d.left)

-- the one list of a table
pub one_of_a_table : TestDecides → OneListOfATable
one_of_a_table test table hands horizon valid dealt =
    let q = quiet_of table in
    let ss = stations_of table hands in
    let o : HaveOwnNumbers ss = stations_have_own_numbers table hands valid dealt in
    let law : IsLawful q ss horizon (lawful_list q ss horizon) = lawful_list_is test q ss horizon o in
    (lawful_list q ss horizon, law, λ other is. lawful_once q ss horizon other (lawful_list q ss horizon) o is law)
