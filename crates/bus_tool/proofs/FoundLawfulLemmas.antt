-- An audit finds nothing against what is observed.
use Rattle.std.proofs.Common.{sym, subst}
use Rattle.bus_strings.specs.Members.{In}
use Rattle.bus_medium.specs.Lawful.{IsLawful}
use Rattle.bus_medium.specs.Timings.{quiet_of, stations_of}
use Rattle.bus_table.specs.Hands.{hands_of}
use Rattle.bus_audit.specs.Observed.{ObservedIsRight}
use Rattle.bus_audit.proofs.Observed.{states_hands}
use Rattle.bus_hands.specs.Holds.{hold_of_hand}
use Rattle.bus_tool.specs.TextLaws.{SendersHaveHolds, ObservedIsFoundLawful, RunIsFoundLawful, DropIsFoundLawful}
use Rattle.bus_command.proofs.LawTypes.{FittingItemsGiveHands}

pub observed_is_found_lawful : ObservedIsRight → FittingItemsGiveHands → SendersHaveHolds → ObservedIsFoundLawful
observed_is_found_lawful right give have table items horizon trace valid fit is o answer found =
    let hands = hands_of table items in
    let each = (have table items valid).each in
    let states = states_hands hands trace is.terminals (λ hand i. subst (In (hold_of_hand hand)) (sym o.holds) (each hand i)) in
    let lawful = subst (λ n. IsLawful (quiet_of table) (stations_of table hands) n trace.list) (sym o.horizon) o.lawful in
    found.right.1 (right table hands trace valid (give table items valid fit) is states lawful)

pub run_is_found_lawful : ObservedIsFoundLawful → RunIsFoundLawful
run_is_found_lawful law table items trace valid fit is ran =
    law table items _ trace valid fit is (record { horizon = ran.horizon; holds = ran.holds; lawful = ran.run.lawful })

pub drop_is_found_lawful : ObservedIsFoundLawful → DropIsFoundLawful
drop_is_found_lawful law table items trace valid fit is ran =
    law table items _ trace valid fit is (record { horizon = ran.horizon; holds = ran.holds; lawful = ran.run.lawful })
