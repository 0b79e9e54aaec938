use Rattle.bus_medium.proofs.Hearing.{no_delay_is_the_bus}
use Rattle.bus_medium.proofs.CableLists.{cable_once, cable_list_is, one_cable_list_of_a_table}
use Rattle.bus_medium.proofs.laws.one_cable_list.Goals as goal

pub returns : goal.returns
returns c = record {
  once = cable_once;
  computed = cable_list_is c.test_decides.ensures;
  table = one_cable_list_of_a_table c.test_decides.ensures;
  none = no_delay_is_the_bus;
}
