use Rattle.bus_medium.specs.LawfulList.{lawful_list}
use Rattle.bus_medium.proofs.Steps.{lawful_once, lawful_whole}
use Rattle.bus_medium.proofs.Existence.{lawful_list_is, one_of_a_table}
use Rattle.bus_medium.proofs.laws.one_lawful_list.Goals as goal

pub returns : goal.returns
returns c = record {
  once = lawful_once;
  exists = λ quiet stations horizon own. (lawful_list quiet stations horizon, lawful_list_is c.test_decides.ensures quiet stations horizon own);
  computed = lawful_list_is c.test_decides.ensures;
  table = one_of_a_table c.test_decides.ensures;
  whole = lawful_whole;
}
