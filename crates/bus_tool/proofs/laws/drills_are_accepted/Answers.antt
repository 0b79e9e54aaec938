use Rattle.bus_tool.proofs.DrillLemmas.{drills_are_accepted}
use Rattle.bus_tool.proofs.laws.drills_are_accepted.Goals as goal

pub returns : goal.returns
returns c =
    drills_are_accepted c.made_tables_are_valid.ensures c.made_items_fit.ensures c.made_items_are_even.ensures
    c.fitting_items_give_hands.ensures c.closed_ends_in_cycles.ensures
