use Rattle.bus_reach.proofs.laws.one_list_on_a_cable.Goals as goal

pub returns : goal.returns
returns c = record { table = c.one_cable_list.ensures.table; none = c.one_cable_list.ensures.none }
