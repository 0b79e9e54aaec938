use Rattle.bus_tool.proofs.TextLawLemmas.{one_text, answers_have_texts}
use Rattle.bus_tool.proofs.laws.one_text_of_a_command.Goals as goal

pub returns-clause-once : goal.returns-clause-once
returns-clause-once c = one_text (record { reads_table = c.readings_have_their_cause.ensures.found; give_hands = c.fitting_items_give_hands.ensures; one_list = c.one_lawful_list.ensures.table; one_cable = c.one_cable_list.ensures.table; runs = c.accepted_is_closed.ensures; drops = c.dropout_is_lawful.ensures; even_agree = c.even_hands_agree.ensures })

pub returns-clause-exists : goal.returns-clause-exists
returns-clause-exists c = answers_have_texts (record { reads_table = c.readings_have_their_cause.ensures.found; give_hands = c.fitting_items_give_hands.ensures; one_list = c.one_lawful_list.ensures.table; one_cable = c.one_cable_list.ensures.table; runs = c.accepted_is_closed.ensures; drops = c.dropout_is_lawful.ensures; even_agree = c.even_hands_agree.ensures })
