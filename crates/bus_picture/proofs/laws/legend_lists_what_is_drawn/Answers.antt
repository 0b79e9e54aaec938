use Rattle.bus_picture.proofs.LegendLemmas as lemmas
use Rattle.bus_picture.proofs.laws.legend_lists_what_is_drawn.Goals as goal

pub returns : goal.returns
returns c = lemmas.legend_lists_what_is_drawn
