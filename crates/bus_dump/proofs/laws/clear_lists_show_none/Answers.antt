use Rattle.bus_dump.proofs.ClearLemmas.{clear_shows_none}
use Rattle.bus_dump.proofs.laws.clear_lists_show_none.Goals as goal

pub returns : goal.returns
returns c = clear_shows_none
