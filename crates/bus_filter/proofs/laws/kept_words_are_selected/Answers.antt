use Rattle.bus_filter.proofs.HearingLemmas.{string_kept}
use Rattle.bus_filter.proofs.laws.kept_words_are_selected.Goals as goal

pub returns : goal.returns
returns c = string_kept
