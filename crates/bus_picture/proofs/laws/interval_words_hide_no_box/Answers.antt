use Rattle.bus_picture.proofs.AreaLemmas.{interval_words_hide_no_box}
use Rattle.bus_picture.proofs.laws.interval_words_hide_no_box.Goals as goal

pub returns : goal.returns
returns c = interval_words_hide_no_box
