use Rattle.bus_picture.proofs.CountLemmas.{left_out_are_silent}
use Rattle.bus_picture.proofs.laws.left_out_are_silent.Goals as goal

pub returns : goal.returns
returns c = left_out_are_silent
