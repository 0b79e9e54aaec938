use Rattle.std.proofs.Common.{arith}
use Rattle.std.proofs.lemmas.Grind.{common_steps}
use Rattle.bus_picture.proofs.strings.put_words_in.Goals as goal

pub returns : goal.returns
returns g c = grind (arith, common_steps)

pub returns-then-area-lt-NAME_ROOM : goal.returns-then-area-lt-NAME_ROOM
returns-then-area-lt-NAME_ROOM g c = grind (arith, common_steps)
