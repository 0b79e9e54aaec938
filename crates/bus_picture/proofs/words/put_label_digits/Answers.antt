use Rattle.std.proofs.Common.{arith}
use Rattle.std.proofs.lemmas.Grind.{common_steps}
use Rattle.bus_picture.proofs.words.put_label_digits.Goals as goal

pub returns : goal.returns
returns g c = grind (arith, common_steps)

pub returns-then-area-lt-LABEL_ROOM : goal.returns-then-area-lt-LABEL_ROOM
returns-then-area-lt-LABEL_ROOM g c = grind (arith, common_steps)
