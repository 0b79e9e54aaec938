use Rattle.std.proofs.Common.{arith}
use Rattle.std.proofs.lemmas.Grind.{common_steps}
use Rattle.bus_picture.proofs.terminal_gaps.put_words_over.Goals as goal

pub returns-then-has_words : goal.returns-then-has_words
returns-then-has_words g c = grind (arith, common_steps)

pub returns-else-has_words : goal.returns-else-has_words
returns-else-has_words g c = grind (arith, common_steps)
