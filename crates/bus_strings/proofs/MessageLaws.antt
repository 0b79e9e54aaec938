-- What follows of the length of a message.
use Rattle.std.specs.Prelude.{◌<◌, [], ◌∷◌, length}
use Rattle.std.proofs.Common.{arith}
use Rattle.std.proofs.lemmas.List.Sums.{sum_by-cons}
use Rattle.bus_strings.specs.Messages.{Message, word_count, bits}

-- a message has bit times
pub bits_some : (message : Message) → 0 < length message → 0 < bits message
bits_some [] h = absurd (omega arith)
bits_some (string ∷ message) h = omega (arith, sum_by-cons word_count string message)
