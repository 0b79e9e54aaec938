use Rattle.std.proofs.Common.{arith, ap, length, ◌∙◌}
use Rattle.bus_vectors.proofs.ItemLemmas.{words_length}
use Rattle.bus_vectors.proofs.hands.message.Goals as goal

pub of-requires : goal.of-requires
of-requires c = omega (arith, ap length (c.as_slice.ensures ∙ c.words-words.ensures), words_length c.args.number c.args.round c.args.i)
