use Rattle.std.proofs.Common.{arith}
use Rattle.bus_strings.proofs.KeptLemmas.{bits_within}
use Rattle.bus_strings.proofs.message.Message.push.Goals as goal

pub overflow_add-all : goal.overflow_add-all
overflow_add-all c = omega (arith, c.bits.ensures.value, (bits_within c.args.self.now c.bits.ensures.ranges).1)

pub overflow_add-all-2 : goal.overflow_add-all-2
overflow_add-all-2 c = omega (arith, c.bits.ensures.value, (bits_within c.args.self.now c.bits.ensures.ranges).1, c.word_count.ensures.most)
