use Rattle.std.proofs.Common.{arith}
use Rattle.bus_strings.proofs.KeptLemmas.{bits_within}
use Rattle.bus_strings.proofs.pulses.bits.Goals as goal

pub returns-clause-least : goal.returns-clause-least
returns-clause-least c = omega (arith, c.bits.ensures.value, (bits_within c.args.message.now c.bits.ensures.ranges).0)

pub returns-clause-most : goal.returns-clause-most
returns-clause-most c = omega (arith, c.bits.ensures.value, (bits_within c.args.message.now c.bits.ensures.ranges).1)
