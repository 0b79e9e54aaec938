use Rattle.std.proofs.Common.{◌≤◌, ◌^◌, arith}
use Rattle.bus_wave.proofs.DigitLemmas.{few_fours, all_fours}
use Rattle.bus_wave.proofs.code.gathered.Goals as goal

pub overflow_mul-bits : goal.overflow_mul-bits
overflow_mul-bits c = let k : 4 ^ c.loop-digit.digit-index ≤ 16384 = few_fours c.loop-digit.digit-index (omega (arith, c.requires.few)) in omega arith

pub overflow_add-bits : goal.overflow_add-bits
overflow_add-bits c = let k : 4 ^ c.loop-digit.digit-index ≤ 16384 = few_fours c.loop-digit.digit-index (omega (arith, c.requires.few)) in omega (arith, c.in_ok-bits.ensures.range)

pub returns-clause-range : goal.returns-clause-range
returns-clause-range c = let k : 4 ^ c.loop-digit.digit-index ≤ 65536 = all_fours c.loop-digit.digit-index (omega (arith, c.requires.few)) in omega arith
