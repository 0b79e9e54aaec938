use Rattle.std.proofs.Common.{◌+◌, arith, ap}
use Rattle.bus_table.specs.Lengths.{words_at_most}
use Rattle.bus_table.proofs.LengthLemmas.{word_bounds}
use Rattle.bus_reach.proofs.WaitLemmas.{taken_words}
use Rattle.bus_reach.proofs.waiting.string_end.Goals as goal

pub words_at_most-requires : goal.words_at_most-requires
words_at_most-requires c =
    let bounds = word_bounds c.args.sender.now c.sends-sends.ensures.ranges in
    omega (arith, bounds.most, taken_words c.sends-sends.result.now (c.args.place + 1), ap words_at_most c.sends-sends.ensures.value)

pub overflow_mul-result : goal.overflow_mul-result
overflow_mul-result c =
    let bounds = word_bounds c.args.sender.now c.sends-sends.ensures.ranges in
    omega (arith, bounds.most, taken_words c.sends-sends.result.now (c.args.place + 1), ap words_at_most c.sends-sends.ensures.value, c.words_at_most.ensures)

pub overflow_add-result : goal.overflow_add-result
overflow_add-result c =
    let bounds = word_bounds c.args.sender.now c.sends-sends.ensures.ranges in
    omega (arith, bounds.few, c.requires, bounds.most, taken_words c.sends-sends.result.now (c.args.place + 1), ap words_at_most c.sends-sends.ensures.value, c.words_at_most.ensures)

pub returns-clause-bound : goal.returns-clause-bound
returns-clause-bound c =
    let bounds = word_bounds c.args.sender.now c.sends-sends.ensures.ranges in
    omega (arith, bounds.few, c.requires, bounds.most, taken_words c.sends-sends.result.now (c.args.place + 1), ap words_at_most c.sends-sends.ensures.value, c.words_at_most.ensures)
