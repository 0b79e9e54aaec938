use Rattle.std.proofs.Common.{arith, ◌+◌, ◌-◌, ◌/◌}
use Rattle.bus_advice.proofs.LineChange.{line_small, least_some, least_none}
use Rattle.bus_advice.proofs.cycles.greater_least.Goals as goal

pub overflow_cast-result : goal.overflow_cast-result
overflow_cast-result c =
    let small = line_small c.args.table.now c.args.sender.now c.args.place c.args.line.now c.ti-valid.ensures.valid c.requires.among c.requires.stands in
    let most = c.from-2.ensures in
    omega (arith, c.if-least-from.true)

pub returns-then-least-from : goal.returns-then-least-from
returns-then-least-from c =
    let least = c.from.ensures in
    let most = c.from-2.ensures in
    least_some c.args.table.now c.args.sender.now c.args.place c.args.deficit (c.from.result + (c.args.deficit + 20 - 1) / 20) c.args.line.now
    c.ti-valid.ensures.valid c.requires.short c.requires.among c.requires.stands (omega arith) (omega arith) (omega (arith, c.if-least-from.true))

pub returns-else-least-from : goal.returns-else-least-from
returns-else-least-from c =
    let least = c.from.ensures in
    let most = c.from-2.ensures in
    least_none c.args.table.now c.args.sender.now c.args.place c.args.deficit (c.from.result + (c.args.deficit + 20 - 1) / 20) c.args.line.now
    c.ti-valid.ensures.valid c.requires.short c.requires.among c.requires.stands (omega arith) (omega (arith, c.if-least-from.false))
