use Rattle.std.proofs.Common.{arith, ◌≡◌, ◌+◌}
use Rattle.bus_advice.proofs.CycleChange.{sync_some, sync_none}
use Rattle.bus_advice.proofs.cycles.greater_synchronization.Goals as goal

pub returns-then-sg-le-MOST_SG : goal.returns-then-sg-le-MOST_SG
returns-then-sg-le-MOST_SG c =
    let sg = c.sg.ensures.value in
    let value : c.sg.result + c.args.deficit ≡ c.args.table.now.sg + c.args.deficit = omega arith in
    sync_some c.args.table.now c.args.deficit (c.sg.result + c.args.deficit) c.sg.ensures.valid c.requires.short value
    (omega (arith, c.if-sg-le-MOST_SG.true))

pub returns-else-sg-le-MOST_SG : goal.returns-else-sg-le-MOST_SG
returns-else-sg-le-MOST_SG c =
    let sg = c.sg.ensures.value in
    let value : c.sg.result + c.args.deficit ≡ c.args.table.now.sg + c.args.deficit = omega arith in
    sync_none c.args.table.now c.args.deficit (c.sg.result + c.args.deficit) c.requires.short value
    (omega (arith, c.if-sg-le-MOST_SG.false))
