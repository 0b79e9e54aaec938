use Rattle.std.proofs.Common.{arith, ◌≡◌, ◌<◌, ◌≤◌, ◌+◌, length, ap, rules}
use Rattle.bus_table.proofs.ValidLaws.{valid_facts}
use Rattle.bus_margins.proofs.speaking.longest_spoken.Goals as goal

pub overflow_add-spoken : goal.overflow_add-spoken
overflow_add-spoken c =
    let few : length c.args.table.now.senders ≤ 128 = (valid_facts c.args.table.now c.senders-sender-items.ensures.valid).few in
    let same : length c.senders-sender-items.result.now ≡ length c.args.table.now.senders = ap length c.senders-sender-items.ensures.value in
    let less : c.loop-sender.spoken + c.longest_by-spoken.result < 18446744073709551616 =
    omega (arith, c.loop-sender-test.true, c.loop-sender.invariant.few, c.longest_by-spoken.ensures.bound) in
    search rules

pub returns-clause-bound : goal.returns-clause-bound
returns-clause-bound c =
    let few : length c.args.table.now.senders ≤ 128 = (valid_facts c.args.table.now c.senders-sender-items.ensures.valid).few in
    let same : length c.senders-sender-items.result.now ≡ length c.args.table.now.senders = ap length c.senders-sender-items.ensures.value in
    omega (arith, c.loop-sender.invariant.few)
