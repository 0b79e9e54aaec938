use Rattle.std.proofs.Common.{◌≡◌, ◌≤◌, length, arith, ap}
use Rattle.bus_table.proofs.ValidLaws.{valid_facts}
use Rattle.bus_dump.proofs.lanes.sender_count.Goals as goal

pub returns-clause-most : goal.returns-clause-most
returns-clause-most c =
    let few : length c.args.table.now.senders ≤ 128 = (valid_facts c.args.table.now c.senders.ensures.valid).few in
    let same : length c.senders.result.now ≡ length c.args.table.now.senders = ap length c.senders.ensures.value in
    omega arith
