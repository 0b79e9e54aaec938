use Rattle.std.proofs.Common.{◌≡◌, ◌<◌, List, arith, length, get_or, ap, ◌∙◌}
use Rattle.std.proofs.lemmas.List.Sums.{sum_by_more}
use Rattle.bus_table.specs.Tables.{Sender}
use Rattle.bus_takes.specs.Takes.{untaken_of}
use Rattle.bus_takes.proofs.untaken.untaken.Goals as goal

pub loop-sender-preserved : goal.loop-sender-preserved
loop-sender-preserved c =
    let table = c.args.table.now in
    let i = c.loop-sender.sender-index in
    let item = c.sender-item.result in
    let same = c.senders-sender-items.ensures.value in
    let size : length c.senders-sender-items.result.now ≡ length table.senders = ap length same in
    let less : i < length table.senders = omega (arith, size, c.loop-sender-test.true) in
    let own : untaken_of table item ≡ untaken_of table (get_or table.senders i item) =
    ap (untaken_of table) (c.sender-item.is ∙ ap (λ (l : List Sender). get_or l i item) same) in
    let more = sum_by_more (untaken_of table) table.senders i item less in
    (omega (arith, c.loop-sender.invariant.0, c.untaken_of.ensures, own, more), omega (arith, c.loop-sender.invariant.1, c.untaken_of.type_inv))
