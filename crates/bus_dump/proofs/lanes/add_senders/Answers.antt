use Rattle.std.proofs.Common.{◌≡◌, ◌≤◌, ◌+◌, true, List, length, map, arith, ap, ◌∙◌}
use Rattle.std.proofs.lemmas.List.{take_all}
use Rattle.bus_table.specs.Tables.{Sender}
use Rattle.bus_table.specs.Turns.{turn_key, turn_order}
use Rattle.bus_table.proofs.TurnLaws.{length-sort}
use Rattle.bus_dump.specs.Lanes.{lane_with, sender_lane}
use Rattle.bus_dump.proofs.LaneLemmas.{mapped_more}
use Rattle.bus_dump.proofs.lanes.add_senders.Goals as goal

pub loop-k-preserved : goal.loop-k-preserved
loop-k-preserved c =
    let i = c.loop-k.invariant in
    record {
      items = mapped_more sender_lane (turn_order c.args.table.now) c.loop-k.k c.turn_at.result.now _ c.loop-k.lanes.items c.push.new.self.items
          c.turn_at.ensures (ap (lane_with true) c.number-terminal.ensures.value) i.items c.push.ensures.items;
      count = c.push.ensures.len ∙ ap (λ n. n + 1) i.count;
    }

pub returns-clause-items : goal.returns-clause-items
returns-clause-items c =
    let order : List Sender = turn_order c.args.table.now in
    let long : length order ≡ length c.args.table.now.senders = length-sort (turn_key c.args.table.now.mode) c.args.table.now.senders in
    let all : length order ≤ c.loop-k.k = omega (arith, c.sender_count-k-end.ensures.value) in
    c.loop-k.invariant.items ∙ ap (map sender_lane) (take_all c.loop-k.k order all)
