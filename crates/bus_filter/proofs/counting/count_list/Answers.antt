use Rattle.std.proofs.Common.{List, Bool, arith, take, ap, ◌∙◌}
use Rattle.std.specs.List.{sum_by, zip}
use Rattle.bus_strings.specs.Messages.{Entry}
use Rattle.bus_strings.specs.Transmissions.{marks}
use Rattle.bus_filter.specs.Received.{Taker}
use Rattle.bus_filter.specs.inside.Putting.{marked_count}
use Rattle.bus_filter.proofs.CountLemmas.{counted_more, list_counted}
use Rattle.bus_strings.proofs.MarkLaws.{next_marked, all_marked}
use Rattle.bus_filter.proofs.counting.count_list.Goals as goal

pub loop-x-preserved : goal.loop-x-preserved
loop-x-preserved c =
    let taker : Taker = record { number = c.args.number; takes = c.args.takes.now } in
    let list : List Entry = c.args.list.now in
    let n = next_marked list c.loop-x.x-index c.x-item.result c.loop-x.marks c.next.new.self c.next.result c.eq-garbled.result
    c.x-item.is c.loop-x-test.true c.loop-x.invariant.left c.next.ensures.steps c.eq-garbled.ensures in
    let m = counted_more (marked_count taker) (take c.loop-x.x-index (zip list (marks list))) _ (c.x-item.result, c.eq-garbled.result) n.0 in
    record {
      left = n.1;
      counted = omega (arith, m, c.loop-x.invariant.counted, c.count_keyed.ensures.count c.eq-garbled.result c.key.ensures.value);
      bound = omega (arith, c.loop-x.invariant.bound, c.count_keyed.ensures.bound);
    }

pub returns-clause-count : goal.returns-clause-count
returns-clause-count c =
    let taker : Taker = record { number = c.args.number; takes = c.args.takes.now } in
    c.loop-x.invariant.counted
    ∙ ap (λ (pairs : List (Entry × Bool)). sum_by (marked_count taker) pairs) (all_marked c.args.list.now c.loop-x.x-index c.loop-x-test.false)
    ∙ list_counted c.args.list.now taker
