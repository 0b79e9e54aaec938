use Rattle.std.proofs.Common.{arith, List, Bool, take, ap, ◌∙◌}
use Rattle.std.specs.List.{sum_by, zip}
use Rattle.bus_strings.specs.Messages.{Entry}
use Rattle.bus_strings.specs.Transmissions.{marks}
use Rattle.bus_filter.specs.Received.{Taker}
use Rattle.bus_filter.specs.inside.Putting.{marked_count}
use Rattle.bus_filter.proofs.CountLemmas.{counted_more, list_counted}
use Rattle.bus_strings.proofs.MarkLaws.{all_marked}
use Rattle.bus_filter.proofs.KeyLemmas.{as_many, key_at, next_pair, marked_at}
use Rattle.bus_filter.proofs.counting.count_gathered.Goals as goal

pub bounds-keys-at : goal.bounds-keys-at
bounds-keys-at c = omega (arith, c.loop-at-test.true, as_many c.args.list.now c.args.keys.now c.requires.keys)

pub count_keyed-requires-clause-range : goal.count_keyed-requires-clause-range
count_keyed-requires-clause-range c = c.requires.keys.range c.loop-at.at

pub loop-at-preserved : goal.loop-at-preserved
loop-at-preserved c =
    let taker : Taker = record { number = c.args.number; takes = c.args.takes.now } in
    let list : List Entry = c.args.list.now in
    let x : Entry = c.index-list-at.result in
    let m = counted_more (marked_count taker) (take c.loop-at.at (zip list (marks list))) _ (x, marked_at list c.loop-at.at) (next_pair list c.loop-at.at x c.loop-at-test.true c.index-list-at.is) in
    let own = c.count_keyed.ensures.count (marked_at list c.loop-at.at) (key_at list c.args.keys.now c.loop-at.at x c.requires.keys c.loop-at-test.true c.index-list-at.is) in
    record {
      counted = omega (arith, m, c.loop-at.invariant.counted, own);
      bound = omega (arith, c.loop-at.invariant.bound, c.count_keyed.ensures.bound);
    }

pub returns-clause-count : goal.returns-clause-count
returns-clause-count c =
    let taker : Taker = record { number = c.args.number; takes = c.args.takes.now } in
    c.loop-at.invariant.counted
    ∙ ap (λ (pairs : List (Entry × Bool)). sum_by (marked_count taker) pairs) (all_marked c.args.list.now c.loop-at.at c.loop-at-test.false)
    ∙ list_counted c.args.list.now taker
