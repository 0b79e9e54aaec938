use Rattle.std.proofs.Common.{◌+◌, length, drop, arith, ap}
use Rattle.bus_table.specs.Turns.{turn_order}
use Rattle.bus_table.proofs.ValidLaws.{valid_facts}
use Rattle.bus_schedule.specs.Even.{messages_of}
use Rattle.bus_schedule.proofs.PlaceLemmas.{place_within, turn_sender, turn_behind, turn_more, none_left, as_long, turn_within}
use Rattle.bus_schedule.proofs.schedule.add_by_gaps.Goals as goal

pub offset_bounds-senders-place : goal.offset_bounds-senders-place
offset_bounds-senders-place c =
    let facts = valid_facts c.args.table.now c.senders-senders.ensures.valid in
    let inside = place_within c.args.table.now c.args.places.now c.loop-place.place-index c.requires.places c.loop-place-test.true in
    omega (arith, facts.few, inside)

pub bounds-senders-place : goal.bounds-senders-place
bounds-senders-place c =
    let inside = place_within c.args.table.now c.args.places.now c.loop-place.place-index c.requires.places c.loop-place-test.true in
    omega (arith, inside, ap length c.senders-senders.ensures.value)

pub message_at-message-requires-clause-place : goal.message_at-message-requires-clause-place
message_at-message-requires-clause-place c = place_within c.args.table.now c.args.places.now c.loop-place.place-index c.requires.places c.loop-place-test.true

pub overflow_add-from : goal.overflow_add-from
overflow_add-from c =
    let at = turn_sender c.args.table.now c.senders-senders.result.now c.args.places.now c.loop-place.place-index c.index-senders-place.result c.senders-senders.ensures.value c.requires.places c.loop-place-test.true c.index-senders-place.is in
    let low = turn_within (messages_of c.args.hands.now) c.args.round (drop c.loop-place.place-index (turn_order c.args.table.now)) (drop (c.loop-place.place-index + 1) (turn_order c.args.table.now)) c.loop-place.from _ c.loop-place.list.items _ c.index-senders-place.result
    c.loop-place.invariant (turn_behind c.args.table.now c.args.places.now c.loop-place.place-index c.index-senders-place.result c.requires.places c.loop-place-test.true at) in
    omega (arith, low, c.requires.short, c.from.ensures, c.tg.ensures.value)

pub add_turn-requires : goal.add_turn-requires
add_turn-requires c =
    let at = turn_sender c.args.table.now c.senders-senders.result.now c.args.places.now c.loop-place.place-index c.index-senders-place.result c.senders-senders.ensures.value c.requires.places c.loop-place-test.true c.index-senders-place.is in
    let low = turn_within (messages_of c.args.hands.now) c.args.round (drop c.loop-place.place-index (turn_order c.args.table.now)) (drop (c.loop-place.place-index + 1) (turn_order c.args.table.now)) c.loop-place.from _ c.loop-place.list.items _ c.index-senders-place.result
    c.loop-place.invariant (turn_behind c.args.table.now c.args.places.now c.loop-place.place-index c.index-senders-place.result c.requires.places c.loop-place-test.true at) in
    omega (arith, low, c.requires.short, c.from.ensures, c.tg.ensures.value)

pub loop-place-preserved : goal.loop-place-preserved
loop-place-preserved c =
    let at = turn_sender c.args.table.now c.senders-senders.result.now c.args.places.now c.loop-place.place-index c.index-senders-place.result c.senders-senders.ensures.value c.requires.places c.loop-place-test.true c.index-senders-place.is in
    turn_more (messages_of c.args.hands.now) c.args.round (drop c.loop-place.place-index (turn_order c.args.table.now)) (drop (c.loop-place.place-index + 1) (turn_order c.args.table.now)) c.loop-place.from _ c.loop-place.list.items _ c.index-senders-place.result c.message_at-message.result.now c.add_turn.new.list.items (c.loop-place.from + c.from.result) c.in_ok-from.from
    c.loop-place.invariant (turn_behind c.args.table.now c.args.places.now c.loop-place.place-index c.index-senders-place.result c.requires.places c.loop-place-test.true at) (c.message_at-message.ensures c.index-senders-place.result at)
    (omega (arith, c.from.ensures, c.tg.ensures.value)) c.in_ok-from.ensures.turn c.in_ok-from.ensures.end

pub returns-clause-turns : goal.returns-clause-turns
returns-clause-turns c = (none_left (messages_of c.args.hands.now) c.args.round c.loop-place.place-index (turn_order c.args.table.now) c.loop-place.from _ c.loop-place.list.items _ (omega (arith, as_long c.args.table.now c.args.places.now c.requires.places)) c.loop-place.invariant).0

pub returns-clause-end : goal.returns-clause-end
returns-clause-end c = (none_left (messages_of c.args.hands.now) c.args.round c.loop-place.place-index (turn_order c.args.table.now) c.loop-place.from _ c.loop-place.list.items _ (omega (arith, as_long c.args.table.now c.args.places.now c.requires.places)) c.loop-place.invariant).1
