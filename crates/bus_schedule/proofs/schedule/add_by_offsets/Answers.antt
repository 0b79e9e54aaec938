use Rattle.std.proofs.Common.{◌+◌, length, drop, arith, ap, ◌∙◌}
use Rattle.bus_table.specs.Turns.{turn_order}
use Rattle.bus_table.proofs.ValidLaws.{valid_facts}
use Rattle.bus_schedule.specs.Even.{messages_of}
use Rattle.bus_schedule.specs.Limits.{longest_end}
use Rattle.bus_schedule.proofs.OffsetEnds.{next_ends, offset_turn_more, none_left_at}
use Rattle.bus_schedule.proofs.PlaceLemmas.{place_within, turn_sender, turn_behind, as_long}
use Rattle.bus_schedule.proofs.schedule.add_by_offsets.Goals as goal

pub offset_bounds-senders-place : goal.offset_bounds-senders-place
offset_bounds-senders-place c =
    let facts = valid_facts c.args.table.now c.senders-senders.ensures.valid in
    let inside = place_within c.args.table.now c.args.places.now c.loop-place.place-index c.requires.places c.loop-place-test.true in
    omega (arith, facts.few, inside)

pub bounds-senders-place : goal.bounds-senders-place
bounds-senders-place c =
    let inside = place_within c.args.table.now c.args.places.now c.loop-place.place-index c.requires.places c.loop-place-test.true in
    omega (arith, inside, ap length c.senders-senders.ensures.value)

pub message_at-message-requires-clause-place : goal.message_at-message-requires-clause-place
message_at-message-requires-clause-place c = place_within c.args.table.now c.args.places.now c.loop-place.place-index c.requires.places c.loop-place-test.true

pub overflow_add-base : goal.overflow_add-base
overflow_add-base c =
    let at = turn_sender c.args.table.now c.senders-senders.result.now c.args.places.now c.loop-place.place-index c.index-senders-place.result c.senders-senders.ensures.value c.requires.places c.loop-place-test.true c.index-senders-place.is in
    let low = next_ends (messages_of c.args.hands.now) c.args.round c.args.base c.from.result longest_end (drop c.loop-place.place-index (turn_order c.args.table.now)) (drop (c.loop-place.place-index + 1) (turn_order c.args.table.now)) c.index-senders-place.result
    (turn_behind c.args.table.now c.args.places.now c.loop-place.place-index c.index-senders-place.result c.requires.places c.loop-place-test.true at) (c.from.ensures ∙ c.at.ensures.value) c.loop-place.invariant.1 in
    omega (arith, low)

pub add_turn-requires : goal.add_turn-requires
add_turn-requires c =
    let at = turn_sender c.args.table.now c.senders-senders.result.now c.args.places.now c.loop-place.place-index c.index-senders-place.result c.senders-senders.ensures.value c.requires.places c.loop-place-test.true c.index-senders-place.is in
    let low = next_ends (messages_of c.args.hands.now) c.args.round c.args.base c.from.result longest_end (drop c.loop-place.place-index (turn_order c.args.table.now)) (drop (c.loop-place.place-index + 1) (turn_order c.args.table.now)) c.index-senders-place.result
    (turn_behind c.args.table.now c.args.places.now c.loop-place.place-index c.index-senders-place.result c.requires.places c.loop-place-test.true at) (c.from.ensures ∙ c.at.ensures.value) c.loop-place.invariant.1 in
    omega (arith, low)

pub loop-place-preserved : goal.loop-place-preserved
loop-place-preserved c =
    let at = turn_sender c.args.table.now c.senders-senders.result.now c.args.places.now c.loop-place.place-index c.index-senders-place.result c.senders-senders.ensures.value c.requires.places c.loop-place-test.true c.index-senders-place.is in
    offset_turn_more (messages_of c.args.hands.now) c.args.round c.args.base longest_end (drop c.loop-place.place-index (turn_order c.args.table.now)) (drop (c.loop-place.place-index + 1) (turn_order c.args.table.now)) c.loop-place.list.items _ c.add_turn.new.list.items
    c.index-senders-place.result c.message_at-message.result.now (c.args.base + c.from.result) c.loop-place.invariant
    (turn_behind c.args.table.now c.args.places.now c.loop-place.place-index c.index-senders-place.result c.requires.places c.loop-place-test.true at) (c.message_at-message.ensures c.index-senders-place.result at)
    (omega (arith, c.from.ensures, c.at.ensures.value)) c.in_ok-add_turn.ensures.turn

pub returns : goal.returns
returns c = none_left_at (messages_of c.args.hands.now) c.args.round c.args.base c.loop-place.place-index (turn_order c.args.table.now) c.loop-place.list.items _ (omega (arith, as_long c.args.table.now c.args.places.now c.requires.places)) c.loop-place.invariant.0
