use Rattle.std.proofs.Common.{◌≡◌, ◌<◌, arith, sym, ap, ◌∙◌}
use Rattle.bus_table.specs.Turns.{turn_order}
use Rattle.bus_schedule.specs.Even.{messages_of, rounds}
use Rattle.bus_schedule.specs.Closed.{offset_schedule}
use Rattle.bus_schedule.proofs.EndLemmas.{some_turn}
use Rattle.bus_schedule.proofs.OffsetEnds.{interval_short, interval_begun, interval_added, closed_by_offsets}
use Rattle.bus_schedule.proofs.schedule.by_offsets.Goals as goal

pub add_by_offsets-requires-clause-short : goal.add_by_offsets-requires-clause-short
add_by_offsets-requires-clause-short c =
    let less : c.loop-round.round < rounds c.args.hands.now = omega (arith, c.loop-round-test.true, c.rounds-round-end.ensures) in
    let short = interval_short c.args.table.now c.args.hands.now c.loop-round.round c.loop-round.base c.requires.periodic less c.loop-round.invariant.base in
    omega (arith, short, c.requires.short)

pub overflow_add-base : goal.overflow_add-base
overflow_add-base c =
    let less : c.loop-round.round < rounds c.args.hands.now = omega (arith, c.loop-round-test.true, c.rounds-round-end.ensures) in
    let short = interval_short c.args.table.now c.args.hands.now c.loop-round.round c.loop-round.base c.requires.periodic less c.loop-round.invariant.base in
    let begun = interval_begun (messages_of c.args.hands.now) c.loop-round.round c.loop-round.base (turn_order c.args.table.now) (some_turn c.args.table.now c.ti.ensures.valid) in
    omega (arith, short, begun, c.requires.short, c.from-ti.ensures, c.ti.type_inv)

pub loop-round-preserved : goal.loop-round-preserved
loop-round-preserved c =
    let more = interval_added (messages_of c.args.hands.now) c.args.table.now.ti c.from-ti.result (turn_order c.args.table.now) c.loop-round.round c.loop-round.base c.loop-round.list.items c.add_by_offsets.new.list.items
    c.loop-round.invariant.list c.loop-round.invariant.base (c.from-ti.ensures ∙ c.ti.ensures.value) c.in_ok-add_by_offsets.ensures in
    record { list = more.0; base = more.1 }

pub returns : goal.returns
returns c =
    let last : c.loop-round.round ≡ rounds c.args.hands.now = omega (arith, c.loop-round-test.false, c.rounds-round-end.ensures) in
    c.loop-round.invariant.list ∙ ap (offset_schedule (messages_of c.args.hands.now) c.args.table.now.ti (turn_order c.args.table.now)) last
    ∙ sym (closed_by_offsets c.args.table.now c.args.hands.now c.requires.periodic)
