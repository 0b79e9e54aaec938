use Rattle.std.proofs.Common.{◌≡◌, ◌<◌, arith, sym, ap, ◌∙◌}
use Rattle.bus_table.specs.Turns.{turn_order}
use Rattle.bus_schedule.specs.Even.{messages_of, rounds}
use Rattle.bus_schedule.specs.Closed.{gap_schedule}
use Rattle.bus_schedule.proofs.EndLemmas.{round_short, round_added, closed_by_gaps}
use Rattle.bus_schedule.proofs.schedule.by_gaps.Goals as goal

pub add_by_gaps-requires-clause-short : goal.add_by_gaps-requires-clause-short
add_by_gaps-requires-clause-short c =
    let less : c.loop-round.round < rounds c.args.hands.now = omega (arith, c.loop-round-test.true, c.rounds-round-end.ensures) in
    let short = round_short c.args.table.now c.args.hands.now c.loop-round.round c.loop-round.from c.sg.ensures.valid c.requires.aperiodic less c.loop-round.invariant.from in
    omega (arith, short, c.requires.short)

pub overflow_add-from : goal.overflow_add-from
overflow_add-from c =
    let less : c.loop-round.round < rounds c.args.hands.now = omega (arith, c.loop-round-test.true, c.rounds-round-end.ensures) in
    let short = round_short c.args.table.now c.args.hands.now c.loop-round.round c.loop-round.from c.sg.ensures.valid c.requires.aperiodic less c.loop-round.invariant.from in
    omega (arith, short, c.requires.short, c.in_ok-from.ensures.end, c.from-sg.ensures, c.sg.type_inv)

pub loop-round-preserved : goal.loop-round-preserved
loop-round-preserved c =
    let more = round_added (messages_of c.args.hands.now) c.from-sg.result c.args.table.now.sg (λ round. turn_order c.args.table.now) c.loop-round.round c.loop-round.from c.in_ok-from.field-0 c.loop-round.list.items c.add_by_gaps.new.list.items c.loop-round.invariant.list c.loop-round.invariant.from (c.from-sg.ensures ∙ c.sg.ensures.value) c.in_ok-from.ensures.turns c.in_ok-from.ensures.end in
    record { list = more.0; from = more.1 }

pub returns : goal.returns
returns c =
    let last : c.loop-round.round ≡ rounds c.args.hands.now = omega (arith, c.loop-round-test.false, c.rounds-round-end.ensures) in
    c.loop-round.invariant.list ∙ ap (gap_schedule (messages_of c.args.hands.now) c.args.table.now.sg (λ round. turn_order c.args.table.now)) last
    ∙ sym (closed_by_gaps c.args.table.now c.args.hands.now c.requires.aperiodic)
