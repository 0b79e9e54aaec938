use Rattle.std.proofs.Common.{◌≡◌, arith, sym, ap, ◌∙◌}
use Rattle.bus_strings.specs.Marking.{greatest_end}
use Rattle.bus_table.specs.Turns.{turn_order}
use Rattle.bus_schedule.specs.Closed.{offset_schedule}
use Rattle.bus_schedule.specs.Even.{messages_of, rounds}
use Rattle.bus_schedule.proofs.OffsetEnds.{interval_more, closed_by_offsets}
use Rattle.bus_schedule.proofs.end.end_by_offsets.Goals as goal

pub loop-round-preserved : goal.loop-round-preserved
loop-round-preserved c =
    let more = interval_more c.args.table.now (messages_of c.args.hands.now) c.loop-round.round c.loop-round.base c.loop-round.end c.round_end.result c.later-end.result c.from-ti.result
    c.loop-round.invariant.base c.loop-round.invariant.end c.round_end.ensures c.later-end.ensures (c.from-ti.ensures ∙ c.ti.ensures.value) in
    record {
      base = more.0;
      end = more.1;
      most = omega (arith, c.loop-round.invariant.most, c.from-ti.ensures, c.ti.type_inv);
    }

pub returns : goal.returns
returns c =
    let last : c.loop-round.round ≡ rounds c.args.hands.now = omega (arith, c.loop-round-test.false, c.rounds-round-end.ensures) in
    c.loop-round.invariant.end
    ∙ ap (λ n. greatest_end (offset_schedule (messages_of c.args.hands.now) c.args.table.now.ti (turn_order c.args.table.now) n)) last
    ∙ sym (ap greatest_end (closed_by_offsets c.args.table.now c.args.hands.now c.requires.periodic))
