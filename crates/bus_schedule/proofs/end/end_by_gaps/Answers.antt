use Rattle.std.proofs.Common.{◌+◌, ◌≡◌, arith, refl, sym, ap, ◌∙◌}
use Rattle.bus_strings.specs.Marking.{greatest_end}
use Rattle.bus_table.specs.Turns.{turn_order}
use Rattle.bus_schedule.specs.Closed.{gap_schedule}
use Rattle.bus_schedule.specs.Even.{messages_of, rounds}
use Rattle.bus_schedule.proofs.EndLemmas.{round_more, closed_by_gaps}
use Rattle.bus_schedule.proofs.end.end_by_gaps.Goals as goal

pub loop-round-preserved : goal.loop-round-preserved
loop-round-preserved c =
    let more = round_more c.args.table.now (messages_of c.args.hands.now) c.loop-round.round c.loop-round.from c.from.result (c.loop-round.from + c.from.result) c.from-sg.result c.sg.ensures.valid c.loop-round.invariant.from (c.from.ensures ∙ c.round_length.ensures.sum) (c.from-sg.ensures ∙ c.sg.ensures.value) refl in
    record {
      from = more.0;
      end = more.1;
      most = omega (arith, c.loop-round.invariant.most, c.round_length.ensures.most, c.from.ensures);
    }

pub returns : goal.returns
returns c =
    let last : c.loop-round.round ≡ rounds c.args.hands.now = omega (arith, c.loop-round-test.false, c.rounds-round-end.ensures) in
    c.loop-round.invariant.end
    ∙ ap (λ n. greatest_end (gap_schedule (messages_of c.args.hands.now) c.args.table.now.sg (λ round. turn_order c.args.table.now) n)) last
    ∙ sym (ap greatest_end (closed_by_gaps c.args.table.now c.args.hands.now c.requires.aperiodic))
