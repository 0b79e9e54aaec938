use Rattle.std.proofs.Common.{◌+◌, arith, refl, ◌∙◌}
use Rattle.bus_dropout.proofs.RoundLemmas.{round_more}
use Rattle.bus_dropout.proofs.end.drop_end.Goals as goal

pub loop-round-preserved : goal.loop-round-preserved
loop-round-preserved c =
    let more = round_more c.live_rounds.ensures.end c.args.table.now c.args.hands.now c.loop-round.round c.loop-round.from c.from.result (c.loop-round.from + c.from.result) c.from-sg.result
    c.sg.ensures.valid c.requires.hands (omega (arith, c.loop-round-test.true, c.most_messages-round-end.ensures)) c.loop-round.invariant.from (c.from.ensures ∙ c.round_length.ensures.sum) (c.from-sg.ensures ∙ c.sg.ensures.value) refl in
    record {
      from = more.from_is;
      end = more.end_is;
      most = omega (arith, c.loop-round.invariant.most, c.round_length.ensures.most, c.from.ensures, c.from-sg.ensures, c.sg.type_inv);
    }
