use Rattle.std.proofs.Common.{arith}
use Rattle.bus_vectors.proofs.ItemLemmas.{made_message, next_made, hand_whole}
use Rattle.bus_vectors.proofs.hands.hand.Goals as goal

pub loop-round-preserved : goal.loop-round-preserved
loop-round-preserved c =
    next_made (made_message c.args.number c.args.i) c.loop-round.round c.in_ok-message.field-0 c.loop-round.messages.items c.push.new.self.items
    c.in_ok-push.ensures.items c.in_ok-message.ensures c.loop-round.invariant

pub returns : goal.returns
returns c =
    hand_whole c.args.number c.args.i c.round_count-rounds.result c.loop-round.round c.loop-round.messages.items c.requires.sender.0 c.requires.sender.1
    c.round_count-rounds.ensures.count (omega (arith, c.loop-round-test.false, c.loop-round.auto.round-end)) c.loop-round.invariant
