use Rattle.std.proofs.Common.{arith}
use Rattle.bus_table.specs.Hands.{hand_of}
use Rattle.bus_vectors.specs.Made.{made_items, made_sender}
use Rattle.bus_vectors.proofs.TableLemmas.{mapped_next}
use Rattle.bus_vectors.proofs.ItemLemmas.{hands_whole}
use Rattle.bus_vectors.proofs.hands.hands.Goals as goal

pub loop-i-preserved : goal.loop-i-preserved
loop-i-preserved c =
    mapped_next (λ k. hand_of (made_items c.args.number) (made_sender k)) c.loop-i.i c.in_ok-hand.field-0 c.loop-i.hands.items c.push.new.self.items
    c.loop-i.invariant.0 c.in_ok-push.ensures.items c.in_ok-hand.ensures c.loop-i.invariant.1

pub returns : goal.returns
returns c =
    hands_whole c.args.number c.loop-i.i c.sender_count-count.result c.loop-i.hands.items c.sender_count-count.ensures.count
    (omega (arith, c.loop-i-test.false, c.loop-i.auto.i-end)) c.loop-i.invariant.1
