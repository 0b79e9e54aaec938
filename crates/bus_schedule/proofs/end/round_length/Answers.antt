use Rattle.std.proofs.Common.{◌≡◌, length, arith, ap, ◌∙◌}
use Rattle.bus_table.proofs.ValidLaws.{valid_facts}
use Rattle.bus_schedule.specs.Even.{messages_of}
use Rattle.bus_schedule.proofs.EvenLemmas.{read_sender}
use Rattle.bus_schedule.proofs.EndLemmas.{sum_more}
use Rattle.bus_schedule.proofs.end.round_length.Goals as goal

pub overflow_add-sum-in-loop-k : goal.overflow_add-sum-in-loop-k
overflow_add-sum-in-loop-k c =
    let facts = valid_facts c.args.table.now c.senders-sender-items.ensures.valid in
    let same : length c.senders-sender-items.result.now ≡ length c.args.table.now.senders = ap length c.senders-sender-items.ensures.value in
    omega (arith, facts.few, c.loop-k.invariant.most, c.loop-k-test.true, c.bits.ensures.most)

pub loop-k-preserved : goal.loop-k-preserved
loop-k-preserved c =
    let at = read_sender c.args.table.now c.senders-sender-items.result.now c.loop-k.k c.sender-item.result c.senders-sender-items.ensures.value c.loop-k-test.true c.sender-item.is in
    record {
      sum = sum_more (messages_of c.args.hands.now) c.args.round c.senders-sender-items.result.now c.loop-k.k c.loop-k.sum c.from.result c.from-in-loop-k.result c.sender-item.result c.message_at-message.result.now c.loop-k-test.true c.sender-item.is c.loop-k.invariant.sum (c.from.ensures ∙ c.tg.ensures.value) (c.from-in-loop-k.ensures ∙ c.bits.ensures.value) (c.message_at-message.ensures c.sender-item.result at);
      most = omega (arith, c.loop-k.invariant.most, c.bits.ensures.most);
    }

pub returns-clause-most : goal.returns-clause-most
returns-clause-most c =
    let facts = valid_facts c.args.table.now c.senders-sender-items.ensures.valid in
    let same : length c.senders-sender-items.result.now ≡ length c.args.table.now.senders = ap length c.senders-sender-items.ensures.value in
    omega (arith, facts.few, c.loop-k.invariant.most)
