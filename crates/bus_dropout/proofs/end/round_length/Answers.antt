use Rattle.std.proofs.Common.{◌≡◌, ◌+◌, cond, nat_lt, length, get_or, [], List, arith, sym, ap, ◌∙◌}
use Rattle.bus_strings.specs.Messages.{Message, bits}
use Rattle.bus_table.proofs.ValidLaws.{valid_facts}
use Rattle.bus_schedule.specs.Even.{messages_of}
use Rattle.bus_dropout.proofs.Most.{hand_within, read_hand}
use Rattle.bus_dropout.proofs.RoundLemmas.{has_left, turn_length}
use Rattle.bus_dropout.proofs.Sums.{sum_share_more, sum_whole_in_turn}
use Rattle.bus_dropout.proofs.end.round_length.Goals as goal

pub bounds-hands-k : goal.bounds-hands-k
bounds-hands-k c =
    hand_within c.args.table.now c.args.hands.now c.senders-sender-items.result.now c.loop-k.k c.sender-item.result c.senders-sender-items.ensures.valid
    c.requires.hands c.senders-sender-items.ensures.value c.loop-k-test.true c.sender-item.is

pub overflow_add-sum : goal.overflow_add-sum
overflow_add-sum c =
    let facts = valid_facts c.args.table.now c.senders-sender-items.ensures.valid in
    let same : length c.senders-sender-items.result.now ≡ length c.args.table.now.senders = ap length c.senders-sender-items.ensures.value in
    omega (arith, facts.few, c.loop-k.invariant.most, c.loop-k-test.true, c.turn_length-sum.ensures.most)

pub loop-k-preserved : goal.loop-k-preserved
loop-k-preserved c =
    let sender = c.sender-item.result in
    let messages = read_hand c.args.table.now c.args.hands.now c.senders-sender-items.result.now c.loop-k.k c.sender-item.result c.index-hands-k.result
    c.senders-sender-items.ensures.valid c.requires.hands c.senders-sender-items.ensures.value c.loop-k-test.true c.sender-item.is c.index-hands-k.is in
    record {
      sum = sum_share_more (has_left (messages_of c.args.hands.now) c.args.round) (turn_length (messages_of c.args.hands.now) c.args.round)
          c.senders-sender-items.result.now c.loop-k.k c.loop-k.sum c.turn_length-sum.result c.sender-item.result c.loop-k-test.true c.sender-item.is
          c.loop-k.invariant.sum
          (c.turn_length-sum.ensures.turn
          ∙ ap (λ (m : List Message). cond (nat_lt c.args.round (length m)) (c.sender-item.result.tg + bits (get_or m c.args.round [])) 0) (sym messages));
      most = omega (arith, c.loop-k.invariant.most, c.turn_length-sum.ensures.most);
    }

pub returns-clause-sum : goal.returns-clause-sum
returns-clause-sum c =
    c.loop-k.invariant.sum
    ∙ sum_whole_in_turn (has_left (messages_of c.args.hands.now) c.args.round) (turn_length (messages_of c.args.hands.now) c.args.round)
    c.args.table.now c.senders-sender-items.result.now c.loop-k.k c.senders-sender-items.ensures.value (omega (arith, c.loop-k-test.false))

pub returns-clause-most : goal.returns-clause-most
returns-clause-most c =
    let facts = valid_facts c.args.table.now c.senders-sender-items.ensures.valid in
    let same : length c.senders-sender-items.result.now ≡ length c.args.table.now.senders = ap length c.senders-sender-items.ensures.value in
    omega (arith, facts.few, c.loop-k.invariant.most, c.loop-k.auto.k-end)
