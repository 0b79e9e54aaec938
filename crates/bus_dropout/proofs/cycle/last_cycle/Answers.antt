use Rattle.std.proofs.Common.{◌≡◌, ◌+◌, ◌==◌, cond, Some, None, ℕ, nat_lt, length, List, true, arith, sym, ap, ◌∙◌}
use Rattle.std.proofs.lemmas.Bool.{lt-ltb}
use Rattle.bus_strings.specs.Messages.{Message}
use Rattle.bus_table.specs.Lengths.{shortest}
use Rattle.bus_table.proofs.ValidLaws.{valid_facts}
use Rattle.bus_dropout.specs.DropOut.{most_messages, last_senders}
use Rattle.bus_schedule.specs.Even.{messages_of}
use Rattle.bus_schedule.specs.Live.{shortest_cycle}
use Rattle.bus_dropout.proofs.Most.{hand_within, read_hand}
use Rattle.bus_dropout.proofs.LongLemmas.{turn, is_last}
use Rattle.bus_dropout.proofs.Sums.{sum_share_more_from, sum_whole}
use Rattle.bus_dropout.proofs.cycle.last_cycle.Goals as goal

pub bounds-hands-k : goal.bounds-hands-k
bounds-hands-k c =
    hand_within c.args.table.now c.args.hands.now c.senders-sender-items.result.now c.loop-k.k c.sender-item.result c.senders-sender-items.ensures.valid
    c.requires.hands c.senders-sender-items.ensures.value c.loop-k-test.true c.sender-item.is

pub overflow_add-least : goal.overflow_add-least
overflow_add-least c =
    let facts = valid_facts c.args.table.now c.senders-sender-items.ensures.valid in
    let same : length c.senders-sender-items.result.now ≡ length c.args.table.now.senders = ap length c.senders-sender-items.ensures.value in
    omega (arith, facts.few, c.loop-k.invariant.most, c.loop-k-test.true, c.turn_of_count-least.ensures.most)

pub loop-k-preserved : goal.loop-k-preserved
loop-k-preserved c =
    let messages = read_hand c.args.table.now c.args.hands.now c.senders-sender-items.result.now c.loop-k.k c.sender-item.result c.index-hands-k.result
    c.senders-sender-items.ensures.valid c.requires.hands c.senders-sender-items.ensures.value c.loop-k-test.true c.sender-item.is c.index-hands-k.is in
    let part = c.turn_of_count-least.ensures.turn
    ∙ ap (λ (m : List Message). cond (length m == c.most_messages-most.result) (c.sender-item.result.tg + shortest c.sender-item.result) 0) (sym messages)
    ∙ ap (λ (n : ℕ). cond (length (messages_of c.args.hands.now c.sender-item.result.number) == n) (c.sender-item.result.tg + shortest c.sender-item.result) 0) c.most_messages-most.ensures in
    record {
      sum = sum_share_more_from c.args.table.now.sg (is_last c.args.hands.now) turn c.senders-sender-items.result.now c.loop-k.k c.loop-k.least
          c.turn_of_count-least.result c.sender-item.result c.loop-k-test.true c.sender-item.is c.loop-k.invariant.sum part;
      most = omega (arith, c.loop-k.invariant.most, c.turn_of_count-least.ensures.most);
    }

pub returns : goal.returns
returns c =
    let two : nat_lt 1 (most_messages c.args.hands.now) ≡ true =
    lt-ltb 1 (most_messages c.args.hands.now) (omega (arith, c.if-most-lt2.false, c.most_messages-most.ensures)) in
    let sum = c.loop-k.invariant.sum
    ∙ ap (λ n. c.args.table.now.sg + n) (sum_whole (is_last c.args.hands.now) turn c.args.table.now c.senders-sender-items.result.now c.loop-k.k
    c.senders-sender-items.ensures.value (omega (arith, c.loop-k-test.false))) in
    record {
      value = ap Some sum
          ∙ sym (ap (λ b. cond b (Some (shortest_cycle c.args.table.now (last_senders c.args.table.now c.args.hands.now))) None) two);
    }
