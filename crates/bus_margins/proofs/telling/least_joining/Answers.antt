use Rattle.std.proofs.Common.{◌≡◌, length, ap, ◌∙◌, sym, ◌≢◌, Some}
use Rattle.bus_table.specs.Turns.{turn_order}
use Rattle.bus_table.proofs.TurnLaws.{order_length}
use Rattle.bus_margins.proofs.TellingLemmas.{joining_alone, joining_others}
use Rattle.bus_margins.proofs.telling.least_joining.Goals as goal

pub returns-then-senders-eq1 : goal.returns-then-senders-eq1
returns-then-senders-eq1 c =
    let same : length c.senders.result.now ≡ length c.args.table.now.senders = ap length c.senders.ensures.value in
    ap Some c.alone_room.ensures
    ∙ joining_alone c.args.bounds c.args.table.now (turn_order c.args.table.now) _ c.first_of.ensures
    (order_length c.args.table.now ∙ sym same ∙ c.if-senders-eq1.true)

pub returns : goal.returns
returns c =
    let same : length c.senders.result.now ≡ length c.args.table.now.senders = ap length c.senders.ensures.value in
    let other : length (turn_order c.args.table.now) ≢ 1 = λ e. c.if-senders-eq1.false (same ∙ sym (order_length c.args.table.now) ∙ e) in
    c.least_pair.ensures ∙ joining_others c.args.bounds c.args.table.now (turn_order c.args.table.now) other
