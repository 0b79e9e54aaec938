use Rattle.std.proofs.Common.{arith, ◌≡◌, ◌<◌, length, ap, ◌∙◌, sym, ◌≢◌, Some}
use Rattle.bus_table.specs.Turns.{turn_order}
use Rattle.bus_table.proofs.TurnLaws.{order_length}
use Rattle.bus_table.proofs.ValidLaws.{valid_facts}
use Rattle.bus_margins.specs.Least.{lesser}
use Rattle.bus_margins.specs.inside.Telling.{least_behind}
use Rattle.bus_margins.specs.declared.rule.Rule.TheVariants.{Waiting}
use Rattle.bus_margins.proofs.TellingLemmas.{waiting_alone, waiting_all}
use Rattle.bus_margins.proofs.telling.least_waiting.Goals as goal

pub turn_at-second-requires-clause-place : goal.turn_at-second-requires-clause-place
turn_at-second-requires-clause-place c =
    let same : length c.senders.result.now ≡ length c.args.table.now.senders = ap length c.senders.ensures.value in
    let some : 0 < length c.args.table.now.senders = (valid_facts c.args.table.now c.senders.ensures.valid).some in
    let other : length c.args.table.now.senders ≢ 1 = λ e. c.if-senders-eq1.false (same ∙ e) in
    omega (arith, some, other)

pub returns-then-senders-eq1 : goal.returns-then-senders-eq1
returns-then-senders-eq1 c =
    let same : length c.senders.result.now ≡ length c.args.table.now.senders = ap length c.senders.ensures.value in
    waiting_alone c.args.bounds c.args.table.now (turn_order c.args.table.now) (order_length c.args.table.now ∙ sym same ∙ c.if-senders-eq1.true)

pub returns : goal.returns
returns c =
    c.lesser.ensures
    ∙ ap (lesser (Some c.room_by-room.result)) c.least_behind.ensures
    ∙ ap (λ w. lesser (Some w) (least_behind c.args.bounds c.args.table.now Waiting (turn_order c.args.table.now))) c.room_by-room.ensures
    ∙ waiting_all c.args.bounds c.args.table.now (turn_order c.args.table.now) _ _ c.first_of-first.ensures c.turn_at-second.ensures
