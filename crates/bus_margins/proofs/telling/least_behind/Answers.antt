use Rattle.std.proofs.Common.{arith, ◌≡◌, length, take, ap, ◌∙◌, sym, Some}
use Rattle.bus_table.specs.Turns.{turn_order}
use Rattle.bus_margins.specs.Least.{lesser}
use Rattle.bus_margins.specs.inside.Telling.{least_behind}
use Rattle.bus_margins.proofs.TellingLemmas.{behind_more, whole_order}
use Rattle.bus_margins.proofs.telling.least_behind.Goals as goal

pub loop-k-preserved : goal.loop-k-preserved
loop-k-preserved c =
    c.lesser-least.ensures
    ∙ ap (λ w. lesser w (Some c.room_by.result)) c.loop-k.invariant
    ∙ ap (λ w. lesser (least_behind c.args.bounds c.args.table.now c.args.rule (take c.loop-k.k (turn_order c.args.table.now))) (Some w)) c.room_by.ensures
    ∙ sym (behind_more c.args.bounds c.args.table.now c.args.rule (turn_order c.args.table.now) c.loop-k.k _ _ c.loop-k.auto.k c.first_of-first.ensures c.turn_at-sender.ensures)

pub returns : goal.returns
returns c =
    let same : length c.senders-k-end.result.now ≡ length c.args.table.now.senders = ap length c.senders-k-end.ensures.value in
    c.loop-k.invariant
    ∙ ap (least_behind c.args.bounds c.args.table.now c.args.rule) (whole_order c.args.table.now c.loop-k.k (omega (arith, c.loop-k-test.false)))
