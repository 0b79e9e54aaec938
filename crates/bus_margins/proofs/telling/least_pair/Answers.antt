use Rattle.std.proofs.Common.{arith, ◌≡◌, ◌+◌, ◌≤◌, length, take, ap, ◌∙◌, sym, Some, List}
use Rattle.bus_table.specs.Tables.{Sender}
use Rattle.bus_table.specs.Turns.{turn_order}
use Rattle.bus_table.proofs.ValidLaws.{valid_facts}
use Rattle.bus_margins.specs.Least.{lesser, least}
use Rattle.bus_margins.specs.inside.Telling.{pair_room, left_out, spoken_of, neighbours}
use Rattle.bus_margins.proofs.TellingLemmas.{pair_more, pair_tell, whole_order}
use Rattle.bus_margins.proofs.telling.least_pair.Goals as goal

pub loop-k-preserved : goal.loop-k-preserved
loop-k-preserved c =
    let low : left_out c.args.rule + 1 ≤ c.loop-k.k = rw (← c.left_out-k.ensures) c.loop-k.auto.k in
    c.lesser-least.ensures
    ∙ ap (λ w. lesser w (Some c.pair_room.result)) c.loop-k.invariant
    ∙ ap (λ w. lesser (least (neighbours (pair_room c.args.bounds c.args.table.now c.args.rule) (spoken_of c.args.rule (take c.loop-k.k (turn_order c.args.table.now))))) (Some w)) c.pair_room.ensures
    ∙ sym (pair_more (pair_room c.args.bounds c.args.table.now c.args.rule) c.args.rule (turn_order c.args.table.now) c.loop-k.k _ _ low c.turn_at-before.ensures c.turn_at-sender.ensures)

pub returns : goal.returns
returns c =
    let same : length c.senders-k-end.result.now ≡ length c.args.table.now.senders = ap length c.senders-k-end.ensures.value in
    c.loop-k.invariant
    ∙ ap (λ (w : List Sender). least (neighbours (pair_room c.args.bounds c.args.table.now c.args.rule) (spoken_of c.args.rule w))) (whole_order c.args.table.now c.loop-k.k (omega (arith, c.loop-k-test.false)))
    ∙ sym (pair_tell c.args.bounds c.args.table.now c.args.rule c.requires.mode (valid_facts c.args.table.now c.senders-k-end.ensures.valid) c.delay-ranges.ensures.ranges.clocks)
