use Rattle.std.proofs.Common.{◌≡◌, ◌≤◌, ◌+◌, List, length, drop, arith, sym, ap, ◌∙◌}
use Rattle.std.proofs.lemmas.List.{drop_all}
use Rattle.bus_strings.proofs.ListLaws.{drop_at}
use Rattle.bus_table.specs.Tables.{Sender}
use Rattle.bus_table.specs.Turns.{turn_key, turn_order}
use Rattle.bus_table.proofs.TurnLaws.{length-sort}
use Rattle.bus_cycles.specs.Lanes.{lane_from}
use Rattle.bus_cycles.proofs.LaneLemmas.{lane_here, lane_later}
use Rattle.bus_cycles.proofs.page.lane_of.Goals as goal

pub returns-then-number-terminal : goal.returns-then-number-terminal
returns-then-number-terminal c =
    let order : List Sender = turn_order c.args.table.now in
    let s : Sender = c.turn_at.result.now in
    sym (c.loop-k.invariant
    ∙ lane_here order c.loop-k.k c.args.terminal s (drop_at order c.loop-k.k s c.turn_at.ensures) (sym c.number.ensures.value ∙ c.if-number-terminal.true))

pub loop-k-preserved : goal.loop-k-preserved
loop-k-preserved c =
    let order : List Sender = turn_order c.args.table.now in
    let s : Sender = c.turn_at.result.now in
    c.loop-k.invariant
    ∙ lane_later order c.loop-k.k c.args.terminal s (drop_at order c.loop-k.k s c.turn_at.ensures) (λ e. c.if-number-terminal.false (c.number.ensures.value ∙ e))

pub returns : goal.returns
returns c =
    let order : List Sender = turn_order c.args.table.now in
    let long : length order ≡ length c.args.table.now.senders = length-sort (turn_key c.args.table.now.mode) c.args.table.now.senders in
    let all : length order ≤ c.loop-k.k = omega (arith, ap length c.senders-count.ensures.value) in
    let is : lane_from c.loop-k.k c.args.terminal (drop c.loop-k.k order) ≡ c.loop-k.k + c.args.terminal =
    ap (lane_from c.loop-k.k c.args.terminal) (drop_all c.loop-k.k order all) in
    omega (arith, is, c.loop-k.invariant, ap length c.senders-count.ensures.value)
