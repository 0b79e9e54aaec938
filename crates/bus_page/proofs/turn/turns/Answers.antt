use Rattle.std.proofs.Common.{◌+◌, ◌*◌, ◌≤◌, ◌++◌, [], ◌∷◌, arith, ap, ◌∙◌, length, drop}
use Rattle.bus_table.specs.Turns.{turn_order}
use Rattle.bus_table.proofs.TurnLaws.{order_length}
use Rattle.bus_page.specs.declared.turn.Turn.{Turn}
use Rattle.bus_page.specs.Turns.{turn_of, turns_from, turns_of}
use Rattle.bus_page.proofs.TurnLemmas.{turn_end, turn_step}
use Rattle.bus_table.proofs.ValidLaws.{valid_facts}
use Rattle.bus_page.proofs.turn.turns.Goals as goal

pub turn_of-next-requires-clause-short : goal.turn_of-next-requires-clause-short
turn_of-next-requires-clause-short c =
    let few : length c.args.table.now.senders ≤ 128 = (valid_facts c.args.table.now c.senders-k-end.ensures.valid).few in
    omega (arith, few, c.loop-k.invariant.short, c.loop-k-test.true, ap length c.senders-k-end.ensures.value)

pub turn_of-next-requires-clause-long : goal.turn_of-next-requires-clause-long
turn_of-next-requires-clause-long c =
    let few : length c.args.table.now.senders ≤ 128 = (valid_facts c.args.table.now c.senders-k-end.ensures.valid).few in
    omega (arith, few, c.loop-k.invariant.long, c.loop-k-test.true, ap length c.senders-k-end.ensures.value)

pub loop-k-preserved : goal.loop-k-preserved
loop-k-preserved c = record {
  all = ap (λ (t : Turn). c.push.new.self.items ++ turns_from t.short.to t.long.to (drop (c.loop-k.k + 1) (turn_order c.args.table.now))) c.turn_of-next.ensures.value
      ∙ turn_step (turn_order c.args.table.now) c.loop-k.k c.turn_at.result.now c.loop-k.short c.loop-k.long c.loop-k.turns.items
      c.push.new.self.items (turns_of c.args.table.now) c.turn_at.ensures
      (c.in_ok-push.ensures.items ∙ ap (λ t. c.loop-k.turns.items ++ t ∷ []) c.turn_of-next.ensures.value) c.loop-k.invariant.all;
  short = omega (arith, c.loop-k.invariant.short, c.turn_of-next.ensures.short);
  long = omega (arith, c.loop-k.invariant.long, c.turn_of-next.ensures.long);
}

pub returns : goal.returns
returns c =
    turn_end (turn_order c.args.table.now) c.loop-k.k c.loop-k.short c.loop-k.long c.loop-k.turns.items (turns_of c.args.table.now)
    (omega (arith, c.loop-k-test.false, order_length c.args.table.now, ap length c.senders-k-end.ensures.value)) c.loop-k.invariant.all
