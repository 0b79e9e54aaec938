use Rattle.std.proofs.Common.{arith}
use Rattle.bus_command.proofs.FewHands.{read_few}
use Rattle.bus_command.proofs.inputs.take_hands.Goals as goal

pub returns-clause-ready : goal.returns-clause-ready
returns-clause-ready g c = record {
  fit = c.in_ok-hands.ensures.fit;
  few = read_few c.texts_read_as_their_items.ensures.few c.args.table.now c.deref.result.now c.in_ok-hands.hands.items (omega (arith, c.in_ok-text.ensures.short, c.deref.ensures.len)) c.in_ok-hands.ensures.exact;
}
