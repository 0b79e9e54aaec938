use Rattle.std.proofs.Common.{sym, subst, refl}
use Rattle.bus_command.proofs.FewHands.{AreFew, hands_few}
use Rattle.bus_tool.proofs.CableLemmas.{dealt_gives}
use Rattle.bus_tool.proofs.inputs.deal.Goals as goal

pub returns-in_ok-hands-in-Ok-clause-gives : goal.returns-in_ok-hands-in-Ok-clause-gives
returns-in_ok-hands-in-Ok-clause-gives c = dealt_gives c.args.table.now (c.args.cable, c.args.items) _ (sym c.in-Ok.ensures) (record { cable = refl; hands = c.in_ok-hands-in-Ok.ensures.hands })

pub returns-in_ok-hands-in-Ok-clause-ready : goal.returns-in_ok-hands-in-Ok-clause-ready
returns-in_ok-hands-in-Ok-clause-ready c = record {
  fit = c.in_ok-hands-in-Ok.ensures.fit;
  few = subst AreFew (sym c.in_ok-hands-in-Ok.ensures.hands) (hands_few c.args.items c.args.table.now.senders c.requires);
}
