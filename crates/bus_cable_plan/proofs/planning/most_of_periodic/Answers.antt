use Rattle.std.proofs.Common.{ap, sym, ◌∙◌, length}
use Rattle.bus_cable_plan.proofs.Rising.{most_told_some}
use Rattle.bus_cable_plan.proofs.planning.most_of_periodic.Goals as goal

pub returns-then-is_refuted : goal.returns-then-is_refuted
returns-then-is_refuted c = record {
  exact = most_told_some c.args.table.now c.best-d.result (λ e. c.if-senders-eq1.false (ap length c.senders.ensures.value ∙ e))
      (sym c.is_found.ensures ∙ c.if-not-is_found.false) c.best-d.ensures.value (sym c.is_refuted.ensures ∙ c.if-is_refuted.true);
}
