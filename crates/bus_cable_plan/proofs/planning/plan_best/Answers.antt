use Rattle.std.proofs.Common.{ap, sym, ◌∙◌, length}
use Rattle.bus_cable_plan.proofs.Rising.{best_told}
use Rattle.bus_cable_plan.proofs.planning.plan_best.Goals as goal

pub returns-then-is_refuted : goal.returns-then-is_refuted
returns-then-is_refuted c = record {
  exact = best_told c.args.table.now c.in_ok-found.field-0 c.best-d.result
      (λ e. c.if-senders-eq1.false (ap length c.senders.ensures.value ∙ e))
      (sym c.is_found.ensures ∙ c.if-not-is_found.false) c.best-d.ensures.value (sym c.is_refuted.ensures ∙ c.if-is_refuted.true)
      c.in_ok-found.ensures;
}
