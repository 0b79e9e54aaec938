use Rattle.std.proofs.Common.{List, ℕ, sym, subst, ◌∙◌}
use Rattle.bus_outer.specs.Texts.{Adds}
use Rattle.bus_cycles.proofs.LoadLemmas.{next_is}
use Rattle.bus_cycles.proofs.load.put_next.Goals as goal

pub returns-then-is_new-clause-adds : goal.returns-then-is_new-clause-adds
returns-then-is_new-clause-adds g c was list same is =
    subst (λ (t : List ℕ). Adds g.K.Sink.held g.K.Sink.faults c.args.sink.now c.put_load.new.sink c.args.text.now c.put_load.new.text t)
    (sym (next_is c.args.page.now list was c.args.row.now c.args.sent.now same (sym c.is_new.ensures ∙ c.if-is_new.true))) (c.put_load.ensures list is)
