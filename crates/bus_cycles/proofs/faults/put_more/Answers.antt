use Rattle.std.proofs.Common.{subst}
use Rattle.bus_outer.specs.Texts.{Adds}
use Rattle.bus_cycles.specs.Faults.{fault_text}
use Rattle.bus_cycles.specs.Rows.{Extent}
use Rattle.bus_cycles.proofs.FaultLemmas.{holds_more}
use Rattle.bus_cycles.proofs.faults.put_more.Goals as goal

pub returns-clause-adds : goal.returns-clause-adds
returns-clause-adds g c was holds =
    subst (λ (e : Extent). Adds g.K.Sink.held g.K.Sink.faults c.args.sink.now c.put_fault.new.sink c.args.text.now c.put_fault.new.text
    (fault_text c.args.page.now c.args.judgements.now e.place e.begin c.args.sent.now)) (c.with.ensures.value was holds.extent_is) c.put_fault.ensures

pub returns-clause-keeps : goal.returns-clause-keeps
returns-clause-keeps g c was holds =
    holds_more c.args.judgements.now was c.args.row.now c.with.result c.args.any.now c.any_with.result c.args.sent.now holds
    (c.with.ensures.value was holds.extent_is) c.any_with.ensures

pub returns-clause-place : goal.returns-clause-place
returns-clause-place g c = c.with.ensures.place
