use Rattle.std.proofs.Common.{subst}
use Rattle.bus_outer.specs.Sinks.{WritesText}
use Rattle.bus_outer.proofs.TextLaws.{ends_text}
use Rattle.bus_findings.specs.Texts.{findings_text}
use Rattle.bus_findings.proofs.TraceLemmas.{written_with, unwritten_with}
use Rattle.bus_findings.proofs.writing.write_findings.Goals as goal

pub returns-in-Ok-clause-text : goal.returns-in-Ok-clause-text
returns-in-Ok-clause-text g c =
    let text = findings_text c.args.bounds c.args.table.now c.args.trace.now in
    let w : WritesText g.K.Sink.held g.K.Sink.faults c.args.sink.now c.finish.new.sink c.finish.result text =
    ends_text _ _ _ _ _ _ _ _ _ c.finish.ensures c.put_findings-fault.ensures.adds c.new-text.ensures in
    written_with _ _ _ _ _ _ _ (subst (λ r. WritesText g.K.Sink.held g.K.Sink.faults c.args.sink.now c.finish.new.sink r text) c.in-Ok.is w)

pub returns-in-Err-clause-text : goal.returns-in-Err-clause-text
returns-in-Err-clause-text g c =
    let text = findings_text c.args.bounds c.args.table.now c.args.trace.now in
    let w : WritesText g.K.Sink.held g.K.Sink.faults c.args.sink.now c.finish.new.sink c.finish.result text =
    ends_text _ _ _ _ _ _ _ _ _ c.finish.ensures c.put_findings-fault.ensures.adds c.new-text.ensures in
    unwritten_with _ _ _ _ _ _ (subst (λ r. WritesText g.K.Sink.held g.K.Sink.faults c.args.sink.now c.finish.new.sink r text) c.in-Err.is w)
