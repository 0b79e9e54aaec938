use Rattle.std.proofs.Common.{◌+◌, ◌++◌, Bool, ap, subst, ◌∙◌}
use Rattle.bus_outer.specs.Texts.{Adds}
use Rattle.bus_outer.proofs.TextLaws.{◌▸◌}
use Rattle.bus_cycles.specs.Faults.{fault_text, fault_word}
use Rattle.bus_cycles.specs.Rows.{Extent, extent_of, row_at}
use Rattle.bus_cycles.proofs.FaultLemmas.{holds_first}
use Rattle.bus_cycles.proofs.faults.put_new.Goals as goal

pub returns-clause-adds : goal.returns-clause-adds
returns-clause-adds g c was holds =
    let page = c.args.page.now in
    let found = c.args.judgements.now in
    let sent = c.args.sent.now in
    let begin = (row_at page.cycle (was.place + 1) sent).begin in
    subst (λ (b : Bool). Adds g.K.Sink.held g.K.Sink.faults c.args.sink.now c.put_fault.new.sink c.args.text.now c.put_fault.new.text
    (fault_word page was.place b ++ fault_text page found (was.place + 1) begin sent)) holds.any_is
    (subst (λ (e : Extent). Adds g.K.Sink.held g.K.Sink.faults c.args.sink.now c.put_fault.new.sink c.args.text.now c.put_fault.new.text
    (fault_word page e.place c.args.any.now ++ fault_text page found (e.place + 1) (row_at page.cycle (e.place + 1) sent).begin sent)) holds.extent_is
    (c.put_word.ensures
    ▸ subst (λ (e : Extent). Adds g.K.Sink.held g.K.Sink.faults c.put_word.new.sink c.put_fault.new.sink c.put_word.new.text c.put_fault.new.text
    (fault_text page found e.place e.begin sent)) c.row_at.ensures.value c.put_fault.ensures))

pub returns-clause-keeps : goal.returns-clause-keeps
returns-clause-keeps g c was holds =
    let page = c.args.page.now in
    let sent = c.args.sent.now in
    holds_first c.args.judgements.now page (was.place + 1) c.row_at.result c.has_fault.result sent
    (c.row_at.ensures.value ∙ ap (λ (e : Extent). extent_of (row_at page.cycle (e.place + 1) sent)) holds.extent_is) c.has_fault.ensures
