use Rattle.std.specs.Prelude.{slice_get, None}
use Rattle.std.proofs.Common.{◌≡◌, ◌<◌, Some, length, get_or, arith, sym, ap, subst, ◌∙◌}
use Rattle.std.proofs.lemmas.Option.{slice_get-get_or}
use Rattle.bus_outer.specs.Texts.{Adds}
use Rattle.bus_outer.proofs.TextLaws.{adds_then}
use Rattle.bus_findings.specs.declared.watch.Watch.{Watch}
use Rattle.bus_findings.specs.Texts.{terminal_line}
use Rattle.bus_findings.proofs.TraceLemmas.{lines_next, terminal_same}
use Rattle.std.proofs.lemmas.Grind.{common_steps}
use Rattle.bus_findings.proofs.writing.put_terminals.Goals as goal

pub loop-k-preserved : goal.loop-k-preserved
loop-k-preserved g c =
    let bounds = c.args.bounds in
    let table = c.args.table.now in
    let list = c.args.trace.now.list in
    let senders = c.senders-senders.result.now in
    let k = c.loop-k.k in
    let s = c.index-senders-k.result in
    let new : Watch = record { last = None; own_end = 0; starts = 0; faults = 0; least = None; most = None } in
    let w : Watch = get_or c.args.watches.now k new in
    let at = slice_get-get_or senders k s c.loop-k-test.true ∙ ap Some (sym c.index-senders-k.is) in
    let here : slice_get table.senders k ≡ Some s = ap (λ l. slice_get l k) (sym c.senders-senders.ensures.value) ∙ at in
    let low : k < length c.args.watches.now = omega (arith, c.loop-k-test.true, ap length c.senders-senders.ensures.value, c.requires.watched.enough) in
    let kept = c.requires.watched.each k s w here (slice_get-get_or c.args.watches.now k new low) in
    let lines = terminal_same bounds table list s c.number.result w c.number.ensures.value kept in
    let put = subst (λ b. Adds g.K.Sink.held g.K.Sink.faults c.loop-k.sink c.put_terminal.new.sink c.loop-k.text c.put_terminal.new.text b) lines c.put_terminal.ensures in
    subst (λ b. Adds g.K.Sink.held g.K.Sink.faults c.args.sink.now c.put_terminal.new.sink c.args.text.now c.put_terminal.new.text b)
    (sym (lines_next (terminal_line bounds table list) senders k s at)) (adds_then c.loop-k.invariant put)

pub returns : goal.returns
returns g c = grind (arith, common_steps)
