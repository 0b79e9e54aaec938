use Rattle.std.proofs.Common.{List, ℕ, ◌++◌, arith, ap, sym, subst, take, ◌∙◌}
use Rattle.bus_table.specs.declared.line.SendLine.{SendLine}
use Rattle.bus_outer.specs.Texts.{Adds}
use Rattle.bus_outer.proofs.TextLaws.{◌▸◌}
use Rattle.bus_page.specs.Latencies.{row_text}
use Rattle.bus_page.specs.Rows.{rows}
use Rattle.bus_page.proofs.RowLemmas.{all_rows, rows_more}
use Rattle.bus_page.proofs.latencies.put_lines.Goals as goal

pub loop-place-preserved : goal.loop-place-preserved
loop-place-preserved g c =
    let form = row_text c.args.table.now c.args.most c.args.tolerance c.args.sender.now in
    let all : List SendLine = c.args.lines.now in
    let k = c.loop-place.place in
    let one : SendLine = c.index-lines-place.result in
    let next = rows_more form 1 0 all k one k c.loop-place-test.true (omega arith)
    ∙ ap (λ (line : SendLine). rows form 1 0 (take k all) ++ form k line) (sym c.index-lines-place.is) in
    subst (λ (t : List ℕ). Adds g.K.Sink.held g.K.Sink.faults c.args.sink.now c.put_row.new.sink c.args.text.now c.put_row.new.text t) (sym next)
    (c.loop-place.invariant ▸ c.put_row.ensures)

pub returns : goal.returns
returns g c =
    let form = row_text c.args.table.now c.args.most c.args.tolerance c.args.sender.now in
    let all = all_rows form 1 0 c.args.lines.now c.loop-place.place (omega (arith, c.loop-place-test.false)) in
    subst (λ (t : List ℕ). Adds g.K.Sink.held g.K.Sink.faults c.args.sink.now c.loop-place.sink c.args.text.now c.loop-place.text t) all c.loop-place.invariant
