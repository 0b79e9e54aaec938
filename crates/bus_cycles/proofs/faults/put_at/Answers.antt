use Rattle.std.proofs.Common.{ℕ, ◌+◌, ◌-◌, List, ◌++◌, ap, subst, ◌∙◌}
use Rattle.bus_outer.specs.Texts.{Adds}
use Rattle.bus_outer.proofs.TextLaws.{◌▸◌}
use Rattle.bus_pen.specs.declared.class.Class.TheVariants.{Fault}
use Rattle.bus_pen.specs.Shapes.{titled_text}
use Rattle.bus_cycles.specs.Faults.{fault_part, title_of}
use Rattle.bus_cycles.specs.RowTexts.{left_of}
use Rattle.bus_cycles.proofs.faults.put_at.Goals as goal

pub returns : goal.returns
returns g c =
    let page = c.args.page.now in
    let words = title_of c.args.sent.now c.args.found.now in
    let text : ℕ → ℕ → List ℕ = λ left top.
    titled_text Fault (fault_part left top) words ++ titled_text Fault (fault_part left (top + page.row_height - 30)) words in
    subst (λ (t : List ℕ). Adds g.K.Sink.held g.K.Sink.faults c.args.sink.now c.put_part-2.new.sink c.args.text.now c.put_part-2.new.text t)
    (ap (λ n. text n c.top_of-top.result) c.left_of-left.ensures.value
    ∙ ap (text (left_of page c.args.row.begin c.args.sent.now)) c.top_of-top.ensures.value)
    (c.put_part.ensures ▸ c.put_part-2.ensures)
