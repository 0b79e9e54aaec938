use Rattle.std.proofs.Common.{List, ℕ, ◌++◌, ◌+◌, ◌-◌, ◌*◌, ◌/◌, ap, codes, subst, ◌∙◌}
use Rattle.std.specs.Prelude.{decimal}
use Rattle.bus_outer.specs.Texts.{Adds}
use Rattle.bus_outer.proofs.TextLaws.{◌▸◌}
use Rattle.bus_table.specs.Lengths.{longest}
use Rattle.bus_page.specs.Waits.{row_text}
use Rattle.bus_page.proofs.waits.put_sender.Goals as goal

pub returns : goal.returns
returns g c =
    let text : ℕ → ℕ → List ℕ = λ n b. row_text c.args.scale.now c.args.most c.args.greatest c.args.top n b in
    subst (λ (t : List ℕ). Adds g.K.Sink.held g.K.Sink.faults c.args.sink.now c.put_row.new.sink c.args.text.now c.put_row.new.text t)
    (ap (λ (x : ℕ). text x c.from-bits.result) (c.number.ensures.value)
    ∙ ap (λ (x : ℕ). text c.args.sender.now.number x) (c.from-bits.ensures ∙ c.longest.ensures.value))
    (c.put_row.ensures)
