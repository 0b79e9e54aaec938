use Rattle.std.proofs.Common.{List, ℕ, ◌++◌, ◌+◌, ◌-◌, ◌*◌, ◌/◌, ap, codes, subst, ◌∙◌}
use Rattle.std.specs.Prelude.{decimal}
use Rattle.bus_outer.specs.Texts.{Adds}
use Rattle.bus_outer.proofs.TextLaws.{◌▸◌}
use Rattle.bus_table.specs.declared.mode.Mode.{Mode}
use Rattle.bus_explain.specs.Figures.{load, spare}
use Rattle.bus_page.specs.Heads.{cycle_figure, level_figure, load_figure, spare_figure, tolerance_figure}
use Rattle.bus_page.proofs.heading.put_figures.Goals as goal

pub returns : goal.returns
returns g c =
    let text : Mode → ℕ → ℕ → List ℕ = λ m s l. codes "<dl>\n" ++ cycle_figure m c.args.least c.args.most ++ spare_figure s ++ load_figure l ++ tolerance_figure c.args.tolerance ++ level_figure c.args.bounds c.args.table.now ++ codes "</dl>\n" in
    subst (λ (t : List ℕ). Adds g.K.Sink.held g.K.Sink.faults c.args.sink.now c.put-2.new.sink c.args.text.now c.put-2.new.self t)
    (ap (λ (x : Mode). text x c.spare-spare.result c.load-load.result) (c.mode.ensures.value)
    ∙ ap (λ (x : ℕ). text c.args.table.now.mode x c.load-load.result) (c.spare-spare.ensures)
    ∙ ap (λ (x : ℕ). text c.args.table.now.mode (spare c.args.table.now c.args.least) x) (c.load-load.ensures))
    (c.put.ensures ▸ c.put_cycle_figure.ensures ▸ c.put_spare_figure.ensures ▸ c.put_load_figure.ensures ▸ c.put_tolerance_figure.ensures ▸ c.put_level_figure.ensures ▸ c.put-2.ensures)
