use Rattle.std.proofs.Common.{ℕ, List, min, ap, ◌∙◌}
use Rattle.bus_pen.specs.declared.scale.Scale.{Scale}
use Rattle.bus_cycles.specs.Cuts.{Seen, seen_of}
use Rattle.bus_cycles.specs.Pages.{Page, row_height_of, scale_of}
use Rattle.bus_cycles.specs.Rows.{Cycle, cycle_of}
use Rattle.bus_cycles.specs.Surveys.{most_rows}
use Rattle.bus_cycles.proofs.page.Page.new.Goals as goal

pub returns-clause-value : goal.returns-clause-value
returns-clause-value c =
    let survey = c.args.survey.now in
    let height = row_height_of c.args.counts.now.garbled in
    let rows = min survey.count most_rows in
    let whole : Scale → Cycle → ℕ → ℕ → Seen → List ℕ → Page = λ scale cycle rows height seen lanes. record {
      scale = scale;
      cycle = cycle;
      rows = rows;
      row_height = height;
      seen = seen;
      lanes = lanes;
    } in
    let seen = seen_of c.args.counts.now in
    ap (λ (x : Scale). whole x c.new.result c.min.result c.row_height_of.result c.seen_of.result c.lanes_of.result) c.scale_of.ensures
    ∙ ap (λ (x : Cycle). whole (scale_of survey) x c.min.result c.row_height_of.result c.seen_of.result c.lanes_of.result) c.new.ensures.value
    ∙ ap (λ (x : ℕ). whole (scale_of survey) (cycle_of c.args.table.now) x c.row_height_of.result c.seen_of.result c.lanes_of.result) c.min.ensures
    ∙ ap (λ (x : ℕ). whole (scale_of survey) (cycle_of c.args.table.now) rows x c.seen_of.result c.lanes_of.result) c.row_height_of.ensures.value
    ∙ ap (λ (x : Seen). whole (scale_of survey) (cycle_of c.args.table.now) rows height x c.lanes_of.result) c.seen_of.ensures.value
    ∙ ap (λ (x : List ℕ). whole (scale_of survey) (cycle_of c.args.table.now) rows height seen x) c.lanes_of.ensures
