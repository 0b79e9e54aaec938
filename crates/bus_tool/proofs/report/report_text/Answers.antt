use Rattle.std.proofs.Common.{codes, ◌++◌, ap, ◌∙◌}
use Rattle.std.proofs.lemmas.Result.{IfOk-weaker}
use Rattle.serde_json.specs.Data.{Data}
use Rattle.serde_json.specs.Written.{compact_text, has_float}
use Rattle.bus_tool.proofs.ReportTexts.{no_float, report_json}
use Rattle.bus_tool.proofs.report.report_text.Goals as goal

pub returns : goal.returns
returns c =
    let value = c.in_ok-value.ensures.value in
    IfOk-weaker c.line_of.result _ _ (λ s h. h (ap has_float value ∙ no_float c.args.table.now)
    ∙ ap (λ (d : Data). compact_text d ++ codes "\n") value ∙ report_json c.args.table.now c.in_ok-value.ensures.plain) c.line_of.ensures
