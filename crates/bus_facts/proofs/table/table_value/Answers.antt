use Rattle.std.proofs.Common.{ap, ◌∙◌}
use Rattle.std.proofs.lemmas.Result.{IfOk-weaker}
use Rattle.bus_facts.specs.Facts.{figures_of}
use Rattle.bus_facts.specs.inside.Seen.{seen}
use Rattle.bus_facts.proofs.TellingLemmas.{told_same}
use Rattle.bus_facts.proofs.table.table_value.Goals as goal

pub returns : goal.returns
returns c =
    IfOk-weaker c.told_as.result _ _
    (λ value h. h ∙ told_same c.args.table.now c.in_ok-heads.heads (seen c.in_ok-figures.figures) c.in_ok-heads.ensures
    (c.in_ok-figures.ensures ∙ ap (λ v. figures_of v c.args.table.now) c.requires)) c.told_as.ensures
