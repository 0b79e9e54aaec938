use Rattle.std.proofs.Common.{ap, ◌∙◌}
use Rattle.bus_margins_periodic.specs.Bearing.{is_level}
use Rattle.bus_margins_periodic.specs.Margins.{level_of}
use Rattle.bus_margins_periodic.proofs.bearing.keeps.Goals as goal

pub returns : goal.returns
returns c =
    c.is_kept_by.ensures
    ∙ ap (is_level c.args.level) (c.level_with-other.ensures ∙ ap (λ b. level_of b c.args.table.now) c.with_part.ensures)
