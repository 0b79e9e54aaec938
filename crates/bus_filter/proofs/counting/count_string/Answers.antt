use Rattle.std.proofs.Common.{◌∙◌}
use Rattle.bus_filter.proofs.KeyLemmas.{same_count}
use Rattle.bus_filter.proofs.counting.count_string.Goals as goal

pub returns-clause-count : goal.returns-clause-count
returns-clause-count c =
    c.count_takes.ensures.count ∙ same_count c.args.string.now c.label.result c.lines_of.result.now c.args.takes.now c.label.ensures.value c.lines_of.ensures.all
