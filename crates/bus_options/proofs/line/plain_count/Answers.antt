use Rattle.std.proofs.Common.{sym, ◌∙◌}
use Rattle.bus_options.specs.Options.{is_option}
use Rattle.bus_options.proofs.PlaceLemmas.{first_is, all_before}
use Rattle.bus_options.proofs.line.plain_count.Goals as goal

pub returns-in-Some-clause-value : goal.returns-in-Some-clause-value
returns-in-Some-clause-value c = first_is is_option c.args.words.now c.in-Some.at (sym c.first_option.ensures ∙ c.in-Some.is)

pub returns-in-None-clause-value : goal.returns-in-None-clause-value
returns-in-None-clause-value c = all_before is_option c.args.words.now (sym c.first_option.ensures ∙ c.in-None.is)
