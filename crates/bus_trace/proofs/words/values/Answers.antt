use Rattle.std.proofs.Common.{◌∙◌}
use Rattle.bus_trace.specs.WordFields.{value_of}
use Rattle.bus_trace.proofs.WordLists.{map-texts}
use Rattle.bus_trace.proofs.words.values.Goals as goal

pub returns : goal.returns
returns c = c.in_ok-values.ensures ∙ map-texts value_of c.args.fields.now
