use Rattle.std.proofs.Common.{◌∙◌}
use Rattle.bus_trace.specs.WordFields.{has_parity}
use Rattle.bus_trace.proofs.WordLists.{list_all-texts}
use Rattle.bus_stream.proofs.message.have_parity.Goals as goal

pub returns : goal.returns
returns c = c.each_has_parity.ensures ∙ list_all-texts has_parity c.args.fields.now
