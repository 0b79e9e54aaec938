use Rattle.bus_trace.proofs.PieceLaws.{nothing_came}
use Rattle.bus_trace.proofs.reader.TraceReader.new.Goals as goal

pub returns-clause-nothing : goal.returns-clause-nothing
returns-clause-nothing c = nothing_came c.at_start.result c.at_start.ensures.begins
