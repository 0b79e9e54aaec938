use Rattle.bus_trace.proofs.WordLists.{not_framed}
use Rattle.bus_trace.proofs.words.value_of.Goals as goal

pub returns-in-None : goal.returns-in-None
returns-in-None c = not_framed c.args.field.now c.read_frame.result c.read_frame.ensures c.in-None.is
