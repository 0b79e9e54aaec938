use Rattle.std.proofs.Common.{◌∙◌}
use Rattle.bus_trace.proofs.WordLists.{framed}
use Rattle.bus_trace.proofs.words.is_spelled.Goals as goal

pub returns-in-Some : goal.returns-in-Some
returns-in-Some c = c.same_kind.ensures
    ∙ framed c.args.kind c.args.field.now c.read_frame.result c.in-Some.frame c.read_frame.ensures c.in-Some.is
