use Rattle.bus_outer.proofs.TextLaws.{adds_then, ends_text}
use Rattle.bus_tool.proofs.cable_plan.write_undecided.Goals as goal

pub returns : goal.returns
returns g c = search (adds_then, ends_text) depth 40
