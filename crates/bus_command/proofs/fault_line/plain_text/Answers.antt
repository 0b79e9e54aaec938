use Rattle.bus_outer.proofs.TextLaws.{ends_text}
use Rattle.bus_command.proofs.fault_line.plain_text.Goals as goal

pub returns : goal.returns
returns g c = search ends_text depth 40
