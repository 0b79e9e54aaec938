use Rattle.std.proofs.Common.{ap}
use Rattle.std.specs.Option.{option_map_or}
use Rattle.bus_cable.specs.declared.cable.Named.{Named}
use Rattle.bus_cable.proofs.cable.bits_for.Goals as goal

pub returns-in-Some : goal.returns-in-Some
returns-in-Some c = ap (λ o. option_map_or (λ (one : Named). one.bits) o 0) c.in-Some.ensures

pub returns-in-None : goal.returns-in-None
returns-in-None c = ap (λ o. option_map_or (λ (one : Named). one.bits) o 0) c.in-None.ensures
