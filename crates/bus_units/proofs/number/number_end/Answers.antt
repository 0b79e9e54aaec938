use Rattle.std.specs.Prelude.{not}
use Rattle.std.proofs.Common.{sym, ◌∙◌}
use Rattle.bus_units.specs.Quantities as definition
use Rattle.bus_units.proofs.Ends.{ends_behind}
use Rattle.bus_units.proofs.number.number_end.Goals as goal

pub returns-in-None-clause-value : goal.returns-in-None-clause-value
returns-in-None-clause-value c = ends_behind (λ byte. not (definition.is_number_byte byte)) c.args.word.now (sym c.first_other.ensures ∙ c.in-None.is)
