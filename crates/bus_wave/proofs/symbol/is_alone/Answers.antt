use Rattle.std.proofs.Common.{sym}
use Rattle.bus_trace.specs.States.{spaced_fields}
use Rattle.bus_wave.proofs.TextLemmas.{not_alone}
use Rattle.bus_wave.proofs.symbol.is_alone.Goals as goal

pub returns-in-Some : goal.returns-in-Some
returns-in-Some c = sym (not_alone (spaced_fields c.args.line.now) c.in-Some.field-0.0.now c.in-Some.field-0.1.now c.in-Some.ensures.pieces)
