use Rattle.std.proofs.Common.{refl}
use Rattle.bus_trace.specs.States.{spaced_fields}
use Rattle.bus_wave.proofs.TextLemmas.{not_two}
use Rattle.bus_wave.proofs.symbol.second.Goals as goal

pub returns-in-Some-cut-clause-other : goal.returns-in-Some-cut-clause-other
returns-in-Some-cut-clause-other c = (
  refl,
  not_two (spaced_fields c.args.line.now) c.in-Some.field-0-0.now c.in-Some.rest.now c.in-Some-cut.field-0.0.now c.in-Some-cut.field-0.1.now
      c.in-Some.ensures.pieces c.in-Some-cut.ensures.pieces,
)
