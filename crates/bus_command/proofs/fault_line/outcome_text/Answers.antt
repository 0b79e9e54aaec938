use Rattle.std.proofs.Common.{subst}
use Rattle.bus_outer.specs.Sinks.{WritesText}
use Rattle.bus_command.specs.Outcomes.{line_with}
use Rattle.bus_command.proofs.fault_line.outcome_text.Goals as goal

pub returns-in-Some : goal.returns-in-Some
returns-in-Some g c = subst (λ o. WritesText g.K.Sink.held g.K.Sink.faults c.args.err.now c.write_line.new.err c.write_line.result (line_with g.R.Refusal.ends g.R.Refusal.line o c.args.outcome.now)) c.in-Some.ensures c.write_line.ensures
