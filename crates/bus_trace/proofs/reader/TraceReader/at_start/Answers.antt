use Rattle.std.proofs.Common.{sym, subst}
use Rattle.bus_trace.specs.Runs.{Standing}
use Rattle.bus_trace.specs.Feeding.{ReaderIs}
use Rattle.bus_trace.specs.declared.stage.Stage.TheVariants.{Open}
use Rattle.bus_trace.proofs.Feeds.{begin_is}
use Rattle.bus_trace.proofs.reader.TraceReader.at_start.Goals as goal

pub invariant_of-result : goal.invariant_of-result
invariant_of-result c = subst (λ (at : Standing). ReaderIs Open at) (sym c.new.ensures) begin_is
