use Rattle.std.proofs.Common.{refl}
use Rattle.bus_trace.specs.Limits.{trace_limit}
use Rattle.bus_trace.specs.declared.format.Format.TheVariants.{Two}
use Rattle.bus_filter.specs.ReceivedTexts.{received_text}
use Rattle.bus_tool.proofs.laws.receive_of_a_run_is_its_tail.Goals as goal

pub returns : goal.returns
returns c = λ table trace right few. record {
  reads = c.traces_read_back.ensures.back trace_limit Two trace (received_text table trace.list) right few;
  behind = refl;
}
