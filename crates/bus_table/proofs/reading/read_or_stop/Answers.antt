use Rattle.bus_text.specs.Entries.{entry}
use Rattle.bus_table.proofs.StepLemmas.{steps_go, steps_end, step_fails}
use Rattle.bus_table.proofs.StopLemmas.{stops_go, stops_error, stops_end, said_fails, at_end_of}
use Rattle.bus_table.proofs.reading.read_or_stop.Goals as goal

pub loop-line-preserved : goal.loop-line-preserved
loop-line-preserved c = record {
  read = steps_go c.loop-line.draft c.take_line.new.self c.loop-line.line-iterator c.next.new.self (entry c.in-Some.line) _ c.in-Some.ensures.steps
      c.in-Ok.ensures c.loop-line.invariant.read;
  stop = stops_go c.loop-line.draft c.take_line.new.self c.loop-line.line-iterator c.next.new.self (entry c.in-Some.line) _ c.in-Some.ensures.steps
      c.in-Ok.ensures c.loop-line.invariant.stop;
}

pub returns-in-Err-clause-error : goal.returns-in-Err-clause-error
returns-in-Err-clause-error c =
    said_fails c.in-Err.error c.at_line.result.error _ c.at_line.ensures.error
    (step_fails c.in-Err.error c.loop-line.draft c.loop-line.line-iterator c.next.new.self (entry c.in-Some.line) c.args.text.now
    c.in-Some.ensures.steps c.in-Err.ensures c.loop-line.invariant.read)

pub returns-in-Err-clause-stop : goal.returns-in-Err-clause-stop
returns-in-Err-clause-stop c =
    stops_error c.in-Err.error c.at_line.result.error c.loop-line.draft c.loop-line.line-iterator c.next.new.self (entry c.in-Some.line) _
    c.stop-before.result c.at_line.result.stop c.at_line.ensures.error c.at_line.ensures.stop c.stop-before.ensures c.in-Some.ensures.steps
    c.in-Err.ensures c.loop-line.invariant.stop

pub at_end-requires : goal.at_end-requires
at_end-requires c = steps_end c.loop-line.draft c.loop-line.line-iterator _ c.in-None.ensures.steps.0 c.loop-line.invariant.read

pub returns-clause-stop : goal.returns-clause-stop
returns-clause-stop c =
    at_end_of c.at_end.result _ _ c.at_end.ensures.stop (stops_end c.loop-line.draft c.loop-line.line-iterator _ c.in-None.ensures.steps.0 c.loop-line.invariant.stop)
