use Rattle.bus_command.proofs.FollowedLemmas.{followed_taken, followed_refused, followed_broken}
use Rattle.bus_command.specs.Outside.{source_seen}
use Rattle.bus_command.proofs.recorded.take_followed.Goals as goal

pub returns-in_err-trace-clause-takes : goal.returns-in_err-trace-clause-takes
returns-in_err-trace-clause-takes g c =
    followed_refused c.args.hears _ _ c.in_err-trace.field-0.0 c.from_residual.result c.in_err-trace.ensures.taken c.in_err-trace.ensures.exact
    c.in_err-trace.ensures.counts c.from_residual.ensures.1

pub returns-in-Ok-clause-takes : goal.returns-in-Ok-clause-takes
returns-in-Ok-clause-takes g c =
    followed_taken c.traces_read_back.ensures.back c.args.hears _ (source_seen g.S.Source c.read_trace.new.source) _ c.in_ok-trace.trace c.in-Ok.garbled
    c.in_ok-trace.ensures.ranges c.in_ok-trace.ensures.taken c.in-Ok.ensures.taken c.in_ok-trace.ensures.counts c.in-Ok.ensures.counts

pub returns-in-Err-clause-takes : goal.returns-in-Err-clause-takes
returns-in-Err-clause-takes g c =
    followed_broken c.args.hears _ (source_seen g.S.Source c.read_trace.new.source) _ c.in_ok-trace.trace c.in-Err.field-0
    c.in_ok-trace.ensures.taken c.in-Err.ensures.taken c.in_ok-trace.ensures.counts c.in-Err.ensures.counts
