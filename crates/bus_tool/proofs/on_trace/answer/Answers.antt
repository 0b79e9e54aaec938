use Rattle.std.proofs.Common.{◌≡◌, refl, sym, ap, subst}
use Rattle.bus_command.specs.Readers.{Trace, entire, two_sources}
use Rattle.bus_command.specs.declared.outcome.Outcome.TheVariants.{Done}
use Rattle.bus_command.proofs.DoLaws.{answered}
use Rattle.bus_filter.specs.ReceivedTexts.{received_text}
use Rattle.bus_strings.specs.Transmissions.{IsByMoment}
use Rattle.bus_vote.specs.VoteTexts.{votes_text}
use Rattle.bus_tool.specs.inside.Acting.{EndsOnTrace}
use Rattle.bus_tool.specs.Forms.{TraceCommand}
use Rattle.bus_tool.proofs.TraceLemmas.{trace_by_moment}
use Rattle.bus_tool.proofs.on_trace.answer.Goals as goal

pub write_received-requires : goal.write_received-requires
write_received-requires g c = subst IsByMoment (sym c.list.ensures.value) (trace_by_moment c.args.trace.now c.requires.trace)

pub returns-in-Receive : goal.returns-in-Receive
returns-in-Receive g c =
    subst (λ (command : TraceCommand). EndsOnTrace g.K.Sink command c.args.table.now c.args.trace.now c.args.out.now c.write_received.new.sink c.after_writing.result)
    (sym c.in-Receive.is)
    (answered (two_sources entire Trace) Done (λ text. text ≡ received_text c.args.table.now c.args.trace.now.list) g.K.Sink c.args.out.now c.write_received.new.sink
    (received_text c.args.table.now c.list.result.now) c.write_received.result c.after_writing.result refl
    (ap (received_text c.args.table.now) c.list.ensures.value) c.write_received.ensures c.after_writing.ensures)

pub returns-in-Vote : goal.returns-in-Vote
returns-in-Vote g c =
    subst (λ (command : TraceCommand). EndsOnTrace g.K.Sink command c.args.table.now c.args.trace.now c.args.out.now c.write_votes.new.sink c.after_writing-in-Vote.result)
    (sym c.in-Vote.is)
    (answered (two_sources entire Trace) Done (λ text. text ≡ votes_text c.args.table.now c.args.trace.now.list) g.K.Sink c.args.out.now c.write_votes.new.sink
    (votes_text c.args.table.now c.args.trace.now.list) c.write_votes.result c.after_writing-in-Vote.result refl refl c.write_votes.ensures.text
    c.after_writing-in-Vote.ensures)
