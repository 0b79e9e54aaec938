use Rattle.std.proofs.Common.{subst}
use Rattle.bus_command.specs.Outcomes.{error_line}
use Rattle.bus_command.specs.declared.status.Status.{Status}
use Rattle.bus_outer.specs.Sinks.{WritesText}
use Rattle.bus_outer.proofs.TextLaws.{◌▸◌, ends_text}
use Rattle.bus_tool.specs.inside.RefusalWords.{refusal_words}
use Rattle.bus_tool.proofs.refusal.write_error.Goals as goal

pub returns : goal.returns
returns g c =
    subst (λ (ends : Status). WritesText g.K.Sink.held g.K.Sink.faults c.args.sink.now c.finish.new.sink c.finish.result (error_line ends (refusal_words c.args.why)))
    c.status.ensures
    (ends_text g.K.Sink.held g.K.Sink.faults c.args.sink.now c.put_byte.new.sink c.finish.new.sink c.new-text.result c.put_byte.new.self
    c.finish.result _ c.finish.ensures (c.put_error.ensures ▸ c.put_words.ensures ▸ c.put_byte.ensures) c.new-text.ensures)
