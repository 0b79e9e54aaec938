use Rattle.std.proofs.Common.{sym, subst}
use Rattle.bus_command.specs.Outcomes.{error_line}
use Rattle.bus_outer.specs.Sinks.{WritesText}
use Rattle.bus_tool.specs.Refusals.{ToolRefusal, ends_of, line_of}
use Rattle.bus_tool.specs.inside.RefusalWords.{refusal_words}
use Rattle.bus_tool.proofs.refusal.ToolRefusalRefusal.write_line.Goals as goal

pub returns-in-TableMode : goal.returns-in-TableMode
returns-in-TableMode g c =
    subst (λ (why : ToolRefusal). WritesText g.K.Sink.held g.K.Sink.faults c.args.err.now c.write_error.new.sink c.write_error.result (line_of why))
    (sym c.in-TableMode.is)
    (subst (λ (why : ToolRefusal). WritesText g.K.Sink.held g.K.Sink.faults c.args.err.now c.write_error.new.sink c.write_error.result (error_line (ends_of why) (refusal_words why)))
    c.in-TableMode.is c.write_error.ensures)

pub returns-in-Unspaced : goal.returns-in-Unspaced
returns-in-Unspaced g c =
    subst (λ (why : ToolRefusal). WritesText g.K.Sink.held g.K.Sink.faults c.args.err.now c.write_error-in-Unspaced.new.sink c.write_error-in-Unspaced.result (line_of why))
    (sym c.in-Unspaced.is)
    (subst (λ (why : ToolRefusal). WritesText g.K.Sink.held g.K.Sink.faults c.args.err.now c.write_error-in-Unspaced.new.sink c.write_error-in-Unspaced.result (error_line (ends_of why) (refusal_words why)))
    c.in-Unspaced.is c.write_error-in-Unspaced.ensures)

pub returns-in-WaveText : goal.returns-in-WaveText
returns-in-WaveText g c =
    subst (λ (why : ToolRefusal). WritesText g.K.Sink.held g.K.Sink.faults c.args.err.now c.write_error-in-WaveText.new.sink c.write_error-in-WaveText.result (line_of why))
    (sym c.in-WaveText.is)
    (subst (λ (why : ToolRefusal). WritesText g.K.Sink.held g.K.Sink.faults c.args.err.now c.write_error-in-WaveText.new.sink c.write_error-in-WaveText.result (error_line (ends_of why) (refusal_words why)))
    c.in-WaveText.is c.write_error-in-WaveText.ensures)

pub returns-in-Uneven : goal.returns-in-Uneven
returns-in-Uneven g c =
    subst (λ (why : ToolRefusal). WritesText g.K.Sink.held g.K.Sink.faults c.args.err.now c.write_error-in-Uneven.new.sink c.write_error-in-Uneven.result (line_of why))
    (sym c.in-Uneven.is)
    (subst (λ (why : ToolRefusal). WritesText g.K.Sink.held g.K.Sink.faults c.args.err.now c.write_error-in-Uneven.new.sink c.write_error-in-Uneven.result (error_line (ends_of why) (refusal_words why)))
    c.in-Uneven.is c.write_error-in-Uneven.ensures)

pub returns-in-TooLong : goal.returns-in-TooLong
returns-in-TooLong g c =
    subst (λ (why : ToolRefusal). WritesText g.K.Sink.held g.K.Sink.faults c.args.err.now c.write_error-in-TooLong.new.sink c.write_error-in-TooLong.result (line_of why))
    (sym c.in-TooLong.is)
    (subst (λ (why : ToolRefusal). WritesText g.K.Sink.held g.K.Sink.faults c.args.err.now c.write_error-in-TooLong.new.sink c.write_error-in-TooLong.result (error_line (ends_of why) (refusal_words why)))
    c.in-TooLong.is c.write_error-in-TooLong.ensures)

pub returns-in-CableText : goal.returns-in-CableText
returns-in-CableText g c =
    subst (λ (why : ToolRefusal). WritesText g.K.Sink.held g.K.Sink.faults c.args.err.now c.write_error-in-CableText.new.sink c.write_error-in-CableText.result (line_of why))
    (sym c.in-CableText.is)
    (subst (λ (why : ToolRefusal). WritesText g.K.Sink.held g.K.Sink.faults c.args.err.now c.write_error-in-CableText.new.sink c.write_error-in-CableText.result (error_line (ends_of why) (refusal_words why)))
    c.in-CableText.is c.write_error-in-CableText.ensures)

pub returns-in-CableUnfit : goal.returns-in-CableUnfit
returns-in-CableUnfit g c =
    subst (λ (why : ToolRefusal). WritesText g.K.Sink.held g.K.Sink.faults c.args.err.now c.write_error-in-CableUnfit.new.sink c.write_error-in-CableUnfit.result (line_of why))
    (sym c.in-CableUnfit.is)
    (subst (λ (why : ToolRefusal). WritesText g.K.Sink.held g.K.Sink.faults c.args.err.now c.write_error-in-CableUnfit.new.sink c.write_error-in-CableUnfit.result (error_line (ends_of why) (refusal_words why)))
    c.in-CableUnfit.is c.write_error-in-CableUnfit.ensures)
