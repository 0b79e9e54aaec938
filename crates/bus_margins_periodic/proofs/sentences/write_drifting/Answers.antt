use Rattle.std.proofs.Common.{◌∙◌, ap, subst}
use Rattle.bus_outer.specs.Sinks.{WritesText}
use Rattle.bus_margins_periodic.specs.Margins.{margins_of}
use Rattle.bus_margins_periodic.specs.Sentences.{sentence_of}
use Rattle.bus_margins_periodic.proofs.sentences.write_drifting.Goals as goal

pub returns : goal.returns
returns g c =
    subst (WritesText g.K.Sink.held g.K.Sink.faults c.args.sink.now c.write_sentence.new.sink c.write_sentence.result)
    (ap (sentence_of c.args.table.now) (c.margins.ensures ∙ ap (λ b. margins_of b c.args.table.now) c.drifting.ensures)) c.write_sentence.ensures
