use Rattle.std.proofs.Common.{subst}
use Rattle.bus_outer.specs.Texts.{Adds}
use Rattle.bus_outer.proofs.TextLaws.{adds_then}
use Rattle.bus_watch.specs.Parts.{silences}
use Rattle.bus_watch.proofs.part.Part.end.Goals as goal

pub returns : goal.returns
returns g c =
    let first = subst (λ b. Adds g.K.Sink.held g.K.Sink.faults c.args.sink.now c.put_silences.new.sink c.args.text.now c.put_silences.new.text
    (silences c.args.table.now c.args.self.now c.args.line b)) c.bit_of.ensures c.put_silences.ensures in
    adds_then first c.put_part.ensures
