use Rattle.std.proofs.Common.{List, ℕ, subst}
use Rattle.bus_outer.specs.Texts.{Adds}
use Rattle.bus_picture.proofs.StringLemmas.{at_pulse}
use Rattle.bus_picture.proofs.strings.put_pulse.Goals as goal

pub returns : goal.returns
returns g c =
    subst (λ (t : List ℕ). Adds g.K.Sink.held g.K.Sink.faults c.args.sink.now c.put_string.new.sink c.args.text.now c.put_string.new.text t)
    (at_pulse c.args.canvas.now.scale c.args.canvas.now.receivers.now c.args.top c.args.sent.now c.args.x.now c.args.k c.pulse_moments-moments.result.0 c.pulse_moments-moments.result.1
    c.string_of-string.result.now c.pulse_moments-moments.ensures.from c.pulse_moments-moments.ensures.to c.string_of-string.ensures)
    c.put_string.ensures
