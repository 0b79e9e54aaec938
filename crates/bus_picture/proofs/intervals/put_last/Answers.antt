use Rattle.std.proofs.Common.{ℕ, Option, sym, subst}
use Rattle.bus_outer.specs.Texts.{Adds}
use Rattle.bus_picture.specs.Timers.{interval_at, interval_behind}
use Rattle.bus_picture.proofs.intervals.put_last.Goals as goal

pub returns-in-Some : goal.returns-in-Some
returns-in-Some g c =
    subst (λ (last : Option ℕ). Adds g.K.Sink.held g.K.Sink.faults c.args.sink.now c.put_interval_at.new.sink c.args.text.now c.put_interval_at.new.text
    (interval_behind c.args.scale.now c.args.timings last c.args.next)) (sym c.in-Some.is)
    (subst (λ (to : ℕ). Adds g.K.Sink.held g.K.Sink.faults c.args.sink.now c.put_interval_at.new.sink c.args.text.now c.put_interval_at.new.text
    (interval_at c.args.scale.now c.args.timings c.in-Some.moment to)) c.interval_to-to.ensures c.put_interval_at.ensures)
