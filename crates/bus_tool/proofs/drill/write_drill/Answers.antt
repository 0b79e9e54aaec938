use Rattle.std.proofs.Common.{List, ℕ, refl, subst}
use Rattle.bus_outer.specs.Sinks.{WritesText}
use Rattle.bus_outer.proofs.TextLaws.{◌▸◌, ends_text}
use Rattle.bus_tool.proofs.DrillLemmas.{figures_same}
use Rattle.bus_tool.proofs.drill.write_drill.Goals as goal

pub returns : goal.returns
returns g c =
    let drilled = c.args.drilled.now in
    let same = figures_same c.from.result drilled.number c.from-2.result drilled.senders c.from-3.result drilled.rounds
    drilled.messages drilled.messages c.from-4.result drilled.end c.from-5.result drilled.collided drilled.received drilled.received
    c.from.ensures c.from-2.ensures c.from-3.ensures refl c.from-4.ensures c.from-5.ensures refl in
    subst (λ (t : List ℕ). WritesText g.K.Sink.held g.K.Sink.faults c.args.sink.now c.finish.new.sink c.finish.result t) same
    (ends_text g.K.Sink.held g.K.Sink.faults c.args.sink.now c.put_byte.new.sink c.finish.new.sink c.new-text.result c.put_byte.new.self
    c.finish.result _ c.finish.ensures
    (c.put_figure.ensures ▸ c.put_figure-2.ensures ▸ c.put_figure-3.ensures ▸ c.put_figure-4.ensures ▸ c.put_figure-5.ensures
    ▸ c.put_figure-6.ensures ▸ c.put_figure-7.ensures ▸ c.put_byte.ensures) c.new-text.ensures)
