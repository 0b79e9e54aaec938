use Rattle.std.proofs.Common.{◌≡◌, sym, ◌∙◌, subst}
use Rattle.bus_command.specs.Acts.{Ends}
use Rattle.bus_command.specs.Outside.{sink_seen}
use Rattle.bus_view.specs.Due.{single_outcome, drawing, window_or_whole}
use Rattle.bus_command.specs.Readers.{by_trace}
use Rattle.bus_view.proofs.drawing.draw.Goals as goal

pub returns-in-None : goal.returns-in-None
returns-in-None g c =
    let table = c.args.table.now in
    let trace = c.args.trace.now in
    subst (λ e. Ends by_trace (single_outcome e) (λ text. text ≡ drawing c.args.dump (window_or_whole c.args.window trace) table trace)
    (sink_seen g.K.Sink c.args.out.now) (sink_seen g.K.Sink c.draw_single.new.out) c.draw_single.result) (sym c.in-None.is ∙ c.doubled.ensures)
    c.draw_single.ensures

pub draw_single-requires-clause-single : goal.draw_single-requires-clause-single
draw_single-requires-clause-single g c = sym c.doubled.ensures ∙ c.in-None.is
