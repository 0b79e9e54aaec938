use Rattle.std.proofs.Common.{◌≡◌, ◌∙◌, ap, subst}
use Rattle.bus_outer.specs.Sinks.{WritesText}
use Rattle.bus_margins.specs.Margins.{margins_of}
use Rattle.bus_margins.specs.Rooms.{level_of}
use Rattle.bus_margins.specs.Texts.{margins_lines, aperiodic_text}
use Rattle.bus_margins.proofs.BorneLemmas.{told_borne}
use Rattle.bus_margins.proofs.writing.write_aperiodic.Goals as goal

pub returns : goal.returns
returns g c =
    let same : margins_lines c.margins.result c.bears.result ≡ aperiodic_text c.args.bounds c.args.table.now =
    ap (λ m. margins_lines m c.bears.result) c.margins.ensures
    ∙ ap (margins_lines (margins_of c.args.bounds c.args.table.now))
    (told_borne c.args.bounds c.args.table.now (level_of c.args.bounds c.args.table.now) c.bears.result c.bears.ensures.none c.bears.ensures.greatest) in
    subst (WritesText g.K.Sink.held g.K.Sink.faults c.args.sink.now c.write_lines.new.sink c.write_lines.result) same c.write_lines.ensures
