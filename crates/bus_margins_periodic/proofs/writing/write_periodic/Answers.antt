use Rattle.std.proofs.Common.{◌≡◌, ◌∙◌, ap, subst}
use Rattle.bus_outer.specs.Sinks.{WritesText}
use Rattle.bus_margins_periodic.specs.Margins.{level_of, margins_of}
use Rattle.bus_margins_periodic.specs.Texts.{margins_lines, periodic_text}
use Rattle.bus_margins_periodic.proofs.BearLemmas.{told_borne}
use Rattle.bus_margins_periodic.proofs.writing.write_periodic.Goals as goal

pub returns : goal.returns
returns g c =
    let same : margins_lines c.args.table.now c.margins.result c.bears.result ≡ periodic_text c.args.bounds c.args.table.now =
    ap (λ m. margins_lines c.args.table.now m c.bears.result) c.margins.ensures
    ∙ ap (margins_lines c.args.table.now (margins_of c.args.bounds c.args.table.now))
    (told_borne c.args.bounds c.args.table.now (level_of c.args.bounds c.args.table.now) c.bears.result c.bears.ensures.none c.bears.ensures.greatest) in
    subst (WritesText g.K.Sink.held g.K.Sink.faults c.args.sink.now c.write_lines.new.sink c.write_lines.result) same c.write_lines.ensures
