use Rattle.std.proofs.Common.{refl, sym, subst}
use Rattle.bus_command.specs.Readers.{no_source}
use Rattle.bus_command.proofs.DoLaws.{answered, roomless}
use Rattle.std.proofs.Common.{arith, ◌≡◌}
use Rattle.bus_command.specs.Acts.{Ends}
use Rattle.bus_command.specs.Outside.{sink_seen}
use Rattle.bus_command.specs.declared.outcome.Outcome.TheVariants.{Done}
use Rattle.bus_tool.specs.Drills.{drill_line}
use Rattle.bus_tool.specs.inside.Drilled.{line_of}
use Rattle.bus_tool.proofs.DrillLemmas.{line_is}
use Rattle.bus_tool.proofs.drill.drill.Goals as goal

pub returns-in-Ok : goal.returns-in-Ok
returns-in-Ok g c =
    answered no_source Done _ g.K.Sink c.args.out.now c.write_drill.new.sink (line_of c.in-Ok.drilled) c.write_drill.result c.after_writing.result refl
    (line_is c.in-Ok.drilled c.args.number c.in-Ok.ensures.found) c.write_drill.ensures c.after_writing.ensures

pub returns-in-Err : goal.returns-in-Err
returns-in-Err g c =
    subst (Ends no_source Done (λ text. text ≡ drill_line c.args.number) (sink_seen g.K.Sink c.args.out.now) (sink_seen g.K.Sink c.args.out.now))
    (sym c.in-Err.ensures.only) (roomless no_source Done _ _ (omega arith))
