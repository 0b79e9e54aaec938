use Rattle.std.proofs.Common.{◌≡◌, refl, sym, subst}
use Rattle.bus_command.specs.Readers.{entire, one_source}
use Rattle.bus_command.specs.declared.outcome.Outcome.TheVariants.{Done}
use Rattle.bus_command.proofs.DoLaws.{answered}
use Rattle.bus_table.specs.Canonical.{table_text}
use Rattle.bus_tool.specs.inside.Acting.{EndsOnTable}
use Rattle.bus_tool.specs.Forms.{TableCommand}
use Rattle.bus_tool.proofs.on_table.answer.Goals as goal

pub returns-in-Tidy : goal.returns-in-Tidy
returns-in-Tidy g c =
    subst (λ (command : TableCommand). EndsOnTable g.K.Sink command c.args.table.now c.args.out.now c.write_table.new.sink c.after_writing.result)
    (sym c.in-Tidy.is)
    (answered (one_source entire) Done (λ text. text ≡ table_text c.args.table.now) g.K.Sink c.args.out.now c.write_table.new.sink
    (table_text c.args.table.now) c.write_table.result c.after_writing.result refl refl c.write_table.ensures.written c.after_writing.ensures)
