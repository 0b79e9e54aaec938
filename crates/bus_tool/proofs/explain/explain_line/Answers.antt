use Rattle.std.proofs.Common.{◌≡◌, refl}
use Rattle.bus_command.specs.declared.outcome.Outcome.TheVariants.{Answered}
use Rattle.bus_command.specs.Readers.{entire, one_source}
use Rattle.bus_command.proofs.DoLaws.{answered}
use Rattle.bus_explain.specs.Unread.{unread_text}
use Rattle.bus_tool.proofs.explain.explain_line.Goals as goal

pub returns : goal.returns
returns g c =
    answered (one_source entire) Answered (λ text. text ≡ unread_text c.args.line c.args.reason c.args.stop.now) g.K.Sink
    c.args.out.now c.write_unread.new.sink (unread_text c.args.line c.args.reason c.args.stop.now) c.write_unread.result c.after_writing.result refl
    refl c.write_unread.ensures c.after_writing.ensures
