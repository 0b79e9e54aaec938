use Rattle.std.proofs.Common.{◌≡◌, refl}
use Rattle.bus_command.specs.Readers.{no_source}
use Rattle.bus_command.specs.declared.outcome.Outcome.TheVariants.{Done}
use Rattle.bus_command.proofs.DoLaws.{answered}
use Rattle.bus_command.proofs.about.tell.Goals as goal

pub returns-clause-ends : goal.returns-clause-ends
returns-clause-ends g c =
    answered no_source Done (λ text. text ≡ c.args.told.now) g.K.Sink c.args.out.now c.write_all.new.sink c.args.told.now c.write_all.result
    c.after_writing.result refl refl c.write_all.ensures c.after_writing.ensures
