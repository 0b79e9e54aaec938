use Rattle.std.proofs.Common.{arith}
use Rattle.bus_command.specs.declared.outcome.Outcome.TheVariants.{Done}
use Rattle.bus_command.specs.Readers.{entire, one_source}
use Rattle.bus_command.proofs.DoLaws.{roomless}
use Rattle.bus_tool.proofs.explain.explain_borne.Goals as goal

pub returns-in-Ok : goal.returns-in-Ok
returns-in-Ok g c = c.explain_started.ensures

pub returns-in-Err : goal.returns-in-Err
returns-in-Err g c = roomless (one_source entire) Done _ _ (omega arith)
