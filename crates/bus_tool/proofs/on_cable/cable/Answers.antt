use Rattle.std.proofs.Common.{arith}
use Rattle.bus_command.proofs.DoLaws.{stopped, ended}
use Rattle.bus_command.specs.Readers.{entire, two_sources}
use Rattle.bus_command.specs.Due.{table_refusal_of}
use Rattle.bus_command.specs.declared.outcome.Outcome.TheVariants.{Done}
use Rattle.bus_tool.specs.Due.{cable_answer, cable_due}
use Rattle.bus_tool.specs.Texts.{IsCableAnswerText, IsOnCableText}
use Rattle.bus_tool.specs.inside.TakenCable.{IsTakenOnCable}
use Rattle.bus_tool.proofs.CableLemmas.{cable_agrees}
use Rattle.bus_tool.proofs.on_cable.cable.Goals as goal

pub returns-in-Ok : goal.returns-in-Ok
returns-in-Ok g c =
    ended IsTakenOnCable cable_answer (IsCableAnswerText c.args.horizon) (two_sources entire entire) table_refusal_of cable_due _ _ _ _ c.in-Ok.on Done
    (IsOnCableText c.args.horizon c.in-Ok.on.table c.in-Ok.on.cable c.in-Ok.on.hands.items) c.observe_cable.result (cable_agrees c.args.horizon c.in-Ok.on) c.in-Ok.ensures.prepares
    c.observe_cable.ensures

pub returns-in-Err : goal.returns-in-Err
returns-in-Err g c =
    stopped IsTakenOnCable cable_answer (IsCableAnswerText c.args.horizon) (two_sources entire entire) table_refusal_of cable_due _ _ _ c.in-Err.outcome (λ inputs. omega arith)
    c.in-Err.ensures.prepares
