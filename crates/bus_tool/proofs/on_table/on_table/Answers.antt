use Rattle.bus_command.proofs.DoLaws.{stopped, ended}
use Rattle.bus_command.proofs.PrepareLaws.{prepares_one}
use Rattle.bus_command.specs.Readers.{entire, one_source}
use Rattle.bus_command.specs.Steps.{Same}
use Rattle.bus_tool.specs.Due.{refusal_for, table_for, table_answer}
use Rattle.bus_tool.specs.Forms.{table_mode}
use Rattle.bus_tool.specs.Texts.{IsTableAnswerText}
use Rattle.bus_tool.proofs.AnswerLaws.{table_late}
use Rattle.bus_tool.proofs.GroupLemmas.{table_agrees, mode_takes}
use Rattle.bus_tool.proofs.on_table.on_table.Goals as goal

pub returns-in-Ok : goal.returns-in-Ok
returns-in-Ok g c = λ second.
    ended Same (table_answer c.args.command) (IsTableAnswerText c.args.command) (one_source entire) (refusal_for (table_mode c.args.command))
    (λ a b. table_for (table_mode c.args.command) a) _ _ _ _ c.in-Ok.table _ _ c.answer.result (table_agrees c.args.command c.in-Ok.table)
    (prepares_one Same entire (table_for (table_mode c.args.command)) _ _ second _ (mode_takes c.mode.result (table_mode c.args.command) _ _ _ c.mode.ensures c.in-Ok.ensures.takes))
    c.answer.ensures

pub returns-in-Err : goal.returns-in-Err
returns-in-Err g c = λ second.
    stopped Same (table_answer c.args.command) (IsTableAnswerText c.args.command) (one_source entire) (refusal_for (table_mode c.args.command))
    (λ a b. table_for (table_mode c.args.command) a) _ _ _ c.in-Err.outcome (table_late c.args.command)
    (prepares_one Same entire (table_for (table_mode c.args.command)) _ _ second _ (mode_takes c.mode.result (table_mode c.args.command) _ _ _ c.mode.ensures c.in-Err.ensures.takes))
