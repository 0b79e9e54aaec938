use Rattle.std.proofs.Common.{subst}
use Rattle.bus_command.proofs.DoLaws.{stopped, ended}
use Rattle.bus_command.specs.Readers.{entire, two_sources}
use Rattle.bus_command.specs.inside.Steps.{AreInputs}
use Rattle.bus_command.specs.Due.{inputs_by}
use Rattle.bus_tool.specs.Due.{refusal_for, table_for, inputs_answer}
use Rattle.bus_tool.specs.Forms.{messages_mode}
use Rattle.bus_tool.specs.Texts.{IsInputsText}
use Rattle.bus_tool.proofs.GroupLemmas.{inputs_late, inputs_agree, mode_prepares}
use Rattle.bus_tool.proofs.on_messages.on_messages.Goals as goal

pub returns-in-Ok : goal.returns-in-Ok
returns-in-Ok g c =
    ended AreInputs (inputs_answer c.args.command) (IsInputsText c.args.command) (two_sources entire entire) (refusal_for (messages_mode c.args.command))
    (inputs_by (table_for (messages_mode c.args.command))) _ _ _ _ c.in-Ok.dealt _ _ c.answer.result (inputs_agree c.args.command c.in-Ok.dealt)
    (mode_prepares c.mode.result (messages_mode c.args.command) _ _ _ c.mode.ensures c.in-Ok.ensures.prepares) c.answer.ensures

pub returns-in-Err : goal.returns-in-Err
returns-in-Err g c =
    stopped AreInputs (inputs_answer c.args.command) (IsInputsText c.args.command) (two_sources entire entire) (refusal_for (messages_mode c.args.command))
    (inputs_by (table_for (messages_mode c.args.command))) _ _ _ c.in-Err.outcome (inputs_late c.args.command)
    (mode_prepares c.mode.result (messages_mode c.args.command) _ _ _ c.mode.ensures c.in-Err.ensures.prepares)

pub answer-requires-clause-mode : goal.answer-requires-clause-mode
answer-requires-clause-mode g c = subst (λ mode. Rattle.bus_tool.specs.inside.Acting.IsOfMode mode c.in-Ok.dealt.table) c.mode.ensures c.in-Ok.ensures.mode
