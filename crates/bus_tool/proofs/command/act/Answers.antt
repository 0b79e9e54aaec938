use Rattle.std.proofs.Common.{ap, sym, ◌∙◌}
use Rattle.std.specs.Prelude.{Some}
use Rattle.std.proofs.lemmas.Bool.{true≢false}
use Rattle.bus_command.proofs.ActLaws.{acts_form}
use Rattle.bus_command.proofs.DoLaws.{sourceless}
use Rattle.bus_tool.specs.Acts.{tool_program}
use Rattle.bus_tool.specs.Forms.{OnTable, OnMessages, OnTrace, Unwave, Drill, OnItself, Explain, ExplainBeside, Facts, Cable}
use Rattle.bus_tool.proofs.CauseLemmas.{due_has_cause}
use Rattle.bus_tool.proofs.command.act.Goals as goal

pub returns-in-Some-OnTable : goal.returns-in-Some-OnTable
returns-in-Some-OnTable g c = acts_form tool_program (due_has_cause (record {
  reads_table = c.readings_have_their_cause.ensures.found;
  refuses_table = c.readings_have_their_cause.ensures.refused;
  items_again = c.texts_read_as_their_items.ensures.again;
  reads_items = c.texts_read_as_their_items.ensures.found;
  trace_back = c.traces_read_back.ensures.back;
  trace_only = c.traces_read_back.ensures.only;
}) c.waves_tell_traces.ensures.back (record {
  again = c.texts_read_as_their_cables.ensures.again;
  found = c.texts_read_as_their_cables.ensures.found;
})) _ c.on_table.result (OnTable c.in-Some-OnTable.command) (ap Some (sym c.in-Some-OnTable.field-0-is) ∙ c.in-Some-OnTable.ensures.form) (c.on_table.ensures _)
    (λ free. absurd (true≢false free))

pub returns-in-Some-OnMessages : goal.returns-in-Some-OnMessages
returns-in-Some-OnMessages g c = acts_form tool_program (due_has_cause (record {
  reads_table = c.readings_have_their_cause.ensures.found;
  refuses_table = c.readings_have_their_cause.ensures.refused;
  items_again = c.texts_read_as_their_items.ensures.again;
  reads_items = c.texts_read_as_their_items.ensures.found;
  trace_back = c.traces_read_back.ensures.back;
  trace_only = c.traces_read_back.ensures.only;
}) c.waves_tell_traces.ensures.back (record {
  again = c.texts_read_as_their_cables.ensures.again;
  found = c.texts_read_as_their_cables.ensures.found;
})) _ c.on_messages.result (OnMessages c.in-Some-OnMessages.command) (ap Some (sym c.in-Some-OnMessages.field-0-is) ∙ c.in-Some-OnMessages.ensures.form) c.on_messages.ensures
    (λ free. absurd (true≢false free))

pub returns-in-Some-OnTrace : goal.returns-in-Some-OnTrace
returns-in-Some-OnTrace g c = acts_form tool_program (due_has_cause (record {
  reads_table = c.readings_have_their_cause.ensures.found;
  refuses_table = c.readings_have_their_cause.ensures.refused;
  items_again = c.texts_read_as_their_items.ensures.again;
  reads_items = c.texts_read_as_their_items.ensures.found;
  trace_back = c.traces_read_back.ensures.back;
  trace_only = c.traces_read_back.ensures.only;
}) c.waves_tell_traces.ensures.back (record {
  again = c.texts_read_as_their_cables.ensures.again;
  found = c.texts_read_as_their_cables.ensures.found;
})) _ c.on_trace.result (OnTrace c.in-Some-OnTrace.command) (ap Some (sym c.in-Some-OnTrace.field-0-is) ∙ c.in-Some-OnTrace.ensures.form) c.on_trace.ensures
    (λ free. absurd (true≢false free))

pub returns-in-Some-Unwave : goal.returns-in-Some-Unwave
returns-in-Some-Unwave g c = acts_form tool_program (due_has_cause (record {
  reads_table = c.readings_have_their_cause.ensures.found;
  refuses_table = c.readings_have_their_cause.ensures.refused;
  items_again = c.texts_read_as_their_items.ensures.again;
  reads_items = c.texts_read_as_their_items.ensures.found;
  trace_back = c.traces_read_back.ensures.back;
  trace_only = c.traces_read_back.ensures.only;
}) c.waves_tell_traces.ensures.back (record {
  again = c.texts_read_as_their_cables.ensures.again;
  found = c.texts_read_as_their_cables.ensures.found;
})) _ c.unwave.result Unwave (ap Some (sym c.in-Some-Unwave.field-0-is) ∙ c.in-Some-Unwave.ensures.form) c.unwave.ensures
    (λ free. absurd (true≢false free))

pub returns-in-Some-Drill : goal.returns-in-Some-Drill
returns-in-Some-Drill g c = acts_form tool_program (due_has_cause (record {
  reads_table = c.readings_have_their_cause.ensures.found;
  refuses_table = c.readings_have_their_cause.ensures.refused;
  items_again = c.texts_read_as_their_items.ensures.again;
  reads_items = c.texts_read_as_their_items.ensures.found;
  trace_back = c.traces_read_back.ensures.back;
  trace_only = c.traces_read_back.ensures.only;
}) c.waves_tell_traces.ensures.back (record {
  again = c.texts_read_as_their_cables.ensures.again;
  found = c.texts_read_as_their_cables.ensures.found;
})) _ c.drill.result (Drill c.in-Some-Drill.number) (ap Some (sym c.in-Some-Drill.field-0-is) ∙ c.in-Some-Drill.ensures.form) (sourceless _ _ _ _ _ _ c.drill.ensures)
    (λ free. absurd (true≢false free))

pub returns-in-Some-OnItself : goal.returns-in-Some-OnItself
returns-in-Some-OnItself g c = acts_form tool_program (due_has_cause (record {
  reads_table = c.readings_have_their_cause.ensures.found;
  refuses_table = c.readings_have_their_cause.ensures.refused;
  items_again = c.texts_read_as_their_items.ensures.again;
  reads_items = c.texts_read_as_their_items.ensures.found;
  trace_back = c.traces_read_back.ensures.back;
  trace_only = c.traces_read_back.ensures.only;
}) c.waves_tell_traces.ensures.back (record {
  again = c.texts_read_as_their_cables.ensures.again;
  found = c.texts_read_as_their_cables.ensures.found;
})) _ c.tell_itself.result (OnItself c.in-Some-OnItself.about) (ap Some (sym c.in-Some-OnItself.field-0-is) ∙ c.in-Some-OnItself.ensures.form) (sourceless _ _ _ _ _ _ c.tell_itself.ensures.ends)
    (λ free. c.tell_itself.ensures.room)

pub returns-in-Some-Explain : goal.returns-in-Some-Explain
returns-in-Some-Explain g c = acts_form tool_program (due_has_cause (record {
  reads_table = c.readings_have_their_cause.ensures.found;
  refuses_table = c.readings_have_their_cause.ensures.refused;
  items_again = c.texts_read_as_their_items.ensures.again;
  reads_items = c.texts_read_as_their_items.ensures.found;
  trace_back = c.traces_read_back.ensures.back;
  trace_only = c.traces_read_back.ensures.only;
}) c.waves_tell_traces.ensures.back (record {
  again = c.texts_read_as_their_cables.ensures.again;
  found = c.texts_read_as_their_cables.ensures.found;
})) _ c.explain.result Explain (ap Some (sym c.in-Some-Explain.field-0-is) ∙ c.in-Some-Explain.ensures.form) (c.explain.ensures _)
    (λ free. absurd (true≢false free))

pub returns-in-Some-ExplainBeside : goal.returns-in-Some-ExplainBeside
returns-in-Some-ExplainBeside g c = acts_form tool_program (due_has_cause (record {
  reads_table = c.readings_have_their_cause.ensures.found;
  refuses_table = c.readings_have_their_cause.ensures.refused;
  items_again = c.texts_read_as_their_items.ensures.again;
  reads_items = c.texts_read_as_their_items.ensures.found;
  trace_back = c.traces_read_back.ensures.back;
  trace_only = c.traces_read_back.ensures.only;
}) c.waves_tell_traces.ensures.back (record {
  again = c.texts_read_as_their_cables.ensures.again;
  found = c.texts_read_as_their_cables.ensures.found;
})) _ c.explain_both.result ExplainBeside (ap Some (sym c.in-Some-ExplainBeside.field-0-is) ∙ c.in-Some-ExplainBeside.ensures.form) c.explain_both.ensures
    (λ free. absurd (true≢false free))

pub returns-in-Some-Facts : goal.returns-in-Some-Facts
returns-in-Some-Facts g c = acts_form tool_program (due_has_cause (record {
  reads_table = c.readings_have_their_cause.ensures.found;
  refuses_table = c.readings_have_their_cause.ensures.refused;
  items_again = c.texts_read_as_their_items.ensures.again;
  reads_items = c.texts_read_as_their_items.ensures.found;
  trace_back = c.traces_read_back.ensures.back;
  trace_only = c.traces_read_back.ensures.only;
}) c.waves_tell_traces.ensures.back (record {
  again = c.texts_read_as_their_cables.ensures.again;
  found = c.texts_read_as_their_cables.ensures.found;
})) _ c.facts.result Facts (ap Some (sym c.in-Some-Facts.field-0-is) ∙ c.in-Some-Facts.ensures.form) (c.facts.ensures _)
    (λ free. absurd (true≢false free))

pub returns-in-Some-Cable : goal.returns-in-Some-Cable
returns-in-Some-Cable g c = acts_form tool_program (due_has_cause (record {
  reads_table = c.readings_have_their_cause.ensures.found;
  refuses_table = c.readings_have_their_cause.ensures.refused;
  items_again = c.texts_read_as_their_items.ensures.again;
  reads_items = c.texts_read_as_their_items.ensures.found;
  trace_back = c.traces_read_back.ensures.back;
  trace_only = c.traces_read_back.ensures.only;
}) c.waves_tell_traces.ensures.back (record {
  again = c.texts_read_as_their_cables.ensures.again;
  found = c.texts_read_as_their_cables.ensures.found;
})) _ c.cable.result (Cable c.in-Some-Cable.horizon)
    (ap Some (sym c.in-Some-Cable.field-0-is) ∙ c.in-Some-Cable.ensures.form) c.cable.ensures
    (λ free. absurd (true≢false free))
