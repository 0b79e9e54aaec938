use Rattle.std.proofs.Common.{ap, sym, ◌∙◌}
use Rattle.std.specs.Prelude.{Some}
use Rattle.std.proofs.lemmas.Bool.{true≢false}
use Rattle.bus_command.proofs.ActLaws.{acts_form}
use Rattle.bus_command.proofs.DoLaws.{sourceless}
use Rattle.bus_view.specs.Acts.{view_program}
use Rattle.bus_view.specs.Forms.{OnTrace, OnItself, Page}
use Rattle.bus_view.proofs.AnswerLaws.{due_has_cause}
use Rattle.bus_view.proofs.command.act.Goals as goal

pub returns-in-Some-OnTrace : goal.returns-in-Some-OnTrace
returns-in-Some-OnTrace g c = acts_form view_program (due_has_cause (record {
  reads_table = c.readings_have_their_cause.ensures.found;
  refuses_table = c.readings_have_their_cause.ensures.refused;
  items_again = c.texts_read_as_their_items.ensures.again;
  reads_items = c.texts_read_as_their_items.ensures.found;
  trace_back = c.traces_read_back.ensures.back;
  trace_only = c.traces_read_back.ensures.only;
})) _ c.show.result (OnTrace c.in-Some-OnTrace.view) (ap Some (sym c.in-Some-OnTrace.field-0-is) ∙ c.in-Some-OnTrace.ensures.value) c.show.ensures
    (λ free. absurd (true≢false free))

pub returns-in-Some-OnItself : goal.returns-in-Some-OnItself
returns-in-Some-OnItself g c = acts_form view_program (due_has_cause (record {
  reads_table = c.readings_have_their_cause.ensures.found;
  refuses_table = c.readings_have_their_cause.ensures.refused;
  items_again = c.texts_read_as_their_items.ensures.again;
  reads_items = c.texts_read_as_their_items.ensures.found;
  trace_back = c.traces_read_back.ensures.back;
  trace_only = c.traces_read_back.ensures.only;
})) _ c.tell_itself.result (OnItself c.in-Some-OnItself.about) (ap Some (sym c.in-Some-OnItself.field-0-is) ∙ c.in-Some-OnItself.ensures.value) (sourceless _ _ _ _ _ _ c.tell_itself.ensures.ends)
    (λ free. c.tell_itself.ensures.room)

pub returns-in-Some-Page : goal.returns-in-Some-Page
returns-in-Some-Page g c = acts_form view_program (due_has_cause (record {
  reads_table = c.readings_have_their_cause.ensures.found;
  refuses_table = c.readings_have_their_cause.ensures.refused;
  items_again = c.texts_read_as_their_items.ensures.again;
  reads_items = c.texts_read_as_their_items.ensures.found;
  trace_back = c.traces_read_back.ensures.back;
  trace_only = c.traces_read_back.ensures.only;
})) _ c.page.result (Page c.in-Some-Page.asked) (ap Some (sym c.in-Some-Page.field-0-is) ∙ c.in-Some-Page.ensures.value) (c.page.ensures _)
    (λ free. absurd (true≢false free))
