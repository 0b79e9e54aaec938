use Rattle.std.proofs.Common.{List, ℕ, subst, ◌∙◌}
use Rattle.bus_outer.specs.Texts.{Adds}
use Rattle.bus_outer.proofs.TextLaws.{◌▸◌, ends_text}
use Rattle.bus_cycles.proofs.WriteLemmas.{whole_put}
use Rattle.bus_cycles.proofs.writing.write_cycles.Goals as goal

pub returns : goal.returns
returns g c =
    ends_text g.K.Sink.held g.K.Sink.faults c.args.sink.now c.put_tail.new.sink c.finish.new.sink c.new-text.result c.put_tail.new.text c.finish.result _ c.finish.ensures
    (subst (λ (t : List ℕ). Adds g.K.Sink.held g.K.Sink.faults c.args.sink.now c.put_tail.new.sink c.new-text.result c.put_tail.new.text t)
    (whole_put c.args.window.now c.args.verdict.now c.args.told.now c.args.table.now c.args.trace.now c.list-list.result.now c.holds.result.now c.height_of-height.result c.counts-counts.result
    c.take_survey-survey.result c.new-page.result c.as_slice-begins.result.now c.listed_of-listed.result c.new-cycle.result c.seen_of.result c.breach_in-breach.result
    (record {
      entries_are = c.list-list.ensures.value;
      holds_are = c.holds.ensures.value;
      height_is = c.height_of-height.ensures;
      numbers_are = c.counts-counts.ensures.value;
      cycle_is = c.new-cycle.ensures.value;
      limits_are = c.seen_of.ensures.value;
      breach_is = c.breach_in-breach.ensures.value;
      survey_is = c.take_survey-survey.ensures.value;
      page_is = c.new-page.ensures.value;
      starts_are = c.as_slice-begins.ensures.value ∙ c.begins_in-starts.ensures;
      listed_is = c.listed_of-listed.ensures;
    }))
    (c.put_frame.ensures ▸ c.put_above.ensures ▸ c.put_dues.ensures ▸ c.put_marks.ensures ▸ c.put_rows.ensures ▸ c.put_loads.ensures ▸ c.put_below.ensures ▸ c.put_breach.ensures ▸ c.put_faults.ensures
    ▸ c.put_tail.ensures)) c.new-text.ensures
