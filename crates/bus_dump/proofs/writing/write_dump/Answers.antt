use Rattle.std.proofs.Common.{List, ℕ, subst, ap, ◌∙◌}
use Rattle.bus_outer.specs.Texts.{Adds}
use Rattle.bus_outer.proofs.TextLaws.{◌▸◌, ends_text}
use Rattle.bus_regime.specs.Lines.{verdict_words}
use Rattle.bus_dump.specs.DumpTexts.{end_of_dump}
use Rattle.bus_dump.proofs.WriteLemmas.{trace_walkable, whole_put}
use Rattle.bus_dump.proofs.writing.write_dump.Goals as goal

pub put_bit_times-requires-clause-walkable : goal.put_bit_times-requires-clause-walkable
put_bit_times-requires-clause-walkable g c =
    trace_walkable c.args.trace.now c.list-list.result.now c.list-list.ensures.ranges c.requires.single c.list-list.ensures.value

pub returns : goal.returns
returns g c =
    ends_text g.K.Sink.held g.K.Sink.faults c.args.sink.now c.put_last.new.sink c.finish.new.sink c.new-text.result c.put_last.new.text c.finish.result _ c.finish.ensures
    (subst (λ (t : List ℕ). Adds g.K.Sink.held g.K.Sink.faults c.args.sink.now c.put_last.new.sink c.new-text.result c.put_last.new.text t)
    (whole_put c.args.dump c.args.window.now c.args.breach (verdict_words c.args.verdict.now) c.args.table.now c.args.trace.now c.new-layout.result
    c.list-list.result.now c.from-from.result c.end_in-end.result c.list-list.ensures.value c.from-from.ensures.value
    (c.end_in-end.ensures ∙ ap (end_of_dump c.args.window.now) c.horizon.ensures.value) c.new-layout.ensures.dump c.new-layout.ensures.signals)
    (c.put_head.ensures ▸ c.put_declarations.ensures ▸ c.put.ensures ▸ c.put_bit_times.ensures ▸ c.put_last.ensures)) c.new-text.ensures
