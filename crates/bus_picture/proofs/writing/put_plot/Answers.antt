use Rattle.std.proofs.Common.{◌≡◌, ℕ, ◌+◌, List, ◌++◌, codes, subst}
use Rattle.bus_strings.specs.Messages.{Entry}
use Rattle.bus_picture.specs.Loads.{loads_text}
use Rattle.bus_picture.specs.Paces.{paces_text}
use Rattle.bus_outer.specs.Texts.{Adds}
use Rattle.bus_outer.proofs.TextLaws.{◌▸◌}
use Rattle.bus_pen.specs.declared.class.Class.TheVariants.{Counts}
use Rattle.bus_pen.specs.Shapes.{words_text}
use Rattle.bus_picture.specs.Rows.{rows_text}
use Rattle.bus_picture.specs.OverlapBands.{overlap_bands_text}
use Rattle.bus_picture.specs.TimeLines.{axes_text, each_lane, lane_front, rows_of, timers_text, unobserved_text}
use Rattle.bus_picture.specs.Faults.{told_text}
use Rattle.bus_picture.specs.declared.measures.TheConstants.{PLOT_TOP as plot_top}
use Rattle.bus_picture.proofs.writing.put_plot.Goals as goal

pub returns : goal.returns
returns g c =
    let same : c.list-list.result.now ≡ c.args.subject.now.trace.now.list = c.list-list.ensures.value in
    let paces : Adds g.K.Sink.held g.K.Sink.faults c.put_words.new.sink c.put_paces.new.sink c.put_words.new.text c.put_paces.new.text
    (paces_text c.args.scale.now c.args.lanes.now c.args.subject.now.trace.now.list) =
    subst (λ (l : List Entry). Adds g.K.Sink.held g.K.Sink.faults c.put_words.new.sink c.put_paces.new.sink c.put_words.new.text c.put_paces.new.text
    (paces_text c.args.scale.now c.args.lanes.now l)) same c.put_paces.ensures in
    let loads : Adds g.K.Sink.held g.K.Sink.faults c.put_paces.new.sink c.put_loads.new.sink c.put_paces.new.text c.put_loads.new.text
    (loads_text c.args.scale.now c.args.lanes.now c.args.subject.now.trace.now.list) =
    subst (λ (l : List Entry). Adds g.K.Sink.held g.K.Sink.faults c.put_paces.new.sink c.put_loads.new.sink c.put_paces.new.text c.put_loads.new.text
    (loads_text c.args.scale.now c.args.lanes.now l)) same c.put_loads.ensures in
    let told : Adds g.K.Sink.held g.K.Sink.faults c.put_timers.new.sink c.put_told.new.sink c.put_timers.new.text c.put_told.new.text
    (told_text c.args.scale.now c.args.subject.now.table.now.ti c.args.lanes.now c.args.subject.now.told.now c.args.subject.now.trace.now.list) =
    subst (λ (ti : ℕ). Adds g.K.Sink.held g.K.Sink.faults c.put_timers.new.sink c.put_told.new.sink c.put_timers.new.text c.put_told.new.text
    (told_text c.args.scale.now ti c.args.lanes.now c.args.subject.now.told.now c.args.subject.now.trace.now.list)) c.ti-ti.ensures.value
    (subst (λ (l : List Entry). Adds g.K.Sink.held g.K.Sink.faults c.put_timers.new.sink c.put_told.new.sink c.put_timers.new.text c.put_told.new.text
    (told_text c.args.scale.now c.ti-ti.result c.args.lanes.now c.args.subject.now.told.now l)) same c.put_told.ensures) in
    subst (λ (horizon : ℕ). Adds g.K.Sink.held g.K.Sink.faults c.args.sink.now c.put_told.new.sink c.args.text.now c.put_told.new.text
    (words_text Counts 1380 (plot_top + 200) (codes "bus") ++ paces_text c.args.scale.now c.args.lanes.now c.args.subject.now.trace.now.list
    ++ loads_text c.args.scale.now c.args.lanes.now c.args.subject.now.trace.now.list ++ each_lane (lane_front c.args.subject.now.table.now) 0 c.args.lanes.now
    ++ axes_text c.args.scale.now c.args.bottom ++ unobserved_text c.args.scale.now c.args.bottom horizon
    ++ overlap_bands_text c.args.scale.now c.args.bottom c.args.subject.now.trace.now.list ++ rows_text c.args.scale.now c.args.subject.now.table.now c.args.subject.now.trace.now.list (rows_of c.args.lanes.now)
    ++ timers_text c.args.scale.now c.args.lanes.now c.args.subject.now.table.now c.args.subject.now.trace.now
    ++ told_text c.args.scale.now c.args.subject.now.table.now.ti c.args.lanes.now c.args.subject.now.told.now c.args.subject.now.trace.now.list)) c.horizon-horizon.ensures.value
    (c.put_words.ensures ▸ paces ▸ loads ▸ c.put_fronts.ensures ▸ c.put_axes.ensures ▸ c.put_unobserved.ensures ▸ c.put_overlap_bands.ensures ▸ c.put_rows.ensures
    ▸ c.put_timers.ensures ▸ told)
