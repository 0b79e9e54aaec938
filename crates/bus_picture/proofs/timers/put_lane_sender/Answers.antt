use Rattle.std.proofs.Common.{List, ℕ, ◌≤◌, arith, ap, subst, ◌∙◌}
use Rattle.bus_outer.specs.Texts.{Adds}
use Rattle.bus_outer.proofs.TextLaws.{◌▸◌}
use Rattle.bus_strings.specs.Messages.{Entry}
use Rattle.bus_table.specs.declared.mode.Mode.{Mode}
use Rattle.bus_table.proofs.ValidLaws.{valid_facts}
use Rattle.bus_audit.specs.Breaches.{held}
use Rattle.bus_trace.specs.declared.hold.Hold.{Hold}
use Rattle.bus_picture.specs.Lanes.{lane_top}
use Rattle.bus_picture.specs.Offsets.{offsets_text}
use Rattle.bus_picture.specs.Timers.{LaneTimings, sender_timers, timings_of}
use Rattle.bus_picture.proofs.timers.put_lane_sender.Goals as goal

pub put_offsets-requires-clause-some : goal.put_offsets-requires-clause-some
put_offsets-requires-clause-some g c =
    let least : 1000 ≤ c.args.table.now.ti = (valid_facts c.args.table.now c.ti-ti.ensures.valid).ti_least in
    omega (arith, c.ti-ti.ensures.value)

pub returns : goal.returns
returns g c =
    subst (λ (timings : LaneTimings). Adds g.K.Sink.held g.K.Sink.faults c.args.sink.now c.put_starts.new.sink c.args.text.now c.put_starts.new.text
    (sender_timers c.args.scale.now c.args.trace.now.list timings))
    (c.timings_of-timings.ensures.value ∙ ap (timings_of c.args.table.now c.horizon-horizon.result c.args.k c.args.lane.terminal) c.tg-tg.ensures.value
    ∙ ap (λ (h : ℕ). timings_of c.args.table.now h c.args.k c.args.lane.terminal c.args.sender.now.tg) c.horizon-horizon.ensures.value)
    (subst (λ (list : List Entry). Adds g.K.Sink.held g.K.Sink.faults c.args.sink.now c.put_starts.new.sink c.args.text.now c.put_starts.new.text
    (sender_timers c.args.scale.now list c.timings_of-timings.result)) c.list-list.ensures.value c.put_starts.ensures)
    ▸ subst (λ (mode : Mode). Adds g.K.Sink.held g.K.Sink.faults c.put_starts.new.sink c.put_offsets.new.sink c.put_starts.new.text c.put_offsets.new.text
    (offsets_text mode c.args.scale.now (lane_top c.args.k) c.args.table.now.ti c.args.sender.now.at (held c.args.trace.now.holds c.args.lane.terminal))) c.mode-mode.ensures.value
    (subst (λ (top : ℕ). Adds g.K.Sink.held g.K.Sink.faults c.put_starts.new.sink c.put_offsets.new.sink c.put_starts.new.text c.put_offsets.new.text
    (offsets_text c.mode-mode.result c.args.scale.now top c.args.table.now.ti c.args.sender.now.at (held c.args.trace.now.holds c.args.lane.terminal))) c.lane_top-top.ensures.value
    (subst (λ (ti : ℕ). Adds g.K.Sink.held g.K.Sink.faults c.put_starts.new.sink c.put_offsets.new.sink c.put_starts.new.text c.put_offsets.new.text
    (offsets_text c.mode-mode.result c.args.scale.now c.lane_top-top.result ti c.args.sender.now.at (held c.args.trace.now.holds c.args.lane.terminal))) c.ti-ti.ensures.value
    (subst (λ (at : ℕ). Adds g.K.Sink.held g.K.Sink.faults c.put_starts.new.sink c.put_offsets.new.sink c.put_starts.new.text c.put_offsets.new.text
    (offsets_text c.mode-mode.result c.args.scale.now c.lane_top-top.result c.ti-ti.result at (held c.args.trace.now.holds c.args.lane.terminal))) c.at-at.ensures.value
    (subst (λ (count : ℕ). Adds g.K.Sink.held g.K.Sink.faults c.put_starts.new.sink c.put_offsets.new.sink c.put_starts.new.text c.put_offsets.new.text
    (offsets_text c.mode-mode.result c.args.scale.now c.lane_top-top.result c.ti-ti.result c.at-at.result count))
    (c.held-held.ensures ∙ ap (λ (holds : List Hold). held holds c.args.lane.terminal) c.holds.ensures.value) c.put_offsets.ensures))))
