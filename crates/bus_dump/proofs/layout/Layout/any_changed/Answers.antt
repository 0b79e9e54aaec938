use Rattle.std.proofs.Common.{◌≡◌, false, ◌||◌, List, sym, ap, ◌∙◌}
use Rattle.std.specs.List.{list_any}
use Rattle.bus_dump.specs.declared.lane.Lane.{Lane}
use Rattle.bus_dump.specs.DumpTexts.{changes}
use Rattle.bus_dump.specs.Signals.{bus_signals, lane_signals}
use Rattle.bus_dump.specs.inside.TimerWalks.{scene_of}
use Rattle.bus_dump.proofs.LaneLemmas.{lanes_any}
use Rattle.bus_dump.proofs.layout.Layout.any_changed.Goals as goal

pub returns-else-any_changed : goal.returns-else-any_changed
returns-else-any_changed c =
    let p = changes (scene_of c.args.before.now) (scene_of c.args.now.now) in
    let dump = c.args.self.now.dump in
    let lanes : List Lane = c.args.self.now.lanes.items in
    let none : list_any p (bus_signals dump) ≡ false =
    ap (list_any p) (sym (c.as_slice.ensures.value ∙ c.bus_signals.ensures)) ∙ sym c.any_changed.ensures ∙ c.if-any_changed.false in
    c.any_lane_changes.ensures ∙ ap (list_any (λ lane. list_any p (lane_signals dump lane))) c.as_slice-else-any_changed.ensures.value
    ∙ sym (ap (λ b. b || list_any (λ lane. list_any p (lane_signals dump lane)) lanes) none)
    ∙ lanes_any p (lane_signals dump) (bus_signals dump) lanes
