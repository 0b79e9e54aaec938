use Rattle.std.proofs.Common.{List, ℕ, true, false, not, ◌++◌, append_assoc, ap, ◌∙◌, subst}
use Rattle.std.specs.List.{flat_map}
use Rattle.bus_outer.specs.Texts.{Adds}
use Rattle.bus_outer.proofs.TextLaws.{◌▸◌}
use Rattle.bus_dump.specs.SaveFiles.{are_open, bus_shown, labels_shown}
use Rattle.bus_dump.specs.inside.Standing.{lane_within}
use Rattle.bus_dump.proofs.OpenLemmas.{parts_shown}
use Rattle.bus_dump.proofs.save_file.show_all.Goals as goal

pub returns : goal.returns
returns g c =
    let ls = c.args.lanes.now in
    let table = c.args.table.now in
    let breach = c.args.breach in
    let front : List ℕ = bus_shown ++ labels_shown (not (are_open breach ls)) ls in
    let labels = rw c.are_open-folded.ensures at c.put_label_group.ensures in
    subst (λ (t : List ℕ). Adds g.K.Sink.held g.K.Sink.faults c.args.sink.now c.show_part-2.new.sink c.args.text.now c.show_part-2.new.text t)
    (append_assoc front (flat_map (lane_within true breach table ls) ls) (flat_map (lane_within false breach table ls) ls)
    ∙ ap (λ (t : List ℕ). front ++ t) (parts_shown breach table ls ls))
    (c.put_bus.ensures ▸ labels ▸ c.show_part.ensures ▸ c.show_part-2.ensures)
