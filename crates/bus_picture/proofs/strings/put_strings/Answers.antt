use Rattle.std.proofs.Common.{◌≡◌, List, ℕ, [], length, arith, ap, sym, subst}
use Rattle.std.specs.Prelude.{slice_get}
use Rattle.std.specs.List.{flat_map, range_with_len}
use Rattle.std.specs.Option.{option_map_or}
use Rattle.bus_outer.specs.Texts.{Adds}
use Rattle.bus_outer.proofs.TextLaws.{◌▸◌}
use Rattle.bus_strings.specs.Messages.{Entry}
use Rattle.bus_strings.proofs.ListLaws.{flat_map-range}
use Rattle.bus_picture.specs.Strings.{pulse_text}
use Rattle.bus_picture.proofs.strings.put_strings.Goals as goal

pub loop-k-preserved : goal.loop-k-preserved
loop-k-preserved g c =
    subst (λ (t : List ℕ). Adds g.K.Sink.held g.K.Sink.faults c.args.sink.now c.put_pulse.new.sink c.args.text.now c.put_pulse.new.text t)
    (sym (flat_map-range (λ k. option_map_or (pulse_text c.args.canvas.now.scale c.args.canvas.now.receivers.now c.args.top c.args.sent.now c.args.x.now k) (slice_get c.args.x.now.message k) []) c.loop-k.k))
    (c.loop-k.invariant ▸ c.put_pulse.ensures)

pub returns : goal.returns
returns g c =
    let all : c.loop-k.k ≡ length c.args.x.now.message = omega (arith, c.pulse_count-k-end.ensures.value, ap (λ (e : Entry). length e.message) c.x.view_is) in
    subst (λ (n : ℕ). Adds g.K.Sink.held g.K.Sink.faults c.args.sink.now c.loop-k.sink c.args.text.now c.loop-k.text
    (flat_map (λ k. option_map_or (pulse_text c.args.canvas.now.scale c.args.canvas.now.receivers.now c.args.top c.args.sent.now c.args.x.now k) (slice_get c.args.x.now.message k) []) (range_with_len 0 n)))
    all c.loop-k.invariant
