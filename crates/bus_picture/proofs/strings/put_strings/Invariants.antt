use Rattle.std.proofs.Common.{[]}
use Rattle.std.specs.Prelude.{slice_get}
use Rattle.std.specs.List.{flat_map, range_with_len}
use Rattle.std.specs.Option.{option_map_or}
use Rattle.bus_outer.specs.Texts.{Adds}
use Rattle.bus_picture.specs.Strings.{pulse_text}
use Rattle.bus_picture.proofs.strings.put_strings.Given as goal

abbrev pub invariant-loop-k : goal.invariant-loop-k
invariant-loop-k g l =
    Adds g.K.Sink.held g.K.Sink.faults l.fn.sink l.sink l.fn.text l.text
    (flat_map (λ k. option_map_or (pulse_text l.canvas.scale l.canvas.receivers.now l.top l.sent l.x k) (slice_get l.x.message k) []) (range_with_len 0 l.k))
