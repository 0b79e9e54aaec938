use Rattle.std.proofs.Common.{◌+◌, ◌*◌}
use Rattle.std.specs.List.{flat_map, range_with_len}
use Rattle.bus_outer.specs.Texts.{Adds}
use Rattle.bus_pen.specs.Axes.{first_mark, mark_text}
use Rattle.bus_pen.proofs.axis.put_marks.Given as goal

abbrev pub invariant-loop-k : goal.invariant-loop-k
invariant-loop-k g l =
    Adds g.K.Sink.held g.K.Sink.faults l.fn.sink l.sink l.fn.text l.text
    (flat_map (λ k. mark_text l.scale l.axis l.step ((first_mark l.scale l.step + k) * l.step)) (range_with_len 0 l.k))
