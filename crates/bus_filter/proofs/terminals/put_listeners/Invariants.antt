use Rattle.std.proofs.Common.{take}
use Rattle.std.specs.List.{flat_map}
use Rattle.bus_outer.specs.Texts.{Adds}
use Rattle.bus_filter.specs.inside.Keys.{AreNoSpans}
use Rattle.bus_filter.specs.inside.Putting.{listener_put}
use Rattle.bus_filter.proofs.terminals.put_listeners.Given as goal

abbrev pub invariant-loop-listener : goal.invariant-loop-listener
invariant-loop-listener g l =
    record {
      spans : AreNoSpans l.spans.first l.spans.behind;
      text : Adds g.K.Sink.held g.K.Sink.faults l.fn.sink l.sink l.fn.text l.text (flat_map (listener_put l.list) (take l.listener-index l.listeners));
    }
