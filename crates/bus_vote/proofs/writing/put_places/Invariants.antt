use Rattle.std.specs.List.{flat_map, range_with_len}
use Rattle.std.specs.Option.{option_copied}
use Rattle.bus_outer.specs.Texts.{Adds}
use Rattle.bus_vote.specs.inside.Putting.{place_put}
use Rattle.bus_vote.proofs.writing.put_places.Given as goal

-- the places so far are put
abbrev pub invariant-loop-place : goal.invariant-loop-place
invariant-loop-place g l = Adds g.K.Sink.held g.K.Sink.faults l.fn.sink l.sink l.fn.text l.text
    (flat_map (place_put (option_copied l.fn.a) (option_copied l.fn.b) (option_copied l.fn.c)) (range_with_len 0 l.place))
