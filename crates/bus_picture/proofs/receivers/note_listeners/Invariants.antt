use Rattle.std.proofs.Common.{map, take}
use Rattle.bus_filter.specs.Received.{listener_taker}
use Rattle.bus_picture.specs.inside.Noting.{AreNoted, KeepsNoted}
use Rattle.bus_picture.proofs.receivers.note_listeners.Given as goal

abbrev pub invariant-loop-k : goal.invariant-loop-k
invariant-loop-k l = record {
  kept : KeepsNoted l.fn.may l.may;
  noted : AreNoted (map listener_taker (take l.k l.listeners)) l.may;
}
