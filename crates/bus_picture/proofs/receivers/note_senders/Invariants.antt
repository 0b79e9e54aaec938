use Rattle.std.proofs.Common.{map, take}
use Rattle.bus_filter.specs.Received.{sender_taker}
use Rattle.bus_picture.specs.inside.Noting.{AreNoted, KeepsNoted}
use Rattle.bus_picture.proofs.receivers.note_senders.Given as goal

abbrev pub invariant-loop-k : goal.invariant-loop-k
invariant-loop-k l = record {
  kept : KeepsNoted l.fn.may l.may;
  noted : AreNoted (map sender_taker (take l.k l.senders)) l.may;
}
