use Rattle.std.proofs.Common.{◌≡◌, length, take}
use Rattle.bus_picture.specs.inside.Noting.{KeepsNoted, LinesNoted, place_count}
use Rattle.bus_picture.proofs.receivers.note.Given as goal

abbrev pub invariant-loop-k : goal.invariant-loop-k
invariant-loop-k l = record {
  long : length l.may ≡ place_count;
  kept : KeepsNoted l.fn.may l.may;
  noted : LinesNoted l.number (take l.k l.takes) l.may;
}
