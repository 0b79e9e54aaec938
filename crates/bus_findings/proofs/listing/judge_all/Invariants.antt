use Rattle.std.specs.Prelude.{map, slice_get, Some}
use Rattle.std.proofs.Common.{◌≡◌, take}
use Rattle.bus_strings.specs.Messages.{Entry}
use Rattle.bus_findings.specs.Judging.{judgement_of}
use Rattle.bus_findings.specs.inside.Standing.{AreWatched, IsHeard, HasBegun}
use Rattle.bus_findings.proofs.listing.judge_all.Given as goal

-- what is found and kept of those so far
abbrev pub invariant-loop-i : goal.invariant-loop-i
invariant-loop-i l = record {
  all : l.all.items ≡ map (judgement_of l.bounds l.table l.list) (take l.i l.list);
  watched : AreWatched l.bounds l.table l.list l.i l.watches;
  heard : IsHeard l.bounds l.list l.i l.heard;
  begun : (x : Entry) → slice_get l.list l.i ≡ Some x → HasBegun l.bounds l.list x.moment l.heard;
}
