use Rattle.std.specs.Prelude.{slice_get, Some}
use Rattle.std.specs.List.{flat_map}
use Rattle.std.proofs.Common.{◌≡◌, ◌*◌, take}
use Rattle.bus_outer.specs.Texts.{Adds}
use Rattle.bus_strings.specs.Messages.{Entry}
use Rattle.bus_findings.specs.Terminals.{totals_among}
use Rattle.bus_findings.specs.Texts.{entry_lines}
use Rattle.bus_findings.specs.inside.Standing.{AreFew, AreWatched, IsHeard, HasBegun}
use Rattle.bus_findings.proofs.writing.put_judged.Given as goal

-- what is put, counted and kept of those so far
abbrev pub invariant-loop-i : goal.invariant-loop-i
invariant-loop-i g l = record {
  adds : Adds g.K.Sink.held g.K.Sink.faults l.fn.sink l.sink l.fn.text l.text (flat_map (entry_lines l.bounds l.table l.list) (take l.i l.list));
  totals : l.totals ≡ totals_among l.bounds l.table l.list (take l.i l.list);
  few : AreFew l.totals (3 * l.i);
  watched : AreWatched l.bounds l.table l.list l.i l.watches;
  heard : IsHeard l.bounds l.list l.i l.heard;
  begun : (x : Entry) → slice_get l.list l.i ≡ Some x → HasBegun l.bounds l.list x.moment l.heard;
}
