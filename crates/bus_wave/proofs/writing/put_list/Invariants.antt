use Rattle.std.proofs.Common.{◌≡◌, take}
use Rattle.bus_outer.specs.Texts.{Adds}
use Rattle.bus_wave.specs.inside.Puts.{list_put}
use Rattle.bus_wave.specs.WaveTexts.{last_end}
use Rattle.bus_wave.proofs.writing.put_list.Given as goal

-- the lines of the transmissions so far are put, and the last of these ends there
abbrev pub invariant-loop-entry : goal.invariant-loop-entry
invariant-loop-entry g l = record {
  puts : Adds g.K.Sink.held g.K.Sink.faults l.fn.sink l.sink l.fn.text l.text (list_put 0 (take l.entry-index l.list));
  end : l.end ≡ last_end 0 (take l.entry-index l.list);
}
