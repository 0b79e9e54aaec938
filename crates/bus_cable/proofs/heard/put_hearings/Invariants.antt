use Rattle.std.proofs.Common.{◌≡◌, ℕ, ◌+◌, ◌<◌, ◌≤◌, length, take, Some}
use Rattle.std.specs.Prelude.{slice_get}
use Rattle.std.specs.List.{flat_map, zip}
use Rattle.bus_outer.specs.Texts.{Adds}
use Rattle.bus_strings.specs.Messages.{Entry}
use Rattle.bus_strings.specs.Marking.{greatest_end}
use Rattle.bus_strings.specs.Transmissions.{marks}
use Rattle.bus_medium.specs.Delays.{cable, heard}
use Rattle.bus_cable.specs.Hearing.{hearing}
use Rattle.bus_cable.specs.inside.Ranks.{rank, rank_in, marked_put}
use Rattle.bus_propagation.specs.Numbered.{numbered}
use Rattle.bus_cable.proofs.heard.put_hearings.Given as goal

-- as many as there were turns are put, the next is at hand, and those before `from` were heard before it
abbrev pub invariant-loop : goal.invariant-loop
invariant-loop g l =
    let delay = cable (numbered l.places) in
    let order = hearing delay l.list l.number in
    record {
      here : slice_get (heard delay l.number l.list) l.at ≡ slice_get order l.counter;
      within : l.from ≤ length l.list;
      before : (x : Entry) (k : ℕ) → slice_get order l.counter ≡ Some x → k < l.from → rank_in (heard delay l.number l.list) k < rank x + 1;
      latest_is : l.latest ≡ greatest_end (take l.counter order);
      adds : Adds g.K.Sink.held g.K.Sink.faults l.fn.sink l.sink l.fn.text l.text (flat_map (marked_put l.number) (take l.counter (zip order (marks order))));
    }
