use Rattle.std.proofs.Common.{length, take, ◌≡◌, ◌≤◌, ◌++◌}
use Rattle.bus_trace.specs.inside.Writing.{data_put}
use Rattle.bus_trace.proofs.quick.spaced_words.Given as goal

-- the words so far stand in front
abbrev pub invariant-loop-count : goal.invariant-loop-count
invariant-loop-count l = record {
  text : l.text ≡ data_put (take l.count l.room) ++ l.rest;
  few : l.count ≤ length l.room;
  long : length l.room ≡ length l.initial.room;
}

abbrev pub decreases-loop-count : goal.decreases-loop-count
decreases-loop-count l = length l.rest
