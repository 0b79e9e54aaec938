use Rattle.bus_medium.proofs.MessageStretchLaws.{later_is_step_by_step, one_stretch, steady_within}
use Rattle.bus_medium.proofs.laws.stretches_are_bit_times.Goals as goal

pub returns : goal.returns
returns c = record { steps = later_is_step_by_step; one = one_stretch; within = steady_within }
