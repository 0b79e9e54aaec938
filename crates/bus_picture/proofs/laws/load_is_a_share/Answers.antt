use Rattle.std.proofs.Common.{◌-◌, arith}
use Rattle.std.specs.List.{range_with_len}
use Rattle.std.proofs.lemmas.List.FromFn.{length-range_with_len}
use Rattle.std.proofs.lemmas.List.Sums.{count_by-le-length}
use Rattle.bus_strings.specs.Transmissions.{carrier}
use Rattle.bus_picture.proofs.TailLemmas.{tails_are_quiet}
use Rattle.bus_picture.proofs.laws.load_is_a_share.Goals as goal

pub returns-clause-share : goal.returns-clause-share
returns-clause-share c scale list =
    omega (arith, count_by-le-length (carrier list) (range_with_len scale.from (scale.to - scale.from)), length-range_with_len scale.from (scale.to - scale.from))

pub returns-clause-tail : goal.returns-clause-tail
returns-clause-tail c = tails_are_quiet
