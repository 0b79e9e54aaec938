use Rattle.std.proofs.Common.{ℕ, ◌+◌, ◌-◌, arith}
use Rattle.std.specs.List.{range_with_len}
use Rattle.std.proofs.lemmas.List.FromFn.{length-range_with_len}
use Rattle.std.proofs.lemmas.List.Sums.{count_by-le-length}
use Rattle.bus_strings.specs.Transmissions.{carrier}
use Rattle.bus_cycles.specs.Loads.{whole_of}
use Rattle.bus_cycles.proofs.laws.loads_are_shares.Goals as goal

pub returns : goal.returns
returns c cycle list row =
    let from : ℕ = row.begin - cycle.origin_offset in
    let many : ℕ = row.begin + whole_of cycle row - cycle.origin_offset - from in
    omega (arith, count_by-le-length (carrier list) (range_with_len from many), length-range_with_len from many)
