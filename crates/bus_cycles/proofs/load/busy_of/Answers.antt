use Rattle.std.proofs.Common.{◌≡◌, ◌+◌, ◌-◌, ◌∙◌, ap, arith}
use Rattle.bus_load.specs.Loads.{carrier_bits}
use Rattle.bus_cycles.specs.Loads.{whole_of}
use Rattle.bus_cycles.proofs.load.busy_of.Goals as goal

pub returns : goal.returns
returns c list is =
    let cycle = c.args.cycle.now in
    let row = c.args.row in
    let from : c.saturating_sub.result ≡ row.begin - cycle.origin_offset = omega arith in
    let to : c.saturating_sub-2.result ≡ row.begin + whole_of cycle row - cycle.origin_offset = omega arith in
    c.bits_within.ensures list is ∙ ap (λ n. carrier_bits list n c.saturating_sub-2.result) from
    ∙ ap (carrier_bits list (row.begin - cycle.origin_offset)) to
