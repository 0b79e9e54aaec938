use Rattle.std.proofs.Common.{arith, inl, ap, length}
use Rattle.std.proofs.lemmas.List.FromFn.{length-map-range_with_len}
use Rattle.bus_strings.specs.Transmissions.{garbled}
use Rattle.bus_findings.proofs.writing.garbled_count.Goals as goal

pub count-requires-clause-fits : goal.count-requires-clause-fits
count-requires-clause-fits c =
    let n = length-map-range_with_len (garbled c.args.list.now) 0 (length c.args.list.now) in
    inl (omega (arith, ap length c.filter.ensures.source, ap length c.new.ensures, n))
