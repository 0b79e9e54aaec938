use Rattle.std.proofs.Common.{ap, Some}
use Rattle.bus_outer.proofs.Aheads.{takes_piece}
use Rattle.bus_outer.proofs.steady_source.SteadySourceSource.consume.Goals as goal

pub returns-clause-bytes : goal.returns-clause-bytes
returns-clause-bytes c =
    let old = c.args.self.now in
    ap Some (takes_piece old.piece c.args.count old.at old.bytes.items c.requires)
