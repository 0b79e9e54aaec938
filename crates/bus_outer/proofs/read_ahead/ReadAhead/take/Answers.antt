use Rattle.std.proofs.Common.{take}
use Rattle.bus_outer.proofs.Aheads.{takes_ahead}
use Rattle.bus_outer.proofs.read_ahead.ReadAhead.take.Goals as goal

pub returns-clause-bytes : goal.returns-clause-bytes
returns-clause-bytes g c =
    let old = c.args.self.now in
    takes_ahead (g.F.Read.remaining old.reader) old.bytes old.at old.end c.copy_piece-n.result
    (take c.copy_piece-n.result c.copy_piece-n.new.buf) c.copy_piece-n.ensures.copied
