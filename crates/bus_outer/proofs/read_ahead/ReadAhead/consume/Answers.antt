use Rattle.std.proofs.Common.{take, sym, take-append-drop}
use Rattle.bus_outer.specs.Ahead.{waiting}
use Rattle.bus_outer.proofs.Aheads.{takes_ahead}
use Rattle.bus_outer.proofs.read_ahead.ReadAhead.consume.Goals as goal

pub returns : goal.returns
returns g c =
    let old = c.args.self.now in
    takes_ahead (g.F.Read.remaining old.reader) old.bytes old.at old.end c.args.count (take c.args.count (waiting old))
    (sym (take-append-drop c.args.count (waiting old)))
