use Rattle.std.proofs.Common.{sym, subst}
use Rattle.bus_findings.specs.Growing.{Precede}
use Rattle.bus_watch.specs.Parts.{counted}
use Rattle.bus_watch.proofs.part.Part.take.Goals as goal

pub take-requires-clause-behind : goal.take-requires-clause-behind
take-requires-clause-behind c =
    let window = c.args.self.now.newer in
    subst (λ b. Precede window.live.list (counted window.base b c.args.terminal c.in_ok-copy.copy)) (sym c.bit_of-bit.ensures)
    (c.requires.room.1.of_newer.precede c.in_ok-copy.copy)

pub take-requires-2-clause-behind : goal.take-requires-2-clause-behind
take-requires-2-clause-behind c =
    let window = c.args.self.now.older in
    subst (λ b. Precede window.live.list (counted window.base b c.args.terminal c.args.message)) (sym c.bit_of-bit.ensures)
    (c.requires.room.1.of_older.precede c.args.message)
