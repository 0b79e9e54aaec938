use Rattle.std.proofs.Common.{arith, codes, decimal, refl}
use Rattle.bus_dump.proofs.CommentLemmas.{decimal_plain, three_plain}
use Rattle.bus_dump.proofs.ReadLemmas.{feedless_test}
use Rattle.bus_dump.proofs.comment.no_sync.Goals as goal

pub returns : goal.returns
returns c =
    three_plain (codes "REFUSE no-sync ") (decimal c.args.terminal) (decimal c.args.gap) (decimal c.args.needed)
    (feedless_test (codes "REFUSE no-sync ") refl) (decimal_plain c.args.terminal (omega (arith, c.ranges.terminal.fits)))
    (decimal_plain c.args.gap c.ranges.gap.fits) (decimal_plain c.args.needed c.ranges.needed.fits)
