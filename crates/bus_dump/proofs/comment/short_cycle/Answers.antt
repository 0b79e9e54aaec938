use Rattle.std.proofs.Common.{codes, decimal, refl}
use Rattle.bus_dump.proofs.CommentLemmas.{decimal_plain, two_plain}
use Rattle.bus_dump.proofs.ReadLemmas.{feedless_test}
use Rattle.bus_dump.proofs.comment.short_cycle.Goals as goal

pub returns : goal.returns
returns c =
    two_plain (codes "REFUSE short-cycle ") (decimal c.args.least) (decimal c.args.ti) (feedless_test (codes "REFUSE short-cycle ") refl)
    (decimal_plain c.args.least c.ranges.least.fits) (decimal_plain c.args.ti c.ranges.ti.fits)
