use Rattle.std.proofs.Common.{arith, codes, decimal, refl}
use Rattle.std.specs.Fmt.{signed_decimal}
use Rattle.bus_dump.proofs.CommentLemmas.{decimal_plain, signed_plain, three_plain}
use Rattle.bus_dump.proofs.ReadLemmas.{feedless_test}
use Rattle.bus_dump.proofs.comment.small_gap.Goals as goal

pub returns : goal.returns
returns c =
    three_plain (codes "REFUSE small-gap ") (decimal c.args.terminal) (signed_decimal c.args.gap) (decimal c.args.needed)
    (feedless_test (codes "REFUSE small-gap ") refl) (decimal_plain c.args.terminal (omega (arith, c.ranges.terminal.fits)))
    (signed_plain c.args.gap c.ranges.gap.sfits) (decimal_plain c.args.needed c.ranges.needed.fits)
