use Rattle.std.proofs.Common.{codes, decimal, refl}
use Rattle.bus_table.specs.declared.mode.Mode.{Mode}
use Rattle.bus_table.specs.declared.mode.Mode.TheVariants.{Aperiodic, Periodic}
use Rattle.bus_table.specs.Text.{mode_word}
use Rattle.bus_trace.specs.Runs.{HasNoFeed}
use Rattle.bus_dump.proofs.CommentLemmas.{decimal_plain, three_plain}
use Rattle.bus_dump.proofs.ReadLemmas.{feedless_test}
use Rattle.bus_dump.proofs.comment.accept.Goals as goal

mode_plain : (mode : Mode) → HasNoFeed (mode_word mode)
mode_plain Aperiodic = feedless_test (codes "aperiodic") refl
mode_plain Periodic = feedless_test (codes "periodic") refl

pub returns : goal.returns
returns c =
    three_plain (codes "ACCEPT ") (mode_word c.args.mode) (decimal c.args.least) (decimal c.args.most) (feedless_test (codes "ACCEPT ") refl)
    (mode_plain c.args.mode) (decimal_plain c.args.least c.ranges.least.fits) (decimal_plain c.args.most c.ranges.most.fits)
