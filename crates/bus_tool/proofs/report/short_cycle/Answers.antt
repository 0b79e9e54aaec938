use Rattle.std.proofs.Common.{refl, codes, ◌∙◌}
use Rattle.std.specs.Prelude.{decimal}
use Rattle.std.proofs.lemmas.Result.{IfOk-weaker}
use Rattle.bus_tool.proofs.EscapeLemmas.{decimal_plain, two_plain, two_printed}
use Rattle.bus_tool.proofs.report.short_cycle.Goals as goal

pub returns : goal.returns
returns c = IfOk-weaker c.format.result _ _ (λ s h. record {
  words = h ∙ two_printed (codes "REFUSE short-cycle ") (decimal c.args.least) (decimal c.args.ti);
  plain = two_plain (codes "REFUSE short-cycle ") (decimal c.args.least) (decimal c.args.ti) refl
      (decimal_plain c.args.least c.ranges.least.fits) (decimal_plain c.args.ti c.ranges.ti.fits);
}) c.format.ensures.ok
