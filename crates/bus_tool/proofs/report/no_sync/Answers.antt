use Rattle.std.proofs.Common.{arith, refl, codes, ◌∙◌}
use Rattle.std.specs.Prelude.{decimal}
use Rattle.std.proofs.lemmas.Result.{IfOk-weaker}
use Rattle.bus_tool.proofs.EscapeLemmas.{decimal_plain, three_plain, three_printed}
use Rattle.bus_tool.proofs.report.no_sync.Goals as goal

pub returns : goal.returns
returns c = IfOk-weaker c.format.result _ _ (λ s h. record {
  words = h ∙ three_printed (codes "REFUSE no-sync ") (decimal c.args.terminal) (decimal c.args.gap) (decimal c.args.needed);
  plain = three_plain (codes "REFUSE no-sync ") (decimal c.args.terminal) (decimal c.args.gap) (decimal c.args.needed) refl
      (decimal_plain c.args.terminal (omega (arith, c.ranges.terminal.fits))) (decimal_plain c.args.gap c.ranges.gap.fits)
      (decimal_plain c.args.needed c.ranges.needed.fits);
}) c.format.ensures.ok
