use Rattle.std.proofs.Common.{arith, ◌∷◌, ◌++◌, refl, ap, codes, ◌∙◌}
use Rattle.std.specs.Prelude.{ℤ, decimal}
use mir.Facts.{to_z-of_z}
use Rattle.std.specs.Fmt.{signed_decimal}
use Rattle.std.proofs.lemmas.Result.{IfOk-weaker}
use Rattle.bus_tool.proofs.EscapeLemmas.{decimal_plain, signed_plain, three_plain, three_printed}
use Rattle.bus_tool.proofs.report.small_gap.Goals as goal

pub returns : goal.returns
returns c = IfOk-weaker c.format.result _ _ (λ s h. record {
  words = h ∙ ap (λ (z : ℤ). codes "REFUSE small-gap " ++ (decimal c.args.terminal ++ 32 ∷ (signed_decimal z ++ 32 ∷ decimal c.args.needed)))
      (to_z-of_z c.ranges.gap) ∙ three_printed (codes "REFUSE small-gap ") (decimal c.args.terminal) (signed_decimal c.args.gap) (decimal c.args.needed);
  plain = three_plain (codes "REFUSE small-gap ") (decimal c.args.terminal) (signed_decimal c.args.gap) (decimal c.args.needed) refl
      (decimal_plain c.args.terminal (omega (arith, c.ranges.terminal.fits))) (signed_plain c.args.gap c.ranges.gap.sfits)
      (decimal_plain c.args.needed c.ranges.needed.fits);
}) c.format.ensures.ok
