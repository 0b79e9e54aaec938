use Rattle.std.proofs.Common.{List, ℕ, ◌++◌, ◌∷◌, ap, refl, codes, ◌∙◌}
use Rattle.std.specs.Prelude.{decimal}
use Rattle.std.proofs.lemmas.Result.{IfOk-weaker}
use Rattle.bus_table.specs.Text.{mode_word}
use Rattle.bus_tool.proofs.EscapeLemmas.{decimal_plain, three_plain, mode_plain, three_printed}
use Rattle.bus_tool.proofs.report.accepted.Goals as goal

pub returns : goal.returns
returns c = IfOk-weaker c.format.result _ _ (λ s h. record {
  words = h ∙ ap (λ (mode : List ℕ). codes "ACCEPT " ++ (mode ++ 32 ∷ (decimal c.args.least ++ 32 ∷ decimal c.args.most))) c.word-mode.ensures
      ∙ three_printed (codes "ACCEPT ") (mode_word c.args.mode) (decimal c.args.least) (decimal c.args.most);
  plain = three_plain (codes "ACCEPT ") (mode_word c.args.mode) (decimal c.args.least) (decimal c.args.most) refl (mode_plain c.args.mode)
      (decimal_plain c.args.least c.ranges.least.fits) (decimal_plain c.args.most c.ranges.most.fits);
}) c.format.ensures.ok
