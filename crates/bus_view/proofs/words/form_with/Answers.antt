use Rattle.std.proofs.Common.{arith, sym}
use Rattle.bus_view.proofs.FormLemmas.{with_others}
use Rattle.bus_view.proofs.words.form_with.Goals as goal

-- src/words.rt:177:1
pub returns-in_default-clause-value : goal.returns-in_default-clause-value
returns-in_default-clause-value c = sym (with_others c.args.words.now c.args.plain c.args.options.now c.requires (grind arith) (grind arith))
