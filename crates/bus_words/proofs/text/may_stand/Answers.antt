use Rattle.std.proofs.Common.{arith, ap, sym, ◌∙◌}
use Rattle.std.specs.Prelude.{is_some}
use Rattle.bus_words.proofs.FormLemmas.{digits_stand, is_some-if}
use Rattle.bus_words.proofs.text.may_stand.Goals as goal

pub returns-in-1-to-4 : goal.returns-in-1-to-4
returns-in-1-to-4 c = c.is_some-in-1-to-4.ensures ∙ ap is_some c.capital_digit.ensures.value ∙ is_some-if _ _ ∙ sym (digits_stand c.args.place c.args.byte (omega arith) (omega arith))
