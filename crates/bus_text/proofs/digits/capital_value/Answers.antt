use Rattle.std.proofs.Common.{refl, arith}
use Rattle.bus_text.specs.declared.digits.TheConstants.{CAPITALS}
use Rattle.bus_text.proofs.TableLemmas.{capital_of, values_at, capital_most}
use Rattle.bus_text.proofs.digits.capital_value.Goals as goal

pub returns-clause-value : goal.returns-clause-value
returns-clause-value c = values_at capital_of CAPITALS c.args.byte refl refl (omega arith)

pub returns-clause-most : goal.returns-clause-most
returns-clause-most c = capital_most c.args.byte _ (values_at capital_of CAPITALS c.args.byte refl refl (omega arith))
