use Rattle.std.proofs.Common.{refl, arith}
use Rattle.bus_text.specs.declared.digits.TheConstants.{VALUES}
use Rattle.bus_text.proofs.TableLemmas.{hexadecimal_of, values_at, hexadecimal_most}
use Rattle.bus_text.proofs.digits.hex_value.Goals as goal

pub returns-clause-value : goal.returns-clause-value
returns-clause-value c = values_at hexadecimal_of VALUES c.args.byte refl refl (omega arith)

pub returns-clause-most : goal.returns-clause-most
returns-clause-most c = hexadecimal_most c.args.byte _ (values_at hexadecimal_of VALUES c.args.byte refl refl (omega arith))
