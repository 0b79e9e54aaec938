use Rattle.std.proofs.Common.{refl, arith, sym, ◌∙◌}
use Rattle.bus_wave.specs.declared.code.TheConstants.{BITS}
use Rattle.bus_wave.proofs.QuickLemmas.{bits_at, some_bits}
use Rattle.bus_wave.proofs.code.two_bits.Goals as goal

pub returns-clause-value : goal.returns-clause-value
returns-clause-value c =
    (some_bits c.args.digit c.from.result (c.from.ensures ∙ bits_at BITS c.args.digit refl refl (omega arith)) (λ e. c.if-two-eq-NO.false (sym c.from.ensures ∙ e))).0

pub returns-clause-range : goal.returns-clause-range
returns-clause-range c =
    (some_bits c.args.digit c.from.result (c.from.ensures ∙ bits_at BITS c.args.digit refl refl (omega arith)) (λ e. c.if-two-eq-NO.false (sym c.from.ensures ∙ e))).1
