use Rattle.std.proofs.Common.{arith}
use Rattle.bus_tool.proofs.CableLemmas.{text_none, text_taken}
use Rattle.bus_tool.proofs.inputs.take_cable_text.Goals as goal

pub returns-in_err-text-clause-takes : goal.returns-in_err-text-clause-takes
returns-in_err-text-clause-takes g c = text_none _ _ c.in_err-text.field-0.0 c.from_residual.result c.from_residual.ensures.1 c.in_err-text.ensures.takes

pub returns-in-Ok-clause-takes : goal.returns-in-Ok-clause-takes
returns-in-Ok-clause-takes g c = text_taken _ _ c.in_ok-text.text c.deref.result.now c.in-Ok.read c.in_ok-text.ensures.takes c.deref.ensures.value c.in-Ok.ensures.exact

pub returns-in-Ok-clause-few : goal.returns-in-Ok-clause-few
returns-in-Ok-clause-few g c = omega (arith, c.in-Ok.ensures.few, c.in_ok-text.ensures.short, c.deref.ensures.len)
