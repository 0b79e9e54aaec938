use Rattle.bus_tool.proofs.WaveLemmas.{wave_none, wave_taken}
use Rattle.bus_tool.proofs.inputs.take_wave.Goals as goal

pub returns-in_err-text : goal.returns-in_err-text
returns-in_err-text g c = wave_none _ _ c.args.table.now c.in_err-text.field-0.0 c.from_residual.result c.from_residual.ensures.1 c.in_err-text.ensures.takes

pub returns-in-Ok : goal.returns-in-Ok
returns-in-Ok g c = wave_taken _ _ c.args.table.now c.in_ok-text.text c.deref.result.now c.in-Ok.trace c.in_ok-text.ensures.takes c.deref.ensures.value c.in-Ok.ensures.exact
