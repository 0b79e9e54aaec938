use Rattle.std.proofs.Common.{subst, Result}
use Rattle.bus_trace.specs.Traces.{Recording}
use Rattle.bus_text.specs.Gives.{Gives}
use Rattle.bus_wave.specs.Reading.{WaveRefusal}
use Rattle.bus_wave.proofs.ReadLemmas.{is_read_if}
use Rattle.bus_wave.proofs.reading.read_wave.Goals as goal

pub returns-clause-found : goal.returns-clause-found
returns-clause-found c = is_read_if c.args.table.now c.args.text.now c.read.result c.table_is_valid.ensures c.requires c.read.ensures

pub returns-clause-only : goal.returns-clause-only
returns-clause-only c =
    λ t w is. subst (λ (r : Result Recording WaveRefusal). Gives (λ t. t) c.read.result r) (c.waves_tell_traces.ensures.back c.args.table.now t c.args.text.now c.table_is_valid.ensures w is) c.read.ensures
