use Rattle.bus_wave.proofs.RunHolds.{runs_are_wave_traces}
use Rattle.bus_wave.proofs.RunLemmas.{runs_are_spaced}
use Rattle.bus_wave.proofs.laws.runs_are_spaced.Goals as goal

pub returns : goal.returns
returns c = record { spaced = runs_are_spaced c.gaps_are_left.ensures; waves = runs_are_wave_traces (runs_are_spaced c.gaps_are_left.ensures) }
