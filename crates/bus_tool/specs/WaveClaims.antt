-- What is claimed of `wave`.
use Rattle.std.specs.Prelude.{◌≡◌, IsTrue, List, Ok}
use Rattle.bus_table.specs.Tables.{Table, Hand}
use Rattle.bus_regime.specs.Verdicts.{verdict_of, is_accepted}
use Rattle.bus_schedule.specs.Closed.{closed, closed_end}
use Rattle.bus_schedule.specs.Even.{are_even}
use Rattle.bus_trace.specs.Traces.{Recording}
use Rattle.bus_wave.specs.Reading.{wave_reading}
use Rattle.bus_wave.specs.Spacing.{IsSpaced}
use Rattle.bus_wave.specs.WaveLaws.{HasOneText, IsWaveTrace}
use Rattle.bus_wave.specs.Waves.{wave}
use Rattle.bus_wave.specs.WaveTexts.{wave_text}
use Rattle.bus_tool.specs.Texts.{IsRunRecording}

-- The trace's list is the closed schedule of these hands of an accepted table, as many messages each, and its horizon is the closed end.
pub record IsClosedTrace (table : Table) (hands : List Hand) (trace : Recording) : Type 0 where
  pub accepted : IsTrue (is_accepted (verdict_of table))
  pub even : IsTrue (are_even table hands)
  pub list : trace.list ≡ closed table hands
  pub horizon : trace.horizon ≡ closed_end table hands

-- The trace is the one that `run` writes of these hands of an accepted table, as many messages each.
pub record IsTraceOfRun (table : Table) (hands : List Hand) (trace : Recording) : Type 0 where
  pub accepted : IsTrue (is_accepted (verdict_of table))
  pub even : IsTrue (are_even table hands)
  pub ran : IsRunRecording table hands trace

-- What holds of a trace and its wave:
--   closed   it is spaced where its list is the closed schedule of a run, up to the closed end
--   read     the trace of a run is one that is read from a wave text
--   tells    another trace with the same wave that is read from its wave text is the same trace
pub record HasAWave (table : Table) (trace : Recording) : Type 0 where
  pub closed : (hands : List Hand) → IsClosedTrace table hands trace → IsSpaced table trace
  pub read : (hands : List Hand) → IsTraceOfRun table hands trace → IsWaveTrace table trace
  pub tells : (other : Recording) → IsWaveTrace table trace → IsWaveTrace table other → wave trace ≡ wave other → trace ≡ other

-- What holds of a trace and its wave text:
--   one    where it is spaced, the text that is written is its wave text, and the only one
--   back   the trace of a run is read from its own
pub record HasAWaveText (table : Table) (trace : Recording) : Type 0 where
  pub one : IsSpaced table trace → HasOneText trace
  pub back : (hands : List Hand) → IsTraceOfRun table hands trace → wave_reading table (wave_text trace) ≡ Ok trace
