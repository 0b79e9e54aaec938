-- The outcomes that the errors of readers and of a schedule stand for. No public clause cites it.
use Rattle.bus_schedule.specs.declared.error.ScheduleError.{ScheduleError}
use Rattle.bus_schedule.specs.declared.error.ScheduleError.TheVariants.{Memory as Small, TooLong as Long}
use Rattle.bus_text.specs.declared.error.TextError.{TextError}
use Rattle.bus_text.specs.declared.error.TextError.TheVariants as texts
use Rattle.bus_text.specs.declared.reason.Reason.{Reason}
use Rattle.bus_wave.specs.declared.fault.WaveReason.{WaveReason}
use Rattle.bus_command.specs.declared.outcome.Outcome.TheVariants.{NoMemory}
use Rattle.bus_tool.specs.Refusals.{Outcome, refuse, WaveText, TooLong, CableText}

-- Why a wave text is refused.
abbrev pub wave_refusal : TextError WaveReason → Outcome
wave_refusal (texts.Text line reason) = refuse (WaveText line reason)
wave_refusal texts.Memory = NoMemory

-- Why a cable text is refused.
abbrev pub cable_refusal : TextError Reason → Outcome
cable_refusal (texts.Text line reason) = refuse (CableText line reason)
cable_refusal texts.Memory = NoMemory

-- Why no schedule is given.
abbrev pub schedule_refusal : ScheduleError → Outcome
schedule_refusal Small = NoMemory
schedule_refusal (Long end) = refuse (TooLong end)
