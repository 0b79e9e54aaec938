-- What is known of a line that was read, and of the parts of a wave that were.
use Rattle.std.specs.Prelude.{◌≡◌, ℕ, List, ◌∷◌, Result, Ok, Err}
use Rattle.std.specs.List.{slice_split}
use Rattle.bus_text.specs.Lines.{is_feed}
use Rattle.bus_text.specs.declared.fault.LineFault.{LineFault}
use Rattle.bus_text.specs.declared.fault.LineFault.TheVariants as line
use Rattle.std.specs.Global.{Vec}
use Rattle.bus_strings.specs.Messages.{Entry}
use Rattle.bus_table.specs.Tables.{Table}
use Rattle.bus_trace.specs.Traces.{Recording}
use Rattle.bus_wave.specs.declared.fault.WaveReason.{WaveReason}
use Rattle.bus_text.specs.declared.error.TextError.{TextError}
use Rattle.bus_text.specs.declared.error.TextError.TheVariants.{Text, Memory}
use Rattle.bus_wave.specs.declared.symbol.Symbol.{Symbol}
use Rattle.bus_wave.specs.inside.Capped.{capped}
use Rattle.bus_wave.specs.Counted.{holds_of}
use Rattle.bus_text.specs.Gives.{Fails}
use Rattle.bus_wave.specs.Symbols.{symbol_reading}
use Rattle.bus_trace.specs.States.{spaced_fields}
use Rattle.bus_wave.specs.Reading.{WaveRefusal}

-- The error of a line that wasn't taken.
abbrev pub fault_at : ℕ → LineFault WaveReason → TextError WaveReason
fault_at number (line.Refused reason) = Text number reason
fault_at number line.Memory = Memory

-- The bit times and the transmissions of a trace are those of the reading.
abbrev pub PartsGive : Table → Result (ℕ × Vec Entry) (TextError WaveReason) → Result Recording WaveRefusal → Type 0
PartsGive table (Ok parts) reading = reading ≡ Ok (record { horizon = parts.0; holds = holds_of table parts.1.items; list = parts.1.items })
PartsGive table (Err error) reading = Fails error reading

-- The first line of a text reads as this, but for numbers past the types' end, and these bytes are behind it.
pub record HasLine (text : List ℕ) (reading : Result Symbol WaveReason) (behind : List ℕ) : Type 0 where
  pub first : List ℕ
  pub pieces : slice_split is_feed text ≡ first ∷ slice_split is_feed behind
  pub reads : reading ≡ capped (symbol_reading (spaced_fields first))
