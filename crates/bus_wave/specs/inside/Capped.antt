-- A number that a field writes, as the code has it: the last value of a `u64` where it is above that. It is far above what may be taken.
use Rattle.std.specs.Prelude.{◌-◌, ◌^◌, min, Result, Ok, Err}
use Rattle.bus_wave.specs.declared.fault.WaveReason.{WaveReason}
use Rattle.bus_wave.specs.declared.symbol.Symbol.{Symbol}
use Rattle.bus_wave.specs.declared.symbol.Symbol.TheVariants.{Quiet, Sent, End}

-- A symbol of the code.
abbrev pub cap : Symbol → Symbol
cap (Quiet n) = Quiet (min n (2 ^ 64 - 1))
cap (Sent word) = Sent word
cap End = End

-- What the code reads.
abbrev pub capped : Result Symbol WaveReason → Result Symbol WaveReason
capped (Ok symbol) = Ok (cap symbol)
capped (Err reason) = Err reason
