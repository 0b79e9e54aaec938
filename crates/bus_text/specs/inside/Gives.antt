-- What a call answered for a line: what the line reads as, unless memory ran out.
use Rattle.std.specs.Prelude.{◌≡◌, Result, Ok, Err}
use Rattle.bus_text.specs.declared.fault.LineFault.{LineFault}
use Rattle.bus_text.specs.declared.fault.LineFault.TheVariants.{Refused, Memory}

-- A refusal is that of the reading; want of memory says nothing of it.
abbrev pub LineFails : {R Y : Type 0} → LineFault R → Result Y R → Type 0
LineFails Memory reading = Unit {0}
LineFails (Refused reason) reading = reading ≡ Err reason

-- A value, as `view` sees it, is that of the reading.
abbrev pub LineGives : {R X Y : Type 0} → (X → Y) → Result X (LineFault R) → Result Y R → Type 0
LineGives view (Ok value) reading = reading ≡ Ok (view value)
LineGives view (Err fault) reading = LineFails fault reading

-- A call came to a new state, which is that of the reading; where it failed, nothing is said of the new one.
abbrev pub StepGives : {R Y : Type 0} → Y → Result (Unit {0}) (LineFault R) → Result Y R → Type 0
StepGives new result reading = LineGives (λ _. new) result reading
