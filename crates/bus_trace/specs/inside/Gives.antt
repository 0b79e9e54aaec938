-- What a call on the lines so far answered: what the definition gives, unless memory ran out.
use Rattle.std.specs.Prelude.{◌≡◌, Result, Ok, Err}
use Rattle.bus_text.specs.declared.fault.LineFault.{LineFault}
use Rattle.bus_text.specs.inside.Gives.{LineFails}

-- A call came from old to new; an error changes nothing.
abbrev pub StepGives : {R Y : Type 0} → Y → Y → Result (Unit {0}) (LineFault R) → Result Y R → Type 0
StepGives old new (Ok u) read = read ≡ Ok new
StepGives old new (Err e) read = (new ≡ old) × LineFails e read
