-- What a call answered for a text: what the text reads as, unless memory ran out.
use Rattle.std.specs.Prelude.{◌≡◌, Result, Ok, Err}
use Rattle.bus_text.specs.Refusals.{RefusalOf}
use Rattle.bus_text.specs.declared.error.TextError.{TextError}
use Rattle.bus_text.specs.declared.error.TextError.TheVariants.{Text, Memory}

-- A refusal is that of the reading; want of memory says nothing of it.
abbrev pub Fails : {R Y : Type 0} → TextError R → Result Y (RefusalOf R) → Type 0
Fails Memory reading = Unit {0}
Fails (Text line reason) reading = reading ≡ Err (record { line = line; reason = reason })

-- A value, as `view` sees it, is that of the reading.
abbrev pub Gives : {R X Y : Type 0} → (X → Y) → Result X (TextError R) → Result Y (RefusalOf R) → Type 0
Gives view (Ok value) reading = reading ≡ Ok (view value)
Gives view (Err error) reading = Fails error reading

-- An error is the refusal of the reading, and no want of memory.
abbrev pub Refuses : {R Y : Type 0} → TextError R → Result Y (RefusalOf R) → Type 0
Refuses Memory reading = ⊥
Refuses (Text line reason) reading = reading ≡ Err (record { line = line; reason = reason })
