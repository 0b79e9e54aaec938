-- Numbers as a `u64` holds them: those above it as its last value. No public clause cites it.
use Rattle.std.specs.Prelude.{ℕ, ◌-◌, ◌^◌, min, Result, Ok, Err}
use Rattle.bus_units.specs.Quantities.{Written, QuantityError}
use Rattle.bus_units.specs.declared.quantity.Quantity.{Quantity}

abbrev pub cap : ℕ → ℕ
cap n = min n (2 ^ 64 - 1)

abbrev pub capped : Result ℕ QuantityError → Result ℕ QuantityError
capped (Ok n) = Ok (cap n)
capped (Err error) = Err error

abbrev pub capped_written : Written → Quantity
capped_written written = record { thousandths = cap written.thousandths; unit = written.unit }

abbrev pub capped_quantity : Result Written QuantityError → Result Quantity QuantityError
capped_quantity (Ok written) = Ok (capped_written written)
capped_quantity (Err error) = Err error
