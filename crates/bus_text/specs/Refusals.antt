-- Refusals of lines.
-- Refusal: the place of a refused line, and why. Row: a test, and the reason that stands for it.
use Rattle.std.specs.Prelude.{ℕ, Bool, List, [], ◌∷◌, Option, Some, None, Result, Ok, Err, if◌then◌else◌}
use Rattle.bus_text.specs.declared.reason.Reason.{Reason}

-- The number of the offending line, and why it is refused, for reasons of some kind.
pub record RefusalOf (R : Type 0) : Type 0 where
  pub line : ℕ
  pub reason : R

-- For reasons that most texts have.
abbrev pub Refusal : Type 0
Refusal = RefusalOf Reason

-- Of rows of a test and a reason, the reason of the first row whose test holds.
abbrev pub first_of : {R : Type 0} → List (Bool × R) → Option R
first_of [] = None
first_of (row ∷ rows) = if row.0 then Some row.1 else first_of rows

-- The value, unless there is a reason against it.
abbrev pub unless : {A R : Type 0} → Option R → A → Result A R
unless None value = Ok value
unless (Some reason) value = Err reason

-- What a line reads as, with the line's number at a reason against it.
abbrev pub at_line : {A R : Type 0} → ℕ → Result A R → Result A (RefusalOf R)
at_line line (Ok value) = Ok value
at_line line (Err reason) = Err (record { line = line; reason = reason })
