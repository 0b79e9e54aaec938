-- What a command is.
--   made     what comes of both texts: a value, or the outcome that refuses them
--   answer   the outcome of the value
--   IsIt     what is written of the value
use Rattle.std.specs.Prelude.{ℕ, Bool, true, List, Option, None, Result}
use Rattle.bus_command.specs.declared.outcome.Outcome.{Outcome}
use Rattle.bus_command.specs.declared.outcome.Outcome.TheVariants.{Done}
use Rattle.bus_command.specs.Due.{outcome_with, IsTextOf}
use Rattle.bus_command.specs.Readers.{Named, no_source}

-- What a command is of a program that refuses of its own what `R` says:
--   named      the sources that it names, each with its reader
--   memory     whether it takes any memory
--   refusing   why it refuses the first text, whatever the second is
--   due        the outcome of both texts
--   IsText     what it writes of both texts
--   Cause      the cause of a refusal of the program's own
pub record Command (R : Type 0) : Type 1 where
  pub named : Named
  pub memory : Bool
  pub refusing : List ℕ → Option (Outcome R)
  pub due : List ℕ → List ℕ → Outcome R
  pub IsText : List ℕ → List ℕ → List ℕ → Type 0
  pub Cause : R → List ℕ → List ℕ → Type 0

-- A command that answers what is made of its texts.
abbrev pub answering : {R Y : Type 0} → Named → (refusing : List ℕ → Option (Outcome R)) → (made : List ℕ → List ℕ → Result Y (Outcome R))
    → (answer : Y → Outcome R) → (IsIt : Y → List ℕ → Type 0) → (Cause : R → List ℕ → List ℕ → Type 0) → Command R
answering named refusing made answer IsIt Cause = record {
  named = named;
  memory = true;
  refusing = refusing;
  due = λ first second. outcome_with answer (made first second);
  IsText = λ first second text. IsTextOf answer IsIt (made first second) text;
  Cause = Cause;
}

-- A command that names no source, and tells a text.
abbrev pub telling : {R : Type 0} → (memory : Bool) → (IsIt : List ℕ → Type 0) → (Cause : R → List ℕ → List ℕ → Type 0) → Command R
telling memory IsIt Cause = record {
  named = no_source;
  memory = memory;
  refusing = λ first. None;
  due = λ first second. Done;
  IsText = λ first second text. IsIt text;
  Cause = Cause;
}
