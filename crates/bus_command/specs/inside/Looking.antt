-- What is taken of a source while what stands behind a trace is looked at. No public clause cites it.
use Rattle.std.specs.Prelude.{◌≡◌, ℕ, ◌≤◌, Bool, true, false, List, ◌++◌, length, take, Option, None, Result, Ok, Err}
use Rattle.bus_outer.specs.Faults.{Fails}
use Rattle.bus_command.specs.Heard.{Looks, garbled_by, garbled_in, looked_at, looked_by, most_lines, next_line}
pub use Rattle.bus_command.specs.declared.heard.PullFault.{PullFault}

-- The next line was taken, which stands at the front of these bytes; or no more than that, where a pull failed.
abbrev pub TakesLine : Option (List ℕ) → Option (List ℕ) → List ℕ → Result ℕ PullFault → Type 0
TakesLine old new line (Ok count) = Looks old new (λ bytes rest. (bytes ≡ take count line) × (next_line (bytes ++ rest) ≡ bytes))
TakesLine old new line (Err fault) = Looks old new (λ bytes rest. length bytes ≤ length (next_line (bytes ++ rest)))

-- What is looked at was taken, and the answer is what is counted there; or no more than that was taken, where a pull failed.
abbrev pub TakesBy : (List ℕ → ℕ) → (List ℕ → Option ℕ) → Option (List ℕ) → Option (List ℕ) → Result (Option ℕ) PullFault → Type 0
TakesBy looked garbled old new (Ok answer) =
    Looks old new (λ bytes rest. (looked (bytes ++ rest) ≡ length bytes) × (garbled (bytes ++ rest) ≡ answer))
TakesBy looked garbled old new (Err fault) = Looks old new (λ bytes rest. length bytes ≤ looked (bytes ++ rest))

-- Of the lines behind the first one.
abbrev pub TakesLines : Option (List ℕ) → Option (List ℕ) → Result (Option ℕ) PullFault → Type 0
TakesLines old new answer = TakesBy (looked_by most_lines) (garbled_by most_lines) old new answer

-- Of a heard text.
abbrev pub TakesLooked : Option (List ℕ) → Option (List ℕ) → Result (Option ℕ) PullFault → Type 0
TakesLooked old new answer = TakesBy looked_at garbled_in old new answer

-- A look counts a fault exactly where it answers one.
abbrev pub CountsLook : {T : Type 0} → ℕ → ℕ → Result T PullFault → Type 0
CountsLook before now (Ok x) = now ≡ before
CountsLook before now (Err fault) = Fails before now

-- The same, where it is looked for; else nothing is taken.
abbrev pub LooksBehind : Bool → Option (List ℕ) → Option (List ℕ) → Result (Option ℕ) PullFault → Type 0
LooksBehind true old new answer = TakesLooked old new answer
LooksBehind false old new answer = (new ≡ old) × (answer ≡ Ok None)
