-- What filling and emptying a buffer does. No public clause cites it.
use Rattle.std.specs.Prelude.{◌≡◌, ℕ, List, [], Result, Ok, Err, Bool, ◌++◌}
use Rattle.std.specs.declared.option.Option.{Option}
use Rattle.std.specs.Io.KnownBytes.{Keeps, IsAtEnd}
use Rattle.bus_outer.specs.Standing.{Stands}

-- Reading ahead changes nothing of what is still given, and nothing is ahead afterwards only at the end.
abbrev pub Fills : {E : Type 0} → Option (List ℕ) → Option (List ℕ) → Result (Unit {0}) E → List ℕ → Type 0
Fills old new (Ok u) ahead = Keeps old new × (ahead ≡ [] → IsAtEnd new)
Fills old new (Err e) ahead = Keeps old new

-- What waits in the buffer, and more bytes, were sent, unless a write has failed before: the buffer may be emptied.
pub record Sends {K : Type 0} (held : K → Option (List ℕ)) (faults : K → ℕ) (old new : K) (failed result : Bool) (bytes : List ℕ)
    : Type 0 where
  pub goes : (start : K) (waiting more text : List ℕ) → bytes ≡ waiting ++ more → Stands held faults start old waiting failed text
      → Stands held faults start new [] result (text ++ more)
