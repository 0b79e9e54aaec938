-- What it means that transmissions are clear: every terminal hears them one after the other.
use Rattle.std.specs.Prelude.{◌≡◌, ℕ, ◌<◌, Bool, true, List, [], ◌∷◌}
use Rattle.bus_clocks.specs.Entries.{Entry, In, AreClear}
use Rattle.bus_clocks.specs.Hearing.{Hears}

-- Of these transmissions no terminal, sender or listener, hears carrier of one at or behind a tick at which it hears carrier of a later
-- one.
abbrev pub AreHeardApart : (Entry → ℕ → ℕ → Bool) → List Entry → Type 0
AreHeardApart hears [] = Unit {0}
AreHeardApart hears (x ∷ list) =
    ((y : Entry) (n t u : ℕ) → In y list → hears x n t ≡ true → hears y n u ≡ true → t < u) × AreHeardApart hears list

-- Clear transmissions are heard apart by every terminal that hears them within the delay.
abbrev pub ClearIsHeardApart : Type 0
ClearIsHeardApart =
    (hears : Entry → ℕ → ℕ → Bool) (delay drop : ℕ) (list : List Entry)
    → ((x : Entry) (n : ℕ) → In x list → Hears hears delay drop x n) → AreClear delay list → AreHeardApart hears list
