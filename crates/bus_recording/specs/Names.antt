-- Terminals may be told by any numbers: by their places in turn order, or by those of a table.
use Rattle.std.specs.Prelude.{◌≡◌, ℕ, List, [], ◌∷◌}
use Rattle.bus_recording.specs.Seen.{Bounds, Monitor, Seen}
use Rattle.bus_recording.specs.Findings.{IsClean}

-- The same transmission, its terminal told by another number.
abbrev pub renamed : (ℕ → ℕ) → Seen → Seen
renamed name r = record { moment = r.moment; sender = name r.sender; soonest = r.soonest; latest = r.latest }

-- The same of all.
abbrev pub all_renamed : (ℕ → ℕ) → List Seen → List Seen
all_renamed name [] = []
all_renamed name (r ∷ list) = renamed name r ∷ all_renamed name list

-- Where no two get the same number, a terminal that has no finding has none by its new number.
abbrev pub NamesAreFree : Type 0
NamesAreFree =
    (bounds : Bounds) (monitor : Monitor) (name : ℕ → ℕ) (k : ℕ) (recording : List Seen) → ((a b : ℕ) → name a ≡ name b → a ≡ b)
    → IsClean bounds monitor recording k → IsClean bounds monitor (all_renamed name recording) (name k)
