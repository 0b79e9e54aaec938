-- Layouts of the terminals of a table: where each is on a straight cable, and when each sender wakes. A layout also gives places and wakes
-- to terminals that the table doesn't have, the strangers.
use Rattle.std.specs.Prelude.{◌≡◌, ℕ, ◌≤◌}
use Rattle.bus_strings.specs.Members.{In}
use Rattle.bus_table.specs.Tables.{Sender, Table}
use Rattle.bus_medium.specs.Delays.{distance}
use Rattle.bus_medium.specs.Wakes.{Wakes}
use Rattle.bus_cable.specs.HeardTexts.{terminals}

-- Two layouts have the same places for the terminals of the table, senders and listeners, and the same wakes for its senders.
pub record AreAlike (table : Table) (place other_place : ℕ → ℕ) (wake other_wake : Wakes) : Type 0 where
  pub places : (number : ℕ) → In number (terminals table) → place number ≡ other_place number
  pub wakes : (sender : Sender) → In sender table.senders → wake sender.number ≡ other_wake sender.number

-- No terminal of the table, sender or listener, is farther from one of its senders than this many bit times.
abbrev pub AreNear : ℕ → Table → (ℕ → ℕ) → Type 0
AreNear most table place =
    (sender : Sender) (number : ℕ) → In sender table.senders → In number (terminals table)
    → distance (place sender.number) (place number) ≤ most
