-- Terminals that were powered up at moments of their own. One has heard nothing before it was powered up: what the past of the bus has
-- before that is no part of its own past.
--   wake    for the number of a terminal: the moment at which it has been powered up for as long as the bus is quiet before the settled
--           start. In the settled start every wake is 0
use Rattle.std.specs.Prelude.{ℕ, ◌-◌, ◌≤◌, Bool, List, drop, Option}
use Rattle.std.specs.Option.{option_map}
use Rattle.bus_strings.specs.Members.{In}
use Rattle.bus_strings.specs.Messages.{Entry}
use Rattle.bus_table.specs.Tables.{Sender}
use Rattle.bus_medium.specs.Past.{past, last_place}

-- For the number of a terminal: the moment of its wake.
abbrev pub Wakes : Type 0
Wakes = ℕ → ℕ

-- All wake at the settled start.
abbrev pub settled : Wakes
settled number = 0

-- No sender of these wakes later than moment `most`.
abbrev pub AreWakes : ℕ → List Sender → Wakes → Type 0
AreWakes most senders wake = (sender : Sender) → In sender senders → wake sender.number ≤ most

-- The past at moment t of a terminal with this wake that hears this list: without the bit times before its power-up.
abbrev pub woken_past : ℕ → ℕ → List Entry → ℕ → List Bool
woken_past quiet wake list t = drop wake (past quiet list t)

-- The place in that past at which the last of its own transmissions starts.
abbrev pub woken_place : ℕ → ℕ → List Entry → Option ℕ
woken_place quiet wake list = option_map (λ place. place - wake) (last_place quiet list)
