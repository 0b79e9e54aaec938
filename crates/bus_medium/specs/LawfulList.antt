-- The lawful list, computed: moment by moment, and at each moment by rising number.
use Rattle.std.specs.Prelude.{ℕ, zero, suc, ◌+◌, max, Bool, ◌&&◌, ◌==◌, nat_lt, List, [], ◌∷◌, ◌++◌, length, slice_index_or, Option, Some}
use Rattle.std.specs.Prelude.{None, if◌then◌else◌}
use Rattle.std.specs.List.{find}
use Rattle.bus_timers.specs.MayStartTest.{may_start}
use Rattle.bus_strings.specs.Messages.{Entry}
use Rattle.bus_medium.specs.Past.{past, own, last_place}
use Rattle.bus_medium.specs.Lawful.{Station}
use Rattle.bus_medium.specs.Delays.{Delays, heard}
use Rattle.bus_medium.specs.Wakes.{Wakes, woken_past, woken_place}

-- Whether the sender is due at moment t.
abbrev pub is_due : ℕ → List Entry → Station → ℕ → Bool
is_due quiet list sender t =
    may_start sender.timing (past quiet list t) (last_place quiet (own list sender.number t))
    && nat_lt (length (own list sender.number t)) (length sender.hand)

-- The next message of the sender, begun at moment t.
abbrev pub next_entry : List Entry → Station → ℕ → Entry
next_entry list sender t = record {
  moment = t;
  terminal = sender.number;
  message = slice_index_or sender.hand
      (length (own list sender.number t)) [];
}

-- The sender with this number.
abbrev pub with_number : List Station → ℕ → Option Station
with_number stations number = find (λ sender. sender.number == number) stations

-- A number above those of all senders.
abbrev pub above : List Station → ℕ
above [] = 0
above (sender ∷ stations) = max (sender.number + 1) (above stations)

-- The list when the sender, if there is one, has decided at moment t.
abbrev pub decided : (List Entry → Station → ℕ → Bool) → List Entry → Option Station → ℕ → List Entry
decided due list None t = list
decided due list (Some sender) t = if due list sender t then list ++ next_entry list sender t ∷ [] else list

-- The list when the senders with numbers below n have decided at moment t.
abbrev pub decided_below : (List Entry → Station → ℕ → Bool) → List Station → List Entry → ℕ → ℕ → List Entry
decided_below due stations list t zero = list
decided_below due stations list t (suc n) = decided due (decided_below due stations list t n) (with_number stations n) t

-- The list up to the horizon that senders make by a rule that can be tested.
abbrev pub ruled_list : (List Entry → Station → ℕ → Bool) → List Station → ℕ → List Entry
ruled_list due stations zero = []
ruled_list due stations (suc t) = decided_below due stations (ruled_list due stations t) t (above stations)

-- The lawful list up to the horizon.
abbrev pub lawful_list : ℕ → List Station → ℕ → List Entry
lawful_list quiet = ruled_list (is_due quiet)

-- Whether the sender is due at moment t, where it hears others later and was powered up at a moment of its own.
abbrev pub is_due_on_cable : ℕ → Delays → Wakes → List Entry → Station → ℕ → Bool
is_due_on_cable quiet delay wake list sender t =
    may_start sender.timing (woken_past quiet (wake sender.number) (heard delay sender.number list) t)
    (woken_place quiet (wake sender.number) (own list sender.number t))
    && nat_lt (length (own list sender.number t)) (length sender.hand)

-- The lawful list on a cable up to the horizon.
abbrev pub cable_list : ℕ → Delays → Wakes → List Station → ℕ → List Entry
cable_list quiet delay wake = ruled_list (is_due_on_cable quiet delay wake)
