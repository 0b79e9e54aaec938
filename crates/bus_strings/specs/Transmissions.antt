-- Lists of transmissions: their order, the carrier that they make, and which of them are garbled.
use Rattle.std.specs.Prelude.{◌≡◌, ℕ, ◌+◌, ◌-◌, ◌<◌, ◌≤◌, ◌⊎◌, Bool, false, ◌&&◌, nat_lt, nat_le, List, [], ◌∷◌, length, map, slice_get}
use Rattle.std.specs.Prelude.{remove, ⊤}
use Rattle.std.specs.List.{list_any, range_with_len, AllByRecursion}
use Rattle.std.specs.Option.{option_map_or}
use Rattle.bus_strings.specs.Limits.{most_terminal}
use Rattle.bus_strings.specs.Messages.{Entry, IsMessage, bits}
use Rattle.bus_strings.specs.Pulses.{is_on}

-- A transmission is of a terminal in its range, and every number of its message lies in its range.
pub record IsTransmission (x : Entry) : Type 0 where
  pub positive : 1 ≤ x.terminal
  pub low : x.terminal ≤ most_terminal
  pub message : IsMessage x.message

-- The moment at which a transmission has ended: its span is from its moment up to this one, inner quiet included.
abbrev pub end_of : Entry → ℕ
end_of x = x.moment + bits x.message

-- Whether the transmission has a pulse at bit time t.
abbrev pub pulses : ℕ → Entry → Bool
pulses t x = nat_le x.moment t && is_on x.message (t - x.moment)

-- Whether some transmission of the list has a pulse at bit time t.
abbrev pub carrier : List Entry → ℕ → Bool
carrier list t = list_any (pulses t) list

-- Whether the spans of two transmissions meet: each begins before the other has ended.
abbrev pub overlaps : Entry → Entry → Bool
overlaps x y = nat_lt x.moment (end_of y) && nat_lt y.moment (end_of x)

-- Whether entry k is garbled: another entry of the list overlaps it.
abbrev pub garbled : List Entry → ℕ → Bool
garbled list k = option_map_or (λ x. list_any (overlaps x) (remove list k)) (slice_get list k) false

-- For each entry, in order, whether it is garbled.
abbrev pub marks : List Entry → List Bool
marks list = map (garbled list) (range_with_len 0 (length list))

-- Of two transmissions, x stands before y: by moment, and at the same moment by terminal.
abbrev pub Precedes : Entry → Entry → Type 0
Precedes x y = (x.moment < y.moment) ⊎ ((x.moment ≡ y.moment) × (x.terminal < y.terminal))

-- R holds of each entry and each one behind it.
abbrev pub IsOrdered : (Entry → Entry → Type 0) → List Entry → Type 0
IsOrdered R [] = ⊤
IsOrdered R (x ∷ xs) = AllByRecursion (R x) xs × IsOrdered R xs

-- Ordered by moment.
abbrev pub IsByMoment : List Entry → Type 0
IsByMoment list = IsOrdered (λ x y. x.moment ≤ y.moment) list

-- Strictly ordered by moment, then terminal.
abbrev pub IsAscending : List Entry → Type 0
IsAscending list = IsOrdered Precedes list

-- No two transmissions of the list overlap, inner quiet included.
abbrev pub IsClear : List Entry → Type 0
IsClear list = IsOrdered (λ x y. overlaps x y ≡ false) list
