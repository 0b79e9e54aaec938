-- How the transmission that is heard next is found. A rank is one number for the moment and, at the same moment, the terminal.
use Rattle.std.specs.Prelude.{◌≡◌, ◌==◌, ℕ, ◌+◌, ◌*◌, ◌<◌, ◌≤◌, Bool, List, [], ◌++◌, codes, decimal, slice_get, if◌then◌else◌}
use Rattle.std.specs.Option.{option_map_or}
use Rattle.bus_strings.specs.Messages.{Entry}
use Rattle.bus_strings.specs.Transmissions.{end_of}
use Rattle.bus_medium.specs.Delays.{Delays, heard}
use Rattle.bus_cable.specs.declared.hearing.Heard.{Heard}
use Rattle.bus_cable.specs.HeardTexts.{hearing_line, mark_text, terminal_text}
use Rattle.bus_table.specs.Tables.{Sender, Listener}
use Rattle.bus_cable.specs.Hearing.{is_of_another}

-- What is kept of a transmission as it is heard.
abbrev pub heard_as : Entry → Heard
heard_as x = record { moment = x.moment; terminal = x.terminal; end = end_of x }

-- The rank of a moment and a terminal.
abbrev pub rank_of : ℕ → ℕ → ℕ
rank_of moment terminal = 256 * moment + terminal

-- The rank of a transmission.
abbrev pub rank : Entry → ℕ
rank x = rank_of x.moment x.terminal

-- The rank of the one at a place.
abbrev pub rank_in : List Entry → ℕ → ℕ
rank_in list k = option_map_or rank (slice_get list k) 0

-- Of the places from `from` up to `count` whose rank is at least `bound`, this one has the least rank; it is `count` where there is none.
pub record IsFirst (R : ℕ → ℕ) (from bound count first : ℕ) : Type 0 where
  pub within : first ≤ count
  pub found : first < count → (from ≤ first) × (bound ≤ R first) × ((k : ℕ) → from ≤ k → k < count → bound ≤ R k → R first ≤ R k)
  pub none : first ≡ count → (k : ℕ) → from ≤ k → k < count → R k < bound

-- The same of the places up to `at` alone, where the rank is `least`.
pub record IsFirstSoFar (R : ℕ → ℕ) (from bound count at best least : ℕ) : Type 0 where
  pub within : best ≤ count
  pub found : best < count → (from ≤ best) × (bound ≤ R best) × (least ≡ R best)
  pub behind : (k : ℕ) → from ≤ k → k < at → bound ≤ R k → (least ≤ R k) × (best < count)
  pub none : best ≡ count → least ≡ 18446744073709551615

-- What is written of a transmission as a terminal hears it: nothing of its own.
abbrev pub marked_put : ℕ → Entry × Bool → List ℕ
marked_put number marked = if is_of_another number marked then hearing_line marked else []

-- The same of what is kept of it.
abbrev pub heard_put : ℕ → Heard → Bool → List ℕ
heard_put number heard garbled =
    if heard.terminal == number then [] else codes "HT " ++ decimal heard.moment ++ codes " " ++ decimal heard.terminal ++ mark_text garbled

-- A sender, and what it hears.
abbrev pub sender_heard : Delays → List Entry → Sender → List ℕ
sender_heard delay list sender = terminal_text delay list sender.number

-- A listener, and what it hears.
abbrev pub listener_heard : Delays → List Entry → Listener → List ℕ
listener_heard delay list listener = terminal_text delay list listener.number
