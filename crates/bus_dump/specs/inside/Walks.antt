-- How a writer walks over a list: what it keeps, and what that stands for.
use Rattle.std.specs.Prelude.{◌≡◌, ℕ, ◌+◌, ◌-◌, ◌≤◌, ◌<◌, ◌%◌, Bool, nat_lt, List, [], length, take, drop, slice_get, slice_index_or}
use Rattle.std.specs.Prelude.{Option, Some, None, if◌then◌else◌}
use Rattle.std.specs.List.{AllByRecursion, count_by, filter_map, range_with_len}
use Rattle.std.specs.Option.{option_and_then}
use Rattle.bus_strings.specs.Limits.{word_bits, most_terminal}
use Rattle.bus_strings.specs.Messages.{Wordstring, Message, Entry, bits}
use Rattle.bus_strings.specs.Transmissions.{IsTransmission, IsAscending, end_of, garbled, marks}
use Rattle.bus_dump.specs.declared.shown_stretch.ShownStretch.{ShownStretch}
use Rattle.bus_dump.specs.declared.live.Live.{Live}
use Rattle.bus_dump.specs.declared.walk.Walk.{Walk}
use Rattle.bus_dump.specs.Doubled.{doubled}
use Rattle.bus_dump.specs.OnBus.{shown_of, shown_at, sync_bits}
use Rattle.bus_dump.specs.Scenes.{Scene}
use Rattle.bus_dump.specs.Seen.{Seen, holds, is_sent_by, number_of, seen_entry, seen_at}
use Rattle.bus_dump.specs.Signals.{Signal, Value, Number, Floating, Unknown, shown_word}
use Rattle.bus_dump.specs.DumpTexts.{changes, value_line}

-- ---- puts
-- The line of a signal, where it changes.
abbrev pub change_put : Scene → Scene → Signal → List ℕ
change_put before now signal = if changes before now signal then value_line now signal else []

-- ---- values
-- The word on the bus where one transmission more is seen.
abbrev pub one_more : Value → Option ℕ → Value
one_more value None = value
one_more Floating (Some word) = Number word
one_more _ (Some word) = Unknown

-- The word on the bus where this transmission more is seen.
abbrev pub with_word : Value → Seen → Value
with_word value seen = one_more value (shown_word seen)

-- ---- what is shown for a stretch
-- How long a word stays as it is from its bit time `at` on.
abbrev pub left_of : ℕ → ℕ
left_of at = if nat_lt at sync_bits then sync_bits - at else word_bits - at

-- What is seen at a bit time of a wordstring.
abbrev pub stretch_in : Wordstring → ℕ → ShownStretch
stretch_in string at = record { shown = Some (shown_of (record { string = string; at = at })); left = left_of (at % word_bits) }

-- What is shown at a bit time of a message, and for how many bit times, at least 1 and not past its end.
pub record IsShownStretch (message : Message) (at : ℕ) (stretch : ShownStretch) : Type 0 where
  pub some : 1 ≤ stretch.left
  pub short : stretch.left ≤ word_bits
  pub within : at + stretch.left ≤ bits message
  pub steady : (more : ℕ) → more < stretch.left → shown_at message (at + more) ≡ stretch.shown

-- ---- live transmissions
-- What is kept of entry k, given the entry.
abbrev pub live_of : List Entry → ℕ → Entry → Live
live_of list k x = record {
  at = k;
  terminal = x.terminal;
  moment = x.moment;
  end = end_of x;
  number = number_of list k x.terminal;
  garbled = garbled list k;
}

-- What is kept of entry k at bit time t, if its span holds t.
abbrev pub live_entry : List Entry → ℕ → ℕ → Option Live
live_entry list t k = option_and_then (λ x. if holds t x then Some (live_of list k x) else None) (slice_get list k)

-- What is kept of the first n entries at bit time t.
abbrev pub live_to : List Entry → ℕ → ℕ → List Live
live_to list t n = filter_map (live_entry list t) (range_with_len 0 n)

-- Whether a live transmission ends behind bit time t.
abbrev pub ends_after : ℕ → Live → Bool
ends_after t live = nat_lt t live.end

-- A live transmission is what is kept of an entry whose span holds bit time t.
abbrev pub IsLive : List Entry → ℕ → Live → Type 0
IsLive list t live = live_entry list t live.at ≡ Some live

-- What is seen at bit time t of a live transmission, given the entry.
abbrev pub sight_of : ℕ → Entry → Live → Seen
sight_of t x live =
    record { terminal = x.terminal; number = live.number; garbled = live.garbled; shown = shown_at x.message (t - x.moment) }

-- From bit time t to below `until` a transmission shows the same, and has not ended.
abbrev pub StaysTo : Entry → ℕ → ℕ → Type 0
StaysTo x t until =
    (later : ℕ) → t ≤ later → later < until
    → (later < end_of x) × (shown_at x.message (later - x.moment) ≡ shown_at x.message (t - x.moment))

-- What is seen at bit time t of a live transmission.
abbrev pub see : List Entry → ℕ → Live → Option Seen
see list t live = seen_entry list t live.at

-- From bit time t to below `until` the same is seen of a live transmission.
abbrev pub IsSteady : List Entry → ℕ → ℕ → Live → Type 0
IsSteady list t until live = (later : ℕ) → t ≤ later → later < until → see list later live ≡ see list t live

-- From bit time t to below `until` the same is seen of a list.
abbrev pub SteadyTo : List Entry → ℕ → ℕ → Type 0
SteadyTo list t until = (later : ℕ) → t ≤ later → later < until → seen_at list later ≡ seen_at list t

-- Every entry that has not begun begins at `until` or later.
abbrev pub BeginsFrom : List Entry → ℕ → ℕ → Type 0
BeginsFrom list begun until = (k : ℕ) (x : Entry) → begun ≤ k → slice_get list k ≡ Some x → until ≤ x.moment

-- ---- walks
-- A list over which a walk goes: in order, each entry in its ranges, and none doubled.
pub record IsWalkable (list : List Entry) : Type 0 where
  pub order : IsAscending list
  pub entries : AllByRecursion IsTransmission list
  pub single : doubled list ≡ None

-- Where a walk is: the first `begun` entries have begun at bit time t, and the others begin at `from` or later.
pub record WalksTo (list : List Entry) (t from : ℕ) (walk : Walk) : Type 0 where
  pub within : walk.begun ≤ length list
  pub before : (k : ℕ) (x : Entry) → k < walk.begun → slice_get list k ≡ Some x → x.moment ≤ t
  pub ahead : BeginsFrom list walk.begun from
  pub live : walk.live.items ≡ live_to list t walk.begun
  pub counts : (n : ℕ) → n ≤ most_terminal → slice_index_or walk.counts n 0 ≡ count_by (is_sent_by n) (take walk.begun list)
  pub marks : walk.marks ≡ drop walk.begun (marks list)

-- A walk reaches bit time t, and some entries may begin there.
abbrev pub Reaches : List Entry → ℕ → Walk → Type 0
Reaches list t walk = WalksTo list t t walk

-- A walk stands at bit time t: all entries that begin there have begun.
abbrev pub Stands : List Entry → ℕ → Walk → Type 0
Stands list t walk = WalksTo list t (t + 1) walk
