-- Where the wordstrings of some labels stand in a list, found by one pass over it.
--   wanted   by label, whether it is looked for
--   find     a wordstring of a label that is looked for, in a transmission that isn't garbled
--   round    of a transmission: how many its terminal sent before it
use Rattle.std.specs.Prelude.{◌≡◌, ◌⊎◌, ℕ, ◌<◌, ◌≤◌, ◌==◌, Bool, true, false, not, ◌&&◌, List, [], ◌∷◌, length, take, slice_get, Some}
use Rattle.std.specs.Prelude.{None, if◌then◌else◌}
use Rattle.std.specs.List.{filter, flat_map, range_with_len, zip}
use Rattle.std.specs.Option.{option_and_then, option_map_or}
use Rattle.bus_strings.specs.Messages.{Wordstring, Entry}
use Rattle.bus_strings.specs.Transmissions.{garbled, marks}
use Rattle.bus_vote.specs.Labels.{Channel}
use Rattle.bus_vote.specs.Rounds.{is_of, sent_by, words_of, channel_words}
pub use Rattle.bus_vote.specs.declared.finds.Find.{Find}

-- How many transmissions of a terminal stand before a place.
abbrev pub sent_before : ℕ → List Entry → ℕ → ℕ
sent_before terminal list place = length (filter (is_of terminal) (take place (zip list (marks list))))

-- Whether a label is looked for.
abbrev pub is_wanted : List Bool → ℕ → Bool
is_wanted wanted label = option_map_or (λ yes. yes) (slice_get wanted label) false

-- The find that a wordstring of the transmission at a place is, if it is one.
abbrev pub string_finds : List Bool → List Entry → ℕ → ℕ → ℕ → Wordstring → List Find
string_finds wanted list place terminal round string =
    if is_wanted wanted string.label && not (garbled list place)
    then record { place = place; round = round; label = string.label; terminal = terminal } ∷ [] else []

-- The finds of a transmission at a place.
abbrev pub entry_finds : List Bool → List Entry → ℕ → Entry → List Find
entry_finds wanted list place x = flat_map (string_finds wanted list place x.terminal (sent_before x.terminal list place)) x.message

-- The finds of what stands at a place.
abbrev pub place_finds : List Bool → List Entry → ℕ → List Find
place_finds wanted list place = option_map_or (entry_finds wanted list place) (slice_get list place) []

-- The finds before a place, in the order of the list.
abbrev pub finds_before : List Bool → List Entry → ℕ → List Find
finds_before wanted list place = flat_map (place_finds wanted list) (range_with_len 0 place)

-- Whether a find is of a label and a terminal.
abbrev pub is_own : ℕ → ℕ → Find → Bool
is_own label terminal find = find.label == label && find.terminal == terminal

-- A find of a terminal and a round.
pub record IsFound (list : List Entry) (finds : List Find) (label terminal round : ℕ) : Type 0 where
  pub at : ℕ
  pub find : Find
  pub there : slice_get finds at ≡ Some find
  pub own : is_own label terminal find ≡ true
  pub named : find.round ≡ round

-- Of a label, each find is what it says, those of a terminal come in the order of its rounds, and where a transmission has words there is
-- a find.
pub record AreFinds (list : List Entry) (finds : List Find) (label : ℕ) : Type 0 where
  pub placed : (at : ℕ) (find : Find) → slice_get finds at ≡ Some find → find.place < length list
  pub sender : (at : ℕ) (find : Find) (x : Entry) → slice_get finds at ≡ Some find → slice_get list find.place ≡ Some x
      → x.terminal ≡ find.terminal
  pub sound : (at : ℕ) (find : Find) (x : Entry) → slice_get finds at ≡ Some find → slice_get list find.place ≡ Some x
      → slice_get (sent_by x.terminal list) find.round ≡ Some (x, false)
  pub order : (i j terminal : ℕ) (f g : Find) → i ≤ j → slice_get finds i ≡ Some f → slice_get finds j ≡ Some g
      → is_own label terminal f ≡ true → is_own label terminal g ≡ true → f.round ≤ g.round
  pub whole : (terminal ext round : ℕ) (words : List ℕ)
      → option_and_then (words_of label ext) (slice_get (sent_by terminal list) round) ≡ Some words
      → IsFound list finds label terminal round

-- A channel of a label in a list, of which the rounds before one were read.
pub record Hearing : Type 0 where
  pub list : List Entry
  pub label : ℕ
  pub channel : Channel
  pub round : ℕ

-- A reader stands before the first find of its channel whose round wasn't read.
pub record IsHearing (list : List Entry) (finds : List Find) (label : ℕ) (channel : Channel) (round at : ℕ) : Type 0 where
  pub finds_are : AreFinds list finds label
  pub left : (j : ℕ) (f : Find) → slice_get finds j ≡ Some f → is_own label channel.terminal f ≡ true → round ≤ f.round → at ≤ j
  pub here : (f : Find) → slice_get finds at ≡ Some f → (is_own label channel.terminal f ≡ true) × (round ≤ f.round)

-- A channel has no words from its round on.
abbrev pub IsSilent : Hearing → Type 0
IsSilent h = (k : ℕ) → h.round ≤ k → channel_words h.list h.label h.channel k ≡ None

-- Two of three channels have none.
abbrev pub TwoAreSilent : Hearing → Hearing → Hearing → Type 0
TwoAreSilent a b c = (IsSilent a × IsSilent b) ⊎ ((IsSilent a × IsSilent c) ⊎ (IsSilent b × IsSilent c))
