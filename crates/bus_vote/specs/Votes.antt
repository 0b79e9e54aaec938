-- What two of three channels agree on in a round.
--   words   the data words of a channel, or None where it has no list there: it is absent
--   place   of a word in its list, counted from 0
--   vote    for each place at which two lists have a word: the word that two have there, or None, undecided, where no two are equal
use Rattle.std.specs.Prelude.{◌≡◌, ◌↔◌, ◌⊎◌, ℕ, Bool, ◌&&◌, ◌||◌, ◌<◌, IsTrue, nat_eq, max, List, length, map, slice_get}
use Rattle.std.specs.Prelude.{slice_index, Option, Some, None, is_some}
use Rattle.std.specs.Prelude.{if◌then◌else◌}
use Rattle.std.specs.List.{filter, range_with_len}
use Rattle.std.specs.Option.{option_and_then, option_eq, option_map_or, option_or}

-- Whether at least two of three are present.
abbrev pub two_are_present : {X : Type 0} → Option X → Option X → Option X → Bool
two_are_present a b c = (is_some a && is_some b) || ((is_some a && is_some c) || (is_some b && is_some c))

-- At least two of three are present, and this.
abbrev pub TwoAre : {X : Type 0} → X → Option X → Option X → Option X → Type 0
TwoAre x a b c = ((a ≡ Some x) × (b ≡ Some x)) ⊎ (((a ≡ Some x) × (c ≡ Some x)) ⊎ ((b ≡ Some x) × (c ≡ Some x)))

-- The word of a list at a place.
abbrev pub word_at : Option (List ℕ) → ℕ → Option ℕ
word_at words place = option_and_then (λ list. slice_get list place) words

-- Whether at least two lists have a word at a place.
abbrev pub is_place : Option (List ℕ) → Option (List ℕ) → Option (List ℕ) → ℕ → Bool
is_place a b c place = two_are_present (word_at a place) (word_at b place) (word_at c place)

-- How many words a list has.
abbrev pub word_count : Option (List ℕ) → ℕ
word_count words = option_map_or length words 0

-- How many words the longest list has.
abbrev pub longest : Option (List ℕ) → Option (List ℕ) → Option (List ℕ) → ℕ
longest a b c = max (word_count a) (max (word_count b) (word_count c))

-- The places of a vote: those at which at least two lists have a word.
abbrev pub places : Option (List ℕ) → Option (List ℕ) → Option (List ℕ) → List ℕ
places a b c = filter (is_place a b c) (range_with_len 0 (longest a b c))

-- How many places a vote has.
abbrev pub width : Option (List ℕ) → Option (List ℕ) → Option (List ℕ) → ℕ
width a b c = length (places a b c)

-- A vote has so many places: those below it are places at which two lists have a word, and no others are.
abbrev pub HasPlaces : ℕ → Option (List ℕ) → Option (List ℕ) → Option (List ℕ) → Type 0
HasPlaces width a b c = (place : ℕ) → (place < width) ↔ IsTrue (is_place a b c place)

-- Where two of three lists are the same, so many places are theirs.
abbrev pub IsFixedWidth : ℕ → Option (List ℕ) → Option (List ℕ) → Option (List ℕ) → Type 0
IsFixedWidth width a b c = (words : List ℕ) → TwoAre words a b c → width ≡ length words

-- The word of both, where they have the same.
abbrev pub agreed : Option ℕ → Option ℕ → Option ℕ
agreed a b = if option_eq nat_eq a b then a else None

-- The word that at least two of three have, and None where no two are equal.
abbrev pub majority : Option ℕ → Option ℕ → Option ℕ → Option ℕ
majority a b c = option_or (agreed a b) (option_or (agreed a c) (agreed b c))

-- The vote at a place.
abbrev pub vote_at : Option (List ℕ) → Option (List ℕ) → Option (List ℕ) → ℕ → Option ℕ
vote_at a b c place = majority (word_at a place) (word_at b place) (word_at c place)

-- The vote at a place is a word exactly where two of three lists have it there.
abbrev pub IsVoteOfTwo : ℕ → Option ℕ → Option (List ℕ) → Option (List ℕ) → Option (List ℕ) → Type 0
IsVoteOfTwo place vote a b c = (word : ℕ) → (vote ≡ Some word) ↔ TwoAre word (word_at a place) (word_at b place) (word_at c place)

-- Where two of three lists are the same, the vote at a place is their word.
abbrev pub IsFixedVote : ℕ → Option ℕ → Option (List ℕ) → Option (List ℕ) → Option (List ℕ) → Type 0
IsFixedVote place vote a b c = (words : List ℕ) → TwoAre words a b c → vote ≡ Some (slice_index words place)

-- The vote of three lists, place by place.
abbrev pub votes : Option (List ℕ) → Option (List ℕ) → Option (List ℕ) → List (Option ℕ)
votes a b c = map (vote_at a b c) (places a b c)
