-- What follows of the past that a list makes, and of what is a sender's own.
-- The contract of `laws::pasts` says that each law with a name of its own holds; the proofs are for the crates above to cite.
use Rattle.std.specs.Prelude.{◌≡◌, ℕ, ◌+◌, ◌<◌, ◌≤◌, ◌⊎◌, true, false, List, [], ◌∷◌, ◌++◌, length, Some, slice_index_or}
use Rattle.bus_strings.specs.Members.{In}
use Rattle.bus_strings.specs.Messages.{Entry}
use Rattle.bus_strings.specs.Transmissions.{carrier, end_of, IsAscending}
use Rattle.bus_medium.specs.Past.{past, own, last_place}

-- The past at moment t has the quiet before the settled start, and t bit times.
abbrev pub PastLength : Type 0
PastLength = (q : ℕ) (l : List Entry) (t : ℕ) → length (past q l t) ≡ q + t

-- The past at the place of a moment is the carrier there.
abbrev pub PastAt : Type 0
PastAt = (q : ℕ) (l : List Entry) (t u : ℕ) → u < t → slice_index_or (past q l t) (q + u) true ≡ carrier l u

-- Where each transmission is over or yet to come there is no carrier.
abbrev pub NoCarrier : Type 0
NoCarrier = (l : List Entry) (u : ℕ) → ((x : Entry) → In x l → (end_of x ≤ u) ⊎ (u < x.moment)) → carrier l u ≡ false

-- No transmission of terminal n begins from moment a on and before moment b.
abbrev pub NoneOf : List Entry → ℕ → ℕ → ℕ → Type 0
NoneOf l n a b = (x : Entry) → In x l → x.terminal ≡ n → a ≤ x.moment → x.moment < b → ⊥

-- What is own at one moment is so at a later one, where none of the own begins in between.
abbrev pub OwnLater : Type 0
OwnLater = (l : List Entry) (n a b : ℕ) → a ≤ b → NoneOf l n a b → own l n b ≡ own l n a

-- A bit time after it began an entry is the last of the own.
abbrev pub OwnMore : Type 0
OwnMore = (l : List Entry) (x : Entry) → IsAscending l → In x l → own l x.terminal (x.moment + 1) ≡ own l x.terminal x.moment ++ x ∷ []

-- The place of the last start, after one more.
abbrev pub LastMore : Type 0
LastMore = (q : ℕ) (l : List Entry) (x : Entry) → last_place q (l ++ x ∷ []) ≡ Some (q + x.moment)

-- At a moment a terminal has one entry.
abbrev pub OneAt : Type 0
OneAt = (l : List Entry) (x y : Entry) → IsAscending l → In x l → In y l → x.moment ≡ y.moment → x.terminal ≡ y.terminal → x ≡ y
