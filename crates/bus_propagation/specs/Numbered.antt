-- Numbers that are found by the number of a terminal: places on a straight cable, and wakes.
use Rattle.std.specs.Prelude.{ℕ, ◌≤◌, List, slice_index_or}

-- What the list has for the terminal with this number, and 0 behind its end.
abbrev pub numbered : List ℕ → ℕ → ℕ
numbered numbers terminal = slice_index_or numbers terminal 0

-- The greatest place, in bit times from the cable's beginning.
abbrev pub most_place : ℕ
most_place = 1024

-- No terminal is at a greater place.
abbrev pub ArePlaces : List ℕ → Type 0
ArePlaces places = (n : ℕ) → numbered places n ≤ most_place
