-- How many slots and shades there are; the measures of pictures of cycles are constants of the crate.
use Rattle.std.specs.Prelude.{ℕ}

-- How many slots a row has for garbled transmissions, one below the other, by their terminals.
abbrev pub slots : ℕ
slots = 3

-- How many shades the boxes of a row have: two of what is plain, and one for each slot.
abbrev pub shades : ℕ
shades = 5
