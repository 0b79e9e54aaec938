-- Where a wordstring keeps its data words, and a message its wordstrings. No public clause cites this module.
use Rattle.std.specs.Prelude.{ℕ, ◌≡◌, ◌≤◌, [], ◌∷◌, length, take}
use Rattle.bus_strings.specs.Messages.{Wordstring, IsWordstring, Message, IsMessage, bits}
use Rattle.bus_strings.specs.declared.wordstring.Kept.{Kept}
use Rattle.bus_strings.specs.declared.wordstring.Kept.TheVariants.{Short, Middle, Long}
use Rattle.bus_strings.specs.declared.message.Strings.{Strings}
use Rattle.bus_strings.specs.declared.message.Strings.TheVariants.{One, Many}

-- How many data words a wordstring keeps in itself, in no memory of their own.
abbrev pub most_short : ℕ
most_short = 9

-- How many it keeps in a block of one size.
abbrev pub most_middle : ℕ
most_middle = 40

-- The wordstring that is kept.
abbrev pub kept_string : Kept → Wordstring
kept_string (Short label ext count words) = record { label = label; ext = ext; words = take count words }
kept_string (Middle label ext count words) = record { label = label; ext = ext; words = take count words.value }
kept_string (Long label ext words) = record { label = label; ext = ext; words = words.value.items }

-- Every number of it lies in its range.
abbrev pub IsKept : Kept → Type 0
IsKept (Short label ext count words) =
    (length words ≡ most_short) × (count ≤ most_short) × IsWordstring (record { label = label; ext = ext; words = take count words })
IsKept (Middle label ext count words) =
    (length words.value ≡ most_middle) × (count ≤ most_middle)
    × IsWordstring (record { label = label; ext = ext; words = take count words.value })
IsKept (Long label ext words) = IsWordstring (record { label = label; ext = ext; words = words.value.items })

-- The message that is kept.
abbrev pub kept_message : Strings → Message
kept_message (One alloc string) = string ∷ []
kept_message (Many bit_times strings) = strings.items

-- Every number of it lies in its range, and the bit times are those of the message.
abbrev pub AreKept : Strings → Type 0
AreKept (One alloc string) = IsMessage (string ∷ [])
AreKept (Many bit_times strings) = (bit_times ≡ bits strings.items) × IsMessage strings.items
