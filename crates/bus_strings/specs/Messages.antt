-- Messages and transmissions as plain numbers and lists: what a contract sees of the types.
--   wordstring     one label word, and the data words behind it
--   message        what a terminal sends at one start: its wordstrings, in order
--   transmission   a message on the bus: when it starts and who sends it
use Rattle.std.specs.Prelude.{ℕ, ◌+◌, ◌-◌, ◌*◌, ◌^◌, ◌<◌, ◌≤◌, List, ◌∷◌, length, map}
use Rattle.std.specs.List.{sum_by, AllByRecursion}
use Rattle.bus_words.specs.declared.word.Word.{Word}
use Rattle.bus_words.specs.Words.{label_word, data_word}
use Rattle.bus_strings.specs.Limits.{most_strings, most_words, word_bits, inner_gap}

-- A label, an extension and the data words behind them.
pub record Wordstring : Type 0 where
  pub label : ℕ
  pub ext : ℕ
  pub words : List ℕ

-- The words of a wordstring: its label word, and the data words.
abbrev pub words_of : Wordstring → List Word
words_of string = label_word string.label string.ext ∷ map data_word string.words

-- A message: its wordstrings.
abbrev pub Message : Type 0
Message = List Wordstring

-- A transmission: the moment of its first bit time, in bit times from the settled start, its terminal and its message.
pub record Entry : Type 0 where
  pub moment : ℕ
  pub terminal : ℕ
  pub message : Message

-- Every number of a wordstring lies in its range, and there are no more data words than may be.
pub record IsWordstring (string : Wordstring) : Type 0 where
  pub label : string.label < 4096
  pub ext : string.ext < 16
  pub few : length string.words ≤ most_words
  pub words : AllByRecursion (λ word. word < 2 ^ 16) string.words

-- A message has wordstrings, and no more than may be.
pub record IsMessage (message : Message) : Type 0 where
  pub some : 0 < length message
  pub few : length message ≤ most_strings
  pub strings : AllByRecursion IsWordstring message

-- The words of a wordstring, its label word included.
abbrev pub word_count : Wordstring → ℕ
word_count string = 1 + length string.words

-- The bit times of so many words in so many wordstrings, between which it is quiet.
abbrev pub bits_of : ℕ → ℕ → ℕ
bits_of words strings = word_bits * words + inner_gap * (strings - 1)

-- The bit times of the longest message that may be.
abbrev pub most_bits : ℕ
most_bits = bits_of ((1 + most_words) * most_strings) most_strings

-- The bit times of a message, from its first to its last.
abbrev pub bits : Message → ℕ
bits message = bits_of (sum_by word_count message) (length message)
