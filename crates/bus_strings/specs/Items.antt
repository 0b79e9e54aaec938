-- The items of a messages text as plain numbers and lists: what a contract sees of `Payload` and `Payloads`.
--   item   a terminal and the data words of one of its messages, wordstring by wordstring, without the labels
use Rattle.std.specs.Prelude.{◌≡◌, ℕ, ◌<◌, ◌^◌, Bool, true, ◌&&◌, nat_le, List, length, map}
use Rattle.std.specs.Global.{Vec}
use Rattle.std.specs.List.{list_all, AllByRecursion}
use Rattle.std.specs.Int.{is_in_range as is_between}
use Rattle.bus_strings.specs.Limits.{most_terminal, most_strings, most_words}

-- A terminal, and the data words of one of its messages, wordstring by wordstring.
pub record Item : Type 0 where
  pub terminal : ℕ
  pub strings : List (List ℕ)

-- Lists, without where they lie in memory.
abbrev pub numbers : List (Vec ℕ) → List (List ℕ)
numbers vectors = map (λ v. v.items) vectors

-- Whether the terminal, the number of wordstrings and the number of data words of each are in their ranges.
abbrev pub is_in_range : Item → Bool
is_in_range item =
    is_between 1 most_terminal item.terminal
    && (is_between 1 most_strings (length item.strings) && list_all (λ string. nat_le (length string) most_words) item.strings)

-- Every number of an item lies in its range.
pub record IsItem (item : Item) : Type 0 where
  pub ranges : is_in_range item ≡ true
  pub words : AllByRecursion (AllByRecursion (λ word. word < 2 ^ 16)) item.strings
