-- Which terminals of a table take words of a wordstring, as the titles of wordstrings tell it, by what bus_filter says a terminal receives.
use Rattle.std.specs.Prelude.{ℕ, Bool, not, ◌&&◌, ◌==◌, nat_lt, List, [], ◌∷◌, ◌++◌, codes, decimal, filter, length}
use Rattle.std.specs.List.{flat_map, list_any, range_with_len}
use Rattle.bus_strings.specs.Limits.{most_terminal}
use Rattle.bus_strings.specs.Messages.{Wordstring}
use Rattle.bus_table.specs.declared.line.TakeLine.{TakeLine}
use Rattle.bus_table.specs.Tables.{Table}
use Rattle.bus_shapes.specs.declared.sent.Sent.{Sent}
use Rattle.bus_filter.specs.Received.{Taker, matches, selection, takers}

-- Whether a receive line takes words of a wordstring: it matches, and the wordstring has one at a position of the line.
abbrev pub takes_words : Wordstring → TakeLine → Bool
takes_words string line = matches line string.label string.ext && nat_lt 0 (length (selection line string.words))

-- Whether a terminal takes words of a wordstring of a transmission: that isn't its own, nor garbled.
abbrev pub does_take : Sent → Wordstring → Taker → Bool
does_take sent string taker = not sent.garbled && not (sent.terminal == taker.number) && list_any (takes_words string) taker.takes

-- Whether the terminal of a number does.
abbrev pub is_taken_by : Table → Sent → Wordstring → ℕ → Bool
is_taken_by table sent string n = list_any (λ (taker : Taker). taker.number == n && does_take sent string taker) (takers table)

-- The numbers of those that do, in order.
abbrev pub taken_by : Table → Sent → Wordstring → List ℕ
taken_by table sent string = filter (is_taken_by table sent string) (range_with_len 1 most_terminal)

-- Numbers, each behind a comma.
abbrev pub after_commas : List ℕ → List ℕ
after_commas numbers = flat_map (λ n. codes ", " ++ decimal n) numbers

-- Numbers in words, with commas between them.
abbrev pub numbers_words : List ℕ → List ℕ
numbers_words [] = codes "none"
numbers_words (n ∷ numbers) = decimal n ++ after_commas numbers

-- Who takes words of a wordstring, in words.
abbrev pub taken_words : Table → Sent → Wordstring → List ℕ
taken_words table sent string = codes ", taken by " ++ numbers_words (taken_by table sent string)
