-- The ages that the options of a command line write. A word is its bytes. A line that is read has no other word that is written so: the
-- value of no option is `--age`.
use Rattle.std.specs.Prelude.{ℕ, List, [], ◌∷◌, ◌++◌, codes, Option, None, slice_index_or, if◌then◌else◌}
use Rattle.std.specs.Option.{option_to_list}
use Rattle.std.specs.Result.{result_ok}
use Rattle.std.specs.Str.{bytes_eq}
use Rattle.bus_options.specs.Settings.{Age, age_of, has_equals, name_in, value_in}

-- The age that a word writes, or that and the next.
abbrev pub age_at : List ℕ → List ℕ → Option Age
age_at word next =
    if has_equals word then (if bytes_eq (name_in word) (codes "--age") then result_ok (age_of (value_in word)) else None)
    else if bytes_eq word (codes "--age") then result_ok (age_of next)
    else None

-- The ages, in their order.
abbrev pub ages_in : List (List ℕ) → List Age
ages_in [] = []
ages_in (word ∷ words) = option_to_list (age_at word (slice_index_or words 0 [])) ++ ages_in words
