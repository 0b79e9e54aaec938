-- Numbers, and what may be missing, as JSON values.
use Rattle.std.specs.Prelude.{ℕ, List, codes, Option, Some, None}
use Rattle.serde_json.specs.Data.{Data, null, number, unsigned, string, array, object, member, no_members}
use Rattle.serde_json.specs.View.{items_of}

-- A whole number.
abbrev pub count : ℕ → Data
count n = number (unsigned n)

-- The same, or null where there is none.
abbrev pub count_or_null : Option ℕ → Data
count_or_null None = null
count_or_null (Some n) = count n

-- The same, or the word `any` where every number will do.
abbrev pub count_or_any : Option ℕ → Data
count_or_any None = string (codes "any")
count_or_any (Some n) = count n

-- A list of values.
abbrev pub list : List Data → Data
list values = array (items_of values)

-- A time with delays up to the tolerance of a table, where that has an end, and without delays.
abbrev pub delayed : Option ℕ → ℕ → Data
delayed at_tolerance without_delays =
    object (member (codes "at_tolerance") (count_or_null at_tolerance)
    (member (codes "without_delays") (count without_delays) no_members))
