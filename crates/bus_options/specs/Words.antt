-- The words of a command line.
use Rattle.std.specs.Prelude.{ℕ, List, map, String}
use Rattle.std.specs.declared.alloc.Global.{Global}
use Rattle.std.specs.String.{string_bytes}

-- The words of the program, as bytes.
abbrev pub words_of : List (String Global) → List (List ℕ)
words_of words = map string_bytes words
