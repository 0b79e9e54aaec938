-- The files that the words of the command line name.
use Rattle.std.specs.Prelude.{◌≡◌, ℕ, List, Option, Some, None}
use Rattle.std.specs.String.{string_bytes}
use Rattle.bus_outer.specs.declared.file_source.NamedFile.{NamedFile}
use Rattle.bus_outer.specs.declared.file_source.NamedFile.TheVariants as file

-- The file of a word, which isn't opened yet, and no file where there is no word.
abbrev pub IsFileOf : {F : Type 0} → Option (List ℕ) → NamedFile F → Type 0
IsFileOf None file.None = Unit {0}
IsFileOf (Some word) (file.Closed path) = string_bytes path ≡ word
IsFileOf word other = ⊥
