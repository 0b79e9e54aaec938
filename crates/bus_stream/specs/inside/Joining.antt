-- A message under way.
use Rattle.std.specs.Prelude.{ℕ, List, ◌∷◌, ◌++◌}
use Rattle.bus_strings.specs.Messages.{Message, Wordstring}
use Rattle.bus_stream.specs.Items.{Parts, string_of}

-- Wordstrings, one under way with its label word and its data words so far, and what is still to come.
abbrev pub joined : List Wordstring → ℕ → List ℕ → Parts → Message
joined strings label words rest = strings ++ string_of label (words ++ rest.words) ∷ rest.strings
