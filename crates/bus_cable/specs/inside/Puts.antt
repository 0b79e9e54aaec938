-- The canonical text of a cable, as it is put into a buffer: each form as its bytes.
use Rattle.std.specs.Prelude.{ℕ, List, ◌++◌, codes, decimal}
use Rattle.bus_cable.specs.declared.cable.Named.{Named}

-- The line of this keyword, behind which a space stands.
abbrev pub named_bytes : List ℕ → Named → List ℕ
named_bytes word named = word ++ codes " " ++ decimal named.terminal ++ codes " " ++ decimal named.bits ++ codes "\n"
