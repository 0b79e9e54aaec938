-- Which pairs of a label and an extension are seen on SEND lines.
use Rattle.std.specs.Prelude.{◌≡◌, ℕ, ◌+◌, ◌*◌, ◌%◌, Bool, false, List, slice_index_or}
use Rattle.std.specs.List.{list_any}
use Rattle.bus_table.specs.Tables.{SendLine}
use Rattle.bus_table.specs.Whole.{same_pair}

-- The place at which the pair of a line is seen. Other pairs may share it.
abbrev pub pair_place : SendLine → ℕ
pair_place line = (16 * line.label + line.ext) % 4096

-- Where nothing is seen at the place of a pair, no line among these has the pair.
abbrev pub AreSeen : List Bool → List SendLine → Type 0
AreSeen seen lines =
    (line : SendLine) → slice_index_or seen (pair_place line) false ≡ false → list_any (λ other. same_pair other line) lines ≡ false
