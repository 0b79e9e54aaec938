-- The canonical text of a cable and items, by the fields of its lines.
use Rattle.std.specs.Prelude.{ℕ, List, [], ◌∷◌, ◌++◌, map, codes, decimal}
use Rattle.bus_text.specs.Canonical.{spelled_lines}
use Rattle.bus_text.specs.Headers.{header_fields}
use Rattle.bus_strings.specs.Items.{Item}
use Rattle.bus_strings.specs.Canonical.{item_fields}
use Rattle.bus_cable.specs.declared.cable.Named.{Named}
use Rattle.bus_cable.specs.Cables.{Cable}

-- The fields of a line of this keyword that names a number of bit times.
abbrev pub named_fields : List ℕ → Named → List (List ℕ)
named_fields word named = word ∷ decimal named.terminal ∷ decimal named.bits ∷ []

-- The header, a line for each place, for each wake and for each item.
abbrev pub cable_text : Cable → List Item → List ℕ
cable_text cable items = spelled_lines
    (header_fields (codes "CABLE") ∷ map (named_fields (codes "PLACE")) cable.places
    ++ (map (named_fields (codes "WAKE")) cable.wakes ++ map item_fields items))
