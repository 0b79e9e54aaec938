-- What is found at a transmission depends on nothing that stands behind it: so it can be told as soon as the transmission has come.
use Rattle.std.specs.Prelude.{◌≡◌, true, List, ◌++◌}
use Rattle.std.specs.List.{AllByRecursion}
use Rattle.bus_strings.specs.Messages.{Entry}
use Rattle.bus_table.specs.Tables.{Table}
use Rattle.bus_bounds.specs.Bounds.{Bounds}
use Rattle.bus_findings.specs.Judging.{judgement_of, stands_before}

-- The transmission stands before each of these.
abbrev pub StandsBeforeAll : Entry → List Entry → Type 0
StandsBeforeAll x behind = AllByRecursion (λ z. stands_before z x ≡ true) behind

-- What is found at it is the same with these behind and without.
abbrev pub FrontsTell : Type 0
FrontsTell =
    (bounds : Bounds) (table : Table) (list behind : List Entry) (x : Entry) → StandsBeforeAll x behind
    → judgement_of bounds table (list ++ behind) x ≡ judgement_of bounds table list x
