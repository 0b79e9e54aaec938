-- Laws of lawful lists: where no two senders have the same number there is exactly one for each horizon, and it can be computed.
-- Each of these laws is a clause of `laws::one_lawful_list`. The laws of `Stretches` are clauses of the other functions
-- of that module.
use Rattle.std.specs.Prelude.{◌≡◌, ℕ, List, IsTrue}
use Rattle.bus_strings.specs.Messages.{Entry}
use Rattle.bus_table.specs.Tables.{Table, Hand}
use Rattle.bus_table.specs.Hands.{are_hands}
use Rattle.bus_table.specs.Valid.{is_valid}
use Rattle.bus_medium.specs.Lawful.{Station, HaveOwnNumbers, IsLawful, IsLawfulTo}
use Rattle.bus_medium.specs.LawfulList.{lawful_list}
use Rattle.bus_medium.specs.Timings.{quiet_of, stations_of}

-- There is one lawful list at most.
abbrev pub OneLawfulList : Type 0
OneLawfulList =
    (quiet : ℕ) (stations : List Station) (horizon : ℕ) (list other : List Entry) → HaveOwnNumbers stations
    → IsLawful quiet stations horizon list → IsLawful quiet stations horizon other → list ≡ other

-- There is one, where no two senders have the same number.
abbrev pub ThereIsALawfulList : Type 0
ThereIsALawfulList = (quiet : ℕ) (stations : List Station) (horizon : ℕ) → HaveOwnNumbers stations → (list : List Entry)
    × IsLawful quiet stations horizon list

-- It is the one that is computed.
abbrev pub TheComputedList : Type 0
TheComputedList = (quiet : ℕ) (stations : List Station) (horizon : ℕ) → HaveOwnNumbers stations
    → IsLawful quiet stations horizon (lawful_list quiet stations horizon)

-- Every valid table, with a hand for each of its senders, has exactly one lawful list for each horizon.
abbrev pub OneListOfATable : Type 0
OneListOfATable =
    (table : Table) (hands : List Hand) (horizon : ℕ) → IsTrue (is_valid table) → IsTrue (are_hands table.senders hands)
    → (list : List Entry) × IsLawful (quiet_of table) (stations_of table hands) horizon list
    × ((other : List Entry) → IsLawful (quiet_of table) (stations_of table hands) horizon other → other ≡ list)

-- A list that is lawful for all moments before the horizon is lawful for it.
abbrev pub LawfulToHorizon : Type 0
LawfulToHorizon = (quiet : ℕ) (stations : List Station) (horizon : ℕ) (list : List Entry) → IsLawfulTo quiet stations horizon 0 list
    → IsLawful quiet stations horizon list
