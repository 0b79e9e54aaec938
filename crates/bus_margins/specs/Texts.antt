-- The text of the margins of an aperiodic table.
use Rattle.std.specs.Prelude.{ℕ, List, [], ◌∷◌, ◌++◌, codes, Option, Some, None, pos, ◌-ℤ◌}
use Rattle.std.specs.Fmt.{decimal, signed_decimal}
use Rattle.bus_table.specs.Tables.{Table}
use Rattle.bus_bounds.specs.Bounds.{Bounds}
use Rattle.bus_margins.specs.declared.part.Borne.{Borne}
use Rattle.bus_margins.specs.declared.level.Level.{Level}
use Rattle.bus_margins.specs.declared.level.Level.TheVariants.{Any, Common, Neither}
use Rattle.bus_margins.specs.declared.level.Margins.{Margins}
use Rattle.bus_margins.specs.declared.room.Room.{Room}
use Rattle.bus_margins.specs.declared.room.Rooms.{Rooms}
use Rattle.bus_margins.specs.Bearing.{keeps, borne_with}
use Rattle.bus_margins.specs.Margins.{margins_of}
use Rattle.bus_margins.specs.Rooms.{level_of}

-- ---- `MARGINS`: the level, and how many nanoseconds lie between successive starts of a sender at least and at most

abbrev pub level_word : Level → List ℕ
level_word Any = codes "any"
level_word Common = codes "common"
level_word Neither = codes "none"

abbrev pub apart_word : Level → ℕ → List ℕ
apart_word Any n = decimal n
apart_word Common n = decimal n
apart_word Neither n = codes "-"

abbrev pub head_line : Level → ℕ → ℕ → List ℕ
head_line level least most =
    codes "MARGINS aperiodic " ++ level_word level ++ 32 ∷ [] ++ apart_word level least ++ 32 ∷ [] ++ apart_word level most ++ 10 ∷ []

-- ---- `ROOM`: a rule, the terminal or the two at which it leaves the least room, and the room in nanoseconds

abbrev pub other_word : Option ℕ → List ℕ
other_word None = codes "-"
other_word (Some number) = decimal number

abbrev pub nanoseconds_word : Room → List ℕ
nanoseconds_word room = signed_decimal (pos room.have -ℤ pos room.need)

abbrev pub amount_words : Room → List ℕ
amount_words room = decimal room.terminal ++ 32 ∷ [] ++ other_word room.other ++ 32 ∷ [] ++ nanoseconds_word room

abbrev pub least_words : Option Room → List ℕ
least_words None = codes "- - -"
least_words (Some room) = amount_words room

abbrev pub room_line : List ℕ → Option Room → List ℕ
room_line rule room = codes "ROOM " ++ rule ++ 32 ∷ [] ++ least_words room ++ 10 ∷ []

abbrev pub room_lines : Rooms → List ℕ
room_lines rooms =
    room_line (codes "whole") rooms.whole ++ room_line (codes "drop") rooms.drop ++ room_line (codes "turns") rooms.turns
    ++ room_line (codes "opening") rooms.opening ++ room_line (codes "waiting") rooms.waiting ++ room_line (codes "joining") rooms.joining
    ++ room_line (codes "interval") rooms.interval ++ room_line (codes "cycle") rooms.cycle

-- ---- `BEARS`: the greatest delay, jitter and clocks, each alone, with which the level is no lower

abbrev pub unborne_line : List ℕ
unborne_line = codes "BEARS delay - jitter - clocks -\n"

abbrev pub borne_line : Borne → List ℕ
borne_line borne =
    codes "BEARS delay " ++ decimal borne.delay ++ codes " jitter " ++ decimal borne.jitter ++ codes " clocks "
    ++ decimal borne.clocks ++ 10 ∷ []

abbrev pub bears_line : Option Borne → List ℕ
bears_line None = unborne_line
bears_line (Some borne) = borne_line borne

-- ---- the text

abbrev pub margins_lines : Margins → Option Borne → List ℕ
margins_lines margins borne = head_line margins.level margins.least margins.most ++ room_lines margins.rooms ++ bears_line borne

-- What a table of this level bears: nothing is said where it has none.
abbrev pub borne_at : Bounds → Table → Level → Option Borne
borne_at bounds table Any = Some (borne_with (keeps bounds table Any))
borne_at bounds table Common = Some (borne_with (keeps bounds table Common))
borne_at bounds table Neither = None

abbrev pub aperiodic_text : Bounds → Table → List ℕ
aperiodic_text bounds table = margins_lines (margins_of bounds table) (borne_at bounds table (level_of bounds table))
