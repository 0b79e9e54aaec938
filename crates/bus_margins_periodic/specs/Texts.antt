-- The text of the margins of a periodic table.
use Rattle.std.specs.Prelude.{ℕ, ◌==◌, List, [], ◌∷◌, ◌++◌, codes, Option, Some, None, pos, ◌-ℤ◌, if◌then◌else◌}
use Rattle.std.specs.Fmt.{decimal, signed_decimal}
use Rattle.bus_table.specs.Tables.{Table}
use Rattle.bus_table.specs.Turns.{turn_order}
use Rattle.bus_bounds.specs.Bounds.{Bounds}
use Rattle.bus_margins.specs.declared.part.Borne.{Borne}
use Rattle.bus_margins.specs.Bearing.{borne_with}
use Rattle.bus_margins_periodic.specs.declared.level.Level.{Level}
use Rattle.bus_margins_periodic.specs.declared.level.Level.TheVariants.{Turns, Leads, Neither}
use Rattle.bus_margins_periodic.specs.declared.level.Margins.{Margins}
use Rattle.bus_margins_periodic.specs.declared.room.Room.{Room}
use Rattle.bus_margins_periodic.specs.declared.room.Rooms.{Rooms}
use Rattle.bus_margins.specs.Buses.{at_place}
use Rattle.bus_margins.specs.Texts.{bears_line}
use Rattle.bus_margins_periodic.specs.Bearing.{keeps}
use Rattle.bus_margins_periodic.specs.Margins.{level_of, margins_of}

-- ---- `MARGINS`: the level, and how many nanoseconds lie between successive starts of a sender at least and at most

abbrev pub level_word : Level → List ℕ
level_word Turns = codes "turns"
level_word Leads = codes "leads"
level_word Neither = codes "none"

abbrev pub apart_word : Level → ℕ → List ℕ
apart_word Turns n = decimal n
apart_word Leads n = decimal n
apart_word Neither n = codes "-"

abbrev pub head_line : Level → ℕ → ℕ → List ℕ
head_line level least most =
    codes "MARGINS periodic " ++ level_word level ++ 32 ∷ [] ++ apart_word level least ++ 32 ∷ [] ++ apart_word level most ++ 10 ∷ []

-- ---- `ROOM`: a rule, the terminals at which it leaves the least room, and the room in nanoseconds

-- The number of the terminal at a place in turn order.
abbrev pub number_at : Table → ℕ → ℕ
number_at table k = at_place (λ a. a.number) (turn_order table) k

abbrev pub terminal_word : Table → ℕ → List ℕ
terminal_word table k = decimal (number_at table k)

abbrev pub nanoseconds_word : Room → List ℕ
nanoseconds_word room = signed_decimal (pos room.have -ℤ pos room.need)

-- The other terminal of two: a sender may stand before itself.
abbrev pub other_word : Table → ℕ → ℕ → List ℕ
other_word table a b = if a == b then codes "-" else terminal_word table b

-- The words of a rule of one terminal, of two and of three.
abbrev pub one_words : Table → Option Room → List ℕ
one_words table None = codes "- - -"
one_words table (Some room) = terminal_word table room.first ++ codes " - " ++ nanoseconds_word room

abbrev pub pair_words : Table → Room → List ℕ
pair_words table room =
    terminal_word table room.first ++ 32 ∷ [] ++ other_word table room.first room.second ++ 32 ∷ [] ++ nanoseconds_word room

abbrev pub two_words : Table → Option Room → List ℕ
two_words table None = codes "- - -"
two_words table (Some room) = pair_words table room

abbrev pub three_words : Table → Room → List ℕ
three_words table room =
    terminal_word table room.first ++ 32 ∷ [] ++ terminal_word table room.second ++ 32 ∷ [] ++ terminal_word table room.third ++ 32 ∷ []
    ++ nanoseconds_word room

-- A sender that is alone is overtaken by none: there is no such line.
abbrev pub order_line : Table → Option Room → List ℕ
order_line table None = []
order_line table (Some room) = codes "ROOM order " ++ three_words table room ++ 10 ∷ []

abbrev pub room_lines : Table → Rooms → List ℕ
room_lines table rooms =
    codes "ROOM hearing " ++ one_words table rooms.hearing ++ codes "\nROOM sync " ++ one_words table rooms.sync ++ 10 ∷ []
    ++ order_line table rooms.order ++ codes "ROOM begin " ++ two_words table rooms.begin ++ 10 ∷ []

-- ---- the text, whose last line is `BEARS`

abbrev pub margins_lines : Table → Margins → Option Borne → List ℕ
margins_lines table margins borne =
    head_line margins.level margins.least margins.most ++ room_lines table margins.rooms ++ bears_line borne

-- What a table of this level bears: nothing is said where it has none.
abbrev pub borne_at : Bounds → Table → Level → Option Borne
borne_at bounds table Turns = Some (borne_with (keeps bounds table Turns))
borne_at bounds table Leads = Some (borne_with (keeps bounds table Leads))
borne_at bounds table Neither = None

abbrev pub periodic_text : Bounds → Table → List ℕ
periodic_text bounds table = margins_lines table (margins_of bounds table) (borne_at bounds table (level_of bounds table))
