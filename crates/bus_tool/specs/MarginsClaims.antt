-- What is claimed of `margins`: what its level means for the bus of the table within the bounds, and its numbers.
use Rattle.std.specs.Prelude.{◌≡◌, ◌≢◌, ℕ, ◌+◌, ◌≤◌, Bool, true, false}
use Rattle.bus_bounds.specs.Bounds.{Bounds}
use Rattle.bus_table.specs.Tables.{Table}
use Rattle.bus_table.specs.declared.mode.Mode.{Mode}
use Rattle.bus_table.specs.declared.mode.Mode.TheVariants.{Aperiodic, Periodic}
use Rattle.bus_regime.specs.declared.table_verdict.TableVerdict.{TableVerdict}
use Rattle.bus_regime.specs.declared.table_verdict.TableVerdict.TheVariants.{Accept, ShortCycle, SmallGap, NoSync}
use Rattle.bus_clocks.specs.Buses.{Bus, among}
use Rattle.bus_clocks.specs.Courses.{Course, IsCourse, HaveLeft, IsLeftAlone}
use Rattle.bus_clocks.specs.Order.{IsCold, ArePoweredWithin, AreEven, IsInOrder}
use Rattle.bus_clocks.specs.Rounds.{least_round, most_round}
use Rattle.bus_clocks.specs.Settling.{HasSettled}
use Rattle.bus_margins.specs.declared.level.Level.{Level}
use Rattle.bus_margins.specs.declared.level.Level.TheVariants.{Any, Common, Neither}
use Rattle.bus_drift.specs.Beginning.{Begins}
use Rattle.bus_margins.specs.Bearing.{keeps, borne_with, IsBorne}
use Rattle.bus_margins.specs.Buses.{bus_of}
use Rattle.bus_margins.specs.Rooms.{level_of, least_apart, most_apart}
use Rattle.bus_margins_periodic.specs.declared.level.Level.{Level as TurnsLevel}
use Rattle.bus_margins_periodic.specs.declared.level.Level.TheVariants.{Turns, Leads, Neither as Unkept}
use Rattle.bus_margins_periodic.specs.Bearing.{keeps as keeps_turns}
use Rattle.bus_margins_periodic.specs.Buses.{soon_of, late_of}
use Rattle.bus_margins_periodic.specs.Laws.{KeepTurns, FollowFirst}
use Rattle.bus_margins_periodic.specs.Margins.{level_of as turns_level}
use Rattle.bus_tool.specs.Replies.{Reply, TheMargins, TheVerdict}

-- Every course of such a bus comes into order by itself, and stays there, up to each horizon, whenever its senders were powered up and
-- whatever they sent until then, once it is left alone and as long as they have messages left. When all has been heard that came before, so
-- many nanoseconds have passed at most.
abbrev pub Settles : Bus → ℕ → Type 0
Settles bus most =
    (c : Course) (up : ℕ) → IsCourse bus c → HaveLeft bus c → IsLeftAlone bus c up
    → (origin : ℕ) × (origin + (among bus).delay ≤ up + most) × HasSettled bus c up origin

-- Every course of such a bus is in order from the beginning that begins cold, whose senders are powered up at about the same time and
-- have as many messages each.
abbrev pub KeepsOrder : Bus → Type 0
KeepsOrder bus = (c : Course) → IsCourse bus c → IsCold bus c → ArePoweredWithin bus c → AreEven bus c → IsInOrder bus c

-- What the lines of an aperiodic table tell of its bus within these bounds:
--   any      at level `any` order comes by itself, by the time that two starts of a sender are apart at most
--   common   and at each level it stands from a common start
--   apart    two starts of a sender, one behind the other, are told to be as far apart as a shortest and a longest round
--   borne    and of each bound the greatest, alone changed, with which the level is no lower.
pub record TellsMargins (bounds : Bounds) (table : Table) : Type 0 where
  pub any : level_of bounds table ≡ Any → Settles (bus_of bounds table) (most_apart bounds table)
  pub common : level_of bounds table ≢ Neither → KeepsOrder (bus_of bounds table)
  pub apart : (least_apart bounds table ≡ least_round (among (bus_of bounds table)))
      × (most_apart bounds table ≡ most_round (among (bus_of bounds table)))
  pub borne : IsBorne (keeps bounds table (level_of bounds table)) (borne_with (keeps bounds table (level_of bounds table)))

-- Every course on the bus of a periodic table, whose senders have as many messages each, and which begins at any moment: power-ups lie
-- within the delay from then on, and each sender is due for the first time within its bounds.
abbrev pub OnEachCourse : Bounds → Table → (Course → ℕ → Type 0) → Type 0
OnEachCourse bounds table holds =
    (c : Course) (start : ℕ) → IsCourse (bus_of bounds table) c → AreEven (bus_of bounds table) c
    → Begins (bus_of bounds table) c start (soon_of bounds table) (late_of bounds table) → holds c start

-- What the lines of a periodic table tell of its bus within these bounds:
--   turns    at level `turns` all take turns and keep pace for ever, whoever is the slowest, and two starts of a sender, one behind the
--            other, are at least and at most as far apart as they are told to be
--   leads    at level `leads` all take turns behind the first sender, and two starts are as far apart
--   borne    and of each bound the greatest, alone changed, with which the level is no lower.
pub record TellsTurns (bounds : Bounds) (table : Table) : Type 0 where
  pub turns : turns_level bounds table ≡ Turns → OnEachCourse bounds table (KeepTurns bounds table)
  pub leads : turns_level bounds table ≡ Leads → OnEachCourse bounds table (FollowFirst bounds table)
  pub borne : IsBorne (keeps_turns bounds table (turns_level bounds table))
      (borne_with (keeps_turns bounds table (turns_level bounds table)))

-- Whether this is a level of an aperiodic table, and not that it has none.
abbrev pub is_level : Level → Bool
is_level Any = true
is_level Common = true
is_level Neither = false

-- The same of a periodic one.
abbrev pub is_turns_level : TurnsLevel → Bool
is_turns_level Turns = true
is_turns_level Leads = true
is_turns_level Unkept = false

-- Whether a table of this mode has a level within these bounds.
abbrev pub has_level : Mode → Bounds → Table → Bool
has_level Aperiodic bounds table = is_level (level_of bounds table)
has_level Periodic bounds table = is_turns_level (turns_level bounds table)

-- Whether a table with this verdict is accepted and has one.
abbrev pub has_margins : TableVerdict → Bounds → Table → Bool
has_margins (Accept mode least most) bounds table = has_level table.mode bounds table
has_margins (ShortCycle least ti) bounds table = false
has_margins (SmallGap terminal gap needed) bounds table = false
has_margins (NoSync terminal gap needed) bounds table = false

-- What is answered of a table with this verdict: its margins, or of a refused one the verdict.
abbrev pub margins_reply : TableVerdict → Bounds → Table → Reply
margins_reply (Accept mode least most) bounds table = TheMargins bounds table
margins_reply (ShortCycle least ti) bounds table = TheVerdict (ShortCycle least ti)
margins_reply (SmallGap terminal gap needed) bounds table = TheVerdict (SmallGap terminal gap needed)
margins_reply (NoSync terminal gap needed) bounds table = TheVerdict (NoSync terminal gap needed)
