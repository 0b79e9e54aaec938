-- What is said in a sentence of a periodic table on clocks that aren't exact: whether its senders keep their turns, or which rule lacks, by
-- how much, and what would cure that. Of several rules that lack the first is told: order, sync, begin, hearing. What is said stands in
-- `src/wordings.rt`.
use Rattle.std.specs.Prelude.{ℕ, ◌-◌, ◌==◌, List, [], ◌∷◌, ◌++◌, nat_lt, Option, Some, None, if◌then◌else◌}
use Rattle.std.specs.Int.{div_ceil}
use Rattle.bus_say.specs.Sentences.{said}
use Rattle.bus_table.specs.Tables.{Table}
use Rattle.bus_bounds.specs.Bounds.{Bounds}
use Rattle.bus_margins_periodic.specs.declared.level.Level.{Level}
use Rattle.bus_margins_periodic.specs.declared.level.Level.TheVariants.{Turns, Leads, Neither}
use Rattle.bus_margins_periodic.specs.declared.level.Margins.{Margins}
use Rattle.bus_margins_periodic.specs.declared.room.Room.{Room}
use Rattle.bus_margins_periodic.specs.declared.room.Rooms.{Rooms}
use Rattle.bus_margins_periodic.specs.declared.sentences.Rule.{Rule}
use Rattle.bus_margins_periodic.specs.declared.sentences.Rule.TheVariants.{Order, Sync, Begin, Hearing}
use Rattle.bus_margins_periodic.specs.declared.wordings.TheConstants as the
use Rattle.bus_margins_periodic.specs.Least.{holds}
use Rattle.bus_margins_periodic.specs.Margins.{margins_of}
use Rattle.bus_margins_periodic.specs.Texts.{number_at}

-- Oscillators are off by up to 50 millionths, and nothing else is inexact.
abbrev pub drifting : Bounds
drifting = record { delay = 0; jitter = 0; clocks = 50 }

-- By so many bit times a rule lacks, rounded up. As many bit times more may be a few nanoseconds short of that, since they drift as well.
abbrev pub lacking : Room → ℕ
lacking room = div_ceil (room.need - room.have) 500

-- What is said where a rule lacks, and, but for order, what would be enough against that. Of order: of the first turn, one that it holds back, or itself, and one that is due behind, less than a
-- round behind the first. Of the beginning no room but these two is told: the quiet before a settled start is longer than a synchronization
-- gap by a terminal gap, which so little drift doesn't use up, so all others are in sync when the first is due; and a sender alone that
-- doesn't lack sync leads.
abbrev pub wording : Rule → Room → List ℕ
wording Order room = if room.first == room.second then the.LATE.now else the.HELD.now
wording Sync room = the.WAITING.now
wording Begin room = if nat_lt room.first room.second then the.APART.now else the.ROUND.now
wording Hearing room = the.UNHEARD.now

-- It, with the terminals of the room and by how much it lacks.
abbrev pub lack_words : Table → Rule → Option Room → List ℕ
lack_words table rule None = []
lack_words table rule (Some room) =
    said (wording rule room) (number_at table room.first ∷ number_at table room.second ∷ number_at table room.third ∷ lacking room ∷ [])

-- That of the first rule that lacks.
abbrev pub first_lack_words : Table → Rooms → List ℕ
first_lack_words table rooms =
    if holds rooms.order then
    (if holds rooms.sync then
    (if holds rooms.begin then lack_words table Hearing rooms.hearing else lack_words table Begin rooms.begin)
    else lack_words table Sync rooms.sync)
    else lack_words table Order rooms.order

-- The sentence.
abbrev pub drifting_words : Level → Table → Rooms → List ℕ
drifting_words Turns table rooms = said the.TURNS.now []
drifting_words Leads table rooms = said the.LEADS.now []
drifting_words Neither table rooms = said the.NEITHER.now [] ++ first_lack_words table rooms

abbrev pub sentence_of : Table → Margins → List ℕ
sentence_of table margins = said the.WHERE.now [] ++ drifting_words margins.level table margins.rooms

abbrev pub drifting_text : Table → List ℕ
drifting_text table = sentence_of table (margins_of drifting table)
