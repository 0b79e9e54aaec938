-- How long a cable a periodic table bears: by how many bit times later at most its terminals may hear each other.
--
--   d       by how many bit times later at most a sender hears another
--   slack   of a sender that has not yet heard a synchronization gap since its own start: by how many bit times later at most it hears the
--           last message. It is none where the sender has heard such a gap, whatever the delays
--
-- A sender hears itself at once, so its slack is 0 behind its own message. It hears the gap of another sender longer by that sender's
-- delay, and shorter by the delay of the message before. Where it hears no synchronization gap there, that sender's delay is at most `slack
-- + sg - 1 - gap`; and it is at most d. Where that is below 0, it has heard one.
use Rattle.std.specs.Prelude.{ℕ, ◌+◌, ◌-◌, min, Bool, true, false, ◌&&◌, ◌||◌, ◌==◌, List, [], ◌∷◌, ◌++◌, length, Option, Some, None}
use Rattle.std.specs.Prelude.{if◌then◌else◌}
use Rattle.std.specs.List.{list_all}
use Rattle.bus_table.specs.Tables.{Table}
use Rattle.bus_regime.specs.Gaps.{Gap, has_width, gaps}

-- The slack behind the message of another sender, before which this gap stands.
abbrev pub slack_behind : ℕ → ℕ → Option ℕ → Gap → Option ℕ
slack_behind d sg None gap = None
slack_behind d sg (Some slack) gap = if has_width (slack + sg) gap then None else Some (min d (slack + sg - 1 - (gap.to - gap.from)))

-- A sender with this slack is in sync where its own gap ends, a terminal gap later.
abbrev pub is_enough : ℕ → Option ℕ → Gap → Bool
is_enough sg None own = true
is_enough sg (Some slack) own = has_width (sg + own.sender.tg + slack) own

-- The sender with this number, which has this slack, stays in sync over these gaps, up to its own.
abbrev pub stays : ℕ → ℕ → ℕ → Option ℕ → List Gap → Bool
stays d sg number slack [] = false
stays d sg number slack (gap ∷ gaps) =
    if gap.sender.number == number then is_enough sg slack gap else stays d sg number (slack_behind d sg slack gap) gaps

-- Each sender of the gaps `behind` stays in sync from its own message to its next one: over the gaps behind its own in turn order, and then
-- those before it and its own, where `before` are the gaps before them all.
abbrev pub all_stay : ℕ → ℕ → List Gap → List Gap → Bool
all_stay d sg before [] = true
all_stay d sg before (own ∷ behind) =
    stays d sg own.sender.number (Some 0) (behind ++ (before ++ own ∷ [])) && all_stay d sg (before ++ own ∷ []) behind

-- A gap is at least its sender's terminal gap and d bit times.
abbrev pub is_wide : ℕ → Gap → Bool
is_wide d gap = has_width (gap.sender.tg + d) gap

-- The gaps of an accepted periodic table bear delays up to d: a sender alone bears any. Of several, each gap is wide enough, and each
-- sender stays in sync.
abbrev pub gaps_bear : Table → ℕ → Bool
gaps_bear table d = length table.senders == 1 || (list_all (is_wide d) (gaps table) && all_stay d table.sg [] (gaps table))
