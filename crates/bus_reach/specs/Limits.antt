-- What limits how long a cable an accepted table bears: its conditions, one by one, each with the greatest delay that it alone bears. A
-- table of one sender has none.
use Rattle.std.specs.Prelude.{◌≡◌, ℕ, ◌+◌, ◌*◌, Bool, true, ◌==◌, nat_le, IsTrue, List, [], ◌∷◌, ◌++◌, map, length, Option, Some, None}
use Rattle.std.specs.Prelude.{if◌then◌else◌}
use Rattle.std.specs.List.{list_all}
use Rattle.std.specs.Option.{option_map_or}
use Rattle.bus_table.specs.declared.mode.Mode.{Mode}
use Rattle.bus_table.specs.declared.mode.Mode.TheVariants.{Aperiodic, Periodic}
use Rattle.bus_table.specs.Tables.{Sender, Table}
use Rattle.bus_table.specs.Turns.{turn_order}
use Rattle.bus_table.specs.Valid.{is_valid}
use Rattle.bus_regime.specs.Gaps.{Gap, gaps}
use Rattle.bus_regime.specs.Verdicts.{verdict_of, is_accepted}
use Rattle.bus_schedule.specs.Slack.{is_wide, stays}
use Rattle.bus_reach.specs.declared.limit.Limit.{Limit}
use Rattle.bus_reach.specs.declared.limit.Rule.{Rule}
use Rattle.bus_reach.specs.declared.limit.Rule.TheVariants.{LeastGap, NextGap, OwnGap, Sync}
use Rattle.bus_reach.specs.Bearing.{bears, greatest_to}
use Rattle.bus_reach.specs.Tolerance.{is_apart}

-- A condition of the table that takes delays of so many bit times takes all.
abbrev pub farthest : Table → ℕ
farthest table = 2 * table.ti + length table.senders * table.sg

-- The greatest delay that a condition takes; none where it takes the farthest, and so every one.
unfoldable pub greatest_taken : (ℕ → Bool) → ℕ → Option ℕ
greatest_taken test far = if test far then None else Some (greatest_to test far)

-- A condition of a table, with what it alone bears.
abbrev pub limit : Table → Rule → (ℕ → Bool) → Limit
limit table rule test = record { rule = rule; bears = greatest_taken test (farthest table) }

-- ---- aperiodic
-- No delay is longer than the least terminal gap, which is this sender's.
abbrev pub least_limit : Table → Sender → Limit
least_limit table first = limit table (LeastGap first.number) (λ d. nat_le d first.tg)

-- The least of these senders in turn order.
abbrev pub least_limits : Table → List Sender → List Limit
least_limits table [] = []
least_limits table (first ∷ order) = least_limit table first ∷ []

-- The next longer gap than a sender's is longer by more than twice the delays.
abbrev pub next_limit : Table → Sender → ℕ → Limit
next_limit table sender next = limit table (NextGap sender.number) (λ d. is_apart d sender.tg next)

-- The next longer gap, before these senders in turn order: the terminal gap of the first of them, or behind the last the synchronization
-- gap.
abbrev pub next_gap : ℕ → List Sender → ℕ
next_gap sg [] = sg
next_gap sg (next ∷ order) = next.tg

-- So it is of each of these senders in turn order.
abbrev pub next_limits : Table → List Sender → List Limit
next_limits table [] = []
next_limits table (sender ∷ order) = next_limit table sender (next_gap table.sg order) ∷ next_limits table order

-- ---- periodic
-- The gap before a sender has room for its terminal gap and the delays.
abbrev pub gap_limit : Table → Gap → Limit
gap_limit table gap = limit table (OwnGap gap.sender.number) (λ d. is_wide d gap)

-- The sender of this gap stays in sync over these, from the next one in turn order on round to its own.
abbrev pub sync_limit : Table → List Gap → Gap → Limit
sync_limit table round own = limit table (Sync own.sender.number) (λ d. stays d table.sg own.sender.number (Some 0) round)

-- So it is of the senders of the gaps `behind`, where `before` are the gaps before them all.
abbrev pub sync_limits : Table → (before behind : List Gap) → List Limit
sync_limits table before [] = []
sync_limits table before (own ∷ behind) =
    sync_limit table (behind ++ (before ++ own ∷ [])) own ∷ sync_limits table (before ++ own ∷ []) behind

-- ---- together
-- The limits of a table of several senders in this mode, in turn order.
abbrev pub limits_in : Mode → Table → List Limit
limits_in Aperiodic table = least_limits table (turn_order table) ++ next_limits table (turn_order table)
limits_in Periodic table = map (gap_limit table) (gaps table) ++ sync_limits table [] (gaps table)

-- The limits of a table.
abbrev pub limits_of : Table → List Limit
limits_of table = if length table.senders == 1 then [] else limits_in table.mode table

-- Whether a limit bears delays up to d.
abbrev pub is_borne : ℕ → Limit → Bool
is_borne d limit = option_map_or (λ most. nat_le d most) limit.bears true

-- An accepted table bears exactly the delays that each of its limits bears.
abbrev pub LimitsTellBearing : Type 0
LimitsTellBearing =
    (table : Table) (d : ℕ) → IsTrue (is_valid table) → IsTrue (is_accepted (verdict_of table))
    → bears table d ≡ list_all (is_borne d) (limits_of table)
