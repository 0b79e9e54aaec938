-- The verdict on a table, by this project's profile: in aperiodic mode by the length of its shortest cycle, in periodic mode by the
-- gaps between its longest messages.
--   least, most   how far apart, in bit times, successive starts of one sender are at least and at most
use Rattle.std.specs.Prelude.{◌≡◌, ℕ, ◌+◌, ◌-◌, Bool, true, false, not, ◌&&◌, ◌||◌, ◌==◌, nat_lt, List, Option, Some, None, if◌then◌else◌}
use Rattle.std.specs.List.{sum_by, list_any, find}
use Rattle.std.specs.Option.{option_map, option_or}
use Rattle.bus_table.specs.declared.mode.Mode.{Mode}
use Rattle.bus_table.specs.declared.mode.Mode.TheVariants.{Aperiodic, Periodic}
use Rattle.bus_table.specs.Tables.{Table}
use Rattle.bus_table.specs.Lengths.{shortest, longest}
use Rattle.bus_regime.specs.declared.table_verdict.TableVerdict.{TableVerdict}
use Rattle.bus_regime.specs.declared.table_verdict.TableVerdict.TheVariants.{Accept, ShortCycle, SmallGap, NoSync}
use Rattle.bus_regime.specs.Gaps.{Gap, gaps, has_width, width}

-- A cycle of the shortest messages: one synchronization gap, and each sender's terminal gap and message.
abbrev pub least_cycle : Table → ℕ
least_cycle table = table.sg + sum_by (λ sender. sender.tg + shortest sender) table.senders

-- A cycle of the longest messages.
abbrev pub most_cycle : Table → ℕ
most_cycle table = table.sg + sum_by (λ sender. sender.tg + longest sender) table.senders

-- An aperiodic table is refused exactly where its shortest cycle is below the transmit interval.
abbrev pub by_cycles : Table → TableVerdict
by_cycles table =
    if nat_lt (least_cycle table) table.ti
    then ShortCycle (least_cycle table) table.ti
    else Accept Aperiodic (least_cycle table) (most_cycle table)

-- A gap is small where it is below its sender's terminal gap.
abbrev pub is_small : Gap → Bool
is_small gap = not (has_width gap.sender.tg gap)

-- A gap synchronizes the sender with this number where it is another sender's and has at least one synchronization gap.
abbrev pub synchronizes : ℕ → ℕ → Gap → Bool
synchronizes sg number gap = not (gap.sender.number == number) && has_width sg gap

-- A gap's sender lacks sync where its own gap has no room for a synchronization gap and its terminal gap, and no other synchronizes it.
abbrev pub lacks_sync : ℕ → List Gap → Gap → Bool
lacks_sync sg all gap = not (has_width (sg + gap.sender.tg) gap || list_any (synchronizes sg gap.sender.number) all)

-- The refusal for a small gap: its sender, the gap, and the terminal gap.
abbrev pub small_gap : Gap → TableVerdict
small_gap gap = SmallGap gap.sender.number (width gap) gap.sender.tg

-- The refusal for want of a synchronization gap: the sender, its own gap, and what that would have to be.
abbrev pub no_sync : ℕ → Gap → TableVerdict
no_sync sg gap = NoSync gap.sender.number (gap.to - gap.from) (sg + gap.sender.tg)

-- Why these gaps are refused: the first that is small; where none is, the first whose sender lacks sync.
abbrev pub refusal : ℕ → List Gap → Option TableVerdict
refusal sg all = option_or (option_map small_gap (find is_small all)) (option_map (no_sync sg) (find (lacks_sync sg all) all))

-- The refusal, or else that the table is accepted, with starts exactly one transmit interval apart.
abbrev pub unless_refused : Option TableVerdict → ℕ → TableVerdict
unless_refused (Some refused) ti = refused
unless_refused None ti = Accept Periodic ti ti

-- A periodic table is refused exactly where its gaps are.
abbrev pub by_gaps : Table → TableVerdict
by_gaps table = unless_refused (refusal table.sg (gaps table)) table.ti

-- The verdict on a table whose senders stand by this mode.
abbrev pub verdict_in : Mode → Table → TableVerdict
verdict_in Aperiodic table = by_cycles table
verdict_in Periodic table = by_gaps table

-- The verdict on a table.
abbrev pub verdict_of : Table → TableVerdict
verdict_of table = verdict_in table.mode table

-- Whether a verdict accepts.
abbrev pub is_accepted : TableVerdict → Bool
is_accepted (Accept mode least most) = true
is_accepted (ShortCycle least ti) = false
is_accepted (SmallGap terminal gap needed) = false
is_accepted (NoSync terminal gap needed) = false

-- The verdict refuses the table.
abbrev pub IsRefused : Table → Type 0
IsRefused table = is_accepted (verdict_of table) ≡ false
