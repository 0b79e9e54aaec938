-- What the figures are good for: the spare, the load, and the gaps before the senders of a periodic table.
use Rattle.std.specs.Prelude.{◌≡◌, ℕ, ◌+◌, ◌*◌, ◌<◌, ◌≤◌, ◌↔◌, pos, List, map, IsTrue}
use Rattle.std.specs.List.{sum_by}
use Rattle.bus_strings.specs.Members.{In}
use Rattle.bus_table.specs.declared.mode.Mode.{Mode}
use Rattle.bus_table.specs.declared.mode.Mode.TheVariants.{Aperiodic, Periodic}
use Rattle.bus_table.specs.Tables.{Table}
use Rattle.bus_table.specs.Turns.{turn_order}
use Rattle.bus_table.specs.Ranges.{is_ti}
use Rattle.bus_table.specs.Valid.{is_valid}
use Rattle.bus_regime.specs.Gaps.{Gap, gaps, width}
use Rattle.bus_regime.specs.Verdicts.{verdict_of, is_accepted}
use Rattle.bus_plan.specs.Laws.{AreAccepted}
use Rattle.bus_advice.specs.Changes.{with_interval}
use Rattle.bus_explain.specs.Accepted.{IsAcceptedWith}
use Rattle.bus_explain.specs.Figures.{gap_bits, load, longest_bits, spare}

-- With its transmit interval changed alone a table is accepted exactly up to its own and so much.
abbrev pub CanRise : Table → ℕ → Type 0
CanRise table spare = (n : ℕ) → (n ≤ table.ti + spare) ↔ IsTrue (is_accepted (verdict_of (with_interval n table)))

-- With its transmit interval changed to any in its range, some offsets of a table are accepted exactly down to its own less so much. Those
-- that it has count for nothing: offsets are accepted where each is below the changed interval, since one at or above it makes no valid
-- table, and where the verdict accepts the table with them.
abbrev pub CanFall : Table → ℕ → Type 0
CanFall table spare =
    (n : ℕ) → IsTrue (is_ti n) → (table.ti ≤ n + spare) ↔ ((offsets : List ℕ) × AreAccepted (with_interval n table) offsets)

-- So a spare is what it is said to be, by the mode of its table.
abbrev pub IsSpare : Mode → Table → ℕ → Type 0
IsSpare Aperiodic table spare = CanRise table spare
IsSpare Periodic table spare = CanFall table spare

-- The spare of an accepted aperiodic table.
abbrev pub SpareIsRise : Type 0
SpareIsRise =
    (table : Table) (least most : ℕ) → table.mode ≡ Aperiodic → IsAcceptedWith table least most → CanRise table (spare table least)

-- The spare of an accepted periodic table.
abbrev pub SpareIsFall : Type 0
SpareIsFall =
    (table : Table) (least most : ℕ) → IsTrue (is_valid table) → table.mode ≡ Periodic → IsAcceptedWith table least most
    → CanFall table (spare table least)

-- ---- the load
-- The bit times of a longest cycle of a table of this mode in which nobody sends: a synchronization gap and the terminal gap of each
-- sender, or the gaps before the senders.
abbrev pub idle_in : Mode → Table → ℕ
idle_in Aperiodic table = table.sg + sum_by (λ sender. sender.tg) table.senders
idle_in Periodic table = sum_by gap_bits (gaps table)

-- The load of an accepted table is that of its longest cycle:
--   whole     a longest message of each sender and the gaps are that cycle, to the bit time
--   nearest   so much of it is messages, in tenths of a percent, and no other number of them is nearer
pub record IsLoadOf (table : Table) (most : ℕ) : Type 0 where
  pub whole : longest_bits table + idle_in table.mode table ≡ most
  pub nearest : (2 * most * load table most ≤ 2000 * longest_bits table + most)
      × (2000 * longest_bits table + most < 2 * most * (load table most + 1))

-- So it is for every accepted table.
abbrev pub LoadIsOfLongestCycle : Type 0
LoadIsOfLongestCycle =
    (table : Table) (least most : ℕ) → IsTrue (is_valid table) → IsAcceptedWith table least most → IsLoadOf table most

-- ---- the gaps
-- The gap that is told of a sender of a periodic table is that of the verdict, lasts from its beginning to its end, and is no less than the
-- sender's terminal gap.
pub record IsGapTold (gap : Gap) : Type 0 where
  pub verdicts : width gap ≡ pos (gap_bits gap)
  pub lasts : gap.from + gap_bits gap ≡ gap.to
  pub wide : gap.sender.tg ≤ gap_bits gap

-- So it is for every accepted periodic table, of which one gap is told for each sender.
abbrev pub GapsAreTold : Type 0
GapsAreTold =
    (table : Table) → IsTrue (is_valid table) → table.mode ≡ Periodic → IsTrue (is_accepted (verdict_of table))
    → (map (λ gap. gap.sender) (gaps table) ≡ turn_order table) × ((gap : Gap) → In gap (gaps table) → IsGapTold gap)
