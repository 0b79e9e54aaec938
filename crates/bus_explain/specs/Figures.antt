-- The figures of an accepted table that its verdict doesn't tell.
--   least, most   the verdict's: the shortest and the longest cycle, which in periodic mode are both the transmit interval
use Rattle.std.specs.Prelude.{ℕ, ◌-◌, ◌==◌, List, if◌then◌else◌}
use Rattle.std.specs.List.{sum_by}
use Rattle.bus_table.specs.declared.mode.Mode.{Mode}
use Rattle.bus_table.specs.declared.mode.Mode.TheVariants.{Aperiodic, Periodic}
use Rattle.bus_table.specs.Lengths.{longest}
use Rattle.bus_table.specs.Tables.{Table}
use Rattle.bus_strings.specs.Shares.{share_text, tenths}
use Rattle.bus_regime.specs.Gaps.{Gap}
use Rattle.bus_plan.specs.Plans.{least_interval}
use Rattle.bus_explain.specs.declared.wordings.TheConstants as the

-- The bits of one message of each sender, each as long as it may be.
abbrev pub longest_bits : Table → ℕ
longest_bits table = sum_by longest table.senders

-- The load: the bits of all longest messages as a share of the longest cycle, in tenths of a percent.
abbrev pub load : Table → ℕ → ℕ
load table most = tenths (longest_bits table) most

-- A load in words; of one that rounds to none, since in an accepted table somebody sends, that it is less than a tenth.
abbrev pub load_words : ℕ → List ℕ
load_words load = if load == 0 then the.LITTLE_LOAD.now else share_text load

-- The spare of an accepted table of this mode: by so much its transmit interval could rise, or fall, were its offsets planned anew.
abbrev pub spare_in : Mode → Table → ℕ → ℕ
spare_in Aperiodic table least = least - table.ti
spare_in Periodic table least = table.ti - least_interval table

-- The spare of an accepted table.
abbrev pub spare : Table → ℕ → ℕ
spare table least = spare_in table.mode table least

-- The bit times of the gap before a sender of a periodic table, from the end of the longest message of the sender before it.
abbrev pub gap_bits : Gap → ℕ
gap_bits gap = gap.to - gap.from
