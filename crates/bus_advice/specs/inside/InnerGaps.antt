-- What a greater transmit interval has to make good, in closed form. The gap before the first sender goes over the end of the interval: it
-- alone grows with it. The others, the inner gaps, stay as wide as they are.
use Rattle.std.specs.Prelude.{◌≡◌, ℕ, ◌+◌, ◌<◌, Bool, nat_le, List, Option, Some, None, drop, if◌then◌else◌}
use Rattle.std.specs.List.{count_by, list_any}
use Rattle.bus_table.specs.declared.mode.Mode.TheVariants.{Aperiodic}
use Rattle.bus_table.specs.Tables.{Table}
use Rattle.bus_regime.specs.Gaps.{Gap, gaps, has_width}
use Rattle.bus_regime.specs.Verdicts.{is_small, least_cycle}

-- The shortest cycle of an aperiodic table is by so many bit times below the transmit interval.
pub record IsShort (table : Table) (deficit : ℕ) : Type 0 where
  pub aperiodic : table.mode ≡ Aperiodic
  pub some : 0 < deficit
  pub short : least_cycle table + deficit ≡ table.ti

-- The gaps but the first.
abbrev pub inner_gaps : Table → List Gap
inner_gaps table = drop 1 (gaps table)

-- A gap has room for a synchronization gap and its sender's terminal gap.
abbrev pub has_room : ℕ → Gap → Bool
has_room sg gap = has_width (sg + gap.sender.tg) gap

-- What the first gap needs, by whether an inner gap has such room, and by how many inner gaps have a synchronization gap: its sender's
-- terminal gap, where all find a synchronization gap elsewhere; a synchronization gap, where the one sender that has one finds none
-- elsewhere; or both, where its own sender finds none elsewhere.
abbrev pub width_for : ℕ → ℕ → Bool → ℕ → ℕ
width_for sg tg room wide = if room then tg else (if nat_le 2 wide then tg else (if nat_le 1 wide then sg else sg + tg))

-- The bit times that the first gap needs, where its sender has this terminal gap; none are enough where an inner gap is small.
abbrev pub needed_width : ℕ → ℕ → List Gap → Option ℕ
needed_width sg tg inner =
    if list_any is_small inner then None else Some (width_for sg tg (list_any (has_room sg) inner) (count_by (has_width sg) inner))
