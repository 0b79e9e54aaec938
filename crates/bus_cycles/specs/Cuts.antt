-- Which rows are whole, and which are cut: by the settled start, by the window or by the horizon.
use Rattle.std.specs.Prelude.{◌+◌, Bool, not, ◌&&◌, nat_lt, min}
use Rattle.bus_table.specs.declared.mode.Mode.{Mode}
use Rattle.bus_table.specs.declared.mode.Mode.TheVariants.{Aperiodic, Periodic}
use Rattle.bus_shapes.specs.declared.counts.Counts.{Counts}
use Rattle.bus_cycles.specs.Rows.{Cycle, Extent}
pub use Rattle.bus_cycles.specs.declared.cut.Seen.{Seen}

-- The moments that are seen: those of the window below the horizon.
abbrev pub seen_of : Counts → Seen
seen_of counts = record { from = counts.from; to = min counts.to counts.horizon }

-- Whether a row is cut at its beginning: in periodic mode its interval begins before what is seen, and else its first transmission isn't
-- seen to begin a cycle.
abbrev pub is_cut_before_in : Mode → Cycle → Seen → Extent → Bool
is_cut_before_in Periodic cycle seen row = nat_lt row.begin (seen.from + cycle.origin_offset)
is_cut_before_in Aperiodic cycle seen row = not row.fresh

-- Whether it is cut at its end: in periodic mode its interval isn't over in what is seen, and else less than a synchronization gap of what
-- is seen lies behind its end, so that more transmissions may follow in the same cycle.
abbrev pub is_cut_behind_in : Mode → Cycle → Seen → Extent → Bool
is_cut_behind_in Periodic cycle seen row = nat_lt (seen.to + cycle.origin_offset) (row.begin + cycle.ti)
is_cut_behind_in Aperiodic cycle seen row = nat_lt seen.to (row.end + cycle.sg)

-- The same, by the mode of the cycle.
abbrev pub is_cut_before : Cycle → Seen → Extent → Bool
is_cut_before cycle seen row = is_cut_before_in cycle.mode cycle seen row

abbrev pub is_cut_behind : Cycle → Seen → Extent → Bool
is_cut_behind cycle seen row = is_cut_behind_in cycle.mode cycle seen row

-- Whether a row is whole: it is cut nowhere.
abbrev pub is_whole : Cycle → Seen → Extent → Bool
is_whole cycle seen row = not (is_cut_before cycle seen row) && not (is_cut_behind cycle seen row)
