-- A sender before its first SEND line.
use Rattle.std.specs.Prelude.{ℕ, Bool, ◌&&◌}
use Rattle.bus_table.specs.Ranges.{is_number, is_tg, is_offset}

-- The numbers of a SENDER line; the offset is 0 where the line has none.
pub record Head : Type 0 where
  pub number : ℕ
  pub tg : ℕ
  pub at : ℕ

-- Whether each of them is in its range.
abbrev pub is_head : Head → Bool
is_head head = is_number head.number && (is_tg head.tg && is_offset head.at)
