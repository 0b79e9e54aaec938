-- How large the numbers of a shape are.
use Rattle.std.specs.Prelude.{◌≤◌}
use Rattle.bus_table.specs.Ranges.{most_sg}
use Rattle.bus_cable_plan.specs.Shapes.{Shape}

-- What a shape has is no longer than the longest synchronization gap.
pub record IsSmall (shape : Shape) : Type 0 where
  pub floor : shape.floor ≤ most_sg
  pub first : shape.first_more ≤ most_sg
  pub second : shape.second_more ≤ most_sg
