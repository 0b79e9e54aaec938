-- What is taken of both texts of `explain`.
use Rattle.std.specs.Prelude.{◌≡◌}
use Rattle.bus_tool.specs.declared.beside.Texts.{Texts}
use Rattle.bus_tool.specs.Diagnosing.{Beside}

-- These were taken.
pub record AreTaken (texts : Texts) (read : Beside) : Type 0 where
  pub table : texts.table.items ≡ read.table
  pub text : texts.text.items ≡ read.text
