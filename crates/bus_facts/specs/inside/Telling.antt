-- What the facts of a text are.
use Rattle.std.specs.Prelude.{◌≡◌, Bool, Some, ◌++◌, codes, string_bytes}
use Rattle.serde_json.specs.Data.{Data}
use Rattle.serde_json.specs.Read.{read}
use Rattle.serde_json.specs.Written.{compact_text}
use Rattle.bus_facts.specs.declared.telling.Facts.{Facts}

-- They tell this value, and whether a table is accepted:
--   line       its JSON text, and a line feed
--   reads      that text reads as the value
pub record Tells (value : Data) (answer : Bool) (facts : Facts) : Type 0 where
  pub line : string_bytes facts.line ≡ compact_text value ++ codes "\n"
  pub reads : read (compact_text value) ≡ Some value
  pub accepted : facts.accepted ≡ answer
