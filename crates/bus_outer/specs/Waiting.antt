-- Bytes that wait before a sink, in room of a fixed size.
use Rattle.std.specs.Prelude.{ℕ, List, take}
use Rattle.bus_outer.specs.declared.waiting.Waiting.{Waiting}

-- The bytes that wait.
abbrev pub waiting : Waiting → List ℕ
waiting w = take w.count w.room
