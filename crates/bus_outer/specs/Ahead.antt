-- A reader behind a buffer, and what its calls do to the bytes that it still gives, where the reader tells its own.
use Rattle.std.specs.Prelude.{ℕ, List, slice_range}
use Rattle.std.specs.declared.option.Option.{Option}
use Rattle.std.specs.Io.KnownBytes.{prepend_known}
use Rattle.bus_outer.specs.declared.read_ahead.ReadAhead.{ReadAhead}

-- The bytes that were read ahead.
abbrev pub waiting : {F : Type 0} → ReadAhead F → List ℕ
waiting r = slice_range r.bytes r.at r.end

-- The bytes that it still gives: those read ahead, and those that its reader has left.
abbrev pub left_ahead : {F : Type 0} → (F → Option (List ℕ)) → ReadAhead F → Option (List ℕ)
left_ahead remaining r = prepend_known (waiting r) (remaining r.reader)
