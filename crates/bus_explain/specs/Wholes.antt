-- What is said of a table that is wrong as a whole: the terminal or the pair, why, and what to change. What is said stands in
-- `src/faults.rt`.
use Rattle.std.specs.Prelude.{ℕ, List, [], ◌∷◌, ◌++◌}
use Rattle.bus_say.specs.Sentences.{said}
use Rattle.bus_table.specs.declared.error.WholeReason.{WholeReason}
use Rattle.bus_table.specs.declared.error.WholeReason.TheVariants.{NoSender, NumberTwice, GapTwice, GapNotShort, PairTwice, OffsetRange}
use Rattle.bus_explain.specs.declared.faults.TheConstants as the

-- A label and an extension that two SEND lines have.
abbrev pub pair_text : ℕ → ℕ → List ℕ
pair_text label ext = said the.PAIR_TWICE.now (label ∷ ext ∷ [])

-- What is said of a reason.
abbrev pub reason_text : WholeReason → List ℕ
reason_text NoSender = said the.NO_SENDER.now []
reason_text (NumberTwice terminal) = said the.NUMBER_TWICE.now (terminal ∷ [])
reason_text (GapTwice terminal) = said the.GAP_TWICE.now (terminal ∷ [])
reason_text (GapNotShort terminal) = said the.GAP_NOT_SHORT.now (terminal ∷ [])
reason_text (PairTwice label ext) = pair_text label ext
reason_text (OffsetRange terminal) = said the.OFFSET_RANGE.now (terminal ∷ [])

-- All that is said of it.
abbrev pub whole_text : WholeReason → List ℕ
whole_text reason = said the.WHOLE.now [] ++ reason_text reason
