-- The words of the reasons for which a line of a trace text is refused.
use Rattle.std.specs.Prelude.{ℕ, List, codes}
use Rattle.bus_trace.specs.declared.reason.TraceReason.{TraceReason}
use Rattle.bus_trace.specs.declared.reason.TraceReason.TheVariants.{Ended, Long, Keyword, Fields, Spelling, Parity, Range, Order, Mark}

-- The word of a reason.
abbrev pub trace_reason_word : TraceReason → List ℕ
trace_reason_word Ended = codes "Ended"
trace_reason_word Long = codes "Long"
trace_reason_word Keyword = codes "Keyword"
trace_reason_word Fields = codes "Fields"
trace_reason_word Spelling = codes "Spelling"
trace_reason_word Parity = codes "Parity"
trace_reason_word Range = codes "Range"
trace_reason_word Order = codes "Order"
trace_reason_word Mark = codes "Mark"
