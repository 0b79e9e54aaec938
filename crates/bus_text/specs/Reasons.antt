-- The words of the reasons for which a line is refused.
use Rattle.std.specs.Prelude.{ℕ, List, codes}
use Rattle.bus_text.specs.declared.reason.Reason.{Reason}
use Rattle.bus_text.specs.declared.reason.Reason.TheVariants.{Ended, Keyword, Fields, Spelling, Range}

-- The word of a reason.
abbrev pub reason_word : Reason → List ℕ
reason_word Ended = codes "Ended"
reason_word Keyword = codes "Keyword"
reason_word Fields = codes "Fields"
reason_word Spelling = codes "Spelling"
reason_word Range = codes "Range"
