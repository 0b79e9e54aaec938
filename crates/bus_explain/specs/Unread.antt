-- What is said of a text that is refused: the line, why, and what may stand there. What is said stands in `src/faults.rt`.
use Rattle.std.specs.Prelude.{ℕ, Bool, List, [], ◌∷◌, ◌++◌, Option, Some, None, if◌then◌else◌}
use Rattle.std.specs.List.{flat_map}
use Rattle.bus_text.specs.declared.reason.Reason.{Reason}
use Rattle.bus_text.specs.declared.reason.Reason.TheVariants.{Ended, Keyword as NoKeyword, Fields, Spelling, Range}
use Rattle.bus_say.specs.Sentences.{said}
use Rattle.bus_strings.specs.Limits.{most_strings}
use Rattle.bus_table.specs.declared.keyword.Keyword.{Keyword}
use Rattle.bus_table.specs.declared.keyword.Keyword.TheVariants as keywords
use Rattle.bus_table.specs.Drafts.{may_end}
use Rattle.bus_table.specs.Forms.{all_keywords}
use Rattle.bus_table.specs.Ranges.{most_takes}
use Rattle.bus_table.specs.Stops.{Stop, fitting, may_stand, spent}
use Rattle.bus_explain.specs.Forms.{form_text}
use Rattle.bus_explain.specs.declared.faults.TheConstants as the

-- That the terminal has as many lines of a keyword as it may have, where that is why there can't be another; else that there can't.
abbrev pub barred_wording : Option Keyword → List ℕ
barred_wording (Some keywords.Send) = the.ALL_SENT.now
barred_wording (Some keywords.Take) = the.ALL_TAKEN.now
barred_wording other = the.MISPLACED.now

-- What is said of a reason.
abbrev pub reason_wording : Stop → Reason → List ℕ
reason_wording stop Ended = the.ENDED.now
reason_wording stop NoKeyword = barred_wording (spent stop)
reason_wording stop Fields = the.FIELDS.now
reason_wording stop Spelling = the.SPELLING.now
reason_wording stop Range = the.RANGE.now

abbrev pub reason_text : Stop → Reason → List ℕ
reason_text stop reason = said (reason_wording stop reason) (most_strings ∷ most_takes ∷ [])

-- The form of a line of a keyword, where it may stand.
abbrev pub form_where : Stop → Keyword → List ℕ
form_where stop keyword = if may_stand stop keyword then form_text stop.mode keyword else []

-- That the text may end, where it may.
abbrev pub end_wording : Bool → List ℕ
end_wording ends = if ends then the.END.now else []

-- Any line that may stand there, or the end.
abbrev pub any_text : Stop → List ℕ
any_text stop =
    said the.MAY_STAND.now [] ++ flat_map (form_where stop) all_keywords ++ said (end_wording (may_end stop.stage)) []

-- The line of this keyword, which may stand there.
abbrev pub one_text : Stop → Keyword → List ℕ
one_text stop keyword = said the.HAS_TO_BE.now [] ++ form_text stop.mode keyword

-- What may stand where a line is refused: one of its form, where its keyword may stand; else any that may, or the end.
abbrev pub may_stand_text : Stop → Option Keyword → List ℕ
may_stand_text stop (Some keyword) = one_text stop keyword
may_stand_text stop None = any_text stop

-- All that is said of a refused text.
abbrev pub unread_text : (line : ℕ) → Reason → Stop → List ℕ
unread_text line reason stop = said the.LINE.now (line ∷ []) ++ reason_text stop reason ++ may_stand_text stop (fitting stop)
