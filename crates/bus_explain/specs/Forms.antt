-- What is said of the lines of a table text: the form of each, its kinds and ranges. What is said stands in `src/faults.rt`.
use Rattle.std.specs.Prelude.{◌-◌, ℕ, List, [], ◌∷◌}
use Rattle.bus_say.specs.Sentences.{said}
use Rattle.bus_table.specs.declared.mode.Mode.{Mode}
use Rattle.bus_table.specs.declared.mode.Mode.TheVariants.{Aperiodic, Periodic}
use Rattle.bus_table.specs.declared.keyword.Keyword.{Keyword}
use Rattle.bus_table.specs.declared.keyword.Keyword.TheVariants as keywords
use Rattle.bus_table.specs.Ranges.{least_sg, least_tg, least_ti, most_sg, most_tg, most_ti}
use Rattle.bus_explain.specs.declared.faults.TheConstants as the

-- A SENDER line of a table of this mode.
abbrev pub sender_wording : Mode → List ℕ
sender_wording Aperiodic = the.SENDER_FORM.now
sender_wording Periodic = the.OFFSET_FORM.now

-- A line of a keyword.
abbrev pub form_wording : Mode → Keyword → List ℕ
form_wording mode keywords.Table = the.TABLE_FORM.now
form_wording mode keywords.Mode = the.MODE_FORM.now
form_wording mode keywords.Ti = the.TI_FORM.now
form_wording mode keywords.Sg = the.SG_FORM.now
form_wording mode keywords.Sender = sender_wording mode
form_wording mode keywords.Send = the.SEND_FORM.now
form_wording mode keywords.Take = the.TAKE_FORM.now
form_wording mode keywords.Listener = the.LISTENER_FORM.now

-- The form of a line of a keyword, in a table of this mode, with the ranges of its times.
abbrev pub form_text : Mode → Keyword → List ℕ
form_text mode keyword =
    said (form_wording mode keyword) (least_ti ∷ most_ti ∷ least_sg ∷ most_sg ∷ least_tg ∷ most_tg ∷ 0 ∷ (most_ti - 1) ∷ [])
