-- A loop that takes the lines of a text one by one.
use Rattle.std.proofs.Common.{◌≡◌, ℕ, List, [], ◌∷◌, Result, Ok, Err, true, false, cond, sym, ap, ◌∙◌}
use Rattle.bus_text.specs.declared.reason.Reason.TheVariants.{Ended}
use Rattle.bus_text.specs.AllOf.{◌>>=◌}
use Rattle.bus_text.specs.Lines.{Entry, entries_of, line_after_of}
use Rattle.bus_text.specs.Refusals.{Refusal}
use Rattle.bus_table.specs.declared.error.TableError.{TableError}
use Rattle.bus_table.specs.declared.error.TableError.TheVariants.{Text, Whole, Memory}
use Rattle.bus_table.specs.Drafts.{Draft, start, may_end}
use Rattle.bus_table.specs.Gives.{Fails, Answers}
use Rattle.bus_table.specs.inside.LineGives.{LineFails}
use Rattle.bus_table.specs.Reading.{step, steps, table_of, ended, text_reading, judged, answered, answer_of}
use Rattle.bus_table.specs.Tables.{Table}

-- a line was taken
pub steps_go : (draft next : Draft) (entries others : List Entry) (entry : Entry) (total : Result Draft Refusal) → entries ≡ entry ∷ others → step draft entry ≡ Ok next → steps draft entries ≡ total → steps next others ≡ total
unfolding steps
steps_go draft next entries others entry total p h so_far = sym (ap (steps draft) p ∙ ap (λ r. r >>= λ d. steps d others) h) ∙ so_far

-- no line is left
pub steps_end : (draft : Draft) (entries : List Entry) (total : Result Draft Refusal) → entries ≡ [] → steps draft entries ≡ total → total ≡ Ok draft
unfolding steps
steps_end draft entries total p so_far = sym so_far ∙ ap (steps draft) p

-- a line was refused
stops : (draft : Draft) (entries others : List Entry) (entry : Entry) (refusal : Refusal) → entries ≡ entry ∷ others → step draft entry ≡ Err refusal → steps draft entries ≡ Err refusal
unfolding steps
stops draft entries others entry refusal p h = ap (steps draft) p ∙ ap (λ r. r >>= λ d. steps d others) h

refused : (text : List ℕ) (refusal : Refusal) → steps start (entries_of text) ≡ Err refusal → answer_of text ≡ Err (Text refusal.line refusal.reason)
unfolding text_reading
refused text refusal h = ap (λ r. answered (r >>= ended (line_after_of text))) h

-- the error at a line is the answer that is due
pub step_fails : (error : TableError) (draft : Draft) (entries others : List Entry) (entry : Entry) (text : List ℕ) → entries ≡ entry ∷ others → LineFails error (step draft entry) → steps draft entries ≡ steps start (entries_of text) → Fails error (answer_of text)
step_fails Memory draft entries others entry text p h so_far = tt
step_fails (Text line reason) draft entries others entry text p h so_far =
    refused text (record { line = line; reason = reason }) (sym so_far ∙ stops draft entries others entry (record { line = line; reason = reason }) p h)
step_fails (Whole reason) draft entries others entry text p h so_far = absurd h

-- the text has ended too early
pub too_early : (text : List ℕ) (draft : Draft) → steps start (entries_of text) ≡ Ok draft → may_end draft.stage ≡ false → answer_of text ≡ Err (Text (line_after_of text) Ended)
unfolding text_reading
too_early text draft h early = ap (λ r. answered (r >>= ended (line_after_of text))) h ∙ ap (λ t. answered (cond t (Ok (table_of draft)) (Err (record { line = line_after_of text; reason = Ended })))) early

-- the text may end
pub in_time : (text : List ℕ) (draft : Draft) → steps start (entries_of text) ≡ Ok draft → may_end draft.stage ≡ true → answer_of text ≡ answered (Ok (table_of draft))
unfolding text_reading
in_time text draft h may = ap (λ r. answered (r >>= ended (line_after_of text))) h ∙ ap (λ t. answered (cond t (Ok (table_of draft)) (Err (record { line = line_after_of text; reason = Ended })))) may

same_answer : (answer due : Result Table TableError) → due ≡ answer → Answers answer due
same_answer (Ok table) due h = h
same_answer (Err Memory) due h = tt
same_answer (Err (Text line reason)) due h = h
same_answer (Err (Whole reason)) due h = h

-- the table of the last draft is the answer that is due
pub answers_judged : (text : List ℕ) (draft : Draft) (answer : Result Table TableError) → steps start (entries_of text) ≡ Ok draft → may_end draft.stage ≡ true → answer ≡ judged (table_of draft) → Answers answer (answer_of text)
answers_judged text draft answer h may e = same_answer answer (answer_of text) (in_time text draft h may ∙ sym e)
