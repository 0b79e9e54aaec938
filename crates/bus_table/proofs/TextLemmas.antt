-- A text that was read, and its table: what is read is what the text stands for.
use Rattle.std.proofs.Common.{◌≡◌, ℕ, Bool, true, false, cond, List, [], ◌∷◌, ◌++◌, Option, Some, None, Result, Ok, Err, refl, sym, ap, subst, append_assoc}
use Rattle.std.specs.Prelude.{IfOk}
use Rattle.std.specs.List.{list_all, AllByRecursion}
use Rattle.std.proofs.lemmas.List.{append-nil}
use Rattle.std.proofs.lemmas.Bool.{and_from}
use Rattle.bus_text.specs.declared.reason.Reason.{Reason}
use Rattle.bus_text.specs.declared.reason.Reason.TheVariants as reasons
use Rattle.bus_text.specs.Lines.{Entry, entries_of, line_after_of}
use Rattle.bus_text.specs.Refusals.{Refusal, at_line}
use Rattle.bus_text.proofs.AllOfLaws.{bind_ok}
use Rattle.bus_table.specs.declared.mode.Mode.{Mode}
use Rattle.bus_table.specs.declared.mode.Mode.TheVariants.{Aperiodic, Periodic}
use Rattle.bus_table.specs.declared.stage.Stage.{Stage}
use Rattle.bus_table.specs.declared.stage.Stage.TheVariants as stages
use Rattle.bus_table.specs.declared.error.WholeReason.{WholeReason}
use Rattle.bus_table.specs.declared.error.TableError.{TableError}
use Rattle.bus_table.specs.Drafts.{Draft, draft_of, start, may_end, line_reading}
use Rattle.bus_table.specs.Gives.{Answers}
use Rattle.bus_table.specs.Ranges.{is_ti, is_sg, is_sender, is_listener}
use Rattle.bus_table.specs.Reading.{step, steps, table_of, ended, text_reading, unless_whole, answered, answer_of}
use Rattle.bus_table.specs.Tables.{Sender, Listener, Table}
use Rattle.bus_table.specs.Text.{Line, lines_of, IsLine, AreLines, IsTableText}
use Rattle.bus_table.specs.Valid.{fits_mode, is_in_range}
use Rattle.bus_table.specs.Whole.{whole_refusal}
use Rattle.bus_table.proofs.ReadingLemmas.{Kept, Made, draft_lines, line_adds}

line_ok : {A : Type 0} (line : ℕ) (r : Result A Reason) (x : A) → at_line line r ≡ Ok x → r ≡ Ok x
line_ok line (Ok y) x h = ap Ok cc
line_ok line (Err e) x h = absurd cc

lines_push : (mode : Mode) (lines : List Line) (entries : List Entry) (line : Line) (entry : Entry) → AreLines mode lines entries → IsLine mode line entry.fields → AreLines mode (lines ++ line ∷ []) (entries ++ entry ∷ [])
lines_push mode [] [] line entry h k = (k, tt)
lines_push mode [] (e ∷ entries) line entry h k = absurd h
lines_push mode (l ∷ lines) [] line entry h k = absurd h
lines_push mode (l ∷ lines) (e ∷ entries) line entry h k = (h.0, lines_push mode lines entries line entry h.1 k)

steps_found : (entries before : List Entry) (old new : Draft) → Kept old → AreLines old.mode (draft_lines old) before → steps old entries ≡ Ok new → AreLines new.mode (draft_lines new) (before ++ entries) × Kept new
unfolding steps
steps_found [] before old new kept lines h =
    let same : old ≡ new = cc in
    subst (λ (d : Draft). AreLines d.mode (draft_lines d) (before ++ []) × Kept d) same (subst (λ (es : List Entry). AreLines old.mode (draft_lines old) es) (sym (append-nil before)) lines, kept)
steps_found (entry ∷ entries) before old new kept lines h =
    let first = bind_ok (step old entry) (λ next. steps next entries) new h in
    let adds = line_adds old first.0 entry.fields kept (line_ok entry.number (line_reading old entry.fields) first.0 first.1) in
    let more = subst (λ (ls : List Line). AreLines first.0.mode ls (before ++ entry ∷ [])) (sym adds.lines) (lines_push first.0.mode (draft_lines old) before adds.line entry (adds.carries before lines) adds.says) in
    subst (λ (es : List Entry). AreLines new.mode (draft_lines new) es × Kept new) (append_assoc before (entry ∷ []) entries) (steps_found entries (before ++ entry ∷ []) first.0 new adds.kept more first.2)

senders_range : (mode : Mode) (senders : List Sender) → AllByRecursion (Made mode) senders → list_all is_sender senders ≡ true
senders_range mode [] h = refl
senders_range mode (s ∷ senders) h = and_from _ _ h.0.range (senders_range mode senders h.1)

listeners_range : (listeners : List Listener) → AllByRecursion (λ l. is_listener l ≡ true) listeners → list_all is_listener listeners ≡ true
listeners_range [] h = refl
listeners_range (l ∷ listeners) h = and_from _ _ h.0 (listeners_range listeners h.1)

mode_fits : (mode : Mode) (senders : List Sender) → AllByRecursion (Made mode) senders → fits_mode mode senders ≡ true
mode_fits Aperiodic [] h = refl
mode_fits Aperiodic (s ∷ senders) h = and_from _ _ h.0.offset (mode_fits Aperiodic senders h.1)
mode_fits Periodic senders h = refl

table_range : (draft : Draft) → is_ti draft.ti ≡ true → is_sg draft.sg ≡ true → Kept draft → is_in_range (table_of draft) ≡ true
table_range draft t s kept =
    and_from _ _ t (and_from _ _ s (and_from _ _ (senders_range draft.mode draft.senders kept.made) (and_from _ _ (listeners_range draft.listeners kept.heard) (mode_fits draft.mode draft.senders kept.made))))

-- the table of a draft that may end
pub record Whole (draft : Draft) (entries : List Entry) : Type 0 where
  pub ranges : is_in_range (table_of draft) ≡ true
  pub lines : AreLines draft.mode (lines_of (table_of draft)) entries

whole_at : (stage : Stage) (mode : Mode) (ti sg : ℕ) (senders : List Sender) (listeners : List Listener) (entries : List Entry) → may_end stage ≡ true → Kept (draft_of stage mode ti sg senders listeners)
    → AreLines mode (draft_lines (draft_of stage mode ti sg senders listeners)) entries → Whole (draft_of stage mode ti sg senders listeners) entries
whole_at stages.Sg mode ti sg senders listeners entries may kept lines = record { ranges = table_range _ kept.stands.0 kept.stands.1 kept; lines = lines }
whole_at stages.Send mode ti sg senders listeners entries may kept lines = record { ranges = table_range _ kept.stands.0 kept.stands.1 kept; lines = lines }
whole_at stages.Take mode ti sg senders listeners entries may kept lines = record { ranges = table_range _ kept.stands.0 kept.stands.1 kept; lines = lines }
whole_at stages.Listener mode ti sg senders listeners entries may kept lines = record { ranges = table_range _ kept.stands.0 kept.stands.1 kept; lines = lines }
whole_at stage mode ti sg senders listeners entries may kept lines = absurd cc

started : Kept start
started = record { made = tt; heard = tt; stands = (refl, refl) }

-- the draft that the lines of a text leave, where it may end, is the table that the text stands for
pub steps_whole : (entries : List Entry) (draft : Draft) → steps start entries ≡ Ok draft → may_end draft.stage ≡ true → Whole draft entries
steps_whole entries draft h may =
    let found = steps_found entries [] start draft started tt h in
    whole_at draft.stage draft.mode draft.ti draft.sg draft.senders draft.listeners entries may found.1 found.0

abbrev read_table : Draft → Result Table Refusal
read_table draft = Ok (table_of draft)

ended_ok : (after : ℕ) (draft : Draft) (t : Bool) (table : Table) → may_end draft.stage ≡ t → cond t (read_table draft) (Err (record { line = after; reason = reasons.Ended })) ≡ Ok table → (may_end draft.stage ≡ true) × (table_of draft ≡ table)
ended_ok after draft true table may h = (may, cc)
ended_ok after draft false table may h = absurd cc

pub text_found : (text : List ℕ) (table : Table) → text_reading text ≡ Ok table → IsTableText table text
unfolding text_reading
text_found text table h =
    let last = bind_ok (steps start (entries_of text)) (ended (line_after_of text)) table h in
    let end = ended_ok (line_after_of text) last.0 (may_end last.0.stage) table refl last.2 in
    let whole = steps_whole (entries_of text) last.0 last.1 end.0 in
    subst (λ (t : Table). IsTableText t text) end.1 (record { ranges = whole.ranges; lines = whole.lines })

-- a table that was answered was read
judged_ok : (raw table : Table) (whole : Option WholeReason) → unless_whole whole raw ≡ Ok table → raw ≡ table
judged_ok raw table None h = cc
judged_ok raw table (Some reason) h = absurd cc

pub answered_ok : (reading : Result Table Refusal) (table : Table) → answered reading ≡ Ok table → reading ≡ Ok table
answered_ok (Ok raw) table h = ap Ok (judged_ok raw table (whole_refusal raw) h)
answered_ok (Err refusal) table h = absurd cc

pub answer_found : (text : List ℕ) (answer : Result Table TableError) → Answers answer (answer_of text) → IfOk answer (λ table. IsTableText table text)
answer_found text (Ok table) h = text_found text table (answered_ok (text_reading text) table h)
answer_found text (Err error) h = tt
