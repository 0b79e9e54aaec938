-- A text of a valid table reads as it, and each refusal has its cause.
use Rattle.std.specs.Prelude.{◌≡◌, ℕ, true, is_none, IfErr, IsTrue, List, Option, Some, None, Result, Ok, Err}
use Rattle.std.proofs.Common.{refl, sym, ap, ◌∙◌}
use Rattle.std.proofs.lemmas.Bool.{and_parts, and_from}
use Rattle.bus_text.specs.declared.reason.Reason.{Reason}
use Rattle.bus_text.specs.Refusals.{Refusal}
use Rattle.bus_table.specs.declared.error.WholeReason.{WholeReason}
use Rattle.bus_table.specs.declared.error.TableError.{TableError}
use Rattle.bus_table.specs.declared.error.TableError.TheVariants.{Text, Whole, Memory}
use Rattle.bus_table.specs.Gives.{Answers, Refuses}
use Rattle.bus_table.specs.Tables.{Table}
use Rattle.bus_table.specs.Text.{IsTableText}
use Rattle.bus_table.specs.Valid.{is_valid, is_in_range}
use Rattle.bus_table.specs.Whole.{whole_refusal}
use Rattle.bus_table.specs.Reading.{text_reading, unless_whole, answered, answer_of}
use Rattle.bus_table.proofs.TextLemmas.{text_found, answered_ok}
use Rattle.bus_table.proofs.AgainLemmas.{text_again}
use Rattle.bus_table.proofs.PartLaws.{is_none_is}

-- a text of a valid table reads as it
pub answer_again : (text : List ℕ) (table : Table) → IsTableText table text → IsTrue (is_valid table) → answer_of text ≡ Ok table
answer_again text table stands valid =
    let none = is_none_is (whole_refusal table) (and_parts (is_in_range table) (is_none (whole_refusal table)) valid).1 in
    ap answered (text_again text table stands) ∙ ap (λ r. unless_whole r table) none

-- a table that is judged good is the one that was judged
judged_same : (reason : Option WholeReason) (table good : Table) → unless_whole reason table ≡ Ok good → table ≡ good
judged_same None table good h = cc
judged_same (Some reason) table good h = absurd (cc)

-- a table is judged good or refused as a whole, never by a line
judged_whole : (reason : Option WholeReason) (table : Table) (line : ℕ) (why : Reason) → unless_whole reason table ≡ Err (Text line why) → ⊥
judged_whole None table line why h = cc
judged_whole (Some reason) table line why h = cc

-- the reason for which it is refused as a whole
judged_why : (reason : Option WholeReason) (table : Table) (why : WholeReason) → unless_whole reason table ≡ Err (Whole why) → reason ≡ Some why
judged_why None table why h = absurd (cc)
judged_why (Some reason) table why h = cc

-- the table of a text that is refused as a whole
whole_table : (read : Result Table Refusal) (why : WholeReason) → answered read ≡ Err (Whole why) → (table : Table) × (read ≡ Ok table) × (whole_refusal table ≡ Some why)
whole_table (Ok table) why h = (table, refl, judged_why (whole_refusal table) table why h)
whole_table (Err refusal) why h = absurd (cc)

-- each refusal has its cause
pub refused_answer : (text : List ℕ) (answer : Result Table TableError) → Answers answer (answer_of text) → IfErr answer (Refuses text)
refused_answer text (Ok table) h = tt
refused_answer text (Err Memory) h = tt
refused_answer text (Err (Text line reason)) h = λ table has. judged_whole (whole_refusal table) table line reason (sym (ap answered (text_again text table has)) ∙ h)
refused_answer text (Err (Whole reason)) h = let w = whole_table (text_reading text) reason h in (w.0, text_found text w.0 w.1, w.2)

-- ---- the same of what a text reads as
pub refused_reading : (text : List ℕ) (error : TableError) → answer_of text ≡ Err error → Refuses text error
refused_reading text Memory h = tt
refused_reading text (Text line reason) h = refused_answer text (Err (Text line reason)) h
refused_reading text (Whole reason) h = refused_answer text (Err (Whole reason)) h

-- a table that is judged good has no whole reason against it
judged_none : (reason : Option WholeReason) (table good : Table) → unless_whole reason table ≡ Ok good → is_none reason ≡ true
judged_none None table good h = refl
judged_none (Some reason) table good h = absurd (cc)

answered_none : (read : Result Table Refusal) (table : Table) → answered read ≡ Ok table → is_none (whole_refusal table) ≡ true
answered_none (Ok t) table h = ap (λ t. is_none (whole_refusal t)) (sym (judged_same (whole_refusal t) t table h)) ∙ judged_none (whole_refusal t) t table h
answered_none (Err refusal) table h = absurd (cc)

pub found_reading : (text : List ℕ) (table : Table) → answer_of text ≡ Ok table → IsTableText table text × IsTrue (is_valid table)
found_reading text table h =
    let found : IsTableText table text = text_found text table (answered_ok (text_reading text) table h) in
    (found, and_from (is_in_range table) (is_none (whole_refusal table)) found.ranges (answered_none (text_reading text) table h))
