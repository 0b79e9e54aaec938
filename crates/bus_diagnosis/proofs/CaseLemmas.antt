-- What is found of a text, case by case.
use Rattle.std.proofs.Common.{arith, ◌≡◌, ℕ, ◌≤◌, Bool, true, false, cond, ◌==◌, List, length, Option, Some, None, refl}
use Rattle.std.specs.Prelude.{nat_lt, Result, Ok, Err}
use Rattle.std.proofs.lemmas.Bool.Decides.{nat_tests}
use Rattle.bus_command.specs.Readers.{text_limit}
use Rattle.bus_text.specs.Refusals.{Refusal}
use Rattle.bus_text.specs.declared.reason.Reason.{Reason}
use Rattle.bus_strings.specs.Items.{Item}
use Rattle.bus_strings.specs.Reading.{messages_reading}
use Rattle.bus_table.specs.declared.fit.FitError.{FitError}
use Rattle.bus_table.specs.Fits.{items_fit}
use Rattle.bus_table.specs.Hands.{hands_of}
use Rattle.bus_table.specs.Tables.{Table, Hand}
use Rattle.bus_schedule.specs.declared.uneven.Uneven.{Uneven as UnevenHands}
use Rattle.bus_schedule.specs.Uneven.{uneven_of}
use Rattle.bus_cable.specs.Cables as cables
use Rattle.bus_cable.specs.Reading.{cable_reading}
use Rattle.bus_trace.specs.Limits.{trace_limit}
use Rattle.bus_trace.specs.Runs.{reading}
use Rattle.bus_diagnosis.specs.Kinds.{Kind, Messages, Cable, Trace, first_of}
use Rattle.bus_diagnosis.specs.Misfits.{item_number, unfit_at}
use Rattle.bus_diagnosis.specs.Diagnoses.{Diagnosis, NoKind, Large, Line, Unfit, Uneven, hands_found, items_found, run_found, messages_found, named_count}
use Rattle.bus_diagnosis.specs.Diagnoses.{within, cable_found, on_cable_found, trace_found, kind_found, diagnosis_of}

-- what is found of items
pub data ItemsCase (found : List Hand → Diagnosis) (table : Table) (text : List ℕ) (before : ℕ) (items : List Item) (d : Diagnosis) : Type 0 where
  Misfitting : (e : FitError) → items_fit table items ≡ Err e → d ≡ Unfit (unfit_at table text before items (item_number e))
      → ItemsCase found table text before items d
  Differing : (counts : UnevenHands) → d ≡ Uneven counts → ItemsCase found table text before items d
  Even : items_fit table items ≡ Ok tt → uneven_of table (hands_of table items) ≡ None → d ≡ found (hands_of table items)
      → ItemsCase found table text before items d

items_case : (found : List Hand → Diagnosis) (table : Table) (text : List ℕ) (before : ℕ) (items : List Item) (r : Result (Unit {0}) FitError)
    → items_fit table items ≡ r → ItemsCase found table text before items (items_found found table text before items r)
items_case found table text before items (Ok tt) e = by (uneven_of table (hands_of table items)) refl where
  by : (o : Option UnevenHands) → uneven_of table (hands_of table items) ≡ o
      → ItemsCase found table text before items (hands_found found (hands_of table items) o)
  by None q = Even e q refl
  by (Some counts) q = Differing counts refl
items_case found table text before items (Err error) e = Misfitting error e refl

-- what is found of a text
pub data TextCase (table : Table) (text : List ℕ) (d : Diagnosis) : Type 0 where
  NoText : (line : ℕ) → d ≡ NoKind line → TextCase table text d
  Refused : (kind : Kind) (first : Bool) (line : ℕ) (reason : Reason) → d ≡ Line kind first line reason → TextCase table text d
  TooLarge : (kind : Kind) → d ≡ Large kind → TextCase table text d
  OfMessages : length text ≤ text_limit → (items : List Item) → messages_reading text ≡ Ok items → ItemsCase (run_found table) table text 0 items d → TextCase table text d
  OfCable : (cable : cables.Cable) (items : List Item) → cable_reading text ≡ Ok (cable, items)
      → ItemsCase (cable_found table cable) table text (named_count cable) items d → TextCase table text d
  OfTrace : d ≡ trace_found text (reading trace_limit text) → TextCase table text d

messages_case : (table : Table) (text : List ℕ) → length text ≤ text_limit → (r : Result (List Item) Refusal) → messages_reading text ≡ r
    → TextCase table text (messages_found table text r)
messages_case table text short (Ok items) e = OfMessages short items e (items_case (run_found table) table text 0 items (items_fit table items) refl)
messages_case table text short (Err refusal) e = Refused Messages (refusal.line == (first_of text).line) refusal.line refusal.reason refl

cable_case : (table : Table) (text : List ℕ) (r : Result (cables.Cable × List Item) Refusal) → cable_reading text ≡ r
    → TextCase table text (on_cable_found table text r)
cable_case table text (Ok read) e =
    OfCable read.0 read.1 e (items_case (cable_found table read.0) table text (named_count read.0) read.1 (items_fit table read.1) refl)
cable_case table text (Err refusal) e = Refused Cable (refusal.line == (first_of text).line) refusal.line refusal.reason refl

-- a text within its limit, or not
within_case : (table : Table) (text : List ℕ) (kind : Kind) (found : Diagnosis) → (length text ≤ text_limit → TextCase table text found)
    → TextCase table text (within kind text found)
within_case table text kind found short = by (nat_lt text_limit (length text)) refl where
  by : (b : Bool) → nat_lt text_limit (length text) ≡ b → TextCase table text (cond b (Large kind) found)
  by true e = TooLarge kind refl
  by false e = short (grind (arith, nat_tests, e))

pub text_case : (table : Table) (text : List ℕ) → TextCase table text (diagnosis_of table text)
text_case table text = by (first_of text).kind where
  by : (kind : Option Kind) → TextCase table text (kind_found table text (first_of text).line kind)
  by None = NoText (first_of text).line refl
  by (Some Messages) = within_case table text Messages _ (λ short. messages_case table text short (messages_reading text) refl)
  by (Some Cable) = within_case table text Cable _ (λ short. cable_case table text (cable_reading text) refl)
  by (Some Trace) = OfTrace refl
