-- What is claimed of `explain T F`: what its answer means.
use Rattle.std.specs.Prelude.{◌≡◌, ℕ, Bool, true, false, ◌&&◌, List, length, Result, Ok, Err}
use Rattle.bus_strings.specs.Items.{Item}
use Rattle.bus_table.specs.Tables.{Table}
use Rattle.bus_table.specs.declared.error.TableError.{TableError}
use Rattle.bus_table.specs.Reading.{answer_of}
use Rattle.bus_regime.specs.Verdicts.{verdict_of, is_accepted}
use Rattle.bus_trace.specs.Limits.{trace_limit}
use Rattle.bus_trace.specs.Traces.{Recording, HoldsTrace}
use Rattle.bus_diagnosis.specs.declared.diagnosis.Diagnosis.TheVariants.{Runs, OnCable, Recorded, Unfit as UnfitItem}
use Rattle.bus_diagnosis.specs.Diagnoses.{diagnosis_of, is_right}
use Rattle.bus_diagnosis.specs.Laws.{MayRun, HasItems, TakesTurns}
use Rattle.bus_diagnosis.specs.declared.misfit.Unfit.{Unfit}
use Rattle.bus_diagnosis.specs.declared.reach.Reach.{Reach}
use Rattle.bus_diagnosis.specs.Whys.{IsFirstUnfit}

-- What is told of a text beside an accepted table holds:
--   runs    of messages of which nothing is wrong: `run` answers, up to the end that is told
--   unfit   the item that is named is the first that doesn't fit, for the reason that is told
--   turns   on a cable that is borne the senders take turns
--   trace   of a trace of which nothing is wrong: it stands there, with as many transmissions
pub record TellsBeside (table : Table) (text : List ℕ) : Type 0 where
  pub runs : (rounds senders end : ℕ) → diagnosis_of table text ≡ Runs rounds senders end → MayRun table text rounds end
  pub unfit : (unfit : Unfit) → diagnosis_of table text ≡ UnfitItem unfit
      → (items : List Item) × HasItems text items × IsFirstUnfit table items unfit
  pub turns : (rounds senders : ℕ) (reach : Reach) → diagnosis_of table text ≡ OnCable rounds senders reach → reach.borne ≡ true
      → TakesTurns table text rounds
  pub trace : (count horizon end : ℕ) → diagnosis_of table text ≡ Recorded count horizon end
      → (trace : Recording) × HoldsTrace trace_limit text trace × (count ≡ length trace.list) × (horizon ≡ trace.horizon)

-- Whether what this gives is an accepted table, and nothing is wrong with the text beside it.
abbrev pub is_given_right : Result Table TableError → List ℕ → Bool
is_given_right (Ok table) text = is_accepted (verdict_of table) && is_right (diagnosis_of table text)
is_given_right (Err error) text = false

-- Whether the first text gives an accepted table, and nothing is wrong with the second beside it.
abbrev pub is_right_beside : List ℕ → List ℕ → Bool
is_right_beside table text = is_given_right (answer_of table) text
