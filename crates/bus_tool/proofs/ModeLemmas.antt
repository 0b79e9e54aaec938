-- A table of the mode that is needed, if one is.
use Rattle.std.specs.Prelude.{◌≡◌, ◌≢◌, ℕ, ◌≤◌, true, false, List, Option, Some, None, Result, Ok, Err, IfOk, IsErrAnd}
use Rattle.std.proofs.Common.{arith, refl, sym, ap, ◌∙◌, subst, cond, inl, inr}
use Rattle.std.proofs.lemmas.Result.{err_from_is_err_and}
use Rattle.bus_text.specs.AllOf.{◌>>=◌}
use Rattle.bus_text.proofs.AllOfLaws.{bind_ok}
use Rattle.bus_table.specs.declared.mode.Mode.{Mode}
use Rattle.bus_table.specs.declared.mode.Mode.TheVariants.{Aperiodic, Periodic}
use Rattle.bus_table.specs.Tables.{Table}
use Rattle.bus_command.specs.Causes.{RefusesTexts}
use Rattle.bus_command.specs.Due.{table_due}
use Rattle.bus_command.specs.Kinds.{kind_of, is_answer}
use Rattle.bus_command.specs.Outside.{Seen}
use Rattle.bus_command.specs.Readers.{entire}
use Rattle.bus_command.specs.Stages.{stage_in}
use Rattle.bus_command.specs.Steps.{Same, Takes}
use Rattle.bus_command.proofs.ReadLemmas.{CauseLaws, bind_err, table_cause, table_stops, table_valid, stop_unwritten}
use Rattle.bus_command.proofs.TakeLemmas.{takes_then, takes_none}
use Rattle.bus_tool.specs.inside.Acting.{IsOfMode}
use Rattle.bus_tool.specs.Causes.{Cause, EndIs}
use Rattle.bus_tool.specs.Due.{is_mode, mode_or_refusal, needed_or_refusal, table_for}
use Rattle.bus_tool.specs.Refusals.{Outcome, ToolRefusal, refuse, TableMode}

same_mode : (needed mode : Mode) → is_mode needed mode ≡ true → mode ≡ needed
same_mode Aperiodic Aperiodic h = refl
same_mode Aperiodic Periodic h = absurd cc
same_mode Periodic Aperiodic h = absurd cc
same_mode Periodic Periodic h = refl

other_mode : (needed mode : Mode) → is_mode needed mode ≡ false → mode ≢ needed
other_mode Aperiodic Aperiodic h = absurd cc
other_mode Aperiodic Periodic h = λ e. cc
other_mode Periodic Aperiodic h = λ e. cc
other_mode Periodic Periodic h = absurd cc

own_mode : (mode : Mode) → is_mode mode mode ≡ true
own_mode Aperiodic = refl
own_mode Periodic = refl

mode_stage : (mode : Option Mode) (table : Table) → 1 ≤ stage_in (needed_or_refusal mode table)
mode_stage None table = omega arith
mode_stage (Some needed) table = elim (is_mode needed table.mode) as (λ b. 1 ≤ stage_in (cond b (Ok table) (Err (refuse (TableMode needed))))) [
  | true ↦ omega arith
  | false ↦ omega arith
]

-- ---- the step that takes it
pub no_table_for : (mode : Option Mode) (old new : Seen) (o : Outcome) (r : Result Table Outcome) → IsErrAnd r (λ came. came ≡ o)
    → Takes {X = Table} Same 1 entire table_due old new (Err o) → Takes Same 1 entire (table_for mode) old new r
no_table_for mode old new o r h t =
    let came = err_from_is_err_and r h in
    subst (Takes Same 1 entire (table_for mode) old new) (sym (came.1 ∙ ap Err came.2))
    (takes_none Same Same 1 entire table_due (needed_or_refusal mode) old new o (omega arith) (mode_stage mode) t)

judged : (needed : Mode) (old new : Seen) (table : Table) (b : _) → Takes {R = ToolRefusal} Same 1 entire table_due old new (Ok table)
    → is_mode needed table.mode ≡ b → Takes Same 1 entire (table_for (Some needed)) old new (cond b (Ok table) (Err (refuse (TableMode needed))))
judged needed old new table true t is =
    takes_then Same Same 1 entire table_due (needed_or_refusal (Some needed)) old new table (Ok table) t
    (λ y same. (table, ap (mode_or_refusal needed) (sym same) ∙ ap (λ b. cond b (Ok table) (Err (refuse (TableMode needed)))) is, refl)) tt
judged needed old new table false t is =
    takes_then Same Same 1 entire table_due (needed_or_refusal (Some needed)) old new table (Err (refuse (TableMode needed))) t
    (λ y same. ap (mode_or_refusal needed) (sym same) ∙ ap (λ b. cond b (Ok table) (Err (refuse (TableMode needed)))) is) refl

table_judged : (mode : Option Mode) (old new : Seen) (table : Table) → Takes {R = ToolRefusal} Same 1 entire table_due old new (Ok table)
    → Takes Same 1 entire (table_for mode) old new (needed_or_refusal mode table)
table_judged None old new table t =
    takes_then Same Same 1 entire table_due (needed_or_refusal None) old new table (Ok table) t (λ y same. (y, refl, same)) tt
table_judged (Some needed) old new table t = judged needed old new table (is_mode needed table.mode) t refl

pub table_in_mode : (mode : Option Mode) (old new : Seen) (table : Table) (r : Result Table Outcome) → r ≡ needed_or_refusal mode table
    → Takes {R = ToolRefusal} Same 1 entire table_due old new (Ok table) → Takes Same 1 entire (table_for mode) old new r
table_in_mode mode old new table r is t = subst (Takes Same 1 entire (table_for mode) old new) (sym is) (table_judged mode old new table t)

kept : (needed : Mode) (table : Table) (b : _) → is_mode needed table.mode ≡ b
    → IfOk {E = Outcome} (cond b (Ok table) (Err (refuse (TableMode needed)))) (λ t. t.mode ≡ needed)
kept needed table true h = same_mode needed table.mode h
kept needed table false h = tt

kept_mode : (mode : Option Mode) (table : Table) → IfOk (needed_or_refusal mode table) (IsOfMode mode)
kept_mode None table = tt
kept_mode (Some needed) table = kept needed table (is_mode needed table.mode) refl

pub is_of_mode : (mode : Option Mode) (table : Table) (r : Result Table Outcome) → r ≡ needed_or_refusal mode table → IfOk r (IsOfMode mode)
is_of_mode mode table r is = subst (λ r. IfOk r (IsOfMode mode)) (sym is) (kept_mode mode table)

-- ---- what was read, by what is due
-- a table of this mode is due
pub needed_told : (mode : Option Mode) (table : Table) → IsOfMode mode table → needed_or_refusal mode table ≡ Ok table
needed_told None table is = refl
needed_told (Some needed) table is = ap (λ b. cond b (Ok table) (Err (refuse (TableMode needed)))) (ap (is_mode needed) is ∙ own_mode needed)

pub told_for : (mode : Option Mode) (table : Table) (text : List ℕ) → IsOfMode mode table → table_due {R = ToolRefusal} text ≡ Ok table → table_for mode text ≡ Ok table
told_for mode table text is h = ap (λ r. r >>= needed_or_refusal mode) h ∙ needed_told mode table is

-- a table that is due is of this mode
taken_mode : (needed : Mode) (given table : Table) (b : _) → is_mode needed given.mode ≡ b
    → (let r : Result Table Outcome = cond b (Ok given) (Err (refuse (TableMode needed))) in r) ≡ Ok table → (given ≡ table) × (given.mode ≡ needed)
taken_mode needed given table true is h = (cc, same_mode needed given.mode is)
taken_mode needed given table false is h = absurd cc

given_mode : (mode : Option Mode) (given table : Table) → needed_or_refusal mode given ≡ Ok table → (given ≡ table) × IsOfMode mode given
given_mode None given table h = (cc, tt)
given_mode (Some needed) given table h = taken_mode needed given table (is_mode needed given.mode) refl h

pub mode_read : (mode : Option Mode) (text : List ℕ) (table : Table) → table_for mode text ≡ Ok table
    → (table_due {R = ToolRefusal} text ≡ Ok table) × IsOfMode mode table
mode_read mode text table h =
    let w = bind_ok (table_due {R = ToolRefusal} text) (needed_or_refusal mode) table h in
    let k = given_mode mode w.0 table w.2 in
    (w.1 ∙ ap Ok k.0, subst (IsOfMode mode) k.0 k.1)

-- ---- a table that is refused has its cause
refused_mode : (needed : Mode) (table : Table) (o : Outcome) (b : _) → is_mode needed table.mode ≡ b
    → cond b (Ok table) (Err (refuse (TableMode needed))) ≡ Err o → (table.mode ≢ needed) × (o ≡ refuse (TableMode needed))
refused_mode needed table o true is h = absurd cc
refused_mode needed table o false is h = (other_mode needed table.mode is, let e : refuse (TableMode needed) ≡ o = cc in sym e)

needed_cause : CauseLaws → (IsEnd : EndIs) (mode : Option Mode) (first second : List ℕ) (table : Table) (o : Outcome)
    → table_due {R = ToolRefusal} first ≡ Ok table → needed_or_refusal mode table ≡ Err o → RefusesTexts (Cause IsEnd) o first second
needed_cause laws IsEnd None first second table o h k = absurd cc
needed_cause laws IsEnd (Some needed) first second table o h k =
    let w = refused_mode needed table o (is_mode needed table.mode) refl k in
    subst (λ o. RefusesTexts (Cause IsEnd) o first second) (sym w.1)
    (record { table = table; table_is = table_valid {R = ToolRefusal} laws first table h; why = w.0 })

pub mode_cause : CauseLaws → (IsEnd : EndIs) (mode : Option Mode) (first second : List ℕ) (o : Outcome) → table_for mode first ≡ Err o
    → RefusesTexts (Cause IsEnd) o first second
mode_cause laws IsEnd mode first second o h = elim (bind_err (table_due {R = ToolRefusal} first) (needed_or_refusal mode) o h) [
  | inl e ↦ table_cause laws (Cause IsEnd) first second o e
  | inr w ↦ needed_cause laws IsEnd mode first second w.0 o w.1 w.2
]

-- no refusal of it is an answer
needed_unwritten : (mode : Option Mode) (table : Table) (o : Outcome) → needed_or_refusal mode table ≡ Err o → is_answer (kind_of o) ≡ false
needed_unwritten None table o h = absurd cc
needed_unwritten (Some needed) table o h =
    let w = refused_mode needed table o (is_mode needed table.mode) refl h in ap (λ (o : Outcome). is_answer (kind_of o)) w.1

pub mode_unwritten : (mode : Option Mode) (text : List ℕ) (o : Outcome) → table_for mode text ≡ Err o → is_answer (kind_of o) ≡ false
mode_unwritten mode text o h = elim (bind_err (table_due {R = ToolRefusal} text) (needed_or_refusal mode) o h) [
  | inl e ↦ stop_unwritten 1 (kind_of o) (table_stops text o e)
  | inr w ↦ needed_unwritten mode w.0 o w.2
]
