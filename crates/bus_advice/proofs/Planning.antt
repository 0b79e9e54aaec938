-- A periodic table, or an aperiodic one in periodic mode, with another transmit interval and the offsets of its plan there.
use Rattle.std.specs.Prelude.{◌≡◌, ℕ, ◌<◌, ◌≤◌, max, nat_le, true, false, IsTrue, Some, None}
use Rattle.std.proofs.Common.{arith, refl, sym, ◌∙◌, cond}
use Rattle.std.proofs.lemmas.Bool.{true≢false, false_from_ne_true, leb-true, leb-false}
use Rattle.bus_table.specs.declared.mode.Mode.TheVariants.{Aperiodic, Periodic}
use Rattle.bus_table.specs.Periodic.{as_periodic}
use Rattle.bus_table.specs.Tables.{Table}
use Rattle.bus_table.specs.Valid.{is_valid}
use Rattle.bus_table.proofs.PartLaws.{parts_of}
use Rattle.bus_table.proofs.PeriodicLaws.{periodic_valid}
use Rattle.bus_table.proofs.ValidLaws.{valid_facts}
use Rattle.bus_plan.specs.Plans.{least_interval, planned_offsets, planned_table}
use Rattle.bus_plan.proofs.Outcome.{planned_good}
use Rattle.bus_plan.proofs.Moved.{short_refused}
use Rattle.bus_advice.specs.Changes.{with_interval}
use Rattle.bus_advice.specs.Advices.{works, planned_interval, periodic_interval}
use Rattle.bus_advice.specs.inside.Roomy.{roomy_interval}
use Rattle.bus_advice.proofs.Searches.{least_some, least_none}
use Rattle.bus_advice.proofs.CycleChange.{is_working, working_accepted}
use Rattle.bus_advice.proofs.Widening.{longer_valid}

pub plan_works : (table : Table) (n : ℕ) → IsTrue (is_valid table) → table.mode ≡ Periodic → table.ti ≤ n → n ≤ 128000 → least_interval table ≤ n
    → works (planned_table (with_interval n table)) ≡ true
plan_works table n valid periodic low high enough =
    let good = planned_good (with_interval n table) (longer_valid table n valid periodic low high) periodic enough in
    is_working (planned_table (with_interval n table)) good.0 good.1

plan_refused : (table : Table) (n : ℕ) → IsTrue (is_valid table) → table.mode ≡ Periodic → n < least_interval table
    → works (planned_table (with_interval n table)) ≡ false
plan_refused table n valid periodic short = false_from_ne_true _ (λ h.
    true≢false (sym (working_accepted (planned_table (with_interval n table)) h)
    ∙ short_refused (with_interval n table) (planned_offsets (with_interval n table)) periodic (valid_facts table valid).some short))

pub plan_some : (table : Table) (n : ℕ) → IsTrue (is_valid table) → table.mode ≡ Periodic → n ≡ max (least_interval table) table.ti → n ≤ 128000
    → Some n ≡ planned_interval table
plan_some table n valid periodic is high =
    least_some (λ ti. works (planned_table (with_interval ti table))) table.ti n (omega arith) high
    (plan_works table n valid periodic (omega arith) high (omega arith))
    (λ m a b. plan_refused table m valid periodic (omega arith))

pub plan_none : (table : Table) (n : ℕ) → IsTrue (is_valid table) → table.mode ≡ Periodic → n ≡ max (least_interval table) table.ti → 128000 < n
    → None ≡ planned_interval table
plan_none table n valid periodic is high =
    let most = (valid_facts table valid).ti_most in
    least_none (λ ti. works (planned_table (with_interval ti table))) table.ti (λ m a b. plan_refused table m valid periodic (omega arith))

-- the closed form
pub roomy_planned : (table : Table) → IsTrue (is_valid table) → table.mode ≡ Periodic → roomy_interval table ≡ planned_interval table
roomy_planned table valid periodic =
    let n : ℕ = max (least_interval table) table.ti in
    (elim (nat_le n 128000) as (λ b. nat_le n 128000 ≡ b → cond b (Some n) None ≡ planned_interval table) [
      | true ↦ λ e. plan_some table n valid periodic refl (leb-true n 128000 e)
      | false ↦ λ e. plan_none table n valid periodic refl (leb-false n 128000 e)
    ]) refl

-- an aperiodic table in periodic mode
pub periodic_of : (table : Table) → IsTrue (is_valid table) → table.mode ≡ Aperiodic → IsTrue (is_valid (as_periodic table.ti table))
periodic_of table valid aperiodic = periodic_valid table table.ti valid aperiodic (parts_of table valid).ti

pub roomy_periodic : (table : Table) → IsTrue (is_valid table) → table.mode ≡ Aperiodic → roomy_interval table ≡ periodic_interval table
roomy_periodic table valid aperiodic = roomy_planned (as_periodic table.ti table) (periodic_of table valid aperiodic) refl
