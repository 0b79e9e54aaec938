-- The planned table is valid, and accepted.
use Rattle.std.specs.Prelude.{◌≡◌, ℕ, ◌<◌, ◌≤◌, true, false, ◌==◌, nat_lt, IsTrue, List, [], ◌∷◌, map}
use Rattle.std.proofs.Common.{inl, inr, arith, sym, refl, ap, ◌∙◌, subst, cond}
use Rattle.bus_strings.specs.Members.{In}
use Rattle.bus_table.specs.declared.mode.Mode.TheVariants.{Periodic}
use Rattle.bus_table.specs.Tables.{Sender, Table}
use Rattle.bus_table.specs.Valid.{is_valid}
use Rattle.bus_table.proofs.ValidLaws.{valid_facts}
use Rattle.bus_regime.specs.Verdicts.{is_accepted}
use Rattle.bus_regime.specs.Verdicts.{verdict_of}
use Rattle.bus_plan.specs.Answers.{IsFeasible, plan_of}
use Rattle.bus_plan.specs.declared.planning.PlanAnswer.TheVariants.{Planned, Infeasible}
use Rattle.std.proofs.lemmas.Bool.Decides.{nat_tests}
use Rattle.bus_plan.specs.Plans.{planned_order, planned, least_interval, offset_in, planned_offsets, planned_table}
use Rattle.bus_plan.proofs.Planned.{planned_below}
use Rattle.bus_plan.proofs.Valid.{modest, time_in_order, planned_accepted}
use Rattle.bus_table.proofs.OffsetLaws.{kept_valid}

found_below : (ti : ℕ) (plan : List Sender) (number : ℕ) → 0 < ti → ((s : Sender) → In s plan → s.at < ti) → offset_in plan number < ti
found_below ti [] number some low = some
found_below ti (s ∷ plan) number some low =
    elim (s.number == number) as (λ b. cond b s.at (offset_in plan number) < ti) [
      | true ↦ low s (inl refl)
      | false ↦ found_below ti plan number some (λ x i. low x (inr i))
    ]

each_below : (ti : ℕ) (f : Sender → ℕ) (senders : List Sender) → ((s : Sender) → f s < ti) → (n : ℕ) → In n (map f senders) → n < ti
each_below ti f [] low n i = absurd i
each_below ti f (s ∷ senders) low n (inl e) = let k = low s in omega (arith, e, k)
each_below ti f (s ∷ senders) low n (inr i) = each_below ti f senders low n i

pub planned_offsets_below : (table : Table) → IsTrue (is_valid table) → least_interval table ≤ table.ti → (n : ℕ)
    → In n (planned_offsets table) → n < table.ti
planned_offsets_below table valid h =
    let facts = valid_facts table valid in
    let least = facts.ti_least in
    let some : 0 < table.ti = omega (arith, least) in
    let order : List Sender = planned_order table.senders in
    let plan : List Sender = planned table.sg order in
    each_below table.ti (λ s. offset_in plan s.number) table.senders
    (λ s. found_below table.ti plan s.number some (planned_below table.sg table.ti order some (modest table facts) (time_in_order table h)))

pub planned_valid : (table : Table) → IsTrue (is_valid table) → table.mode ≡ Periodic → least_interval table ≤ table.ti
    → IsTrue (is_valid (planned_table table))
planned_valid table valid periodic h = kept_valid table (planned_offsets table) valid periodic (planned_offsets_below table valid h)

pub planned_good : (table : Table) → IsTrue (is_valid table) → table.mode ≡ Periodic → least_interval table ≤ table.ti
    → IsTrue (is_valid (planned_table table)) × IsTrue (is_accepted (verdict_of (planned_table table)))
planned_good table valid periodic h =
    let after = planned_valid table valid periodic h in
    (after, planned_accepted table (valid_facts table valid) (valid_facts (planned_table table) after) periodic h)

-- a table at the planned offsets is a plan
pub is_feasible : (table made : Table) → IsTrue (is_valid table) → table.mode ≡ Periodic → least_interval table ≤ table.ti
    → made ≡ planned_table table → IsFeasible table made
is_feasible table made valid periodic h e =
    let good = planned_good table valid periodic h in
    record {
      enough = h;
      valid = subst (λ t. IsTrue (is_valid t)) (sym e) good.0;
      accepted = subst (λ t. IsTrue (is_accepted (verdict_of t))) (sym e) good.1;
    }

-- the answer
pub answer_short : (table : Table) (least ti : ℕ) → table.ti < least_interval table → least ≡ least_interval table → ti ≡ table.ti
    → Infeasible least ti ≡ plan_of table
answer_short table least ti short l t =
    let yes_short : nat_lt table.ti (least_interval table) ≡ true = grind (arith, nat_tests, short) in
    let told : Infeasible least ti ≡ Infeasible (least_interval table) table.ti = cc in
    told ∙ sym (ap (λ b. cond b (Infeasible (least_interval table) table.ti) (Planned (planned_table table))) yes_short)

pub answer_long : (table made : Table) → least_interval table ≤ table.ti → made ≡ planned_table table → Planned made ≡ plan_of table
answer_long table made long same =
    let enough : nat_lt table.ti (least_interval table) ≡ false = grind (arith, nat_tests, long) in
    ap Planned same ∙ sym (ap (λ b. cond b (Infeasible (least_interval table) table.ti) (Planned (planned_table table))) enough)
