-- The answer for a sender alone means what it is to mean.
use Rattle.std.specs.Prelude.{◌≡◌, ℕ, ◌<◌, ◌≤◌, true, false, ◌||◌, nat_lt, IsTrue, List, [], ◌∷◌, length, map}
use Rattle.std.proofs.Common.{inl, inr, arith, sym, refl, ap, ◌∙◌, subst, cond}
use Rattle.std.proofs.lemmas.Bool.{cases_lt, eq-eqb, true≢false}
use Rattle.std.proofs.lemmas.Bool.Decides.{nat_tests}
use Rattle.std.proofs.lemmas.List.{length-map}
use Rattle.bus_table.specs.declared.mode.Mode.TheVariants.{Periodic}
use Rattle.bus_table.specs.Tables.{Sender, Table}
use Rattle.bus_table.specs.Offsets.{at_offset, at_offsets}
use Rattle.bus_table.specs.Turns.{sort, turn_key}
use Rattle.bus_table.specs.Valid.{is_valid}
use Rattle.bus_table.proofs.ValidLaws.{valid_facts}
use Rattle.bus_regime.specs.Gaps.{gaps}
use Rattle.bus_plan.specs.declared.planning.PlanAnswer.TheVariants.{Planned as PlannedAlone, Infeasible as InfeasibleAlone}
use Rattle.bus_plan.specs.Answers.{plan_of}
use Rattle.bus_plan.specs.Plans.{least_interval, planned_offsets, planned_table, planned, planned_order, offset_in}
use Rattle.bus_plan.proofs.Moved.{length-at_offsets, short_refused}
use Rattle.bus_plan.proofs.Outcome.{planned_offsets_below, planned_good}
use Rattle.bus_reach.proofs.Modes.{in_periodic}
use Rattle.bus_cable_plan.specs.declared.planning.CablePlan.{CablePlan}
use Rattle.bus_cable_plan.specs.declared.planning.CablePlan.TheVariants.{Planned, Infeasible}
use Rattle.bus_cable_plan.specs.Plans.{with_interval}
use Rattle.bus_cable_plan.specs.Answers.{alone}
use Rattle.bus_cable_plan.specs.Meaning.{IsPlanOf, IsInfeasible}
use Rattle.bus_cable_plan.specs.Shares.{gaps_hold}

pub alone_borne : (d : ℕ) (table : Table) → IsTrue (is_valid table) → table.mode ≡ Periodic → length table.senders ≡ 1
    → least_interval table ≤ table.ti → IsPlanOf d table (planned_table table)
alone_borne d table valid mode one long =
    let good = planned_good table valid mode long in
    let moved : Table = planned_table table in
    let count = length-at_offsets (planned_offsets table) table.senders in
    record {
      offsets = planned_offsets table;
      borne = record {
        count = length-map table.senders (λ (s : Sender). offset_in (planned table.sg (planned_order table.senders)) s.number);
        below = planned_offsets_below table valid long;
        valid = good.0;
        accepted = good.1;
        borne = in_periodic moved d mode
            ∙ ap (λ b. b || gaps_hold d table.sg (gaps moved)) (eq-eqb (length moved.senders) 1 (count ∙ one));
      };
      made_is = refl;
      kept = λ fits. one_kept (turn_key table.mode) (planned_offsets table) table.senders one;
    }
  where
    one_kept : (key : Sender → ℕ) (offsets : List ℕ) (ss : List Sender) → length ss ≡ 1
        → map (λ (s : Sender). s.number) (sort key (at_offsets offsets ss)) ≡ map (λ (s : Sender). s.number) (sort key ss)
    one_kept key offsets [] h = absurd (omega (arith, h))
    one_kept key [] (s ∷ []) h = refl
    one_kept key (at ∷ offsets) (s ∷ []) h =
        ap (λ (l : List Sender). map (λ (s : Sender). s.number) (sort key (at_offset at s ∷ l))) (no_more offsets)
      where
        no_more : (offsets : List ℕ) → at_offsets offsets [] ≡ []
        no_more [] = refl
        no_more (at ∷ offsets) = refl
    one_kept key offsets (s ∷ t ∷ ss) h = absurd (omega (arith, h))

pub alone_none : (d : ℕ) (table : Table) → IsTrue (is_valid table) → table.mode ≡ Periodic → table.ti < least_interval table
    → IsInfeasible d table (least_interval table) table.ti
alone_none d table valid mode short = record {
  none = λ e low offsets b. true≢false (sym b.accepted ∙ short_refused table offsets mode some short);
  interval = refl;
  short = short;
  below = λ other less e low offsets b. true≢false (sym b.accepted ∙ short_refused (with_interval other table) offsets mode some less);
}
  where
    some : 0 < length table.senders
    some = (valid_facts table valid).some

-- the planner's answer for it
pub alone_cases : (P : CablePlan → Type 0) (table : Table) → (least_interval table ≤ table.ti → P (Planned (planned_table table)))
    → (table.ti < least_interval table → P (Infeasible (least_interval table) table.ti)) → P (alone (plan_of table))
alone_cases P table good bad = elim (cases_lt table.ti (least_interval table)) [
  | inl short ↦
      let is : nat_lt table.ti (least_interval table) ≡ true = grind (arith, nat_tests, short) in
      subst (λ b. P (alone (cond b (InfeasibleAlone (least_interval table) table.ti) (PlannedAlone (planned_table table))))) (sym is) (bad short)
  | inr long ↦
      let is : nat_lt table.ti (least_interval table) ≡ false = grind (arith, nat_tests, long) in
      subst (λ b. P (alone (cond b (InfeasibleAlone (least_interval table) table.ti) (PlannedAlone (planned_table table))))) (sym is) (good long)
]
