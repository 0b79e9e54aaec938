-- What is claimed of `plan` with a delay.
use Rattle.std.specs.Prelude.{◌≡◌, ◌≢◌, ◌⊎◌, ℕ, true, ◌==◌, nat_le, IsTrue, [], Some, None, codes, length, ◌∷◌}
use Rattle.std.proofs.Common.{arith, refl, sym, ap, ◌∙◌, subst, cond, inl, inr}
use Rattle.std.proofs.lemmas.Bool.{cases_Bool}
use Rattle.std.proofs.lemmas.Bool.Decides.{nat_tests}
use Rattle.bus_table.specs.Canonical.{table_text}
use Rattle.bus_table.specs.Ranges.{most_ti}
use Rattle.bus_table.specs.declared.mode.Mode.TheVariants.{Periodic}
use Rattle.bus_table.specs.Tables.{Table}
use Rattle.bus_table.specs.Text.{IsTableText}
use Rattle.bus_table.specs.Valid.{is_valid}
use Rattle.bus_cable_plan.specs.declared.planning.CablePlan.{CablePlan}
use Rattle.bus_cable_plan.specs.declared.planning.CablePlan.TheVariants.{Planned, Infeasible, Undecided}
use Rattle.bus_cable_plan.specs.Answers.{plan_for_of, plan_best_of}
use Rattle.bus_cable_plan.specs.Meaning.{IsPlanOf, Means, MeansBest, PlansAreRight, BestIsRight}
use Rattle.bus_command.specs.Outside.{Call}
use Rattle.bus_tool.specs.Acts.{Acts}
use Rattle.bus_tool.specs.Answering.{Answers, IsTextOf}
use Rattle.bus_tool.specs.Asking.{IsPlanForOf, IsPlanBestOf}
use Rattle.bus_tool.specs.CablePlanClaims.{StandsWherePlanned, is_planned, plan_reply}
use Rattle.bus_tool.specs.Forms.{OnTable, PlanFor, Bits, Greatest, form_of, plan_bits, plan_by, plan_for}
use Rattle.bus_tool.proofs.FormLemmas.{front_two, of_plain, with_options}
use Rattle.bus_tool.specs.PlanTexts.{cable_plan_text}
use Rattle.bus_tool.specs.Refusals.{Outcome, status_of}
use Rattle.bus_tool.specs.Replies.{Is, yes_or_no}
use Rattle.bus_tool.proofs.GroupClaims.{ReadLaws, table_answers}
use Rattle.bus_tool.proofs.ReplyLemmas.{is_text, plan_same, plan_stands as reply_stands, plan_status, with_status}

-- the laws by which it holds
pub record CablePlanLaws : Type 0 where
  pub text_stands : (table : Table) → IsTrue (is_valid table) → IsTableText table (table_text table)
  pub plans : PlansAreRight
  pub best : BestIsRight

-- ---- the words
for_form : (d : ℕ) (table : Table) (call : Call) → IsPlanForOf d table call → form_of call.words ≡ Some (OnTable (PlanFor (Bits d)))
for_form d table call h =
    let low : nat_le d most_ti ≡ true = (let within = h.within in grind (arith, nat_tests)) in
    with_options (codes "plan") h.path h.behind call.words (record { plain = 2; options = h.options }) h.form h.given.line
    ∙ front_two (codes "plan") h.path h.behind h.options
    ∙ ap (λ b. cond b (plan_by h.options.delay) None) h.given.taken ∙ ap plan_by h.asked ∙ ap plan_bits h.delay_is
    ∙ ap (λ b. cond b (Some (plan_for (Bits d))) None) low

best_form : (table : Table) (call : Call) → IsPlanBestOf table call → form_of call.words ≡ Some (OnTable (PlanFor Greatest))
best_form table call h = of_plain (codes "plan") h.path (codes "best" ∷ []) call.words h.form (refl, (h.plain, (refl, tt)))

-- ---- the text of a planned table stands for it
plan_stands : CablePlanLaws → (d : ℕ) (table made : Table) → IsPlanOf d table made → IsTableText made (table_text made)
plan_stands laws d table made p = laws.text_stands made (subst (λ t. IsTrue (is_valid t)) (sym p.made_is) p.borne.valid)

for_stands : CablePlanLaws → (d : ℕ) (table : Table) (answer : CablePlan) → Means d table answer → StandsWherePlanned answer
for_stands laws d table (Planned made) p = plan_stands laws d table made p
for_stands laws d table (Infeasible least ti) p = tt
for_stands laws d table (Undecided least ti) p = tt

one_or_more : (n : ℕ) → (n ≡ 1) ⊎ (n ≢ 1)
one_or_more n = elim (cases_Bool (n == 1)) [
  | inl h ↦ inl (let e : n ≡ 1 = grind (arith, nat_tests, h) in e)
  | inr h ↦ inr (let e : n ≢ 1 = grind (arith, nat_tests, h) in e)
]

best_stands : CablePlanLaws → (table : Table) (answer : CablePlan) → MeansBest table answer → StandsWherePlanned answer
best_stands laws table (Planned made) p = elim (one_or_more (length table.senders)) [
  | inl one ↦ plan_stands laws 0 table made (p.alone one 0)
  | inr several ↦ let w = p.several several in plan_stands laws w.0 table made w.1
]
best_stands laws table (Infeasible least ti) p = tt
best_stands laws table (Undecided least ti) p = tt

-- ---- the claims
pub plan_for_stands : CablePlanLaws → (call : Call) (d : ℕ) (table : Table) → IsPlanForOf d table call → table.mode ≡ Periodic
    → StandsWherePlanned (plan_for_of d table)
plan_for_stands laws call d table h periodic = for_stands laws d table (plan_for_of d table) (laws.plans d table h.table_told.valid periodic)

pub plan_best_stands : CablePlanLaws → (call : Call) (table : Table) → IsPlanBestOf table call → table.mode ≡ Periodic
    → StandsWherePlanned (plan_best_of table)
plan_best_stands laws call table h periodic = best_stands laws table (plan_best_of table) (laws.best table h.table_told.valid periodic)

pub plan_for_claim : ReadLaws → CablePlanLaws → (call : Call) (outcome : Outcome) (d : ℕ) (table : Table) → Acts call outcome
    → IsPlanForOf d table call → table.mode ≡ Periodic
    → Answers call (status_of outcome) (yes_or_no (is_planned (plan_for_of d table))) (Is (plan_reply (plan_for_of d table))) × Means d table (plan_for_of d table)
plan_for_claim texts laws call outcome d table acts h periodic =
    let plan = plan_for_of d table in (
      with_status call (status_of outcome) _ _ (Is (plan_reply plan)) (plan_status plan)
          (table_answers texts (PlanFor (Bits d)) call outcome table (IsTextOf (Is (plan_reply plan))) (for_form d table call h) periodic
          (λ text is. is_text (plan_reply plan) (cable_plan_text plan) text (reply_stands plan (plan_for_stands laws call d table h periodic)) (plan_same plan) is)
          acts h.table_told h.undisturbed),
      laws.plans d table h.table_told.valid periodic,
    )

pub plan_best_claim : ReadLaws → CablePlanLaws → (call : Call) (outcome : Outcome) (table : Table) → Acts call outcome
    → IsPlanBestOf table call → table.mode ≡ Periodic
    → Answers call (status_of outcome) (yes_or_no (is_planned (plan_best_of table))) (Is (plan_reply (plan_best_of table))) × MeansBest table (plan_best_of table)
plan_best_claim texts laws call outcome table acts h periodic =
    let plan = plan_best_of table in (
      with_status call (status_of outcome) _ _ (Is (plan_reply plan)) (plan_status plan)
          (table_answers texts (PlanFor Greatest) call outcome table (IsTextOf (Is (plan_reply plan))) (best_form table call h) periodic
          (λ text is. is_text (plan_reply plan) (cable_plan_text plan) text (reply_stands plan (plan_best_stands laws call table h periodic)) (plan_same plan) is)
          acts h.table_told h.undisturbed),
      laws.best table h.table_told.valid periodic,
    )
