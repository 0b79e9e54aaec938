-- The answers mean what they are to mean.
use Rattle.std.specs.Prelude.{◌≡◌, ◌≢◌, ℕ, ◌+◌, ◌-◌, ◌<◌, ◌≤◌, Bool, true, false, ◌||◌, ◌==◌, nat_le, nat_lt, not, IsTrue, List, []}
use Rattle.std.specs.Prelude.{◌∷◌, length, map, Some, None, ◌&&◌}
use Rattle.std.proofs.Common.{inl, inr, arith, sym, refl, ap, ◌∙◌, subst, cond}
use Rattle.std.proofs.lemmas.Bool.{cases_Bool, cases_lt, le-leb, leb-true, lt-ltb, true≢false}
use Rattle.std.proofs.lemmas.Bool.Decides.{nat_tests}
use Rattle.bus_strings.specs.Members.{In}
use Rattle.bus_table.specs.declared.mode.Mode.TheVariants.{Periodic}
use Rattle.bus_table.specs.Tables.{Sender, Table}
use Rattle.bus_table.specs.Offsets.{with_offsets}
use Rattle.bus_table.specs.Turns.{turn_order}
use Rattle.bus_table.specs.Valid.{is_valid}
use Rattle.bus_table.specs.inside.Facts.{SenderFacts}
use Rattle.bus_table.proofs.TurnLaws.{of_each}
use Rattle.bus_table.proofs.ValidLaws.{valid_facts}
use Rattle.std.specs.List.{list_all}
use Rattle.bus_plan.specs.Answers.{plan_of}
use Rattle.bus_reach.proofs.GreatestLemmas.{greatest_takes, greatest_beyond}
use Rattle.bus_cable_plan.specs.declared.planning.CablePlan.TheVariants.{Planned, Infeasible, Undecided}
use Rattle.bus_cable_plan.specs.Plans.{turns_for, least_in_order, least_interval_for, offsets_in_order, offsets_by_gap}
use Rattle.bus_cable_plan.specs.Plans.{given_offsets}
use Rattle.bus_cable_plan.specs.Known.{none_reach, all_reach, is_known}
use Rattle.bus_cable_plan.specs.Answers.{most_borne_in, alone, bears_as_given, fits, fitting, found, is_found, is_refuted}
use Rattle.bus_cable_plan.specs.Answers.{known_least, undecided, unfit, best_of}
use Rattle.bus_cable_plan.specs.Meaning.{IsPlanOf, NoneBear, IsInfeasible, IsOpen, Means, MeansBest}
use Rattle.bus_cable_plan.specs.Meaning.{PlansAreRight, BestIsRight, MostBorneIsRight}
use Rattle.bus_cable_plan.proofs.Alone.{alone_borne, alone_none, alone_cases}
use Rattle.bus_cable_plan.proofs.Below.{none_below}
use Rattle.bus_cable_plan.proofs.Outcome.{or_cases, order_is_kept, order_is_planned, planned_bears}
use Rattle.bus_cable_plan.proofs.Sharing.{refuted_is_not_borne}
use Rattle.bus_cable_plan.proofs.AsGiven.{itself, given_borne, borne_given}
use Rattle.bus_cable_plan.proofs.Rising.{long_unfound}

-- ---- several
fitting_is : (d : ℕ) (table : Table) → IsTrue (is_valid table) → table.mode ≡ Periodic → 1 < length table.senders → fits d table ≡ true
    → IsPlanOf d table (fitting d table)
fitting_is d table valid mode several h = elim (cases_Bool (nat_le (least_in_order d table) table.ti)) [
  | inl yes' ↦
      let k : least_in_order d table ≤ table.ti = leb-true (least_in_order d table) table.ti yes' in
      record {
        offsets = offsets_in_order d table;
        borne = order_is_planned d table valid mode several k;
        made_is = ap (λ b. cond b (with_offsets (offsets_in_order d table) table) (with_offsets (offsets_by_gap d table) table)) yes';
        kept = λ fit.
            ap (λ b. map (λ (s : Sender). s.number) (turn_order (cond b (with_offsets (offsets_in_order d table) table)
            (with_offsets (offsets_by_gap d table) table)))) yes'
            ∙ order_is_kept d table valid mode;
      }
  | inr no' ↦ elim (or_cases (nat_le (least_in_order d table) table.ti) (nat_le (least_interval_for d table) table.ti) h) [
    | inl k ↦ absurd (true≢false (sym k ∙ no'))
    | inr k ↦ record {
      offsets = offsets_by_gap d table;
      borne = planned_bears d table valid mode several (leb-true (least_interval_for d table) table.ti k);
      made_is = ap (λ b. cond b (with_offsets (offsets_in_order d table) table) (with_offsets (offsets_by_gap d table) table)) no';
      kept = λ fit. absurd (true≢false (sym (le-leb (least_in_order d table) table.ti fit) ∙ no'));
    }
  ]
]

found_is : (d : ℕ) (table : Table) → IsTrue (is_valid table) → table.mode ≡ Periodic → 1 < length table.senders → is_found d table ≡ true
    → IsPlanOf d table (found d table)
found_is d table valid mode several h =
    (elim (fits d table) as (λ b. fits d table ≡ b → IsPlanOf d table (cond b (fitting d table) table)) [
      | true ↦ λ k. fitting_is d table valid mode several k
      | false ↦ λ k. record {
        offsets = given_offsets table;
        borne = given_borne d table valid mode (elim (or_cases (fits d table) (bears_as_given d table) h) [
          | inl it ↦ absurd (true≢false (sym it ∙ k))
          | inr it ↦ it
        ]);
        made_is = sym (itself table);
        kept = λ fit. refl;
      }
    ]) refl

or_false : (a b : Bool) → (a || b) ≡ false → (a ≡ false) × (b ≡ false)
or_false true b h = absurd (true≢false h)
or_false false b h = (refl, h)

below_known : (d : ℕ) (table : Table) → fits d table ≡ false → is_refuted d table ≡ true → table.ti < known_least d table
below_known d table unfit' refuted =
    let no = or_false (nat_le (least_in_order d table) table.ti) (nat_le (least_interval_for d table) table.ti) unfit' in
    let second = no.1 in
    let short : table.ti < least_interval_for d table = grind (arith, nat_tests, second) in
    (elim (is_known d table) as (λ b. is_known d table ≡ b → table.ti < cond b (least_interval_for d table) (turns_for d table)) [
      | true ↦ λ h. short
      | false ↦ λ h. elim (or_cases (is_known d table) (nat_lt table.ti (turns_for d table)) refuted) [
        | inl k ↦ absurd (true≢false (sym k ∙ h))
        | inr k ↦ (let less : table.ti < turns_for d table = grind (arith, nat_tests, k) in less)
      ]
    ]) refl

infeasible_is : (d : ℕ) (table : Table) → IsTrue (is_valid table) → table.mode ≡ Periodic → 1 < length table.senders
    → fits d table ≡ false → is_refuted d table ≡ true → IsInfeasible d table (known_least d table) table.ti
infeasible_is d table valid mode several none refuted = record {
  none = refuted_is_not_borne d table valid mode several none refuted;
  interval = refl;
  short = below_known d table none refuted;
  below = none_below d table mode several;
}

open_is : (d : ℕ) (table : Table) → is_found d table ≡ false → is_refuted d table ≡ false
    → IsOpen d table (turns_for d table) table.ti
open_is d table none refuted =
    let no = or_false (is_known d table) (nat_lt table.ti (turns_for d table)) refuted in
    let neither = or_false (fits d table) (bears_as_given d table) none in
    let long = no.1 in
    record {
      least_is = refl;
      interval = refl;
      turns = (let k : turns_for d table ≤ table.ti = grind (arith, nat_tests, long) in k);
      unfit = neither.0;
      unknown = no.0;
      given = λ b. true≢false (sym (borne_given d table b) ∙ neither.1);
    }

unfit_means : (d : ℕ) (table : Table) → IsTrue (is_valid table) → table.mode ≡ Periodic → 1 < length table.senders
    → is_found d table ≡ false → Means d table (unfit d table)
unfit_means d table valid mode several h =
    let none = (or_false (fits d table) (bears_as_given d table) h).0 in
    (elim (is_refuted d table) as (λ b. is_refuted d table ≡ b
    → Means d table (cond b (Infeasible (known_least d table) table.ti) (Undecided (turns_for d table) table.ti))) [
      | true ↦ λ k. infeasible_is d table valid mode several none k
      | false ↦ λ k. open_is d table h k
    ]) refl

many_of : (table : Table) → IsTrue (is_valid table) → length table.senders ≢ 1 → 1 < length table.senders
many_of table valid several = let some = (valid_facts table valid).some in omega (arith, some, several)

pub plans_are_right : PlansAreRight
plans_are_right d table valid mode =
    (elim (length table.senders == 1) as (λ b. (length table.senders == 1) ≡ b
    → Means d table (cond b (alone (plan_of table)) (cond (is_found d table) (Planned (found d table)) (unfit d table)))) [
      | true ↦ λ h.
          let one : length table.senders ≡ 1 = grind (arith, nat_tests, h) in
          alone_cases (Means d table) table (alone_borne d table valid mode one)
          (alone_none d table valid mode)
      | false ↦ λ h.
          let several : length table.senders ≢ 1 = grind (arith, nat_tests, h) in
          let many = many_of table valid several in
          (elim (is_found d table) as (λ b. is_found d table ≡ b → Means d table (cond b (Planned (found d table)) (unfit d table))) [
            | true ↦ λ k. found_is d table valid mode many k
            | false ↦ λ k. unfit_means d table valid mode many k
          ]) refl
    ]) refl

-- ---- the greatest delay
best_found : (table : Table) → IsTrue (is_valid table) → table.mode ≡ Periodic → 1 < length table.senders → is_found 0 table ≡ true
    → (is_found (best_of table) table ≡ true) × (is_found (best_of table + 1) table ≡ false)
best_found table valid mode many some = (
  greatest_takes (λ d. is_found d table) (table.ti - 1) some,
  elim (cases_lt (best_of table + 1) table.ti) [
    | inl less ↦ greatest_beyond (λ d. is_found d table) (table.ti - 1) (best_of table + 1) (omega arith) (omega (arith, less))
    | inr more ↦ long_unfound (best_of table + 1) table valid mode many more
  ],
)

-- without delay no terminal gap reaches a synchronization gap
all_short : (sg : ℕ) (ss : List Sender) → ((s : Sender) → In s ss → s.tg < sg) → list_all (λ s. nat_lt (s.tg + 0) sg) ss ≡ true
all_short sg [] h = refl
all_short sg (s ∷ ss) h =
    let k = h s (inl refl) in
    ap (λ b. b && list_all (λ x. nat_lt (x.tg + 0) sg) ss) (lt-ltb (s.tg + 0) sg (omega (arith, k))) ∙ all_short sg ss (λ x i. h x (inr i))

zero_refuted : (table : Table) → IsTrue (is_valid table) → is_refuted 0 table ≡ true
zero_refuted table valid =
    let facts = valid_facts table valid in
    let none : none_reach 0 table ≡ true =
    all_short table.sg table.senders (λ s i. (of_each (SenderFacts table) table.senders facts.senders s i).tg_short) in
    let known : is_known 0 table ≡ true = or_right (length table.senders == 2) (none_reach 0 table || all_reach 0 table)
    (ap (λ b. b || all_reach 0 table) none) in
    ap (λ b. b || nat_lt table.ti (turns_for 0 table)) known
  where
    or_right : (a b : Bool) → b ≡ true → (a || b) ≡ true
    or_right true b h = refl
    or_right false b h = h

best_several : (table : Table) → IsTrue (is_valid table) → table.mode ≡ Periodic → length table.senders ≢ 1
    → MeansBest table (cond (not (is_found 0 table)) (unfit 0 table)
    (cond (is_refuted (best_of table + 1) table) (Planned (found (best_of table) table)) (undecided (best_of table + 1) table)))
best_several table valid mode several =
    let many = many_of table valid several in
    (elim (is_found 0 table) as (λ b. is_found 0 table ≡ b → MeansBest table (cond (not b) (unfit 0 table)
    (cond (is_refuted (best_of table + 1) table) (Planned (found (best_of table) table)) (undecided (best_of table + 1) table)))) [
      | false ↦ λ k.
          let refuted : is_refuted 0 table ≡ true = zero_refuted table valid in
          let none = (or_false (fits 0 table) (bears_as_given 0 table) k).0 in
          subst (λ b. MeansBest table (cond b (Infeasible (known_least 0 table) table.ti) (Undecided (turns_for 0 table) table.ti))) (sym refuted)
          (infeasible_is 0 table valid mode many none refuted)
      | true ↦ λ k.
          let best = best_found table valid mode many k in
          let none = (or_false (fits (best_of table + 1) table) (bears_as_given (best_of table + 1) table) best.1).0 in
          let plan = found_is (best_of table) table valid mode many best.0 in
          (elim (is_refuted (best_of table + 1) table) as (λ b. is_refuted (best_of table + 1) table ≡ b
          → MeansBest table (cond b (Planned (found (best_of table) table)) (undecided (best_of table + 1) table))) [
            | true ↦ λ h. record {
              alone = λ one d. absurd (several one);
              several = λ no. (best_of table, plan, refuted_is_not_borne (best_of table + 1) table valid mode many none h);
            }
            | false ↦ λ h. (best_of table, (found (best_of table) table, plan), open_is (best_of table + 1) table best.1 h)
          ]) refl
    ]) refl

pub best_is_right : BestIsRight
best_is_right table valid mode =
    (elim (length table.senders == 1) as (λ b. (length table.senders == 1) ≡ b
    → MeansBest table (cond b (alone (plan_of table)) (cond (not (is_found 0 table)) (unfit 0 table)
    (cond (is_refuted (best_of table + 1) table) (Planned (found (best_of table) table)) (undecided (best_of table + 1) table))))) [
      | true ↦ λ h.
          let one : length table.senders ≡ 1 = grind (arith, nat_tests, h) in
          alone_cases (MeansBest table) table
          (λ long. record { alone = λ same d. alone_borne d table valid mode one long; several = λ no. absurd (no one) })
          (alone_none 0 table valid mode)
      | false ↦ λ h. best_several table valid mode (let no : length table.senders ≢ 1 = grind (arith, nat_tests, h) in no)
    ]) refl

-- ---- what is told of it
some_same : (n d : ℕ) → Some n ≡ Some d → n ≡ d
some_same n d e = cc

none_some : (d : ℕ) → None ≡ Some d → ⊥
none_some d e = absurd cc

most_told : (d : ℕ) (table : Table) → IsTrue (is_valid table) → table.mode ≡ Periodic → length table.senders ≢ 1
    → cond (is_found 0 table && is_refuted (best_of table + 1) table) (Some (best_of table)) None ≡ Some d
    → ((made : Table) × IsPlanOf d table made) × NoneBear (d + 1) table
most_told d table valid mode several =
    let many = many_of table valid several in
    (elim (is_found 0 table) as (λ b. is_found 0 table ≡ b
    → cond (b && is_refuted (best_of table + 1) table) (Some (best_of table)) None ≡ Some d
    → ((made : Table) × IsPlanOf d table made) × NoneBear (d + 1) table) [
      | false ↦ λ k e. absurd (none_some d e)
      | true ↦ λ k.
          let best = best_found table valid mode many k in
          let none = (or_false (fits (best_of table + 1) table) (bears_as_given (best_of table + 1) table) best.1).0 in
          (elim (is_refuted (best_of table + 1) table) as (λ b. is_refuted (best_of table + 1) table ≡ b
          → cond b (Some (best_of table)) None ≡ Some d → ((made : Table) × IsPlanOf d table made) × NoneBear (d + 1) table) [
            | false ↦ λ h e. absurd (none_some d e)
            | true ↦ λ h e. subst (λ (n : ℕ). ((made : Table) × IsPlanOf n table made) × NoneBear (n + 1) table) (some_same (best_of table) d e) (
              (found (best_of table) table, found_is (best_of table) table valid mode many best.0),
              refuted_is_not_borne (best_of table + 1) table valid mode many none h,
            )
          ]) refl
    ]) refl

pub most_borne_is_right : MostBorneIsRight
most_borne_is_right d table valid mode told =
    in_periodic_told (sym (ap (λ m. most_borne_in m table) mode) ∙ told) where
      in_periodic_told : most_borne_in Periodic table ≡ Some d → ((made : Table) × IsPlanOf d table made) × NoneBear (d + 1) table
      in_periodic_told =
          (elim (length table.senders == 1) as (λ b. (length table.senders == 1) ≡ b
          → cond b None (cond (is_found 0 table && is_refuted (best_of table + 1) table) (Some (best_of table)) None) ≡ Some d
          → ((made : Table) × IsPlanOf d table made) × NoneBear (d + 1) table) [
            | true ↦ λ h e. absurd (none_some d e)
            | false ↦ λ h. most_told d table valid mode (let no : length table.senders ≢ 1 = grind (arith, nat_tests, h) in no)
          ]) refl
