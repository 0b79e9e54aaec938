-- Every advice works.
use Rattle.std.specs.Prelude.{◌≡◌, ℕ, suc, ◌+◌, ◌≤◌, true, false, IsTrue, List, [], ◌∷◌, ◌++◌, Option, Some, None, slice_get}
use Rattle.std.specs.List.{flat_map}
use Rattle.std.specs.Option.{option_map, option_to_list}
use Rattle.std.proofs.Common.{inl, inr, arith, sym, refl, ap, ◌∙◌, cond, subst}
use Rattle.std.proofs.lemmas.Bool.{cases_lt, true≢false}
use Rattle.bus_strings.specs.Members.{In}
use Rattle.bus_strings.proofs.MemberLaws.{in_append_cases}
use Rattle.bus_table.specs.declared.mode.Mode.{Mode}
use Rattle.bus_table.specs.declared.mode.Mode.TheVariants.{Aperiodic, Periodic}
use Rattle.bus_table.specs.declared.line.SendLine.{SendLine}
use Rattle.bus_table.specs.Periodic.{as_periodic}
use Rattle.bus_table.specs.Tables.{Sender, Table}
use Rattle.bus_table.specs.Turns.{turn_key, turn_order}
use Rattle.bus_table.specs.Valid.{is_valid}
use Rattle.bus_table.proofs.ValidLaws.{valid_facts}
use Rattle.bus_table.proofs.TurnLaws.{from_sort}
use Rattle.bus_regime.specs.Verdicts.{verdict_of, is_accepted}
use Rattle.bus_plan.specs.Plans.{planned_table, least_interval}
use Rattle.bus_plan.proofs.Moved.{short_refused}
use Rattle.bus_advice.specs.declared.advice.Advice.{Advice}
use Rattle.bus_advice.specs.declared.advice.Advice.TheVariants.{Interval, Synchronization, Gap, Least, Plan, AsPeriodic, Start}
use Rattle.bus_advice.specs.Changes.{with_interval, with_synchronization, with_gap, with_least}
use Rattle.bus_advice.specs.Search.{least_above, greatest_below}
use Rattle.bus_advice.specs.Advices.{works, lesser_interval, greater_interval, greater_synchronization, greater_gap, greater_least, planned_interval, periodic_interval}
use Rattle.bus_advice.specs.Advices.{starts, starting_interval, lacks_start, start_advices, periodic_in, periodic_table}
use Rattle.bus_advice.specs.Advices.{gap_advice, line_advice, line_advices, least_advices, advices_in, advices_of}
use Rattle.bus_advice.specs.Laws.{IsNearest, GapWorks, LeastWorks, PlanWorks, PeriodicWorks, StartWorks, AdviceWorks}
use Rattle.bus_advice.proofs.Searches.{found_least, found_below}
use Rattle.bus_advice.proofs.CycleChange.{working_valid, interval_refused, sync_refused}
use Rattle.bus_advice.proofs.GapChange.{gap_refused}
use Rattle.bus_advice.proofs.LineChange.{least_refused}
use Rattle.bus_advice.proofs.Widening.{shorter_refused}
use Rattle.bus_advice.proofs.Planning.{plan_works, periodic_of}
use Rattle.bus_advice.proofs.StartChange.{lacking_mode, starts_below}

-- ---- members
in_option : (make : ℕ → Advice) (o : Option ℕ) (a : Advice) → In a (option_to_list (option_map make o)) → (n : ℕ) × (o ≡ Some n) × (a ≡ make n)
in_option make None a i = absurd i
in_option make (Some n) a (inl e) = (n, refl, e)
in_option make (Some n) a (inr i) = absurd i

in_flat : {X : Type 0} (f : X → List Advice) (xs : List X) (a : Advice) → In a (flat_map f xs) → (x : X) × In x xs × In a (f x)
in_flat f [] a i = absurd i
in_flat f (x ∷ xs) a i = elim (in_append_cases (f x) (flat_map f xs) a i) [
  | inl j ↦ (x, inl refl, j)
  | inr j ↦ (let w = in_flat f xs a j in (w.0, inr w.1, w.2))
]

in_lines : (table : Table) (terminal place : ℕ) (lines : List SendLine) (a : Advice) → In a (line_advices table terminal place lines)
    → (k : ℕ) × (line : SendLine) × (slice_get lines k ≡ Some line) × In a (line_advice table terminal (place + k) line)
in_lines table terminal place [] a i = absurd i
in_lines table terminal place (line ∷ lines) a i =
    elim (in_append_cases (line_advice table terminal place line) (line_advices table terminal (suc place) lines) a i) [
      | inl j ↦
          (let same : place ≡ place + 0 = omega arith in
          (0, line, refl, subst (λ p. In a (line_advice table terminal p line)) same j))
      | inr j ↦
          (let w = in_lines table terminal (suc place) lines a j in
          let same : suc place + w.0 ≡ place + suc w.0 = omega arith in
          (suc w.0, w.1, w.2, subst (λ p. In a (line_advice table terminal p w.1)) same w.3))
    ]

-- ---- what is found is nearest
above_nearest : (change : ℕ → Table) (own n : ℕ) → ((m : ℕ) → m ≤ own → works (change m) ≡ false)
    → least_above (λ k. works (change k)) own ≡ Some n → IsNearest change own n
above_nearest change own n lesser h =
    let f = found_least (λ k. works (change k)) (own + 1) n h in
    let low = f.low in
    record {
      helps = f.passes;
      nearest = λ m near. elim (cases_lt own m) [
        | inl up ↦ f.before m (omega arith) (omega arith)
        | inr down ↦ lesser m down
      ];
    }

below_nearest : (change : ℕ → Table) (own n : ℕ) → ((m : ℕ) → own ≤ m → works (change m) ≡ false)
    → greatest_below (λ k. works (change k)) own ≡ Some n → IsNearest change own n
below_nearest change own n greater h =
    let f = found_below (λ k. works (change k)) own n h in
    let low = f.low in
    record {
      helps = f.passes;
      nearest = λ m near. elim (cases_lt m own) [
        | inl down ↦ f.behind m (omega arith) down
        | inr up ↦ greater m up
      ];
    }

plan_nearest : (table : Table) (n : ℕ) → IsTrue (is_valid table) → table.mode ≡ Periodic → planned_interval table ≡ Some n → PlanWorks (λ k. with_interval k table) table.ti n
plan_nearest table n valid periodic h =
    let f = found_least (λ k. works (planned_table (with_interval k table))) table.ti n h in
    let most = (valid_facts (planned_table (with_interval n table)) (working_valid (planned_table (with_interval n table)) f.passes)).ti_most in
    record {
      helps = f.passes;
      nearest = λ m offsets low high. elim (cases_lt m (least_interval table)) [
        | inl short ↦ short_refused (with_interval m table) offsets periodic (valid_facts table valid).some short
        | inr long ↦
            absurd (true≢false (sym (plan_works table m valid periodic low (omega (arith, most, high)) long) ∙ f.before m low high))
      ];
    }

-- in periodic mode, as its plan is nearest
periodic_told : (table : Table) (n : ℕ) → is_accepted (verdict_of table) ≡ false → table.mode ≡ Aperiodic → periodic_interval table ≡ Some n
    → periodic_table table ≡ Some (planned_table (as_periodic n table))
periodic_told table n refused aperiodic h =
    ap (λ b. cond b None (periodic_in table.mode table)) refused
    ∙ ap (λ m. periodic_in m table) aperiodic
    ∙ ap (λ o. option_map (λ ti. planned_table (as_periodic ti table)) o) h

periodic_nearest : (table : Table) (n : ℕ) → IsTrue (is_valid table) → is_accepted (verdict_of table) ≡ false → table.mode ≡ Aperiodic
    → periodic_interval table ≡ Some n → PeriodicWorks table n
periodic_nearest table n valid refused aperiodic h = record {
  planned = plan_nearest (as_periodic table.ti table) n (periodic_of table valid aperiodic) refl h;
  told = periodic_told table n refused aperiodic h;
}

-- the greatest with which it starts
start_greatest : (table : Table) (n : ℕ) → IsTrue (lacks_start table.mode table) → starting_interval table ≡ Some n → StartWorks table n
start_greatest table n lacks h =
    let f = found_below (λ k. starts (with_interval k table)) table.ti n h in
    record {
      aperiodic = lacking_mode table table.mode lacks;
      helps = f.passes;
      greatest = λ m good. elim (cases_lt n m) [
        | inl more ↦ absurd (true≢false (sym good ∙ f.behind m more (starts_below table m lacks good)))
        | inr rest ↦ omega arith
      ];
    }

-- ---- by kinds
gap_works : (table : Table) (s : Sender) (a : Advice) → IsTrue (is_valid table) → table.mode ≡ Aperiodic
    → is_accepted (verdict_of table) ≡ false → In s table.senders → In a (gap_advice table s) → AdviceWorks table a
gap_works table s a valid aperiodic refused among i =
    let lesser : (n : ℕ) → n ≤ s.tg → works (with_gap s.number n table) ≡ false = λ n low. gap_refused table s n valid aperiodic refused among low in
    let w = in_option (Gap s.number) (greater_gap table s) a i in
    subst (λ x. AdviceWorks table x) (sym w.2)
    (let made : GapWorks table s.number w.0 =
    record { sender = s; among = among; named = refl; nearest = above_nearest (λ n. with_gap s.number n table) s.tg w.0 lesser w.1 } in made)

line_works : (table : Table) (s : Sender) (a : Advice) → IsTrue (is_valid table) → table.mode ≡ Aperiodic
    → is_accepted (verdict_of table) ≡ false → In s table.senders → In a (least_advices table s) → AdviceWorks table a
line_works table s a valid aperiodic refused among i =
    let l = in_lines table s.number 0 s.sends a i in
    let same : 0 + l.0 ≡ l.0 = omega arith in
    let here : In a (line_advice table s.number l.0 l.1) = subst (λ p. In a (line_advice table s.number p l.1)) same l.3 in
    let w = in_option (Least s.number (l.0 + 1)) (greater_least table s.number l.0 l.1) a here in
    let lesser : (n : ℕ) → n ≤ l.1.least → works (with_least s.number l.0 n table) ≡ false =
    λ n low. least_refused table s l.0 n l.1 valid aperiodic refused among l.2 low in
    subst (λ x. AdviceWorks table x) (sym w.2)
    (let made : LeastWorks table s.number (l.0 + 1) w.0 =
    record {
      sender = s;
      among = among;
      named = refl;
      place = l.0;
      counted = omega arith;
      sends = l.1;
      stands = l.2;
      nearest = above_nearest (λ n. with_least s.number l.0 n table) l.1.least w.0 lesser w.1;
    } in made)

mode_works : (table : Table) (mode : Mode) (a : Advice) → IsTrue (is_valid table) → is_accepted (verdict_of table) ≡ false → table.mode ≡ mode
    → In a (advices_in mode table) → AdviceWorks table a
mode_works table Aperiodic a valid refused m i =
    let sync : List Advice = option_to_list (option_map Synchronization (greater_synchronization table)) in
    let gaps : List Advice = flat_map (gap_advice table) (turn_order table) in
    let lines : List Advice = flat_map (least_advices table) (turn_order table) in
    let interval : List Advice = option_to_list (option_map Interval (lesser_interval table)) in
    let periodic : List Advice = option_to_list (option_map AsPeriodic (periodic_interval table)) in
    elim (in_append_cases (((interval ++ sync) ++ gaps) ++ lines) periodic a i) [
      | inr l ↦
          (let w = in_option AsPeriodic (periodic_interval table) a l in
          subst (λ x. AdviceWorks table x) (sym w.2) (periodic_nearest table w.0 valid refused m w.1))
      | inl h ↦ elim (in_append_cases ((interval ++ sync) ++ gaps) lines a h) [
        | inr l ↦
            (let w = in_flat (least_advices table) (turn_order table) a l in
            line_works table w.0 a valid m refused (from_sort (turn_key table.mode) table.senders w.0 w.1) w.2)
        | inl j ↦ elim (in_append_cases (interval ++ sync) gaps a j) [
          | inr l ↦
              (let w = in_flat (gap_advice table) (turn_order table) a l in
              gap_works table w.0 a valid m refused (from_sort (turn_key table.mode) table.senders w.0 w.1) w.2)
          | inl k ↦ elim (in_append_cases interval sync a k) [
            | inl l ↦
                (let w = in_option Interval (lesser_interval table) a l in
                subst (λ x. AdviceWorks table x) (sym w.2)
                (below_nearest (λ n. with_interval n table) table.ti w.0 (λ n low. interval_refused table n m refused low) w.1))
            | inr l ↦
                (let w = in_option Synchronization (greater_synchronization table) a l in
                subst (λ x. AdviceWorks table x) (sym w.2)
                (above_nearest (λ n. with_synchronization n table) table.sg w.0 (λ n high. sync_refused table n m refused high) w.1))
          ]
        ]
      ]
    ]
mode_works table Periodic a valid refused m i =
    let plan : List Advice = option_to_list (option_map Plan (planned_interval table)) in
    elim (in_append_cases (option_to_list (option_map Interval (greater_interval table))) plan a i) [
      | inl j ↦
          (let w = in_option Interval (greater_interval table) a j in
          subst (λ x. AdviceWorks table x) (sym w.2)
          (above_nearest (λ n. with_interval n table) table.ti w.0 (λ n high. shorter_refused table n m refused high) w.1))
      | inr j ↦
          (let w = in_option Plan (planned_interval table) a j in
          subst (λ x. AdviceWorks table x) (sym w.2) (plan_nearest table w.0 valid m w.1))
    ]

start_works : (table : Table) (a : Advice) → In a (start_advices table) → AdviceWorks table a
start_works table a i =
    (elim (lacks_start table.mode table) as (λ b. lacks_start table.mode table ≡ b
    → In a (cond b (option_to_list (option_map Start (starting_interval table))) []) → AdviceWorks table a) [
      | true ↦ λ e j.
          (let w = in_option Start (starting_interval table) a j in
          subst (λ x. AdviceWorks table x) (sym w.2) (start_greatest table w.0 e w.1))
      | false ↦ λ e j. absurd j
    ]) refl i

pub all_work : (table : Table) (a : Advice) → IsTrue (is_valid table) → In a (advices_of table) → AdviceWorks table a
all_work table a valid i =
    (elim (is_accepted (verdict_of table)) as (λ b. is_accepted (verdict_of table) ≡ b
    → In a (cond b (start_advices table) (advices_in table.mode table)) → AdviceWorks table a) [
      | true ↦ λ e j. start_works table a j
      | false ↦ λ e j. mode_works table table.mode a valid e refl j
    ]) refl i
