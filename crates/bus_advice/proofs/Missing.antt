-- No advice is missing.
use Rattle.std.specs.Prelude.{◌≡◌, ℕ, zero, suc, ◌+◌, ◌<◌, ◌≤◌, true, false, IsTrue, List, [], ◌∷◌, ◌++◌, Option, Some, None, slice_get}
use Rattle.std.specs.List.{flat_map}
use Rattle.std.specs.Option.{option_map, option_to_list}
use Rattle.std.proofs.Common.{inl, inr, arith, sym, refl, ap, ◌∙◌, cond, subst}
use Rattle.bus_strings.specs.Members.{In}
use Rattle.bus_strings.proofs.MemberLaws.{in_append_left, in_append_right}
use Rattle.bus_table.specs.declared.mode.Mode.{Mode}
use Rattle.bus_table.specs.declared.mode.Mode.TheVariants.{Aperiodic, Periodic}
use Rattle.bus_table.specs.declared.line.SendLine.{SendLine}
use Rattle.bus_table.specs.Periodic.{as_periodic}
use Rattle.bus_table.specs.Tables.{Sender, Table}
use Rattle.bus_table.specs.Offsets.{with_offsets}
use Rattle.bus_table.specs.Turns.{turn_key, turn_order}
use Rattle.bus_table.specs.Valid.{is_valid}
use Rattle.bus_table.proofs.ValidLaws.{valid_facts}
use Rattle.bus_table.proofs.TurnLaws.{in_sort}
use Rattle.bus_regime.specs.Verdicts.{verdict_of, is_accepted}
use Rattle.bus_plan.specs.Plans.{planned_table}
use Rattle.bus_plan.proofs.Moved.{accepted_long}
use Rattle.bus_advice.specs.declared.advice.Advice.{Advice}
use Rattle.bus_advice.specs.declared.advice.Advice.TheVariants.{Interval, Synchronization, Gap, Least, Plan, AsPeriodic, Start}
use Rattle.bus_advice.specs.Changes.{with_interval, with_synchronization, with_gap, with_least}
use Rattle.bus_advice.specs.Search.{least_above, greatest_below}
use Rattle.bus_advice.specs.Advices.{works, lesser_interval, greater_interval, greater_synchronization, planned_interval, periodic_interval}
use Rattle.bus_advice.specs.Advices.{starts, starting_interval, lacks_start, start_advices}
use Rattle.bus_advice.specs.Advices.{gap_advice, line_advice, line_advices, least_advices, advices_in, advices_of}
use Rattle.bus_advice.specs.Laws.{AreComplete, StartIsAdvised}
use Rattle.bus_advice.proofs.Searches.{least_there, below_there, beyond, short_of}
use Rattle.bus_advice.proofs.CycleChange.{working_valid, working_accepted, interval_refused, sync_refused}
use Rattle.bus_advice.proofs.GapChange.{gap_most, gap_refused}
use Rattle.bus_advice.proofs.LineChange.{least_most, least_refused}
use Rattle.bus_advice.proofs.Widening.{shorter_refused}
use Rattle.bus_advice.proofs.Planning.{plan_works, periodic_of}
use Rattle.bus_advice.proofs.StartChange.{starts_below}

-- ---- members
some_in : (make : ℕ → Advice) (o : Option ℕ) (n : ℕ) → o ≡ Some n → In (make n) (option_to_list (option_map make o))
some_in make None n e = absurd (cc)
some_in make (Some m) n e = inl (ap make (let same : n ≡ m = cc in same))

flat_in : {X : Type 0} (f : X → List Advice) (xs : List X) (x : X) (a : Advice) → In x xs → In a (f x) → In a (flat_map f xs)
flat_in f [] x a i j = absurd i
flat_in f (y ∷ ys) x a (inl e) j = in_append_left (f y) (flat_map f ys) a (subst (λ z. In a (f z)) e j)
flat_in f (y ∷ ys) x a (inr i) j = in_append_right (f y) (flat_map f ys) a (flat_in f ys x a i j)

line_in : (table : Table) (terminal place k : ℕ) (lines : List SendLine) (line : SendLine) (a : Advice) → slice_get lines k ≡ Some line
    → In a (line_advice table terminal (place + k) line) → In a (line_advices table terminal place lines)
line_in table terminal place k [] line a at i = absurd (let w : None ≡ Some line = at in cc)
line_in table terminal place zero (l ∷ lines) line a at i =
    let same : line ≡ l = (let w : Some l ≡ Some line = at in cc) in
    let here : place + 0 ≡ place = omega arith in
    in_append_left (line_advice table terminal place l) (line_advices table terminal (suc place) lines) a
    (subst (λ x. In a (line_advice table terminal place x)) same (subst (λ p. In a (line_advice table terminal p line)) here i))
line_in table terminal place (suc k) (l ∷ lines) line a at i =
    let here : place + suc k ≡ suc place + k = omega arith in
    in_append_right (line_advice table terminal place l) (line_advices table terminal (suc place) lines) a
    (line_in table terminal (suc place) k lines line a at (subst (λ p. In a (line_advice table terminal p line)) here i))

-- ---- where one works, there is an advice of its kind
above_in : (make : ℕ → Advice) (change : ℕ → Table) (own n : ℕ) → own < n → n ≤ 128000 → works (change n) ≡ true
    → (best : ℕ) × In (make best) (option_to_list (option_map make (least_above (λ k. works (change k)) own)))
above_in make change own n low high helps =
    let found = least_there (λ k. works (change k)) (own + 1) n (omega arith) high helps in
    (found.0, some_in make (least_above (λ k. works (change k)) own) found.0 found.1)

below_in : (make : ℕ → Advice) (change : ℕ → Table) (own n : ℕ) → n < own → works (change n) ≡ true
    → (best : ℕ) × In (make best) (option_to_list (option_map make (greatest_below (λ k. works (change k)) own)))
below_in make change own n low helps =
    let found = below_there (λ k. works (change k)) own n low helps in
    (found.0, some_in make (greatest_below (λ k. works (change k)) own) found.0 found.1)

-- ---- by modes
refused_are : (table : Table) (mode : Mode) → is_accepted (verdict_of table) ≡ false → table.mode ≡ mode → advices_in mode table ≡ advices_of table
refused_are table mode refused m =
    ap (λ k. advices_in k table) (sym m) ∙ sym (ap (λ b. cond b (start_advices table) (advices_in table.mode table)) refused)

module _ (table : Table) (valid : IsTrue (is_valid table)) (refused : is_accepted (verdict_of table) ≡ false) where
  abbrev interval : List Advice
  interval = option_to_list (option_map Interval (lesser_interval table))

  abbrev sync : List Advice
  sync = option_to_list (option_map Synchronization (greater_synchronization table))

  abbrev gaps : List Advice
  gaps = flat_map (gap_advice table) (turn_order table)

  abbrev lines : List Advice
  lines = flat_map (least_advices table) (turn_order table)

  abbrev periodic : List Advice
  periodic = option_to_list (option_map AsPeriodic (periodic_interval table))

  -- one that stands before the last in aperiodic mode
  in_first : (a : Advice) → table.mode ≡ Aperiodic → In a (((interval ++ sync) ++ gaps) ++ lines) → In a (advices_of table)
  in_first a m i = subst (λ l. In a l) (refused_are table Aperiodic refused m) (in_append_left (((interval ++ sync) ++ gaps) ++ lines) periodic a i)

  in_all : (a : Advice) (mode : Mode) → table.mode ≡ mode → In a (advices_in mode table) → In a (advices_of table)
  in_all a mode m i = subst (λ l. In a l) (refused_are table mode refused m) i

  in_turn : (s : Sender) → In s table.senders → In s (turn_order table)
  in_turn s i = in_sort (turn_key table.mode) table.senders s i

  interval_there : (mode : Mode) → table.mode ≡ mode → (n : ℕ) → works (with_interval n table) ≡ true
      → (best : ℕ) × In (Interval best) (advices_of table)
  interval_there Aperiodic m n helps =
      let low = short_of (λ k. works (with_interval k table)) table.ti n helps (λ k least. interval_refused table k m refused least) in
      let b = below_in Interval (λ k. with_interval k table) table.ti n low helps in (
        b.0,
        in_first (Interval b.0) m
            (in_append_left ((interval ++ sync) ++ gaps) lines _ (in_append_left (interval ++ sync) gaps _ (in_append_left interval sync _ b.1))),
      )
  interval_there Periodic m n helps =
      let low = beyond (λ k. works (with_interval k table)) table.ti n helps (λ k high. shorter_refused table k m refused high) in
      let most = (valid_facts (with_interval n table) (working_valid (with_interval n table) helps)).ti_most in
      let b = above_in Interval (λ k. with_interval k table) table.ti n low most helps in (
        b.0,
        in_all (Interval b.0) Periodic m
            (in_append_left (option_to_list (option_map Interval (greater_interval table))) (option_to_list (option_map Plan (planned_interval table))) _ b.1),
      )

  pub none_missing : AreComplete table (advices_of table)
  none_missing = record {
    interval = λ n helps. interval_there table.mode refl n helps;
    synchronization = λ m n helps.
        let low = beyond (λ k. works (with_synchronization k table)) table.sg n helps (λ k high. sync_refused table k m refused high) in
        let most = (valid_facts (with_synchronization n table) (working_valid (with_synchronization n table) helps)).sg_most in
        let b = above_in Synchronization (λ k. with_synchronization k table) table.sg n low (omega (arith, most)) helps in (
          b.0,
          in_first (Synchronization b.0) m
              (in_append_left ((interval ++ sync) ++ gaps) lines _ (in_append_left (interval ++ sync) gaps _ (in_append_right interval sync _ b.1))),
        );
    gap = λ m s n i helps.
        let low = beyond (λ k. works (with_gap s.number k table)) s.tg n helps (λ k high. gap_refused table s k valid m refused i high) in
        let most = gap_most table s n valid m i low helps in
        let b = above_in (Gap s.number) (λ k. with_gap s.number k table) s.tg n low (omega (arith, most)) helps in (
          b.0,
          in_first (Gap s.number b.0) m
              (in_append_left ((interval ++ sync) ++ gaps) lines _
              (in_append_right (interval ++ sync) gaps _ (flat_in (gap_advice table) (turn_order table) s _ (in_turn s i) b.1))),
        );
    least = λ m s place line n i at helps.
        let low = beyond (λ k. works (with_least s.number place k table)) line.least n helps
        (λ k high. least_refused table s place k line valid m refused i at high) in
        let most = least_most table s place n line valid m i at helps in
        let b = above_in (Least s.number (place + 1)) (λ k. with_least s.number place k table) line.least n low (omega (arith, most)) helps in
        let same : place ≡ 0 + place = omega arith in (
          b.0,
          in_first (Least s.number (place + 1) b.0) m
              (in_append_right ((interval ++ sync) ++ gaps) lines _
              (flat_in (least_advices table) (turn_order table) s _ (in_turn s i)
              (line_in table s.number 0 place s.sends line _ at
              (subst (λ p. In (Least s.number (place + 1) b.0) (line_advice table s.number p line)) same b.1)))),
        );
    offsets = λ m n offsets low helps.
        let made : Table = with_offsets offsets (with_interval n table) in
        let most = (valid_facts made (working_valid made helps)).ti_most in
        let enough = accepted_long (with_interval n table) offsets m (valid_facts table valid).some (working_accepted made helps) in
        let found = least_there (λ k. works (planned_table (with_interval k table))) table.ti n low most
        (plan_works table n valid m low most enough) in (
          found.0,
          in_all (Plan found.0) Periodic m
              (in_append_right (option_to_list (option_map Interval (greater_interval table))) (option_to_list (option_map Plan (planned_interval table))) _
              (some_in Plan (planned_interval table) found.0 found.1)),
        );
    periodic = λ m n offsets low helps.
        let made : Table = with_offsets offsets (as_periodic n table) in
        let most = (valid_facts made (working_valid made helps)).ti_most in
        let enough = accepted_long (as_periodic n table) offsets refl (valid_facts table valid).some (working_accepted made helps) in
        let found = least_there (λ k. works (planned_table (as_periodic k table))) table.ti n low most
        (plan_works (as_periodic table.ti table) n (periodic_of table valid m) refl low most enough) in (
          found.0,
          in_all (AsPeriodic found.0) Aperiodic m
              (in_append_right (((interval ++ sync) ++ gaps) ++ lines) periodic _ (some_in AsPeriodic (periodic_interval table) found.0 found.1)),
        );
  }

-- nor is a start
pub start_there : (table : Table) → IsTrue (is_accepted (verdict_of table)) → StartIsAdvised table (advices_of table)
start_there table accepted lacks n good =
    let found = below_there (λ k. starts (with_interval k table)) table.ti n (starts_below table n lacks good) good in
    let all : option_to_list (option_map Start (starting_interval table)) ≡ advices_of table =
    sym (ap (λ b. cond b (option_to_list (option_map Start (starting_interval table))) []) lacks)
    ∙ sym (ap (λ b. cond b (start_advices table) (advices_in table.mode table)) accepted) in
    (found.0, subst (λ l. In (Start found.0) l) all (some_in Start (starting_interval table) found.0 found.1))
