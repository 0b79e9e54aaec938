-- Offsets that bear a delay leave the least interval for it, where that is known.
use Rattle.std.specs.Prelude.{◌≡◌, ◌≢◌, ℕ, ◌+◌, ◌*◌, ◌<◌, ◌≤◌, true, ◌||◌, ◌==◌, IsTrue, List, [], ◌∷◌, ◌++◌, length, map}
use Rattle.std.specs.List.{sum_by}
use Rattle.std.proofs.Common.{inl, inr, arith, sym, refl, ap, ◌∙◌, subst}
use Rattle.std.proofs.lemmas.Bool.{and_parts}
use Rattle.std.proofs.lemmas.Bool.Decides.{nat_tests}
use Rattle.bus_strings.specs.Members.{In}
use Rattle.bus_table.specs.declared.mode.Mode.TheVariants.{Periodic}
use Rattle.bus_table.specs.Tables.{Sender, Table}
use Rattle.bus_table.specs.Offsets.{with_offsets}
use Rattle.bus_table.specs.Turns.{turn_key, turn_order}
use Rattle.bus_table.specs.Valid.{is_valid}
use Rattle.bus_table.specs.inside.Orders.{Differ}
use Rattle.bus_table.proofs.TurnLaws.{from_sort, numbers_differ}
use Rattle.bus_table.proofs.ValidLaws.{valid_facts}
use Rattle.bus_regime.specs.Gaps.{Gap, gaps, gaps_from, last_end}
use Rattle.bus_plan.proofs.Moved.{length-at_offsets}
use Rattle.bus_cable_plan.specs.Shapes.{greatest_pair}
use Rattle.bus_cable_plan.specs.Plans.{turn_time, turns_for, least_in_order, least_interval_for, by_gap, offsets_by_gap}
use Rattle.bus_cable_plan.specs.Known.{is_known, none_reach, all_reach}
use Rattle.bus_cable_plan.specs.Laws as laws
use Rattle.bus_cable_plan.specs.Laws.{AreBorne}
use Rattle.bus_cable_plan.specs.Shares.{gaps_hold}
use Rattle.bus_cable_plan.specs.inside.Lists.{AreWide, total, want, IsNext, HasEnough}
use Rattle.bus_cable_plan.specs.inside.Orders.{AreOf}
use Rattle.bus_cable_plan.proofs.ByGap.{sum_offsets, gap_offsets, by_gap_valid, by_gap_length, top_pair}
use Rattle.bus_cable_plan.proofs.Filling.{fill}
use Rattle.bus_cable_plan.proofs.InOrder.{from_offsets}
use Rattle.bus_cable_plan.proofs.Lower.{near_of, reach_of, near_bound, two_wants, near_in_order}
use Rattle.bus_cable_plan.proofs.Matching.{of_gaps, from_of, of_wants}
use Rattle.bus_cable_plan.proofs.Moved.{in_offsets, next_apart, moved_member, moved_sum, moved_length, gs_apart, gs_enough, gs_two, reach_at, two_at}
use Rattle.bus_cable_plan.proofs.Needs.{AreNearOnes, IsEnough}
use Rattle.bus_cable_plan.proofs.Pairs.{both}
use Rattle.bus_cable_plan.proofs.Ring.{all_wide}
use Rattle.bus_cable_plan.proofs.Outcome.{or_cases, to_gaps, planned_bears}

-- ---- gaps that bear d have the least interval for it
next_in : (f g : Gap) (gs : List Gap) → IsNext f g gs → In f gs × In g gs
next_in f g gs (inl n) = (subst (λ l. In f l) (sym n.2) (first n.0), subst (λ l. In g l) (sym n.2) (second n.0)) where
  first : (x : List Gap) → In f (x ++ f ∷ g ∷ n.1)
  first [] = inl refl
  first (z ∷ x) = inr (first x)

  second : (x : List Gap) → In g (x ++ f ∷ g ∷ n.1)
  second [] = inr (inl refl)
  second (z ∷ x) = inr (second x)
next_in f g gs (inr n) = (subst (λ l. In f l) (sym n.1) (inr (last n.0)), subst (λ l. In g l) (sym n.1) (inl refl)) where
  last : (z : List Gap) → In f (z ++ f ∷ [])
  last [] = inl refl
  last (y ∷ z) = inr (last z)

module _ (d : ℕ) (table : Table) (valid : IsTrue (is_valid table)) (mode : table.mode ≡ Periodic) (several : 1 < length table.senders)
    (offsets : List ℕ) (gs : List Gap) (of : AreOf gs (turn_order (with_offsets offsets table))) (hold : gaps_hold d table.sg gs ≡ true) where
  pub near_gap : AreNearOnes d table.sg table.senders → least_interval_for d table ≤ turns_for d table + total d gs
  near_gap near =
      let ordered : Table = by_gap table in
      let facts = valid_facts ordered (by_gap_valid table valid mode) in
      let many = by_gap_length table in
      let turns = sum_offsets (turn_time d) (λ at s. refl) (gap_offsets table) table.senders in
      let k = near_bound d ordered facts (omega (arith, many, several)) (λ s i.
      let w = from_offsets (gap_offsets table) table.senders s i in let n = near w.0 w.1 in let e = w.3 in omega (arith, n, e))
      (total d gs) (told near (gs_enough table valid offsets gs of d hold (omega (arith, several)) near)) in
      omega (arith, k, turns)
    where
      pair : AreNearOnes d table.sg table.senders → (x y : Gap) → In x gs → In y gs → x.sender.number ≢ y.sender.number
          → 2 + d + want d table.sg x.sender + want d table.sg y.sender ≤ total d gs
          → 2 * table.sg ≤ total d gs + both (greatest_pair (turn_order (by_gap table))) + d
      pair near x y i j differ h =
          let p = from_of gs (turn_order (with_offsets offsets table)) of x i in
          let q = from_of gs (turn_order (with_offsets offsets table)) of y j in
          let p1 = moved_member table valid offsets p.0 p.1 in
          let q1 = moved_member table valid offsets q.0 q.1 in
          let p2 = in_offsets (gap_offsets table) table.senders p1.0 p1.1 in
          let q2 = in_offsets (gap_offsets table) table.senders q1.0 q1.1 in
          let most = top_pair table valid mode p2.0 q2.0 p2.1 q2.1
          (λ same. differ (p.3 ∙ p1.2 ∙ sym p2.2 ∙ same ∙ q2.2 ∙ sym q1.2 ∙ sym q.3)) in
          let np = near p1.0 p1.1 in
          let nq = near q1.0 q1.1 in
          let tp = p.2 in
          let tp1 = p1.3 in
          let tp2 = p2.3 in
          let tq = q.2 in
          let tq1 = q1.3 in
          let tq2 = q2.3 in
          let k = two_wants d table.sg p1.0 q1.0 np nq (total d gs) (omega (arith, h, tp, tp1, tq, tq1)) in
          omega (arith, k, most, tp2, tq2)

      told : AreNearOnes d table.sg table.senders → HasEnough d table.sg gs → IsEnough d (by_gap table) (total d gs)
      told near (inl one) = inl one
      told near (inr (inl all)) =
          let w = of_wants d table.sg gs (turn_order (with_offsets offsets table)) of in
          let s = moved_sum table valid offsets (want d table.sg) (λ at s. refl) in
          let t = sum_offsets (want d table.sg) (λ at s. refl) (gap_offsets table) table.senders in
          inr (inl (omega (arith, all, w, s, t)))
      told near (inr (inr (inl c))) =
          let ins = next_in c.first c.second gs c.next in
          inr (inr (inl (pair near c.first c.second ins.0 ins.1
          (next_apart c.first c.second gs (gs_apart table valid offsets gs of d hold) c.next) c.enough)))
      told near (inr (inr (inr c))) =
          let e = c.enough in
          inr (inr (inl (pair near c.first c.second c.first_in c.second_in c.apart (omega (arith, e)))))

  -- whatever is known
  pub known_gaps : is_known d table ≡ true → least_interval_for d table ≤ turns_for d table + total d gs
  known_gaps known = elim (or_cases (length table.senders == 2) (none_reach d table || all_reach d table) known) [
    | inl two ↦
        let n : length table.senders ≡ 2 = grind (arith, nat_tests, two) in
        two_at table valid d (gap_offsets table) (by_gap_valid table valid mode) several n (total d gs) (gs_two table valid offsets gs of d hold n)
    | inr rest ↦ elim (or_cases (none_reach d table) (all_reach d table) rest) [
      | inl none ↦ near_gap (near_of d table.sg table.senders none)
      | inr all ↦
          let k = reach_at table valid d (gap_offsets table) (by_gap_valid table valid mode) several (reach_of d table.sg table.senders all) in
          omega (arith, k)
    ]
  ]

  -- and in the turn order of the table, where they are in that
  pub known_in_order : is_known d table ≡ true → AreOf gs (turn_order table) → least_in_order d table ≤ turns_for d table + total d gs
  known_in_order known here = elim (or_cases (length table.senders == 2) (none_reach d table || all_reach d table) known) [
    | inl two ↦
        let n : length table.senders ≡ 2 = grind (arith, nat_tests, two) in
        two_at table valid d [] valid several n (total d gs) (gs_two table valid offsets gs of d hold n)
    | inr rest ↦ elim (or_cases (none_reach d table) (all_reach d table) rest) [
      | inl none ↦
          let near = near_of d table.sg table.senders none in
          near_in_order d table (valid_facts table valid) several near gs here
          (gs_enough table valid offsets gs of d hold (omega (arith, several)) near)
      | inr all ↦ let k = reach_at table valid d [] valid several (reach_of d table.sg table.senders all) in omega (arith, k)
    ]
  ]

-- ---- the gaps fill the interval
filled_order : (d ti : ℕ) (order : List Sender) → 0 < length order → AreWide d (gaps_from ti (last_end 0 order) order)
    → sum_by (turn_time d) order + total d (gaps_from ti (last_end 0 order) order) ≡ ti
filled_order d ti [] some wide = absurd (omega (arith, some))
filled_order d ti (s ∷ ss) some wide = fill d ti s ss wide

pub filled : (d : ℕ) (table : Table) (valid : IsTrue (is_valid table)) (offsets : List ℕ) → 0 < length table.senders
    → AreWide d (gaps (with_offsets offsets table)) → turns_for d table + total d (gaps (with_offsets offsets table)) ≡ table.ti
filled d table valid offsets some wide =
    let n = moved_length table valid offsets in
    let k = filled_order d table.ti (turn_order (with_offsets offsets table)) (omega (arith, n, some)) wide in
    let m = moved_sum table valid offsets (turn_time d) (λ at s. refl) in
    omega (arith, k, m)

pub borne_has_least : laws.BorneHasLeast
borne_has_least d table offsets valid mode several known borne =
    let moved : Table = with_offsets offsets table in
    let long = length-at_offsets offsets table.senders in
    let hold = to_gaps moved d mode (omega (arith, several, long)) borne in
    let full = filled d table valid offsets (omega (arith, several)) (all_wide d (gaps moved) (and_parts _ _ hold).0) in
    let least = known_gaps d table valid mode several offsets (gaps moved) (of_gaps table.ti (last_end 0 (turn_order moved)) (turn_order moved))
    hold known in
    omega (arith, full, least)

pub feasible_for_exactly : laws.FeasibleForExactly
feasible_for_exactly d table valid mode several known = (
  (λ h. (offsets_by_gap d table, planned_bears d table valid mode several h)),
  (λ w. borne_has_least d table w.0 valid mode several known w.1.borne),
)

pub borne_fits_turns : laws.BorneFitsTurns
borne_fits_turns d table offsets valid mode several borne =
    let moved : Table = with_offsets offsets table in
    let long = length-at_offsets offsets table.senders in
    let hold = to_gaps moved d mode (omega (arith, several, long)) borne in
    let full = filled d table valid offsets (omega (arith, several)) (all_wide d (gaps moved) (and_parts _ _ hold).0) in
    omega (arith, full)

-- ---- the same turn order
differ_same : (ss : List Sender) (x y : Sender) → Differ (λ s. s.number) ss → In x ss → In y ss → x.number ≡ y.number → x ≡ y
differ_same [] x y d i j e = absurd i
differ_same (s ∷ ss) x y d (inl p) (inl q) e = p ∙ sym q
differ_same (s ∷ ss) x y d (inl p) (inr q) e = absurd (d.0 y q (sym (ap (λ (z : Sender). z.number) p) ∙ e))
differ_same (s ∷ ss) x y d (inr p) (inl q) e = absurd (d.0 x p (sym (ap (λ (z : Sender). z.number) q) ∙ sym e))
differ_same (s ∷ ss) x y d (inr p) (inr q) e = differ_same ss x y d.1 p q e

abbrev heads : List ℕ → ℕ
heads [] = 0
heads (n ∷ ns) = n

abbrev tails : List ℕ → List ℕ
tails [] = []
tails (n ∷ ns) = ns

of_renumbered : (gs : List Gap) (one two : List Sender) → AreOf gs one
    → map (λ (s : Sender). s.number) one ≡ map (λ (s : Sender). s.number) two
    → ((s t : Sender) → In s one → In t two → s.number ≡ t.number → s.tg ≡ t.tg) → AreOf gs two
of_renumbered [] [] [] of e same = tt
of_renumbered [] [] (t ∷ two) of e same = absurd (let k = ap length e in omega (arith, k))
of_renumbered [] (s ∷ one) two of e same = absurd of
of_renumbered (g ∷ gs) [] two of e same = absurd of
of_renumbered (g ∷ gs) (s ∷ one) [] of e same = absurd (let k = ap length e in omega (arith, k))
of_renumbered (g ∷ gs) (s ∷ one) (t ∷ two) of e same =
    let number : s.number ≡ t.number = ap heads e in (
      of.0 ∙ same s t (inl refl) (inl refl) number,
      of.1 ∙ number,
      of_renumbered gs one two of.2 (ap tails e) (λ a b i j. same a b (inr i) (inr j)),
    )

-- gaps before the senders in an order that is kept
pub of_kept : (table : Table) (offsets : List ℕ) → IsTrue (is_valid table)
    → map (λ (s : Sender). s.number) (turn_order (with_offsets offsets table)) ≡ map (λ (s : Sender). s.number) (turn_order table)
    → (gs : List Gap) → AreOf gs (turn_order (with_offsets offsets table)) → AreOf gs (turn_order table)
of_kept table offsets valid order_same gs of =
    of_renumbered gs (turn_order (with_offsets offsets table)) (turn_order table) of order_same (λ s t i j e.
    let w = moved_member table valid offsets s i in
    let there = from_sort (turn_key table.mode) table.senders t j in
    let one = differ_same table.senders w.0 t (numbers_differ table (valid_facts table valid)) w.1 there (sym w.2 ∙ e) in
    w.3 ∙ ap (λ (x : Sender). x.tg) one)

pub borne_in_order : laws.BorneInOrder
borne_in_order d table offsets valid mode several known order_same borne =
    let moved : Table = with_offsets offsets table in
    let long = length-at_offsets offsets table.senders in
    let hold = to_gaps moved d mode (omega (arith, several, long)) borne in
    let full = filled d table valid offsets (omega (arith, several)) (all_wide d (gaps moved) (and_parts _ _ hold).0) in
    let of = of_gaps table.ti (last_end 0 (turn_order moved)) (turn_order moved) in
    let here = of_kept table offsets valid order_same (gaps moved) of in
    let least = known_in_order d table valid mode several offsets (gaps moved) of hold known here in
    omega (arith, full, least)
