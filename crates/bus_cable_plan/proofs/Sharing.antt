-- The greatest delay that is borne, and what the shares are good for.
use Rattle.std.specs.Prelude.{◌≡◌, ℕ, ◌+◌, ◌-◌, ◌*◌, ◌<◌, ◌≤◌, ◌⊎◌, true, nat_le, nat_lt, IsTrue, List, [], ◌∷◌, length, map}
use Rattle.std.proofs.Common.{inl, inr, arith, sym, refl, ap, ◌∙◌, subst}
use Rattle.std.proofs.lemmas.Bool.{leb-true, le-leb, ltb-true, true≢false, and_parts}
use Rattle.bus_strings.specs.Members.{In}
use Rattle.bus_table.specs.declared.mode.Mode.TheVariants.{Periodic}
use Rattle.bus_table.specs.Tables.{Sender, Table}
use Rattle.bus_table.specs.Offsets.{with_offsets}
use Rattle.bus_table.specs.Turns.{turn_order}
use Rattle.bus_table.specs.Valid.{is_valid}
use Rattle.bus_table.proofs.ValidLaws.{valid_facts}
use Rattle.bus_regime.specs.Gaps.{Gap, gaps, last_end}
use Rattle.bus_cable_plan.specs.Shapes.{gap_in, shape_of}
use Rattle.bus_cable_plan.specs.Plans.{turns_for, least_in_order, least_interval_for, share, offsets_in_order, offsets_by_gap}
use Rattle.bus_cable_plan.specs.Known.{is_known}
use Rattle.bus_cable_plan.specs.Answers.{fits}
use Rattle.bus_cable_plan.specs.Laws as laws
use Rattle.bus_cable_plan.specs.Laws.{AreBorne}
use Rattle.bus_cable_plan.specs.Shares.{gaps_hold, AreShorter}
use Rattle.bus_cable_plan.specs.inside.Lists.{AreWide, excess, total}
use Rattle.bus_cable_plan.specs.inside.Orders.{AreOf}
use Rattle.bus_cable_plan.proofs.InOrder as order
use Rattle.bus_cable_plan.proofs.InOrder.{from_offsets, order_bears, gaps_planned, plan_of_order, plan_gap, order_planned}
use Rattle.bus_cable_plan.proofs.Lower.{of_length}
use Rattle.bus_cable_plan.proofs.Matching.{of_gaps, from_of}
use Rattle.bus_cable_plan.proofs.Moved.{moved_length, moved_modest}
use Rattle.bus_cable_plan.proofs.Ring.{all_wide}
use Rattle.bus_cable_plan.proofs.Outcome.{or_cases, or_right, less_borne, order_is_planned, planned_bears}
use Rattle.bus_cable_plan.proofs.Bound.{known_gaps, known_in_order, of_kept, filled, borne_has_least, borne_fits_turns}

-- ---- the greatest delay
pub fits_cases : (d : ℕ) (table : Table) → fits d table ≡ true → (least_in_order d table ≤ table.ti) ⊎ (least_interval_for d table ≤ table.ti)
fits_cases d table h = elim (or_cases (nat_le (least_in_order d table) table.ti) (nat_le (least_interval_for d table) table.ti) h) [
  | inl k ↦ inl (leb-true (least_in_order d table) table.ti k)
  | inr k ↦ inr (leb-true (least_interval_for d table) table.ti k)
]

pub fitting_is_borne : laws.FittingIsBorne
fitting_is_borne d table valid mode several h e low = elim (fits_cases d table h) [
  | inl k ↦ (offsets_in_order d table, less_borne e d table (offsets_in_order d table) valid mode several low (order_is_planned d table valid mode several k))
  | inr k ↦ (offsets_by_gap d table, less_borne e d table (offsets_by_gap d table) valid mode several low (planned_bears d table valid mode several k))
]

pub refuted_is_not_borne : laws.RefutedIsNotBorne
refuted_is_not_borne d table valid mode several unfit refuted e low offsets borne =
    let b = less_borne d e table offsets valid mode several low borne in
    elim (or_cases (is_known d table) (nat_lt table.ti (turns_for d table)) refuted) [
      | inl known ↦
          let k = borne_has_least d table offsets valid mode several known b.borne in
          true≢false (sym (or_right (nat_le (least_in_order d table) table.ti) (nat_le (least_interval_for d table) table.ti)
          (le-leb (least_interval_for d table) table.ti k)) ∙ unfit)
      | inr short ↦
          let k = borne_fits_turns d table offsets valid mode several b.borne in
          let less : table.ti < turns_for d table = ltb-true table.ti (turns_for d table) short in
          absurd (omega (arith, k, less))
    ]

-- ---- shares
shorter_of : (n : ℕ) (hs gs : List Gap) (order : List Sender) → AreShorter n hs gs → AreOf gs order → AreOf hs order
shorter_of n [] [] order s of = of
shorter_of n [] (g ∷ gs) order s of = absurd s
shorter_of n (h ∷ hs) [] order s of = absurd s
shorter_of n (h ∷ hs) (g ∷ gs) [] s of = absurd of
shorter_of n (h ∷ hs) (g ∷ gs) (a ∷ order) s of = (
  ap (λ (x : Sender). x.tg) s.0 ∙ of.0,
  ap (λ (x : Sender). x.number) s.0 ∙ of.1,
  shorter_of n hs gs order s.2 of.2,
)

shorter_fit : (n : ℕ) (gap : Sender → ℕ) (hs gs : List Gap) → AreShorter n hs gs
    → ((g : Gap) → In g gs → g.from + (gap g.sender + n) ≤ g.to) → (h : Gap) → In h hs → h.from + gap h.sender ≤ h.to
shorter_fit n gap [] gs s fit h i = absurd i
shorter_fit n gap (x ∷ hs) [] s fit h i = absurd s
shorter_fit n gap (x ∷ hs) (g ∷ gs) s fit h (inl e) =
    let k = fit g (inl refl) in
    let same : gap x.sender ≡ gap g.sender = ap gap s.0 in
    let less = s.1 in
    let here : x.from + gap x.sender ≤ x.to = omega (arith, k, same, less) in
    subst (λ (y : Gap). y.from + gap y.sender ≤ y.to) (sym e) here
shorter_fit n gap (x ∷ hs) (g ∷ gs) s fit h (inr i) = shorter_fit n gap hs gs s.2 (λ y j. fit y (inr j)) h i

pub shared_bears : laws.SharedBears
shared_bears d table shorter valid mode several fits s =
    let facts = valid_facts table valid in
    let there : AreShorter (share d table) shorter (order.plan_gaps d table) =
    subst (AreShorter (share d table) shorter) (gaps_planned d table facts mode) s in
    order_bears d table facts several shorter
    (shorter_of (share d table) shorter (order.plan_gaps d table) (turn_order table) there (plan_of_order d table))
    (shorter_fit (share d table) (gap_in d (shape_of d table)) shorter (order.plan_gaps d table) there (λ g i.
    let k = plan_gap d table fits g i in omega (arith, k)))

-- each gap shorter by n
shortened : ℕ → List Gap → List Gap
shortened n [] = []
shortened n (g ∷ gs) = record { sender = g.sender; from = g.from; to = g.to - n } ∷ shortened n gs

shortened_shorter : (n : ℕ) (gs : List Gap) → AreShorter n (shortened n gs) gs
unfolding shortened
shortened_shorter n [] = tt
shortened_shorter n (g ∷ gs) = (refl, (let k : g.to + g.from ≤ (g.to - n) + g.from + n = omega arith in k), shortened_shorter n gs)

shortened_total : (d n : ℕ) (gs : List Gap) → ((g : Gap) → In g gs → 0 < g.sender.tg) → AreWide d (shortened n gs)
    → (total d gs ≡ total d (shortened n gs) + n * length gs) × AreWide d gs
unfolding shortened
shortened_total d n [] some wide = (omega arith, (λ g i. absurd i))
shortened_total d n (g ∷ gs) some wide =
    let first = wide (record { sender = g.sender; from = g.from; to = g.to - n }) (inl refl) in
    let least = some g (inl refl) in
    let rest = shortened_total d n gs (λ x i. some x (inr i)) (λ x i. wide x (inr i)) in
    let sum = rest.0 in
    let here : g.from + (g.sender.tg + d) ≤ g.to = omega (arith, first, least) in
    let one : excess d g ≡ g.to - n - (g.from + g.sender.tg + d) + n = omega (arith, first, least) in (
      omega (arith, one, sum),
      (λ x i. elim i [
        | inl e ↦ subst (λ (y : Gap). y.from + (y.sender.tg + d) ≤ y.to) (sym e) here
        | inr j ↦ rest.1 x j
      ]),
    )

-- offsets that bear d where each gap is shorter by n
module _ (d n : ℕ) (table : Table) (offsets : List ℕ) (valid : IsTrue (is_valid table)) (mode : table.mode ≡ Periodic)
    (several : 1 < length table.senders)
    (every : (shorter : List Gap) → AreShorter n shorter (gaps (with_offsets offsets table)) → IsTrue (gaps_hold d table.sg shorter)) where
  abbrev moved : Table
  moved = with_offsets offsets table

  abbrev hs : List Gap
  hs = shortened n (gaps moved)

  hs_shorter : AreShorter n hs (gaps moved)
  hs_shorter = shortened_shorter n (gaps moved)

  hs_hold : gaps_hold d table.sg hs ≡ true
  hs_hold = every hs hs_shorter

  gs_of : AreOf (gaps moved) (turn_order moved)
  gs_of = of_gaps table.ti (last_end 0 (turn_order moved)) (turn_order moved)

  hs_of : AreOf hs (turn_order moved)
  hs_of = shorter_of n hs (gaps moved) (turn_order moved) hs_shorter gs_of

  -- they leave the turns, what the shorter gaps have beyond them, and n for each sender
  leave : turns_for d table + total d hs + n * length table.senders ≡ table.ti
  leave =
      let parts = shortened_total d n (gaps moved) (λ g i.
      let w = from_of (gaps moved) (turn_order moved) gs_of g i in
      let least = (moved_modest table valid offsets w.0 w.1).tg_least in
      let tg = w.2 in
      omega (arith, least, tg)) (all_wide d hs (and_parts _ _ hs_hold).0) in
      let sum = parts.0 in
      let full = filled d table valid offsets (omega (arith, several)) parts.1 in
      let same : n * length (gaps moved) ≡ n * length table.senders =
      ap (λ (k : ℕ). n * k) (of_length (gaps moved) (turn_order moved) gs_of ∙ moved_length table valid offsets) in
      omega (arith, full, sum, same)

  none_more : is_known d table ≡ true → least_interval_for d table + n * length table.senders ≤ table.ti
  none_more known =
      let least = known_gaps d table valid mode several offsets hs hs_of hs_hold known in
      let all = leave in
      omega (arith, least, all)

  none_more_in_order : is_known d table ≡ true
      → map (λ (s : Sender). s.number) (turn_order moved) ≡ map (λ (s : Sender). s.number) (turn_order table)
      → least_in_order d table + n * length table.senders ≤ table.ti
  none_more_in_order known same =
      let here = of_kept table offsets valid same hs hs_of in
      let least = known_in_order d table valid mode several offsets hs hs_of hs_hold known here in
      let all = leave in
      omega (arith, least, all)

pub none_share_more : laws.NoneShareMore
none_share_more d n table offsets valid mode several known every = none_more d n table offsets valid mode several every known

pub none_share_more_in_order : laws.NoneShareMoreInOrder
none_share_more_in_order d n table offsets valid mode several known same every =
    none_more_in_order d n table offsets valid mode several every known same
