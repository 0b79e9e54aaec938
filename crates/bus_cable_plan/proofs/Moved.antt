-- Gaps of a table at other offsets have the least interval, where that is known.
use Rattle.std.proofs.Common.{◌≡◌, ◌≢◌, ℕ, ◌+◌, ◌-◌, ◌<◌, ◌≤◌, true, List, [], ◌∷◌, ◌++◌, length, ◌⊎◌, inl, inr, arith, refl, sym, ap, ◌∙◌, subst}
use Rattle.std.specs.Prelude.{IsTrue}
use Rattle.std.specs.List.{sum_by}
use Rattle.std.proofs.lemmas.List.Sums.{sum_by-cons}
use Rattle.bus_strings.specs.Members.{In}
use Rattle.bus_table.specs.Tables.{Sender, Table}
use Rattle.bus_table.specs.Offsets.{at_offset, at_offsets, with_offsets}
use Rattle.bus_table.specs.Turns.{turn_key, turn_order}
use Rattle.bus_table.specs.Valid.{is_valid}
use Rattle.bus_table.specs.inside.Orders.{Differ}
use Rattle.bus_table.proofs.TurnLaws.{from_sort, sum_sort, length-sort, numbers_differ, gaps_differ}
use Rattle.bus_table.proofs.ValidLaws.{valid_facts}
use Rattle.bus_regime.specs.Gaps.{Gap}
use Rattle.bus_plan.proofs.Moved.{length-at_offsets}
use Rattle.bus_cable_plan.specs.Plans.{turn_time, turns_for, least_in_order}
use Rattle.bus_cable_plan.specs.inside.Lists.{Apart, AreNear, total, IsNext, HasEnough, gaps_hold}
use Rattle.bus_cable_plan.specs.inside.Orders.{AreModest, AreOf}
use Rattle.bus_cable_plan.proofs.ByGap.{sum_offsets}
use Rattle.bus_cable_plan.proofs.InOrder.{modest_one, from_offsets, differ_offsets}
use Rattle.bus_cable_plan.proofs.Lower.{enough_of, of_length, all_in_order, two_enough}
use Rattle.bus_cable_plan.proofs.Matching.{from_of, of_apart}
use Rattle.bus_cable_plan.proofs.Needs.{AreNearOnes, AllReachIt, two_least}
use Rattle.bus_cable_plan.proofs.Orders.{sort_differ}
use Rattle.bus_cable_plan.proofs.Turning.{apart_right}

-- a sender of the table stands among those at other offsets
pub in_offsets : (offsets : List ℕ) (ss : List Sender) (s : Sender) → In s ss
    → (x : Sender) × In x (at_offsets offsets ss) × (x.number ≡ s.number) × (x.tg ≡ s.tg)
in_offsets [] ss s i = (s, i, refl, refl)
in_offsets (at ∷ offsets) [] s i = absurd i
in_offsets (at ∷ offsets) (t ∷ ss) s (inl e) =
    (at_offset at t, inl refl, ap (λ (y : Sender). y.number) (sym e), ap (λ (y : Sender). y.tg) (sym e))
in_offsets (at ∷ offsets) (t ∷ ss) s (inr i) = let w = in_offsets offsets ss s i in (w.0, inr w.1, w.2, w.3)

pub next_apart : (f g : Gap) (gs : List Gap) → Apart gs → IsNext f g gs → f.sender.number ≢ g.sender.number
next_apart f g gs apart (inl n) =
    (apart_right n.0 (f ∷ g ∷ n.1) (subst Apart n.2 apart)).0 g (inl refl)
next_apart f g gs apart (inr n) = λ same. (subst Apart n.1 apart).0 f (last n.0) (sym same) where
  last : (z : List Gap) → In f (z ++ f ∷ [])
  last [] = inl refl
  last (y ∷ z) = inr (last z)

-- ---- the table's senders at other offsets, in their turn order
module _ (table : Table) (valid : IsTrue (is_valid table)) (offsets : List ℕ) where
  moved : List Sender
  moved = at_offsets offsets table.senders

  pub moved_member : (s : Sender) → In s (turn_order (with_offsets offsets table))
      → (x : Sender) × In x table.senders × (s.number ≡ x.number) × (s.tg ≡ x.tg)
  moved_member s i = from_offsets offsets table.senders s (from_sort (turn_key table.mode) (at_offsets offsets table.senders) s i)

  pub moved_differ : Differ (λ s. s.number) (turn_order (with_offsets offsets table))
  moved_differ =
      sort_differ (turn_key table.mode) (λ s. s.number) (at_offsets offsets table.senders)
      (differ_offsets offsets table.senders (numbers_differ table (valid_facts table valid)))

  pub moved_sum : (f : Sender → ℕ) → ((at : ℕ) (s : Sender) → f (at_offset at s) ≡ f s)
      → sum_by f (turn_order (with_offsets offsets table)) ≡ sum_by f table.senders
  moved_sum f same = sum_sort f (turn_key table.mode) (at_offsets offsets table.senders) ∙ sum_offsets f same offsets table.senders

  pub moved_length : length (turn_order (with_offsets offsets table)) ≡ length table.senders
  moved_length = length-sort (turn_key table.mode) (at_offsets offsets table.senders) ∙ length-at_offsets offsets table.senders

  pub moved_modest : AreModest (turn_order (with_offsets offsets table))
  moved_modest s i =
      let w = moved_member s i in
      let m = modest_one table (valid_facts table valid) w.0 w.1 in
      let number = m.number_most in
      let least = m.tg_least in
      let most = m.tg_most in
      let e = w.2 in
      let f = w.3 in
      record { number_most = omega (arith, number, e); tg_least = omega (arith, least, f); tg_most = omega (arith, most, f) }

  pub moved_near : (d : ℕ) → AreNearOnes d table.sg table.senders → AreNearOnes d table.sg (turn_order (with_offsets offsets table))
  moved_near d near s i = let w = moved_member s i in let k = near w.0 w.1 in let e = w.3 in omega (arith, k, e)

  module _ (gs : List Gap) (of : AreOf gs (turn_order (with_offsets offsets table))) (d : ℕ) (hold : gaps_hold d table.sg gs ≡ true) where
    pub gs_apart : Apart gs
    gs_apart = of_apart gs (turn_order (with_offsets offsets table)) of moved_differ

    pub gs_near : AreNearOnes d table.sg table.senders → AreNear d table.sg gs
    gs_near near g i =
        let w = from_of gs (turn_order (with_offsets offsets table)) of g i in
        let least = (moved_modest w.0 w.1).tg_least in
        let short = moved_near d near w.0 w.1 in
        let tg = w.2 in
        (omega (arith, least, tg), omega (arith, short, tg))

    -- where none reaches it they have enough
    pub gs_enough : 0 < length table.senders → AreNearOnes d table.sg table.senders → HasEnough d table.sg gs
    gs_enough some near =
        let n = of_length gs (turn_order (with_offsets offsets table)) of in
        let m = moved_length in
        enough_of d table.sg gs (omega (arith, n, m, some)) gs_apart (gs_near near) hold

    -- so do two senders
    pub gs_two : length table.senders ≡ 2 → (table.sg ≤ total d gs) ⊎ (sum_by (λ s. table.sg - (s.tg + d)) table.senders ≤ total d gs)
    gs_two two =
        by_gaps gs (turn_order (with_offsets offsets table)) of gs_apart moved_modest hold (moved_length ∙ two)
        (moved_sum (λ s. table.sg - (s.tg + d)) (λ at s. refl)) where
          by_gaps : (gaps : List Gap) (order : List Sender) → AreOf gaps order → Apart gaps → AreModest order → gaps_hold d table.sg gaps ≡ true
              → length order ≡ 2 → sum_by (λ s. table.sg - (s.tg + d)) order ≡ sum_by (λ s. table.sg - (s.tg + d)) table.senders
              → (table.sg ≤ total d gaps) ⊎ (sum_by (λ s. table.sg - (s.tg + d)) table.senders ≤ total d gaps)
          by_gaps gaps [] o a m h n e = absurd (omega (arith, n))
          by_gaps gaps (s ∷ []) o a m h n e = absurd (omega (arith, n))
          by_gaps gaps (s ∷ t ∷ u ∷ order) o a m h n e = absurd (omega (arith, n))
          by_gaps [] (s ∷ t ∷ []) o a m h n e = absurd o
          by_gaps (x ∷ []) (s ∷ t ∷ []) o a m h n e = absurd o.2
          by_gaps (x ∷ y ∷ z ∷ gaps) (s ∷ t ∷ []) o a m h n e = absurd o.2.2
          by_gaps (x ∷ y ∷ []) (s ∷ t ∷ []) o a m h n e =
              let f : Sender → ℕ = λ r. table.sg - (r.tg + d) in
              let one = sum_by-cons f s (t ∷ []) in
              let two = sum_by-cons f t [] in
              let none : sum_by f [] ≡ 0 = refl in
              let p = o.0 in
              let q = o.2.0 in
              let ms = (m s (inl refl)).tg_least in
              let mt = (m t (inr (inl refl))).tg_least in
              elim (two_enough d table.sg x y (a.0 y (inl refl)) (omega (arith, ms, p)) (omega (arith, mt, q)) h) [
                | inl k ↦ inl k
                | inr k ↦ inr (omega (arith, k, one, two, none, p, q, e))
              ]

-- ---- the least interval in the turn order of a table that has the senders of another at some offsets
module _ (table : Table) (valid : IsTrue (is_valid table)) (d : ℕ) (places : List ℕ) (valid_at : IsTrue (is_valid (with_offsets places table)))
    (many : 1 < length table.senders) where
  at_many : 1 < length (at_offsets places table.senders)
  at_many = let k = length-at_offsets places table.senders in omega (arith, k, many)

  turns_at : turns_for d (with_offsets places table) ≡ turns_for d table
  turns_at = sum_offsets (turn_time d) (λ at s. refl) places table.senders

  pub reach_at : AllReachIt d table.sg table.senders → least_in_order d (with_offsets places table) ≤ turns_for d table
  reach_at reach =
      let k = all_in_order d (with_offsets places table) (valid_facts (with_offsets places table) valid_at) at_many (λ s i.
      let w = from_offsets places table.senders s i in let r = reach w.0 w.1 in let e = w.3 in omega (arith, r, e)) in
      let t = turns_at in
      omega (arith, k, t)

  pub two_at : length table.senders ≡ 2 → (total : ℕ)
      → (table.sg ≤ total) ⊎ (sum_by (λ s. table.sg - (s.tg + d)) table.senders ≤ total)
      → least_in_order d (with_offsets places table) ≤ turns_for d table + total
  two_at two total h =
      by_senders (at_offsets places table.senders) refl (length-at_offsets places table.senders ∙ two)
      (sum_offsets (λ s. table.sg - (s.tg + d)) (λ at s. refl) places table.senders) where
        by_senders : (ss : List Sender) → at_offsets places table.senders ≡ ss → length ss ≡ 2
            → sum_by (λ s. table.sg - (s.tg + d)) (at_offsets places table.senders) ≡ sum_by (λ s. table.sg - (s.tg + d)) table.senders
            → least_in_order d (with_offsets places table) ≤ turns_for d table + total
        by_senders [] is n e = absurd (omega (arith, n))
        by_senders (s ∷ []) is n e = absurd (omega (arith, n))
        by_senders (s ∷ t ∷ u ∷ ss) is n e = absurd (omega (arith, n))
        by_senders (s ∷ t ∷ []) is n e =
            let f : Sender → ℕ = λ r. table.sg - (r.tg + d) in
            let same = ap (sum_by f) is in
            let one = sum_by-cons f s (t ∷ []) in
            let other = sum_by-cons f t [] in
            let none : sum_by f [] ≡ 0 = refl in
            let turns = turns_at in
            let enough : (table.sg ≤ total) ⊎ ((table.sg - (s.tg + d)) + (table.sg - (t.tg + d)) ≤ total) = elim h [
              | inl k ↦ inl k
              | inr k ↦ inr (omega (arith, k, same, one, other, none, e))
            ] in
            let k = two_least d (with_offsets places table) total s t is
            (gaps_differ (with_offsets places table) (valid_facts (with_offsets places table) valid_at)) enough in
            omega (arith, k, turns)
