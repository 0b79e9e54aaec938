-- The table in the order of its terminal gaps.
use Rattle.std.specs.Prelude.{◌≡◌, ◌≢◌, ℕ, ◌+◌, ◌-◌, ◌<◌, ◌≤◌, IsTrue, List, [], ◌∷◌, length, map}
use Rattle.std.specs.List.{sum_by}
use Rattle.std.proofs.Common.{inl, inr, arith, sym, refl, ap, ◌∙◌, subst}
use Rattle.std.proofs.lemmas.List.Sums.{sum_by-cons}
use Rattle.bus_strings.specs.Members.{In}
use Rattle.bus_table.specs.declared.mode.Mode.{Mode}
use Rattle.bus_table.specs.declared.mode.Mode.TheVariants.{Periodic}
use Rattle.bus_table.specs.Tables.{Sender, Table}
use Rattle.bus_table.specs.Offsets.{at_offset, at_offsets, with_offsets}
use Rattle.bus_table.specs.Ranges.{most_tg}
use Rattle.bus_table.specs.Turns.{turn_key, turn_order}
use Rattle.bus_table.specs.Valid.{is_valid}
use Rattle.bus_table.specs.inside.Orders.{Rises}
use Rattle.bus_table.proofs.OffsetLaws.{kept_valid}
use Rattle.bus_table.proofs.TurnLaws.{from_sort, in_sort, order_rises, behind_rises}
use Rattle.bus_table.proofs.ValidLaws.{valid_facts}
use Rattle.bus_plan.proofs.Moved.{length-at_offsets}
use Rattle.bus_cable_plan.specs.Shapes.{greatest_pair}
use Rattle.bus_cable_plan.specs.Plans.{by_gap}
use Rattle.bus_cable_plan.specs.inside.Orders.{IsModest}
use Rattle.bus_cable_plan.proofs.InOrder.{modest_one}
use Rattle.bus_cable_plan.proofs.Pairs.{both, greatest_is_most}

-- offsets anew
pub offsets_again : (xs ys : List ℕ) (ss : List Sender) → length xs ≡ length ss → at_offsets xs (at_offsets ys ss) ≡ at_offsets xs ss
offsets_again xs [] ss h = refl
offsets_again xs (y ∷ ys) [] h = refl
offsets_again [] (y ∷ ys) (s ∷ ss) h = absurd (omega (arith, h))
offsets_again (x ∷ xs) (y ∷ ys) (s ∷ ss) h = ap (λ l. at_offset x s ∷ l) (offsets_again xs ys ss (omega (arith, h)))

-- sums that don't look at offsets
pub sum_offsets : (f : Sender → ℕ) → ((at : ℕ) (s : Sender) → f (at_offset at s) ≡ f s) → (offsets : List ℕ) (ss : List Sender)
    → sum_by f (at_offsets offsets ss) ≡ sum_by f ss
sum_offsets f same [] ss = refl
sum_offsets f same (at ∷ offsets) [] = refl
sum_offsets f same (at ∷ offsets) (s ∷ ss) =
    let one = sum_by-cons f (at_offset at s) (at_offsets offsets ss) in
    let two = sum_by-cons f s ss in
    let here = same at s in
    let rest = sum_offsets f same offsets ss in
    omega (arith, one, two, here, rest)

abbrev pub gap_offsets : Table → List ℕ
gap_offsets table = map (λ (s : Sender). most_tg - s.tg) table.senders

pub below_gap : (ti : ℕ) → 256 < ti → (ss : List Sender) (n : ℕ) → In n (map (λ (s : Sender). most_tg - s.tg) ss) → n < ti
below_gap ti h [] n i = absurd i
below_gap ti h (s ∷ ss) n (inl e) = omega (arith, e, h)
below_gap ti h (s ∷ ss) n (inr i) = below_gap ti h ss n i

pub by_gap_valid : (table : Table) → IsTrue (is_valid table) → table.mode ≡ Periodic → IsTrue (is_valid (by_gap table))
by_gap_valid table valid mode =
    let facts = valid_facts table valid in
    let least = facts.ti_least in
    kept_valid table (gap_offsets table) valid mode (below_gap table.ti (omega (arith, least)) table.senders)

pub by_gap_length : (table : Table) → length (by_gap table).senders ≡ length table.senders
by_gap_length table = length-at_offsets (gap_offsets table) table.senders

-- what is planned for it is planned for the table
pub with_again : (table : Table) (offsets : List ℕ) → length offsets ≡ length table.senders
    → with_offsets offsets (by_gap table) ≡ with_offsets offsets table
with_again table offsets h =
    ap (λ (l : List Sender). record { mode = table.mode; ti = table.ti; sg = table.sg; senders = l; listeners = table.listeners })
    (offsets_again offsets (gap_offsets table) table.senders h)

-- each stands at what its terminal gap leaves of the greatest
gap_at : (ss : List Sender) (x : Sender) → In x (at_offsets (map (λ (s : Sender). most_tg - s.tg) ss) ss) → x.at ≡ most_tg - x.tg
gap_at [] x i = absurd i
gap_at (s ∷ ss) x (inl e) =
    let at : x.at ≡ most_tg - s.tg = ap (λ (y : Sender). y.at) e in
    let tg : x.tg ≡ s.tg = ap (λ (y : Sender). y.tg) e in
    omega (arith, at, tg)
gap_at (s ∷ ss) x (inr i) = gap_at ss x i

-- a lesser key in it is no lesser terminal gap
key_tg : (a b : Sender) → IsModest a → IsModest b → a.at ≡ most_tg - a.tg → b.at ≡ most_tg - b.tg → (turn_key Periodic) a < (turn_key Periodic) b
    → b.tg ≤ a.tg
key_tg a b m n h k less =
    let p = m.number_most in
    let q = n.number_most in
    let r = m.tg_most in
    let s = n.tg_most in
    omega (arith, p, q, r, s, h, k, less)

-- so its first two have the two greatest
module _ (table : Table) (valid : IsTrue (is_valid table)) (mode : table.mode ≡ Periodic) where
  behind_less : (a b : Sender) → In a (turn_order (by_gap table)) → In b (turn_order (by_gap table))
      → (turn_key table.mode) a < (turn_key table.mode) b → b.tg ≤ a.tg
  behind_less a b i j less =
      let facts = valid_facts (by_gap table) (by_gap_valid table valid mode) in
      let p = from_sort (turn_key table.mode) (by_gap table).senders a i in
      let q = from_sort (turn_key table.mode) (by_gap table).senders b j in
      key_tg a b (modest_one (by_gap table) facts a p) (modest_one (by_gap table) facts b q)
      (gap_at table.senders a p) (gap_at table.senders b q)
      (subst (λ (m : Mode). (turn_key m) a < (turn_key m) b) mode less)

  first_two : (order : List Sender) → turn_order (by_gap table) ≡ order → Rises (turn_key table.mode) order → (x y : Sender) → In x order → In y order
      → x.number ≢ y.number → x.tg + y.tg ≤ both (greatest_pair order)
  first_two [] is rises x y i j differ = absurd i
  first_two (a ∷ []) is rises x y (inl e) (inl f) differ = absurd (differ (ap (λ (s : Sender). s.number) (e ∙ sym f)))
  first_two (a ∷ []) is rises x y (inl e) (inr j) differ = absurd j
  first_two (a ∷ []) is rises x y (inr i) j differ = absurd i
  first_two (a ∷ b ∷ rest) is rises x y i j differ =
      let here : (s : Sender) → In s (a ∷ b ∷ rest) → In s (turn_order (by_gap table)) = λ s k. subst (λ l. In s l) (sym is) k in
      let most = greatest_is_most (a ∷ b ∷ rest) a b (inl ([], rest, refl)) in
      let below_a : (s : Sender) → In s (b ∷ rest) → s.tg ≤ a.tg = λ s k.
      behind_less a s (here a (inl refl)) (here s (inr k)) (behind_rises (turn_key table.mode) a (b ∷ rest) s rises.0 k) in
      let below_b : (s : Sender) → In s (b ∷ rest) → s.tg ≤ b.tg = λ s k. elim k [
        | inl e ↦ let same : s.tg ≡ b.tg = ap (λ (z : Sender). z.tg) e in omega (arith, same)
        | inr l ↦ behind_less b s (here b (inr (inl refl))) (here s (inr (inr l))) (behind_rises (turn_key table.mode) b rest s rises.1.0 l)
      ] in
      elim i [
        | inl e ↦
            let same : x.tg ≡ a.tg = ap (λ (z : Sender). z.tg) e in
            elim j [
              | inl f ↦ absurd (differ (ap (λ (s : Sender). s.number) (e ∙ sym f)))
              | inr l ↦ let k = below_b y l in omega (arith, same, most, k)
            ]
        | inr k ↦
            let one = below_b x k in
            elim j [
              | inl f ↦ let same : y.tg ≡ a.tg = ap (λ (z : Sender). z.tg) f in omega (arith, same, most, one)
              | inr l ↦ let two = below_a y l in omega (arith, one, two, most)
            ]
      ]

  pub top_pair : (x y : Sender) → In x (by_gap table).senders → In y (by_gap table).senders → x.number ≢ y.number
      → x.tg + y.tg ≤ both (greatest_pair (turn_order (by_gap table)))
  top_pair x y i j differ =
      first_two (turn_order (by_gap table)) refl (order_rises (by_gap table) (valid_facts (by_gap table) (by_gap_valid table valid mode))) x y
      (in_sort (turn_key table.mode) (by_gap table).senders x i) (in_sort (turn_key table.mode) (by_gap table).senders y j) differ
