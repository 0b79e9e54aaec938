-- Senders laid out one behind the other: they rise, they fill the interval, and the gaps before them are as long as they were to be.
use Rattle.std.specs.Prelude.{◌≡◌, ◌≢◌, ℕ, ◌+◌, ◌-◌, ◌<◌, ◌≤◌, false, min, ◌==◌, List, [], ◌∷◌, map}
use Rattle.std.specs.List.{sum_by}
use Rattle.std.proofs.Common.{inl, inr, arith, refl, ap, ◌∙◌, cond, subst}
use Rattle.std.proofs.lemmas.Bool.{eq-eqb}
use Rattle.std.proofs.lemmas.Bool.Decides.{nat_tests}
use Rattle.std.proofs.lemmas.List.Sums.{sum_by-cons}
use Rattle.bus_table.specs.declared.mode.Mode.TheVariants.{Periodic}
use Rattle.bus_strings.specs.Members.{In}
use Rattle.bus_table.specs.Tables.{Sender}
use Rattle.bus_table.specs.inside.Orders.{Rises, Differ}
use Rattle.bus_table.specs.Lengths.{longest}
use Rattle.bus_table.specs.Turns.{turn_key}
use Rattle.bus_table.specs.Offsets.{at_offset}
use Rattle.bus_table.proofs.TurnLaws.{rises_behind}
use Rattle.bus_regime.specs.Gaps.{Gap, gaps_from, last_end}
use Rattle.bus_plan.specs.Plans.{offset_in}
use Rattle.bus_cable_plan.specs.Plans.{behind, laid_out}
use Rattle.bus_cable_plan.specs.inside.Orders.{AreModest, AreOf}

-- a gap and the longest message behind it
abbrev pub time : (Sender → ℕ) → Sender → ℕ
time gap s = gap s + longest s

key_less : (a b : Sender) → a.number ≤ 128 → a.at < b.at → (turn_key Periodic) a < (turn_key Periodic) b
key_less a b h k = omega (arith, h, k)

-- a sender at the offset that stands under its number
abbrev pub placed : List Sender → Sender → Sender
placed plan s = at_offset (offset_in plan s.number) s

module _ (gap : Sender → ℕ) (same : (at : ℕ) (s : Sender) → gap (at_offset at s) ≡ gap s) where
  -- no gap is empty
  abbrev AreSome : List Sender → Type 0
  AreSome ss = (s : Sender) → In s ss → 0 < gap s

  pub behind_in : (end rest : ℕ) (ss : List Sender) → AreSome ss → AreModest ss → (x : Sender) → In x (behind gap end rest ss)
      → (end < x.at) × (x.at ≤ end + sum_by (time gap) ss + rest) × (x.number ≤ 128)
  behind_in end rest [] some m x i = absurd i
  behind_in end rest (s ∷ ss) some m x (inl e) =
      let at : x.at ≡ end + (gap s + min rest 1) = ap (λ (y : Sender). y.at) e in
      let number : x.number ≡ s.number = ap (λ (y : Sender). y.number) e in
      let least = some s (inl refl) in
      let most = (m s (inl refl)).number_most in
      let sum = sum_by-cons (time gap) s ss in
      (omega (arith, at, least), omega (arith, at, sum), omega (arith, number, most))
  behind_in end rest (s ∷ ss) some m x (inr i) =
      let later = behind_in (end + (gap s + min rest 1) + longest s) (rest - 1) ss (λ y j. some y (inr j)) (λ y j. m y (inr j)) x i in
      let low = later.0 in
      let high = later.1 in
      let sum = sum_by-cons (time gap) s ss in
      (omega (arith, low), omega (arith, high, sum), later.2)

  behind_rises : (end rest : ℕ) (ss : List Sender) → AreSome ss → AreModest ss → Rises (turn_key Periodic) (behind gap end rest ss)
  behind_rises end rest [] some m = tt
  behind_rises end rest (s ∷ ss) some m =
      let at : ℕ = end + (gap s + min rest 1) in
      let some_rest = λ (y : Sender) (j : In y ss). some y (inr j) in
      let m_rest = λ (y : Sender) (j : In y ss). m y (inr j) in (
        rises_behind (turn_key Periodic) (at_offset at s) (behind gap (at + longest s) (rest - 1) ss)
            (λ x i. let later = (behind_in (at + longest s) (rest - 1) ss some_rest m_rest x i).0 in
            key_less (at_offset at s) x (m s (inl refl)).number_most (omega (arith, later))),
        behind_rises (at + longest s) (rest - 1) ss some_rest m_rest,
      )

  behind_end : (end rest : ℕ) (ss : List Sender) → last_end end (behind gap end rest ss) ≤ end + sum_by (time gap) ss + rest
  behind_end end rest [] = omega arith
  behind_end end rest (s ∷ ss) =
      let later = behind_end (end + (gap s + min rest 1) + longest s) (rest - 1) ss in
      let sum = sum_by-cons (time gap) s ss in
      omega (arith, later, sum)

  behind_gap : (ti end rest : ℕ) (ss : List Sender) (g : Gap) → In g (gaps_from ti (ti + end) (behind gap end rest ss))
      → g.from + gap g.sender ≤ g.to
  behind_gap ti end rest [] g i = absurd i
  behind_gap ti end rest (s ∷ ss) g (inl e) =
      let from : g.from ≡ ti + end = ap (λ (x : Gap). x.from) e in
      let to : g.to ≡ ti + (end + (gap s + min rest 1)) = ap (λ (x : Gap). x.to) e in
      let wide : gap g.sender ≡ gap s = ap (λ (x : Gap). gap x.sender) e ∙ same (end + (gap s + min rest 1)) s in
      omega (arith, from, to, wide)
  behind_gap ti end rest (s ∷ ss) g (inr i) = behind_gap ti (end + (gap s + min rest 1) + longest s) (rest - 1) ss g i

  behind_of : (ti from end rest : ℕ) (ss : List Sender) → AreOf (gaps_from ti from (behind gap end rest ss)) ss
  behind_of ti from end rest [] = tt
  behind_of ti from end rest (s ∷ ss) =
      let at : ℕ = end + (gap s + min rest 1) in
      (refl, refl, behind_of ti (ti + (at + longest s)) (at + longest s) (rest - 1) ss)

  -- ---- from the first on
  pub laid_rises : (rest : ℕ) (ss : List Sender) → AreSome ss → AreModest ss → Rises (turn_key Periodic) (laid_out gap rest ss)
  laid_rises rest [] some m = tt
  laid_rises rest (a ∷ ss) some m =
      let some_rest = λ (y : Sender) (j : In y ss). some y (inr j) in
      let m_rest = λ (y : Sender) (j : In y ss). m y (inr j) in (
        rises_behind (turn_key Periodic) (at_offset 0 a) (behind gap (longest a) (rest - 1) ss)
            (λ x i. let later = (behind_in (longest a) (rest - 1) ss some_rest m_rest x i).0 in
            key_less (at_offset 0 a) x (m a (inl refl)).number_most (omega (arith, later))),
        behind_rises (longest a) (rest - 1) ss some_rest m_rest,
      )

  pub laid_of : (ti from rest : ℕ) (ss : List Sender) → AreOf (gaps_from ti from (laid_out gap rest ss)) ss
  laid_of ti from rest [] = tt
  laid_of ti from rest (a ∷ ss) = (refl, refl, behind_of ti (ti + (0 + longest a)) (longest a) (rest - 1) ss)

  pub laid_gap : (ti rest : ℕ) (ss : List Sender) → sum_by (time gap) ss + rest ≤ ti → (g : Gap)
      → In g (gaps_from ti (last_end 0 (laid_out gap rest ss)) (laid_out gap rest ss)) → g.from + gap g.sender ≤ g.to
  laid_gap ti rest [] h g i = absurd i
  laid_gap ti rest (a ∷ ss) h g (inl e) =
      let end = behind_end (longest a) (rest - 1) ss in
      let zero : 0 + longest a ≡ longest a = omega arith in
      let from : g.from ≡ last_end (longest a) (behind gap (longest a) (rest - 1) ss) =
      ap (λ (x : Gap). x.from) e ∙ ap (λ n. last_end n (behind gap (longest a) (rest - 1) ss)) zero in
      let to : g.to ≡ ti + 0 = ap (λ (x : Gap). x.to) e in
      let wide : gap g.sender ≡ gap a = ap (λ (x : Gap). gap x.sender) e ∙ same 0 a in
      let sum = sum_by-cons (time gap) a ss in
      omega (arith, end, from, to, wide, sum, h)
  laid_gap ti rest (a ∷ ss) h g (inr i) =
      let zero : 0 + longest a ≡ longest a = omega arith in
      behind_gap ti (longest a) (rest - 1) ss g
      (subst (λ n. In g (gaps_from ti (ti + n) (behind gap (longest a) (rest - 1) ss))) zero i)

  pub laid_below : (ti rest : ℕ) (ss : List Sender) → 0 < ti → AreSome ss → AreModest ss → sum_by (time gap) ss + rest ≤ ti
      → (x : Sender) → In x (laid_out gap rest ss) → x.at < ti
  laid_below ti rest [] some_ti some m h x i = absurd i
  laid_below ti rest (a ∷ ss) some_ti some m h x (inl e) = let at : x.at ≡ 0 = ap (λ (y : Sender). y.at) e in omega (arith, at, some_ti)
  laid_below ti rest (a ∷ ss) some_ti some m h x (inr i) =
      let at = (behind_in (longest a) (rest - 1) ss (λ y j. some y (inr j)) (λ y j. m y (inr j)) x i).1 in
      let least = some a (inl refl) in
      let sum = sum_by-cons (time gap) a ss in
      omega (arith, at, least, sum, h)

  -- ---- each sender finds its offset by its number
  behind_placed : (plan : List Sender) (end rest : ℕ) (ss : List Sender)
      → map (placed plan) (behind gap end rest ss) ≡ map (placed plan) ss
  behind_placed plan end rest [] = refl
  behind_placed plan end rest (s ∷ ss) =
      ap (λ l. placed plan s ∷ l) (behind_placed plan (end + (gap s + min rest 1) + longest s) (rest - 1) ss)

  pub laid_placed : (plan : List Sender) (rest : ℕ) (ss : List Sender) → map (placed plan) (laid_out gap rest ss) ≡ map (placed plan) ss
  laid_placed plan rest [] = refl
  laid_placed plan rest (a ∷ ss) = ap (λ l. placed plan a ∷ l) (behind_placed plan (longest a) (rest - 1) ss)

  behind_from : (end rest : ℕ) (ss : List Sender) (x : Sender) → In x (behind gap end rest ss)
      → (s : Sender) × In s ss × (x.number ≡ s.number)
  behind_from end rest [] x i = absurd i
  behind_from end rest (s ∷ ss) x (inl e) = (s, inl refl, ap (λ (y : Sender). y.number) e)
  behind_from end rest (s ∷ ss) x (inr i) =
      let w = behind_from (end + (gap s + min rest 1) + longest s) (rest - 1) ss x i in (w.0, inr w.1, w.2)

  behind_differ : (end rest : ℕ) (ss : List Sender) → Differ (λ s. s.number) ss → Differ (λ s. s.number) (behind gap end rest ss)
  behind_differ end rest [] d = tt
  behind_differ end rest (s ∷ ss) d =
      let at : ℕ = end + (gap s + min rest 1) in (
        (λ x i k. (let w = behind_from (at + longest s) (rest - 1) ss x i in d.0 w.0 w.1 (k ∙ w.2))),
        behind_differ (at + longest s) (rest - 1) ss d.1,
      )

  pub laid_differ : (rest : ℕ) (ss : List Sender) → Differ (λ s. s.number) ss → Differ (λ s. s.number) (laid_out gap rest ss)
  laid_differ rest [] d = tt
  laid_differ rest (a ∷ ss) d = (
    (λ x i k. (let w = behind_from (longest a) (rest - 1) ss x i in d.0 w.0 w.1 (k ∙ w.2))),
    behind_differ (longest a) (rest - 1) ss d.1,
  )

-- ---- a plan whose numbers differ
other_first : (y : Sender) (plan zs : List Sender) → ((z : Sender) → In z zs → y.number ≢ z.number)
    → map (placed (y ∷ plan)) zs ≡ map (placed plan) zs
other_first y plan [] apart = refl
other_first y plan (z ∷ zs) apart =
    let no : (y.number == z.number) ≡ false = (let h : y.number ≢ z.number = apart z (inl refl) in grind (arith, nat_tests)) in
    ap (λ b. at_offset (cond b y.at (offset_in plan z.number)) z ∷ map (placed (y ∷ plan)) zs) no
    ∙ ap (λ l. placed plan z ∷ l) (other_first y plan zs (λ w i. apart w (inr i)))

pub placed_same : (plan : List Sender) → Differ (λ s. s.number) plan → map (placed plan) plan ≡ plan
placed_same [] d = refl
placed_same (y ∷ plan) d =
    ap (λ b. at_offset (cond b y.at (offset_in plan y.number)) y ∷ map (placed (y ∷ plan)) plan) (eq-eqb y.number y.number refl)
    ∙ ap (λ l. y ∷ l) (other_first y plan plan d.0 ∙ placed_same plan d.1)
