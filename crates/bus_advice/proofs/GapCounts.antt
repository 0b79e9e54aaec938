-- Which gaps of a list are wide, told by how many are, where no two are of senders with the same number.
use Rattle.std.specs.Prelude.{◌≡◌, ◌≢◌, ℕ, ◌+◌, ◌≤◌, Bool, true, false, List, [], ◌∷◌}
use Rattle.std.specs.List.{count_by}
use Rattle.std.proofs.Common.{inl, inr, arith, sym, refl, ap, ◌∙◌}
use Rattle.std.proofs.lemmas.Bool.{cases_eq}
use Rattle.std.proofs.lemmas.List.Sums.{sum_by-cons}
use Rattle.bus_strings.specs.Members.{In}
use Rattle.bus_regime.specs.Gaps.{Gap}
use Rattle.bus_regime.proofs.Counting.{HaveOwnSenders, one_if}

module _ (wide : Gap → Bool) where
  pub counted_yes : (g : Gap) (gaps : List Gap) → wide g ≡ true → count_by wide (g ∷ gaps) ≡ 1 + count_by wide gaps
  counted_yes g gaps e =
      let one : one_if (wide g) ≡ 1 = ap one_if e in
      omega (arith, sum_by-cons (λ h. one_if (wide h)) g gaps, one)

  pub counted_no : (g : Gap) (gaps : List Gap) → wide g ≡ false → count_by wide (g ∷ gaps) ≡ count_by wide gaps
  counted_no g gaps e =
      let none : one_if (wide g) ≡ 0 = ap one_if e in
      omega (arith, sum_by-cons (λ h. one_if (wide h)) g gaps, none)

  -- where some are counted there is one
  pub some_counted : (gaps : List Gap) → 1 ≤ count_by wide gaps → (g : Gap) × In g gaps × (wide g ≡ true)
  some_counted [] h = absurd (let none : count_by wide [] ≡ 0 = refl in omega (arith, h, none))
  some_counted (g ∷ gaps) h =
      (elim (wide g) as (λ b. wide g ≡ b → (x : Gap) × In x (g ∷ gaps) × (wide x ≡ true)) [
        | true ↦ λ e. (g, inl refl, e)
        | false ↦ λ e. (let same = counted_no g gaps e in
            let w = some_counted gaps (omega (arith, h, same)) in (w.0, inr w.1, w.2))
      ]) refl

  -- one that is there is counted
  pub counted_some : (gaps : List Gap) (g : Gap) → In g gaps → wide g ≡ true → 1 ≤ count_by wide gaps
  counted_some [] g i e = absurd i
  counted_some (x ∷ gaps) g (inl same) e = let one = counted_yes x gaps (ap wide (sym same) ∙ e) in omega (arith, one)
  counted_some (x ∷ gaps) g (inr i) e =
      let rest = counted_some gaps g i e in
      (elim (wide x) as (λ b. wide x ≡ b → 1 ≤ count_by wide (x ∷ gaps)) [
        | true ↦ λ w. (let one = counted_yes x gaps w in omega (arith, one))
        | false ↦ λ w. (let one = counted_no x gaps w in omega (arith, one, rest))
      ]) refl

  -- two of different senders are both counted
  pub counted_two : (gaps : List Gap) (g h : Gap) → In g gaps → In h gaps → g.sender.number ≢ h.sender.number → wide g ≡ true → wide h ≡ true
      → 2 ≤ count_by wide gaps
  counted_two [] g h i j apart e k = absurd i
  counted_two (x ∷ gaps) g h (inl p) (inl q) apart e k = absurd (apart (ap (λ (y : Gap). y.sender.number) (p ∙ sym q)))
  counted_two (x ∷ gaps) g h (inl p) (inr j) apart e k =
      let one = counted_yes x gaps (ap wide (sym p) ∙ e) in
      let rest = counted_some gaps h j k in omega (arith, one, rest)
  counted_two (x ∷ gaps) g h (inr i) (inl q) apart e k =
      let one = counted_yes x gaps (ap wide (sym q) ∙ k) in
      let rest = counted_some gaps g i e in omega (arith, one, rest)
  counted_two (x ∷ gaps) g h (inr i) (inr j) apart e k =
      let rest = counted_two gaps g h i j apart e k in
      (elim (wide x) as (λ b. wide x ≡ b → 2 ≤ count_by wide (x ∷ gaps)) [
        | true ↦ λ w. (let one = counted_yes x gaps w in omega (arith, one, rest))
        | false ↦ λ w. (let one = counted_no x gaps w in omega (arith, one, rest))
      ]) refl

  -- where two are counted there is one of another sender than this one
  pub other_counted : (gaps : List Gap) (n : ℕ) → HaveOwnSenders gaps → 2 ≤ count_by wide gaps
      → (g : Gap) × In g gaps × (g.sender.number ≢ n) × (wide g ≡ true)
  other_counted [] n own h = absurd (let none : count_by wide [] ≡ 0 = refl in omega (arith, h, none))
  other_counted (x ∷ gaps) n own h =
      elim (cases_eq x.sender.number n) [
        | inl same ↦
            (let rest : 1 ≤ count_by wide gaps =
            (elim (wide x) as (λ b. wide x ≡ b → 1 ≤ count_by wide gaps) [
              | true ↦ λ w. (let one = counted_yes x gaps w in omega (arith, one, h))
              | false ↦ λ w. (let one = counted_no x gaps w in omega (arith, one, h))
            ]) refl in
            let w = some_counted gaps rest in
            (w.0, inr w.1, (λ e. own.0 w.0 w.1 (e ∙ sym same)), w.2))
        | inr apart ↦
            (elim (wide x) as (λ b. wide x ≡ b → (g : Gap) × In g (x ∷ gaps) × (g.sender.number ≢ n) × (wide g ≡ true)) [
              | true ↦ λ w. (x, inl refl, apart, w)
              | false ↦ λ w. (let one = counted_no x gaps w in
                  let r = other_counted gaps n own.1 (omega (arith, one, h)) in (r.0, inr r.1, r.2, r.3))
            ]) refl
      ]

-- gaps of senders with the same number are the same
pub one_of_number : (gaps : List Gap) (g h : Gap) → HaveOwnSenders gaps → In g gaps → In h gaps → g.sender.number ≡ h.sender.number → g ≡ h
one_of_number [] g h own i j e = absurd i
one_of_number (x ∷ gaps) g h own (inl p) (inl q) e = p ∙ sym q
one_of_number (x ∷ gaps) g h own (inl p) (inr j) e = absurd (own.0 h j (sym e ∙ ap (λ (y : Gap). y.sender.number) p))
one_of_number (x ∷ gaps) g h own (inr i) (inl q) e = absurd (own.0 g i (e ∙ ap (λ (y : Gap). y.sender.number) q))
one_of_number (x ∷ gaps) g h own (inr i) (inr j) e = one_of_number gaps g h own.1 i j e
