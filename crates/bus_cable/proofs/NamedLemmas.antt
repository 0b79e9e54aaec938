-- What is named for terminals: one after another, and by terminal.
use Rattle.std.proofs.Common.{arith, ◌≡◌, ◌≢◌, inl, inr, ℕ, zero, suc, take, set, replicate, ◌+◌, ◌<◌, ◌≤◌, Bool, true, false, cond, ◌&&◌, ◌==◌, List, [], ◌∷◌, length, drop, get_or, Some, None, refl, sym, ap, ◌∙◌, drop-cons}
use Rattle.std.specs.Prelude.{nat_le}
use Rattle.std.specs.List.{find}
use Rattle.std.specs.Option.{option_map_or}
use Rattle.std.proofs.lemmas.Bool.{and_parts, eq-eqb, ne_eqb, cases_eq, leb-true}
use Rattle.std.proofs.lemmas.List.{get_or-set_same, get_or-set_other}
use Rattle.std.specs.Int.{is_in_range as is_between}
use Rattle.std.proofs.lemmas.Bool.Decides.{nat_tests}
use Rattle.bus_cable.specs.declared.cable.Named.{Named}
use Rattle.bus_cable.specs.Cables.{may_name, may_name_all, bits_for}

left_by : (most last i : ℕ) (xs : List Named) (d x : Named) (t : Bool) → x ≡ get_or xs i d → i < length xs → may_name most last x ≡ t
    → may_name_all most last (drop i xs) ≡ (t && may_name_all most x.terminal (drop (i + 1) xs))
left_by most last i xs d x t is within e =
    let one : suc i ≡ i + 1 = omega arith in
    let first : drop i xs ≡ x ∷ drop (i + 1) xs = drop-cons xs i d within ∙ ap (λ y. y ∷ drop (suc i) xs) (sym is) ∙ ap (λ k. x ∷ drop k xs) one in
    ap (may_name_all most last) first ∙ ap (λ b. b && may_name_all most x.terminal (drop (i + 1) xs)) e

-- the next may be named, and what is behind it decides
pub named_step : (most last i : ℕ) (xs : List Named) (d x : Named) → x ≡ get_or xs i d → i < length xs → may_name most last x ≡ true
    → may_name_all most last (drop i xs) ≡ may_name_all most x.terminal (drop (i + 1) xs)
named_step most last i xs d x is within e = left_by most last i xs d x true is within e

-- the next may not
pub named_wrong : (most last i : ℕ) (xs : List Named) (d x : Named) → x ≡ get_or xs i d → i < length xs → may_name most last x ≡ false
    → may_name_all most last (drop i xs) ≡ false
named_wrong most last i xs d x is within e = left_by most last i xs d x false is within e

-- what is named is no more than may be
pub bits_small : (most last terminal : ℕ) (xs : List Named) → may_name_all most last xs ≡ true → bits_for xs terminal ≤ most
bits_small most last terminal [] h = omega arith
bits_small most last terminal (x ∷ xs) h =
    let p = and_parts (may_name most last x) _ h in
    by_test (x.terminal == terminal) (bits_small most x.terminal terminal xs p.1) where
      by_test : (t : Bool) → bits_for xs terminal ≤ most → option_map_or (λ (one : Named). one.bits) (cond t (Some x) (find (λ (one : Named). one.terminal == terminal) xs)) 0 ≤ most
      by_test true rest = leb-true x.bits most (and_parts _ (nat_le x.bits most) (and_parts (may_name most last x) _ h).0).1
      by_test false rest = rest

-- ---- by number
above : (most last i : ℕ) (xs : List Named) (d : Named) → may_name_all most last xs ≡ true → i < length xs → (last < (get_or xs i d).terminal) × ((get_or xs i d).terminal ≤ 128)
above most last i [] d h w = absurd (omega arith)
above most last zero (x ∷ xs) d h w =
    let p = and_parts (is_between (last + 1) 128 x.terminal) _ (and_parts (may_name most last x) _ h).0 in
    (grind (arith, nat_tests, p.0), grind (arith, nat_tests, p.0))
above most last (suc i) (x ∷ xs) d h w =
    let p = and_parts (may_name most last x) _ h in
    let k = above most x.terminal i xs d p.1 (omega arith) in
    let q = and_parts (is_between (last + 1) 128 x.terminal) _ p.0 in
    let first : last < x.terminal = grind (arith, nat_tests, q.0) in
    let then : x.terminal < (get_or xs i d).terminal = k.0 in
    (omega (arith, first, then), k.1)

pub terminal_low : (most i : ℕ) (xs : List Named) (d : Named) → may_name_all most 0 xs ≡ true → i < length xs → (get_or xs i d).terminal ≤ 128
terminal_low most i xs d h w = (above most 0 i xs d h w).1

named_here : (most last i : ℕ) (xs : List Named) (d : Named) → may_name_all most last xs ≡ true → i < length xs → bits_for (take (suc i) xs) (get_or xs i d).terminal ≡ (get_or xs i d).bits
named_here most last i [] d h w = absurd (omega arith)
named_here most last zero (x ∷ xs) d h w = ap (λ t. option_map_or (λ (one : Named). one.bits) (cond t (Some x) None) 0) (eq-eqb x.terminal x.terminal refl)
named_here most last (suc i) (x ∷ xs) d h w =
    let p = and_parts (may_name most last x) _ h in
    let later : x.terminal < (get_or xs i d).terminal = (above most x.terminal i xs d p.1 (omega arith)).0 in
    ap (λ t. option_map_or (λ (one : Named). one.bits) (cond t (Some x) (find (λ (one : Named). one.terminal == (get_or xs i d).terminal) (take (suc i) xs))) 0)
    (ne_eqb x.terminal (get_or xs i d).terminal (λ e. omega (arith, e, later)))
    ∙ named_here most x.terminal i xs d p.1 (omega arith)

named_other : (i n : ℕ) (xs : List Named) (d : Named) → i < length xs → (get_or xs i d).terminal ≢ n → bits_for (take (suc i) xs) n ≡ bits_for (take i xs) n
named_other i n [] d w h = absurd (omega arith)
named_other zero n (x ∷ xs) d w h = ap (λ t. option_map_or (λ (one : Named). one.bits) (cond t (Some x) None) 0) (ne_eqb x.terminal n h)
named_other (suc i) n (x ∷ xs) d w h = by_test (x.terminal == n) (named_other i n xs d (omega arith) h) where
  by_test : (t : Bool) → bits_for (take (suc i) xs) n ≡ bits_for (take i xs) n
      → option_map_or (λ (one : Named). one.bits) (cond t (Some x) (find (λ (one : Named). one.terminal == n) (take (suc i) xs))) 0
      ≡ option_map_or (λ (one : Named). one.bits) (cond t (Some x) (find (λ (one : Named). one.terminal == n) (take i xs))) 0
  by_test true k = refl
  by_test false k = k

-- one more is set
pub spots_more : (most i : ℕ) (xs : List Named) (d : Named) (spots : List ℕ) → may_name_all most 0 xs ≡ true → i < length xs → length spots ≡ 129
    → ((n : ℕ) → get_or spots n 0 ≡ bits_for (take i xs) n) → (n : ℕ) → get_or (set spots (get_or xs i d).terminal (get_or xs i d).bits) n 0 ≡ bits_for (take (i + 1) xs) n
spots_more most i xs d spots h w long old n =
    let one : suc i ≡ i + 1 = omega arith in
    let low = terminal_low most i xs d h w in
    elim (cases_eq n (get_or xs i d).terminal) [
      | inl same ↦
          ap (λ k. get_or (set spots (get_or xs i d).terminal (get_or xs i d).bits) k 0) same
          ∙ get_or-set_same spots (get_or xs i d).terminal (get_or xs i d).bits 0 (omega (arith, low, long))
          ∙ sym (named_here most 0 i xs d h w) ∙ ap (λ k. bits_for (take k xs) (get_or xs i d).terminal) one ∙ ap (bits_for (take (i + 1) xs)) (sym same)
      | inr other ↦
          get_or-set_other spots (get_or xs i d).terminal n (get_or xs i d).bits 0 other ∙ old n
          ∙ sym (named_other i n xs d w (λ e. other (sym e))) ∙ ap (λ k. bits_for (take k xs) n) one
    ]

-- a lesser limit
pub less_named : (few most last : ℕ) (xs : List Named) → few ≤ most → may_name_all few last xs ≡ true → may_name_all most last xs ≡ true
less_named few most last [] l h = refl
less_named few most last (x ∷ xs) l h =
    let p = and_parts (may_name few last x) _ h in
    let q = and_parts (is_between (last + 1) 128 x.terminal) (nat_le x.bits few) p.0 in
    let b : nat_le x.bits most ≡ true = grind (arith, nat_tests, q.1, l) in
    ap (λ t. (t && nat_le x.bits most) && may_name_all most x.terminal xs) q.0 ∙ ap (λ t. t && may_name_all most x.terminal xs) b ∙ less_named few most x.terminal xs l p.1

-- none is set yet
pub no_spots : (count n : ℕ) → ◌≡◌ {A = ℕ} (get_or (replicate count 0) n 0) 0
no_spots zero n = refl
no_spots (suc count) zero = refl
no_spots (suc count) (suc n) = no_spots count n
