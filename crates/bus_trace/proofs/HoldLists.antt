-- The holds of the terminals, where a function gives each terminal's: they ascend, and are in their ranges.
use Rattle.std.proofs.Common.{arith, ◌≡◌, ℕ, zero, suc, ◌+◌, ◌≤◌, List, [], ◌∷◌, Option, Some, None, sym, subst}
use Rattle.std.specs.Prelude.{IfSome}
use Rattle.std.specs.List.{AllByRecursion, filter_map, range_with_len, cons_option}
use Rattle.bus_trace.specs.declared.hold.Hold.{Hold}
use Rattle.bus_trace.specs.Limits.{most_count}
use Rattle.bus_trace.specs.Traces.{AscendAbove, IsHold}

weaker : (n k : ℕ) (holds : List Hold) → k ≤ n → AscendAbove n holds → AscendAbove k holds
weaker n k [] h a = tt
weaker n k (hold ∷ holds) h a = (omega (arith, a.0), a.1)

module _ (give : ℕ → Option Hold) (numbered : (n : ℕ) → IfSome (give n) (λ hold. hold.terminal ≡ n)) where
  -- from number k + 1 on they ascend
  pub ascend_from : (n k : ℕ) → AscendAbove k (filter_map give (range_with_len (k + 1) n))
  ascend_from zero k = tt
  ascend_from (suc n) k =
      let rest = ascend_from n (k + 1) in
      elim (give (k + 1)) as (λ o. IfSome o (λ hold. hold.terminal ≡ k + 1) → AscendAbove k (cons_option o (filter_map give (range_with_len (k + 1 + 1) n)))) [
        | None ↦ λ h. weaker (k + 1) k _ (omega arith) rest
        | Some hold ↦ λ h. (omega (arith, h), subst (λ t. AscendAbove t (filter_map give (range_with_len (k + 1 + 1) n))) (sym h) rest)
      ] (numbered (k + 1))

  -- and are in their ranges, where each is of few enough messages
  pub ranged_from : ((n : ℕ) → IfSome (give n) (λ hold. hold.count ≤ most_count)) → (n k : ℕ) → k + n ≤ 128
      → AllByRecursion IsHold (filter_map give (range_with_len (k + 1) n))
  ranged_from few zero k low = tt
  ranged_from few (suc n) k low =
      let rest = ranged_from few n (k + 1) (omega arith) in
      elim (give (k + 1)) as (λ o. IfSome o (λ hold. hold.terminal ≡ k + 1) → IfSome o (λ hold. hold.count ≤ most_count) → AllByRecursion IsHold (cons_option o (filter_map give (range_with_len (k + 1 + 1) n)))) [
        | None ↦ λ h c. rest
        | Some hold ↦ λ h c. (record { positive = omega (arith, h); low = omega (arith, h); count = omega (arith, c) }, rest)
      ] (numbered (k + 1)) (few (k + 1))
