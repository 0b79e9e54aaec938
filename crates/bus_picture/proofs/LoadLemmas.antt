-- Loads, one pulse after the other.
use Rattle.std.proofs.Common.{◌≡◌, ℕ, ◌+◌, [], ◌∷◌, arith, ap, ◌∙◌}
use Rattle.std.specs.List.{range_with_len, sum_by}
use Rattle.std.proofs.lemmas.List.Sums.{sum_by-append}
use Rattle.bus_strings.proofs.ListLaws.{range_next}

one_sum : (f : ℕ → ℕ) (k : ℕ) → sum_by f (k ∷ []) ≡ f k
one_sum f k = omega arith

-- One pulse more.
pub pulse_more : (f : ℕ → ℕ) (k : ℕ) → sum_by f (range_with_len 0 (k + 1)) ≡ sum_by f (range_with_len 0 k) + f k
pulse_more f k =
    ap (sum_by f) (range_next k) ∙ sum_by-append f (range_with_len 0 k) (k ∷ []) ∙ ap (λ n. sum_by f (range_with_len 0 k) + n) (one_sum f k)
