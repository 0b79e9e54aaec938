-- How many bit times last so long.
use Rattle.std.proofs.Common.{arith, ◌≡◌, ℕ, suc, ◌+◌, ◌-◌, ◌*◌, ◌<◌, ◌≤◌, inl, inr, subst}
use Rattle.std.proofs.lemmas.Bool.{cases_lt}
use Rattle.std.proofs.Math.Nat.{mul-le-mul_left, lt_of_mul-lt-mul_right, add-mul}
use Rattle.std.proofs.lemmas.Grind.{div_ceil_times}
use Rattle.std.specs.Int.{div_ceil}
use Rattle.bus_bounds.specs.Bounds.{Bounds, most_clocks, drift}
use Rattle.bus_gaps.specs.Gaps.{least_time}
use Rattle.bus_best.specs.Asked.{least_bits}

ceil_least : (a b q : ℕ) → 0 < b → a ≤ q * b → div_ceil a b ≤ q
ceil_least a b q some h =
    let t : div_ceil a b * b < a + b = (div_ceil_times a b some).1 in
    let e : suc q * b ≡ q * b + b = omega arith in
    let l : div_ceil a b * b < suc q * b = omega (arith, t, e, h) in
    let less : div_ceil a b < suc q = lt_of_mul-lt-mul_right b l in
    omega (arith, less)

-- of 500 x nanoseconds at least a are left
left : (a x w p : ℕ) → 0 < w → a * (w + p) ≤ x * (500 * w) → (a ≤ 500 * x) × (500 * x * p ≤ (500 * x - a) * (w + p))
left a x w p some h =
    let whole : 500 * x * (w + p) ≡ x * (500 * w) + 500 * x * p = omega arith in
    let within : a ≤ 500 * x = elim (cases_lt (500 * x) a) [
      | inl l ↦
          (let m : (w + p) * suc (500 * x) ≤ (w + p) * a = mul-le-mul_left (w + p) l in
          let e : (w + p) * suc (500 * x) ≡ 500 * x * (w + p) + (w + p) = omega arith in
          let f : (w + p) * a ≡ a * (w + p) = omega arith in
          omega (arith, m, e, f, whole, h, some))
      | inr r ↦ r
    ] in
    let d : (500 * x - a + a) * (w + p) ≡ (500 * x - a) * (w + p) + a * (w + p) = add-mul (500 * x - a) a (w + p) in
    let f : 500 * x - a + a ≡ 500 * x = omega (arith, within) in
    let e : 500 * x * (w + p) ≡ (500 * x - a) * (w + p) + a * (w + p) = rw f at d in
    (within, omega (arith, e, whole, h))

right : (a x w p q : ℕ) → a + q ≤ 500 * x → 500 * x * p ≤ q * (w + p) → a * (w + p) ≤ x * (500 * w)
right a x w p q h k =
    let whole : 500 * x * (w + p) ≡ x * (500 * w) + 500 * x * p = omega arith in
    let m : (w + p) * (a + q) ≤ (w + p) * (500 * x) = mul-le-mul_left (w + p) h in
    let e : (w + p) * (a + q) ≡ a * (w + p) + q * (w + p) = omega arith in
    let f : (w + p) * (500 * x) ≡ 500 * x * (w + p) = omega arith in
    omega (arith, m, e, f, whole, k)

-- so many bit times last so long,
pub bits_last : (bounds : Bounds) (low x : ℕ) → bounds.clocks ≤ most_clocks → least_bits bounds low ≤ x → low ≤ least_time bounds x
unfolding least_bits drift
bits_last bounds low x within h =
    let p : ℕ = bounds.clocks in
    let w : ℕ = 1000000 - 2 * bounds.clocks in
    let c : 1000000 - bounds.clocks ≡ w + p = omega (arith, within) in
    let a : ℕ = bounds.jitter + low in
    let up : a * (1000000 - bounds.clocks) ≤ least_bits bounds low * (500 * w) =
    (div_ceil_times (a * (1000000 - bounds.clocks)) (500 * w) (omega (arith, within))).0 in
    let more : 500 * w * least_bits bounds low ≤ 500 * w * x = mul-le-mul_left (500 * w) h in
    let one : 500 * w * least_bits bounds low ≡ least_bits bounds low * (500 * w) = omega arith in
    let two : 500 * w * x ≡ x * (500 * w) = omega arith in
    let up2 : a * (w + p) ≤ x * (500 * w) = rw c at (let z : a * (1000000 - bounds.clocks) ≤ x * (500 * w) = omega (arith, up, more, one, two) in z) in
    let l = left a x w p (omega (arith, within)) up2 in
    let under : 500 * x * p ≤ (500 * x - a) * (1000000 - bounds.clocks) = rw c (l.1) in
    let few : drift bounds.clocks (500 * x) ≤ 500 * x - a = ceil_least (500 * x * p) (1000000 - bounds.clocks) (500 * x - a) (omega (arith, within)) under in
    let inside = l.0 in
    omega (arith, few, inside)

-- and fewer don't
pub bits_least : (bounds : Bounds) (low x : ℕ) → bounds.clocks ≤ most_clocks → 0 < low → low ≤ least_time bounds x → least_bits bounds low ≤ x
unfolding least_bits drift
bits_least bounds low x within some h =
    let p : ℕ = bounds.clocks in
    let w : ℕ = 1000000 - 2 * bounds.clocks in
    let c : 1000000 - bounds.clocks ≡ w + p = omega (arith, within) in
    let a : ℕ = bounds.jitter + low in
    let q : ℕ = drift bounds.clocks (500 * x) in
    let room : a + q ≤ 500 * x = omega (arith, h, some) in
    let over : 500 * x * p ≤ q * (1000000 - bounds.clocks) = (div_ceil_times (500 * x * p) (1000000 - bounds.clocks) (omega (arith, within))).0 in
    let fit = right a x w p q room (subst (λ m. 500 * x * p ≤ q * m) c over) in
    ceil_least (a * (1000000 - bounds.clocks)) (500 * w) x (omega (arith, within)) (rw c fit)
