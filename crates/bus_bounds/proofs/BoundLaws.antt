-- What bounds do to lengths.
use Rattle.std.proofs.Common.{arith, ◌≡◌, ℕ, suc, ◌+◌, ◌-◌, ◌*◌, ◌<◌, ◌≤◌}
use Rattle.std.proofs.Math.Nat.{mul-le-mul_left, lt_of_mul-lt-mul_right, add-mul}
use Rattle.std.proofs.lemmas.Grind.{div_ceil_times}
use Rattle.std.specs.Int.{div_ceil}
use Rattle.bus_bounds.specs.Bounds.{Bounds, most_clocks, drift, short, long}

-- the quotient, rounded up, is the least whole number that is no less
ceil_most : (a b : ℕ) → 0 < b → a ≤ div_ceil a b * b
ceil_most a b some = (div_ceil_times a b some).0

ceil_least : (a b q : ℕ) → 0 < b → a ≤ q * b → div_ceil a b ≤ q
ceil_least a b q some h =
    let t : div_ceil a b * b < a + b = (div_ceil_times a b some).1 in
    let e : suc q * b ≡ q * b + b = omega arith in
    let l : div_ceil a b * b < suc q * b = omega (arith, t, e, h) in
    let less : div_ceil a b < suc q = lt_of_mul-lt-mul_right b l in
    omega (arith, less)

-- a clock is off by no more than what it counts
pub drift_within : (clocks n : ℕ) → clocks ≤ most_clocks → drift clocks n ≤ n
unfolding drift
drift_within clocks n h = ceil_least (n * clocks) (1000000 - clocks) n (omega arith) (mul-le-mul_left n (omega arith))

-- one that is off by more is off by no less
pub drift_faster : (a b n : ℕ) → a ≤ b → b ≤ most_clocks → drift a n ≤ drift b n
unfolding drift
drift_faster a b n less h =
    let all : n * b ≤ div_ceil (n * b) (1000000 - b) * (1000000 - b) = ceil_most (n * b) (1000000 - b) (omega arith) in
    let low : n * a ≤ n * b = mul-le-mul_left n less in
    let wide : div_ceil (n * b) (1000000 - b) * (1000000 - b) ≤ div_ceil (n * b) (1000000 - b) * (1000000 - a) =
    mul-le-mul_left (div_ceil (n * b) (1000000 - b)) (omega arith) in
    ceil_least (n * a) (1000000 - a) _ (omega arith) (omega (arith, all, low, wide))

-- of a greater length it is off by no less, and by no more than the length is greater
pub drift_more : (clocks a d : ℕ) → clocks ≤ most_clocks
    → (drift clocks a ≤ drift clocks (a + d)) × (drift clocks (a + d) ≤ drift clocks a + d)
unfolding drift
drift_more clocks a d h =
    let all : (a + d) * clocks ≤ div_ceil ((a + d) * clocks) (1000000 - clocks) * (1000000 - clocks) =
    ceil_most ((a + d) * clocks) (1000000 - clocks) (omega arith) in
    let part : a * clocks ≤ div_ceil (a * clocks) (1000000 - clocks) * (1000000 - clocks) = ceil_most (a * clocks) (1000000 - clocks) (omega arith) in
    let rest : d * clocks ≤ d * (1000000 - clocks) = mul-le-mul_left d (omega arith) in
    let sum : (a + d) * clocks ≡ a * clocks + d * clocks = add-mul a d clocks in
    let both : (div_ceil (a * clocks) (1000000 - clocks) + d) * (1000000 - clocks)
    ≡ div_ceil (a * clocks) (1000000 - clocks) * (1000000 - clocks) + d * (1000000 - clocks) =
    add-mul (div_ceil (a * clocks) (1000000 - clocks)) d (1000000 - clocks) in (
      ceil_least (a * clocks) (1000000 - clocks) _ (omega arith) (omega (arith, all, sum)),
      ceil_least ((a + d) * clocks) (1000000 - clocks) _ (omega arith) (omega (arith, part, rest, sum, both)),
    )

-- a greater length is no shorter at least, and no shorter at most
short_added : (bounds : Bounds) (a d : ℕ) → bounds.clocks ≤ most_clocks → short bounds a ≤ short bounds (a + d)
short_added bounds a d h = let w = (drift_more bounds.clocks a d h).1 in omega (arith, w)

pub short_more : (bounds : Bounds) (a b : ℕ) → bounds.clocks ≤ most_clocks → a ≤ b → short bounds a ≤ short bounds b
short_more bounds a b h l = let e : b ≡ a + (b - a) = omega arith in rw e (short_added bounds a (b - a) h)

long_added : (bounds : Bounds) (a d : ℕ) → bounds.clocks ≤ most_clocks → long bounds a ≤ long bounds (a + d)
long_added bounds a d h = let w = (drift_more bounds.clocks a d h).0 in omega (arith, w)

pub long_more : (bounds : Bounds) (a b : ℕ) → bounds.clocks ≤ most_clocks → a ≤ b → long bounds a ≤ long bounds b
long_more bounds a b h l = let e : b ≡ a + (b - a) = omega arith in rw e (long_added bounds a (b - a) h)
