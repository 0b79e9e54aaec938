-- Places of moments.
use Rattle.std.proofs.Common.{ℕ, ◌+◌, ◌-◌, ◌*◌, ◌/◌, ◌<◌, ◌≤◌, arith}
use Rattle.std.proofs.Math.Nat.{div-le_of_le-mul, div-mul-le_self, mul-le-mul_right}
use Rattle.std.proofs.lemmas.Nat.{le-div}
use Rattle.bus_pen.specs.Scales.{Scale, IsScale, held, place}

-- A quotient doesn't fall as what is divided rises.
quotient_rises : (a b k : ℕ) → 0 < k → a ≤ b → a / k ≤ b / k
quotient_rises a b k some rise = let most : a / k * k ≤ a = div-mul-le_self a k in le-div (a / k) b k some (omega arith)

times_rises : (a b k : ℕ) → a ≤ b → a * k ≤ b * k
times_rises a b k rise = mul-le-mul_right k rise

pub place_rises : (scale : Scale) (t u : ℕ) → IsScale scale → t ≤ u → place scale t ≤ place scale u
place_rises scale t u s rise =
    let some : scale.from < scale.to = s.some in
    let held_rises : held scale t - scale.from ≤ held scale u - scale.from = omega arith in
    let more = times_rises (held scale t - scale.from) (held scale u - scale.from) scale.width held_rises in
    let quotient = quotient_rises ((held scale t - scale.from) * scale.width) ((held scale u - scale.from) * scale.width) (scale.to - scale.from) (omega arith) more in
    omega arith

pub place_within : (scale : Scale) (t : ℕ) → IsScale scale → (scale.left ≤ place scale t) × (place scale t ≤ scale.left + scale.width)
place_within scale t s =
    let some : scale.from < scale.to = s.some in
    let short : held scale t - scale.from ≤ scale.to - scale.from = omega arith in
    let most : (held scale t - scale.from) * scale.width / (scale.to - scale.from) ≤ scale.width =
    div-le_of_le-mul (scale.to - scale.from) (times_rises (held scale t - scale.from) (scale.to - scale.from) scale.width short) in
    (omega arith, omega arith)
