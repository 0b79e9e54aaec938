-- What loops add up.
use Rattle.std.proofs.Common.{◌≡◌, ℕ, suc, ◌+◌, ◌*◌, ◌≤◌, ◌^◌, arith}
use Rattle.std.proofs.Math.Nat.{mul-le-mul}
use Rattle.bus_clocks.specs.Buses.{Bus}
use Rattle.bus_drift.specs.Turns.{slowest, fastest, longest_step, shortest_step}
use Rattle.bus_drift.proofs.Sums.{between_none, between_more}

pub times_small : (n time : ℕ) → n ≤ 128 → time ≤ 2 ^ 31 → n * time ≤ 2 ^ 38
times_small n time few small = (let l : n * time ≤ 128 * 2 ^ 31 = mul-le-mul few small in omega arith)

pub slow_none : (bus : Bus) (i : ℕ) → slowest bus i i ≡ 0
slow_none bus i = between_none (longest_step bus) i

pub fast_none : (bus : Bus) (i : ℕ) → fastest bus i i ≡ 0
fast_none bus i = between_none (shortest_step bus) i

pub slow_more : (bus : Bus) (i j : ℕ) → i ≤ j → slowest bus i (suc j) ≡ slowest bus i j + longest_step bus j
slow_more bus i j low = between_more (longest_step bus) i j low

pub fast_more : (bus : Bus) (i j : ℕ) → i ≤ j → fastest bus i (suc j) ≡ fastest bus i j + shortest_step bus j
fast_more bus i j low = between_more (shortest_step bus) i j low
