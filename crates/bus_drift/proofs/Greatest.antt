-- The longest round, and the least offsets.
use Rattle.std.proofs.Common.{◌≡◌, ℕ, zero, suc, ◌+◌, ◌-◌, ◌*◌, ◌/◌, ◌%◌, ◌<◌, ◌≤◌, max, inl, inr, arith, sym, ap, ◌∙◌}
use Rattle.std.proofs.lemmas.Bool.{cases_eq}
use Rattle.std.proofs.lemmas.Nat.{mod_below, div-add-mod'}
use Rattle.std.proofs.Math.Nat.{add-mod_right, le-max_left, le-max_right, max-le}
use Rattle.bus_clocks.specs.Buses.{Bus}
use Rattle.bus_drift.specs.Leading.{AreOffsets, least_offset, OffsetsAreLeast}
use Rattle.bus_drift.specs.Pace.{greatest_below, longest_round, LongestIsRound}
use Rattle.bus_drift.specs.Turns.{who, longest_step, shortest_step, slowest, fastest}
use Rattle.bus_drift.proofs.Sums.{between_rounds}

pub is_greatest : (f : ℕ → ℕ) (n i : ℕ) → i < n → f i ≤ greatest_below f n
is_greatest f zero i less = absurd (omega arith)
is_greatest f (suc n) i less = elim (cases_eq i n) [
  | inl same ↦
      let e : f i ≡ f n = ap f same in
      let l : f n ≤ max (greatest_below f n) (f n) = le-max_right (greatest_below f n) (f n) in
      omega arith
  | inr other ↦
      let before : f i ≤ greatest_below f n = is_greatest f n i (omega arith) in
      let l : greatest_below f n ≤ max (greatest_below f n) (f n) = le-max_left (greatest_below f n) (f n) in
      omega arith
]

-- what repeats with each round
step_again : (bus : Bus) (n : ℕ) → longest_step bus (n + bus.senders) ≡ longest_step bus n
step_again bus n =
    let a : bus.longest (who bus (n + bus.senders)) ≡ bus.longest (who bus n) = ap bus.longest (add-mod_right n bus.senders) in
    let q : suc (n + bus.senders) ≡ suc n + bus.senders = omega arith in
    let b : bus.tg_long (who bus (suc (n + bus.senders))) ≡ bus.tg_long (who bus (suc n)) =
    ap (λ i. bus.tg_long (who bus i)) q ∙ ap bus.tg_long (add-mod_right (suc n) bus.senders) in
    omega arith

short_again : (bus : Bus) (n : ℕ) → shortest_step bus (n + bus.senders) ≡ shortest_step bus n
short_again bus n =
    let a : bus.shortest (who bus (n + bus.senders)) ≡ bus.shortest (who bus n) = ap bus.shortest (add-mod_right n bus.senders) in
    let q : suc (n + bus.senders) ≡ suc n + bus.senders = omega arith in
    let b : bus.tg_short (who bus (suc (n + bus.senders))) ≡ bus.tg_short (who bus (suc n)) =
    ap (λ i. bus.tg_short (who bus i)) q ∙ ap bus.tg_short (add-mod_right (suc n) bus.senders) in
    omega arith

turned : (a b n : ℕ) → a + b ≡ n → b + a ≡ n
turned a b n is = omega arith

pub longest_is_round : LongestIsRound
longest_is_round bus n i low high =
    let N : ℕ = bus.senders in
    let some : 0 < bus.senders = omega arith in
    let r : ℕ = i / bus.senders in
    let first : who bus i < bus.senders = mod_below i bus.senders some in
    let whole : who bus i + i / bus.senders * bus.senders ≡ i = turned (i / bus.senders * bus.senders) (i % bus.senders) i (div-add-mod' i bus.senders) in
    let at_n : who bus i + (n - i) + i / bus.senders * bus.senders ≡ n = omega arith in
    let slow : slowest bus i n ≡ slowest bus (who bus i) (who bus i + (n - i)) =
    ap (λ v. slowest bus v n) (sym whole) ∙ ap (slowest bus (who bus i + i / bus.senders * bus.senders)) (sym at_n)
    ∙ between_rounds (longest_step bus) bus.senders (step_again bus) (i / bus.senders) (who bus i) (who bus i + (n - i)) in
    let quick : fastest bus i n ≡ fastest bus (who bus i) (who bus i + (n - i)) =
    ap (λ v. fastest bus v n) (sym whole) ∙ ap (fastest bus (who bus i + i / bus.senders * bus.senders)) (sym at_n)
    ∙ between_rounds (shortest_step bus) bus.senders (short_again bus) (i / bus.senders) (who bus i) (who bus i + (n - i)) in
    let inner : bus.ti_long (who bus i) + (slowest bus (who bus i) (who bus i + (n - i)) - fastest bus (who bus i) (who bus i + (n - i)))
    ≤ greatest_below (λ m. bus.ti_long (who bus i) + (slowest bus (who bus i) (who bus i + m) - fastest bus (who bus i) (who bus i + m))) bus.senders =
    is_greatest (λ m. bus.ti_long (who bus i) + (slowest bus (who bus i) (who bus i + m) - fastest bus (who bus i) (who bus i + m))) bus.senders (n - i) (omega arith) in
    let outer : greatest_below (λ m. bus.ti_long (who bus i) + (slowest bus (who bus i) (who bus i + m) - fastest bus (who bus i) (who bus i + m))) bus.senders ≤ longest_round bus =
    is_greatest (λ j. greatest_below (λ m. bus.ti_long j + (slowest bus j (j + m) - fastest bus j (j + m))) bus.senders) bus.senders (who bus i) first in
    omega arith

-- ---- offsets

pub least_steps : (bus : Bus) (soon late : ℕ → ℕ) (k : ℕ)
    → least_offset bus soon late k + bus.longest k + bus.delay + bus.tg_long (suc k) ≤ least_offset bus soon late (suc k)
least_steps bus soon late k =
    le-max_right (late (suc k) - soon 0) (least_offset bus soon late k + bus.longest k + bus.delay + bus.tg_long (suc k))

pub least_first : (bus : Bus) (soon late : ℕ → ℕ) (k : ℕ) → 0 < k → late k ≤ soon 0 + least_offset bus soon late k
least_first bus soon late zero some = absurd (omega arith)
least_first bus soon late (suc k) some =
    let l : late (suc k) - soon 0 ≤ max (late (suc k) - soon 0) (least_offset bus soon late k + bus.longest k + bus.delay + bus.tg_long (suc k)) =
    le-max_left (late (suc k) - soon 0) (least_offset bus soon late k + bus.longest k + bus.delay + bus.tg_long (suc k)) in
    omega arith

pub least_is : (bus : Bus) (soon late offset : ℕ → ℕ) (k : ℕ) → AreOffsets bus soon late offset → k < bus.senders → least_offset bus soon late k ≤ offset k
least_is bus soon late offset zero are known = omega arith
least_is bus soon late offset (suc k) are known =
    let before : least_offset bus soon late k ≤ offset k = least_is bus soon late offset k are (omega arith) in
    let first : late (suc k) ≤ soon 0 + offset (suc k) = are.first (suc k) (omega arith) known in
    let step : offset k + bus.longest k + bus.delay + bus.tg_long (suc k) ≤ offset (suc k) = are.steps k known in
    max-le (let a : late (suc k) - soon 0 ≤ offset (suc k) = omega arith in a)
    (let b : least_offset bus soon late k + bus.longest k + bus.delay + bus.tg_long (suc k) ≤ offset (suc k) = omega arith in b)

pub offsets_are_least : OffsetsAreLeast
offsets_are_least bus soon late = (
  record { first = λ k some known. least_first bus soon late k some; steps = λ k known. least_steps bus soon late k },
  (λ offset k are known. least_is bus soon late offset k are known),
)
