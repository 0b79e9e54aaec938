-- Two buses.
use Rattle.std.proofs.Common.{◌≡◌, ℕ, zero, suc, ◌+◌, ◌-◌, ◌<◌, ◌≤◌, Bool, true, false, ◌&&◌, List, [], None, inl, inr, arith, sym, refl, ap, subst, leb-true, le-leb, ltb-true, lt-ltb}
use Rattle.std.specs.Prelude.{nat_le, nat_lt}
use Rattle.std.proofs.lemmas.Bool.{cases_eq, true≢false, and_parts}
use Rattle.bus_clocks.specs.Buses.{Bus, sum_below}
use Rattle.bus_clocks.specs.Entries.{Entry}
use Rattle.bus_clocks.specs.Courses.{Course}
use Rattle.bus_clocks.specs.Hearing.{Hears}
use Rattle.bus_clocks.specs.Existing.{IsNature, with_list}
use Rattle.bus_clocks.proofs.Existence.{courses_exist}
use Rattle.bus_drift.specs.Beginning.{Begins}
use Rattle.bus_drift.specs.Examples.{steady, led, steady_due, led_due, led_offset, Goes, ThereAreSuch}
use Rattle.bus_drift.specs.Leading.{LeavesLead, NoneOvertakenInRound}
use Rattle.bus_drift.specs.Plain.{varies, VariesLittle}
use Rattle.bus_drift.specs.Room.{HearsOut, BeginsApart, LeavesTurns, NoneOvertaken}
use Rattle.bus_drift.specs.Turns.{who, slowest, fastest, longest_step, shortest_step}
use Rattle.bus_drift.proofs.Sums.{between_none, between_join, between_next}
use Rattle.bus_drift.proofs.Plain.{little_is_enough}

-- ---- carrier that is heard at once

abbrev pub prompt : Entry → ℕ → ℕ → Bool
prompt x n u = nat_le x.moment u && nat_lt u (x.moment + x.length)

pub both : (a b : Bool) → a ≡ true → b ≡ true → a && b ≡ true
both true b h k = k
both false b h k = absurd (true≢false (sym h))

pub is_prompt : (x : Entry) → 0 < x.length → (n d drop : ℕ) → 0 < drop → Hears prompt d drop x n
is_prompt x some n d drop more = record {
  within = λ t h. (let p = and_parts (nat_le x.moment t) (nat_lt t (x.moment + x.length)) h in
      let low : x.moment ≤ t = leb-true x.moment t p.0 in let high : t < x.moment + x.length = ltb-true t (x.moment + x.length) p.1 in (low, omega arith));
  first = x.moment;
  last = x.moment + x.length - 1;
  first_heard = both (nat_le x.moment x.moment) (nat_lt x.moment (x.moment + x.length)) (le-leb x.moment x.moment (omega arith)) (lt-ltb x.moment (x.moment + x.length) (omega arith));
  first_soon = omega arith;
  last_heard = both (nat_le x.moment (x.moment + x.length - 1)) (nat_lt (x.moment + x.length - 1) (x.moment + x.length)) (le-leb x.moment (x.moment + x.length - 1) (omega arith))
      (lt-ltb (x.moment + x.length - 1) (x.moment + x.length) (omega arith));
  last_late = omega arith;
  filled = λ t low high. (
    t,
    omega arith,
    omega arith,
    both (nat_le x.moment t) (nat_lt t (x.moment + x.length)) (le-leb x.moment t low) (lt-ltb t (x.moment + x.length) (omega arith)),
  );
}

-- all timers take their longest, and all transmissions too
abbrev plain : Bus → (ℕ → ℕ) → ℕ → Course
plain bus due horizon = record {
  up = λ _. 0;
  due = due;
  tg = λ k _. bus.tg_long k;
  sg = λ k _. bus.sg_long k;
  ti = λ k _. bus.ti_long k;
  messages = λ _. None;
  noise = λ _ _. false;
  hears = prompt;
  horizon = horizon;
  list = [];
}

pub record Bounds (bus : Bus) : Type 0 where
  pub drop : 0 < bus.drop
  pub tg : (k : ℕ) → k < bus.senders → bus.tg_short k ≤ bus.tg_long k
  pub sg : (k : ℕ) → k < bus.senders → bus.sg_short k ≤ bus.sg_long k
  pub ti : (k : ℕ) → k < bus.senders → bus.ti_short k ≤ bus.ti_long k
  pub lengths : (k : ℕ) → k < bus.senders → (0 < bus.shortest k) × (bus.shortest k ≤ bus.longest k)

nature : (bus : Bus) (due : ℕ → ℕ) (horizon : ℕ) → Bounds bus → IsNature bus (plain bus due horizon) (λ k _. bus.longest k)
nature bus due horizon b = record {
  tg_low = λ k a known bound. b.tg k known;
  tg_high = λ k a known. omega arith;
  sg_low = λ k a known bound. b.sg k known;
  sg_high = λ k a known. omega arith;
  ti = λ k a known. (b.ti k known, omega arith);
  lengths = λ k t known. (let one : 0 < bus.shortest k = (b.lengths k known).0 in let two : bus.shortest k ≤ bus.longest k = (b.lengths k known).1 in (omega arith, two, omega arith));
  own = λ x some. is_prompt x some x.sender 0 bus.drop b.drop;
  others = λ x n some. is_prompt x some n bus.delay bus.drop b.drop;
}

-- one of three
pub of_three : (P : ℕ → Type 0) → P 0 → P 1 → P 2 → (k : ℕ) → k < 3 → P k
of_three P a b c zero less = a
of_three P a b c (suc zero) less = b
of_three P a b c (suc (suc zero)) less = c
of_three P a b c (suc (suc (suc k))) less = absurd (omega arith)

-- ---- the steady one

steady_bounds : Bounds steady
steady_bounds = record {
  drop = omega arith;
  tg = λ k known. omega arith;
  sg = λ k known. omega arith;
  ti = λ k known. omega arith;
  lengths = λ k known. (omega arith, omega arith);
}

steady_little : VariesLittle steady 1000 1002 50 20 2
steady_little = record {
  ti_low = λ k known. omega arith;
  ti_high = λ k known. omega arith;
  long = λ k known. omega arith;
  gaps = λ k known. omega arith;
  waits = λ k known. omega arith;
  little = (let sum : sum_below (varies steady) 3 ≡ 15 = refl in omega arith);
}

steady_hears : HearsOut steady
steady_hears = record {
  some = omega arith;
  lasting = λ k known. (omega arith, omega arith);
  whole = λ k known. omega arith;
  heard = λ k known. omega arith;
}

steady_first : BeginsApart steady steady_due steady_due
steady_first = record { opens = omega arith; synced = λ k some known. omega arith; apart = λ k known. omega arith }

steady_keeps : LeavesTurns steady steady_due steady_due
steady_keeps = record {
  hearing = steady_hears;
  sync = record { gaps = λ j k one two. omega arith; room = λ k known. (let sum : sum_below steady.longest 3 ≡ 165 = refl in omega arith) };
  order = little_is_enough steady 1000 1002 50 20 2 steady_little;
  begin = record { first = steady_first; round = omega arith; again = λ k known. omega arith };
}

-- ---- the led one

led_bounds : Bounds led
led_bounds = record {
  drop = omega arith;
  tg = λ k known. of_three (λ i. led.tg_short i ≤ led.tg_long i) (omega arith) (omega arith) (omega arith) k known;
  sg = λ k known. omega arith;
  ti = λ k known. of_three (λ i. led.ti_short i ≤ led.ti_long i) (omega arith) (omega arith) (omega arith) k known;
  lengths = λ k known. (omega arith, omega arith);
}

led_hears : HearsOut led
led_hears = record {
  some = omega arith;
  lasting = λ k known. (omega arith, omega arith);
  whole = λ k known. of_three (λ i. 2 ≤ led.tg_short i) (omega arith) (omega arith) (omega arith) k known;
  heard = λ k known. of_three (λ i. 1 ≤ led.tg_short i) (omega arith) (omega arith) (omega arith) k known;
}

led_same : (j k : ℕ) → j < k → k < 3 → led.ti_long j + slowest led j j + 1 < led.ti_short k + fastest led j k
led_same j k less known =
    let none : slowest led j j ≡ 0 = between_none (longest_step led) j in
    let parts : fastest led j k ≡ fastest led j (suc j) + fastest led (suc j) k = between_join (shortest_step led) j (suc j) k (omega arith) (omega arith) in
    let step : fastest led j (suc j) ≡ shortest_step led j = between_next (shortest_step led) j in
    let gap : 20 ≤ led.tg_short (who led (suc j)) = of_three (λ i. 20 ≤ led.tg_short (who led i)) (omega arith) (omega arith) (omega arith) (suc j) (omega arith) in
    let long : led.ti_long j ≤ 1212 = of_three (λ i. led.ti_long i ≤ 1212) (omega arith) (omega arith) (omega arith) j (omega arith) in
    let short : 1200 ≤ led.ti_short k = of_three (λ i. 1200 ≤ led.ti_short i) (omega arith) (omega arith) (omega arith) k known in
    omega arith

led_order : NoneOvertakenInRound led
led_order i j k low less known close = elim (cases_eq i j) [
  | inl same ↦ subst (λ l. led.ti_long l + slowest led l j + 1 < led.ti_short k + fastest led l k) (sym same) (led_same j k less known)
  | inr other ↦ elim close [
    | inl is ↦ absurd (other is)
    | inr near ↦
        let j_is : j ≡ 1 = omega arith in
        let k_is : k ≡ 2 = omega arith in
        let a : led.tg_short k ≡ 25 = ap led.tg_short k_is in
        let b : led.tg_long j ≡ 21 = ap led.tg_long j_is in
        absurd (omega arith)
  ]
]

led_gap : (k : ℕ) → suc k < 3 → led.tg_long (suc k) ≤ 26
led_gap k known = of_three (λ i. 0 < i → led.tg_long i ≤ 26) (λ l. absurd (omega arith)) (λ l. omega arith) (λ l. omega arith) (suc k) known (omega arith)

led_leads : LeavesLead led led_due led_due led_offset
led_leads = record {
  hearing = led_hears;
  clock = λ k some known. of_three (λ i. 0 < i → led.ti_long i ≤ led.ti_short 0) (λ l. absurd (omega arith)) (λ l. omega arith) (λ l. omega arith) k known some;
  offsets = record {
    first = λ k some known. omega arith;
    steps = λ k known. (let gap : led.tg_long (suc k) ≤ 26 = led_gap k known in omega arith);
  };
  order = led_order;
  pause = record { opening = omega arith; room = λ k some known. omega arith };
  begin = record {
    opens = omega arith;
    synced = λ k some known. omega arith;
    apart = λ k known. (let gap : led.tg_long (suc k) ≤ 26 = led_gap k known in omega arith);
  };
}

-- turn 1 may be held by the last one of the round before, which varies by 270 ticks
led_other : NoneOvertaken led → ⊥
led_other order = (let bad : 1205 + slowest led 2 3 + 1 < 1200 + fastest led 2 4 = order 2 3 4 (omega arith) (omega arith) (omega arith) (omega arith) (inr (omega arith)) in
    let slow : slowest led 2 3 ≡ 362 = refl in
    let fast : fastest led 2 4 ≡ 140 = refl in
    omega arith)

pub at_zero : (bus : Bus) (due : ℕ → ℕ) (horizon : ℕ) (list : List Entry) → Begins bus (with_list (plain bus due horizon) list) 0 due due
at_zero bus due horizon list = record {
  powered = λ k known. (omega arith, omega arith);
  due = λ k known. (omega arith, omega arith);
  still = λ n t low. refl;
}

goes : (bus : Bus) (due : ℕ → ℕ) (horizon : ℕ) → Bounds bus → Goes bus due horizon
goes bus due horizon b =
    let h = courses_exist bus (plain bus due horizon) (λ k _. bus.longest k) (nature bus due horizon b) in
    record { course = with_list (plain bus due horizon) h.0; upto = refl; ok = h.1; even = λ k known. refl; begins = at_zero bus due horizon h.0 }

pub there_are_such : ThereAreSuch
there_are_such = record {
  keeps = steady_keeps;
  steadily = λ horizon. goes steady steady_due horizon steady_bounds;
  leads = led_leads;
  orderly = λ horizon. goes led led_due horizon led_bounds;
  other = led_other;
}
