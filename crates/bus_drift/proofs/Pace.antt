-- Whoever is the slowest, all take turns for ever and keep pace.
use Rattle.std.proofs.Common.{◌≡◌, ℕ, zero, suc, ◌+◌, ◌-◌, ◌*◌, ◌<◌, ◌≤◌, length, inl, inr, arith, ap}
use Rattle.std.proofs.lemmas.Bool.{cases_lt}
use Rattle.std.proofs.Math.Nat.{suc-mul}
use Rattle.bus_clocks.specs.Buses.{Bus}
use Rattle.bus_clocks.specs.Entries.{end_of}
use Rattle.bus_clocks.specs.Courses.{Course, IsCourse}
use Rattle.bus_clocks.specs.Order.{AreEven}
use Rattle.bus_drift.specs.Beginning.{Begins}
use Rattle.bus_drift.specs.InTurn.{TurnsGoOn}
use Rattle.bus_drift.specs.Pace.{IsRound, spread, KeepsPace, PaceIsKept}
use Rattle.bus_drift.specs.Room.{LeavesTurns}
use Rattle.bus_drift.specs.Turns.{who, longest_step, shortest_step, slowest, fastest, turn}
use Rattle.bus_drift.proofs.Sums.{between_none, between_join, between_more, between_less, between_shift, NextTurn, next_turn, between_rounds, same_round}
use Rattle.bus_drift.proofs.Steps.{long_again, short_again, rounds_later, step_less, fits}
use Rattle.bus_drift.proofs.Turning.{Turning, Fact, begun_at, tg_within, is_one, asc}
use Rattle.bus_drift.proofs.Chains.{Chain, at_most, fast, chain}
use Rattle.bus_drift.proofs.Turns.{facts_all, all}
use Rattle.bus_drift.proofs.Syncing.{Keeping, link, in_sync, is_first}

module _ (g : Keeping) where
  abbrev w : Turning
  w = g.w

  abbrev bus : Bus
  bus = w.bus

  abbrev c : Course
  c = w.c

  abbrev N : ℕ
  N = bus.senders

  abbrev len : ℕ
  len = length c.list

  abbrev s : ℕ → ℕ
  s n = (turn c n).moment

  abbrev e : ℕ → ℕ
  e n = end_of (turn c n)

  fact_of : (n : ℕ) → n < len → Fact w n
  fact_of n less = facts_all w (in_sync g) (is_first g) n less

  -- one round
  round : (n most : ℕ) → n < len → N ≤ n → IsRound bus n most → s n ≤ s (n - N) + most
  round n most less on is =
      let any : 0 < N = w.sound.some in
      let facts : (m : ℕ) → m < suc n → Fact w m = λ m l. fact_of m (omega arith) in
      let h : Chain w (suc n) (omega arith) facts (n - N) n (s n) = chain w (suc n) (omega arith) facts (n - N) n (omega arith) (omega arith) in
      let none : slowest bus n n ≡ 0 = between_none (longest_step bus) n in
      let zero : fastest bus n n ≡ 0 = between_none (shortest_step bus) n in
      elim (link g (suc n) (omega arith) facts (n - N) n (s n) on (omega arith) h) [
        | inl held ↦
            let own : bus.ti_long (who bus n) + slowest bus n n ≤ most + fastest bus n n = is n (omega arith) (omega arith) in
            let f : slowest bus (n - N) (n - N + N) < bus.ti_long (who bus n) = fits bus w.sound g.sync g.order (tg_within w) (who bus n) (n - N) (is_one w n) in
            let q : slowest bus (n - N) (n - N + N) ≡ slowest bus (n - N) n = ap (slowest bus (n - N)) (let i : n - N + N ≡ n = omega arith in i) in
            omega arith
        | inr l ↦
            let i : ℕ = l.0 in
            let a : n - N < i = l.1 in
            let b : i ≤ n = l.2 in
            let g : N ≤ i = l.3 in
            let held : s n ≤ s (i - N) + bus.ti_long (who bus i) + slowest bus i n = l.4 in
            let two : s (i - N) + fastest bus (i - N) (n - N) ≤ s (n - N) = fast w (suc n) (omega arith) facts (i - N) (n - N) (omega arith) (omega arith) in
            let three : fastest bus i n ≡ fastest bus (i - N) (n - N) = between_shift (shortest_step bus) N (short_again bus w.sound) i n g on in
            let four : bus.ti_long (who bus i) + slowest bus i n ≤ most + fastest bus i n = is i b (omega arith) in
            omega arith
      ]

  -- ---- many rounds

  -- no stretch of the round up to turn n varies by more than all of it
  spread_is : (n i : ℕ) → i ≤ n → n < i + N → slowest bus i n ≤ fastest bus i n + spread bus n
  spread_is n i low high =
      let a : ℕ = n + 1 - N in
      let slow : slowest bus (n + 1 - N) n ≡ slowest bus (n + 1 - N) i + slowest bus i n = between_join (longest_step bus) (n + 1 - N) i n (omega arith) low in
      let quick : fastest bus (n + 1 - N) n ≡ fastest bus (n + 1 - N) i + fastest bus i n = between_join (shortest_step bus) (n + 1 - N) i n (omega arith) low in
      let less : fastest bus (n + 1 - N) i ≤ slowest bus (n + 1 - N) i =
      between_less (shortest_step bus) (longest_step bus) (step_less bus w.sound g.sync g.order (tg_within w)) (n + 1 - N) i in
      omega arith

  own_pace : (n r : ℕ) → n + r * N < len → s n + r * bus.ti_short (who bus n) ≤ s (n + r * N)
  own_pace n zero less =
      let at : s (n + 0 * N) ≡ s n = ap s (let q : n + 0 * N ≡ n = omega arith in q) in
      omega arith
  own_pace n (suc r) less =
      let more : suc r * N ≡ r * N + N = suc-mul r N in
      let before : s n + r * bus.ti_short (who bus n) ≤ s (n + r * N) = own_pace n r (omega arith) in
      let step : s (n + suc r * N - N) + bus.ti_short (who bus (n + suc r * N)) ≤ s (n + suc r * N) = (fact_of (n + suc r * N) less).interval (omega arith) in
      let at : s (n + suc r * N - N) ≡ s (n + r * N) = ap s (let q : n + suc r * N - N ≡ n + r * N = omega arith in q) in
      let same : bus.ti_short (who bus (n + suc r * N)) ≡ bus.ti_short (who bus n) = ap bus.ti_short (rounds_later bus w.sound (suc r) n) in
      let count : suc r * bus.ti_short (who bus n) ≡ r * bus.ti_short (who bus n) + bus.ti_short (who bus n) = suc-mul r (bus.ti_short (who bus n)) in
      omega arith

  all_pace : (n r k : ℕ) → n + r * N < len → k < N → s n + (r - 1) * bus.ti_short k ≤ s (n + r * N)
  all_pace n zero k less known =
      let at : s (n + 0 * N) ≡ s n = ap s (let q : n + 0 * N ≡ n = omega arith in q) in
      let none : (0 - 1) * bus.ti_short k ≡ 0 * bus.ti_short k = ap (λ i. i * bus.ti_short k) (let q : 0 - 1 ≡ 0 = omega arith in q) in
      omega arith
  all_pace n (suc r) k less known =
      let more : suc r * N ≡ r * N + N = suc-mul r N in
      let t : NextTurn N k n = next_turn N k n known in
      let low : n ≤ t.at = t.low in
      let high : t.at < n + N = t.high in
      let count : (suc r - 1) * bus.ti_short k ≡ r * bus.ti_short k = ap (λ i. i * bus.ti_short k) (let q : suc r - 1 ≡ r = omega arith in q) in
      let one : s t.at + r * bus.ti_short (who bus t.at) ≤ s (t.at + r * N) = own_pace t.at r (omega arith) in
      let same : r * bus.ti_short (who bus t.at) ≡ r * bus.ti_short k = ap (λ i. r * bus.ti_short i) t.is in
      let two : s (t.at + r * N) ≤ s (n + suc r * N) = asc w (t.at + r * N) (n + suc r * N) (omega arith) less in
      let three : s n ≤ s t.at = asc w n t.at low (omega arith) in
      omega arith

  module _ (n slow : ℕ) (all_in : N ≤ n + 1) (slowly : (k : ℕ) → k < N → bus.ti_long k ≤ slow) where
    -- moment v comes at most r of the longest intervals behind a turn of this round, and what follows that
    record Reach (m v : ℕ) : Type 0 where
      i : ℕ
      r : ℕ
      low : i ≤ n
      high : n < i + N
      from : i + r * N ≤ m
      to : m < i + r * N + N
      by : v ≤ s i + r * slow + slowest bus (i + r * N) m

    reach : (fuel m : ℕ) → m < fuel → m < len → n < m + N → Reach m (s m)
    reach zero m fit less on = absurd (omega arith)
    reach (suc fuel) m fit less on = elim (cases_lt n m) [
      | inr first ↦
          let any : 0 < N = w.sound.some in
          let none : slowest bus (m + 0 * N) m ≡ slowest bus m m = ap (λ i. slowest bus i m) (let q : m + 0 * N ≡ m = omega arith in q) in
          let zero : slowest bus m m ≡ 0 = between_none (longest_step bus) m in
          record { i = m; r = 0; low = first; high = on; from = omega arith; to = omega arith; by = omega arith }
      | inl later ↦
          let any : 0 < N = w.sound.some in
          let f : Fact w m = fact_of m less in
          elim (f.held.1 (omega arith)) [
            | inl own ↦
                let h : Reach (m - N) (s (m - N)) = reach fuel (m - N) (omega arith) (omega arith) (omega arith) in
                let by : s (m - N) ≤ s h.i + h.r * slow + slowest bus (h.i + h.r * N) (m - N) = h.by in
                let from : h.i + h.r * N ≤ m - N = h.from in
                let to : m - N < h.i + h.r * N + N = h.to in
                let more : suc h.r * N ≡ h.r * N + N = suc-mul h.r N in
                let count : suc h.r * slow ≡ h.r * slow + slow = suc-mul h.r slow in
                let ti : bus.ti_long (who bus m) ≤ slow = slowly (who bus m) (is_one w m) in
                let shift : slowest bus (h.i + suc h.r * N) m ≡ slowest bus (h.i + suc h.r * N - N) (m - N) =
                between_shift (longest_step bus) N (long_again bus w.sound) (h.i + suc h.r * N) m (omega arith) (omega arith) in
                let same : slowest bus (h.i + suc h.r * N - N) (m - N) ≡ slowest bus (h.i + h.r * N) (m - N) =
                ap (λ i. slowest bus i (m - N)) (let q : h.i + suc h.r * N - N ≡ h.i + h.r * N = omega arith in q) in
                record { i = h.i; r = suc h.r; low = h.low; high = h.high; from = omega arith; to = omega arith; by = omega arith }
            | inr prev ↦
                let h : Reach (m - 1) (s (m - 1)) = reach fuel (m - 1) (omega arith) (omega arith) (omega arith) in
                let by : s (m - 1) ≤ s h.i + h.r * slow + slowest bus (h.i + h.r * N) (m - 1) = h.by in
                let from : h.i + h.r * N ≤ m - 1 = h.from in
                let to : m - 1 < h.i + h.r * N + N = h.to in
                let long : (turn c (m - 1)).length ≤ bus.longest (who bus (m - 1)) = at_most w len (omega arith) fact_of (m - 1) (omega arith) in
                let is : suc (m - 1) ≡ m = omega arith in
                let gap : bus.tg_long (who bus (suc (m - 1))) ≡ bus.tg_long (who bus m) = ap (λ i. bus.tg_long (who bus i)) is in
                let step : slowest bus (h.i + h.r * N) (suc (m - 1)) ≡ slowest bus (h.i + h.r * N) (m - 1) + longest_step bus (m - 1) =
                between_more (longest_step bus) (h.i + h.r * N) (m - 1) from in
                let same : slowest bus (h.i + h.r * N) (suc (m - 1)) ≡ slowest bus (h.i + h.r * N) m = ap (slowest bus (h.i + h.r * N)) is in
                elim (cases_lt m (h.i + h.r * N + N)) [
                  | inl within ↦ record { i = h.i; r = h.r; low = h.low; high = h.high; from = omega arith; to = within; by = omega arith }
                  | inr round ↦
                      let more : suc h.r * N ≡ h.r * N + N = suc-mul h.r N in
                      let count : suc h.r * slow ≡ h.r * slow + slow = suc-mul h.r slow in
                      let fit : slowest bus (h.i + h.r * N) (h.i + h.r * N + N) < bus.ti_long (who bus m) = fits bus w.sound g.sync g.order (tg_within w) (who bus m) (h.i + h.r * N) (is_one w m) in
                      let ti : bus.ti_long (who bus m) ≤ slow = slowly (who bus m) (is_one w m) in
                      let at : slowest bus (h.i + h.r * N) (h.i + h.r * N + N) ≡ slowest bus (h.i + h.r * N) m = ap (slowest bus (h.i + h.r * N)) (let q : h.i + h.r * N + N ≡ m = omega arith in q) in
                      record { i = h.i; r = suc h.r; low = h.low; high = h.high; from = omega arith; to = omega arith; by = omega arith }
                ]
          ]
    ]

    most_pace : (rounds : ℕ) → n + rounds * N < len → s (n + rounds * N) ≤ s n + rounds * slow + spread bus n
    most_pace rounds less =
        let any : 0 < N = w.sound.some in
        let h : Reach (n + rounds * N) (s (n + rounds * N)) = reach (suc (n + rounds * N)) (n + rounds * N) (omega arith) less (omega arith) in
        let low : h.i ≤ n = h.low in
        let high : n < h.i + N = h.high in
        let from : h.i + h.r * N ≤ n + rounds * N = h.from in
        let to : n + rounds * N < h.i + h.r * N + N = h.to in
        let by : s (n + rounds * N) ≤ s h.i + h.r * slow + slowest bus (h.i + h.r * N) (n + rounds * N) = h.by in
        let same : h.r ≡ rounds = same_round h.r rounds N (n - h.i) (omega arith) (omega arith) (omega arith) in
        let one : slowest bus (h.i + h.r * N) (n + rounds * N) ≡ slowest bus (h.i + rounds * N) (n + rounds * N) = ap (λ r. slowest bus (h.i + r * N) (n + rounds * N)) same in
        let two : slowest bus (h.i + rounds * N) (n + rounds * N) ≡ slowest bus h.i n = between_rounds (longest_step bus) N (long_again bus w.sound) rounds h.i n in
        let three : h.r * slow ≡ rounds * slow = ap (λ r. r * slow) same in
        let four : slowest bus h.i n ≤ fastest bus h.i n + spread bus n = spread_is n h.i low high in
        let five : s h.i + fastest bus h.i n ≤ s n = fast w len (omega arith) fact_of h.i n low (omega arith) in
        omega arith

  pub pace : (n rounds : ℕ) → n + rounds * N < len → KeepsPace bus c n rounds
  pace n rounds less = record {
    own = own_pace n rounds less;
    all = λ k known. all_pace n rounds k less known;
    pace = λ slow all_in slowly. most_pace n slow all_in slowly rounds less;
  }

abbrev keeping : (bus : Bus) (c : Course) (start : ℕ) (soon late : ℕ → ℕ) → LeavesTurns bus soon late → IsCourse bus c → AreEven bus c
    → Begins bus c start soon late → Keeping
keeping bus c start soon late room ok even begins = record {
  w = record {
    bus = bus;
    c = c;
    up = start;
    soon = λ k. start + soon k;
    late = λ k. start + late k;
    sound = room.hearing;
    ok = ok;
    even = even;
    begun = begun_at bus c start soon late room.hearing.some room.begin.first begins;
  };
  sync = room.sync;
  order = room.order;
  round = (let r : late (bus.senders - 1) + bus.longest (bus.senders - 1) + bus.delay + bus.tg_long 0 ≤ soon 0 + bus.ti_short 0 = room.begin.round in omega arith);
  again = λ k known. (let a : late (bus.senders - 1) + bus.delay < soon k + bus.ti_short k = room.begin.again k known in omega arith);
}

pub turns_go_on : TurnsGoOn
turns_go_on bus c start soon late room ok even begins =
    let g : Keeping = keeping bus c start soon late room ok even begins in
    all g.w (in_sync g) (is_first g)

pub pace_is_kept : PaceIsKept
pace_is_kept bus c start soon late room ok even begins =
    let g : Keeping = keeping bus c start soon late room ok even begins in
    record { round = λ n most less on is. round g n most less on is; pace = λ n rounds less. pace g n rounds less }
