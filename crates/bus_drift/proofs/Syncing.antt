-- Where the bounds leave room for turns, whoever is next is in sync in time, and is heard before anybody else begins.
use Rattle.std.proofs.Common.{◌≡◌, ℕ, zero, suc, ◌+◌, ◌-◌, ◌*◌, ◌<◌, ◌≤◌, ◌⊎◌, length, inl, inr, arith, sym, refl, ap, ◌∙◌, subst}
use Rattle.std.proofs.lemmas.Bool.{cases_lt, cases_eq}
use Rattle.std.proofs.Math.Nat.{add-mod_right, mod-eq_of_lt}
use Rattle.bus_clocks.specs.Buses.{Bus, sum_below}
use Rattle.bus_clocks.specs.Entries.{end_of}
use Rattle.bus_clocks.specs.Courses.{Course}
use Rattle.bus_drift.specs.Room.{HasRoomForSync, NoneOvertaken}
use Rattle.bus_drift.specs.Turns.{who, between, longest_step, shortest_step, slowest, fastest, turn}
use Rattle.bus_drift.proofs.Sums.{sum_from, sum_plus, sum_const, between_join, between_more, between_next, between_shift, between_round, turn_before}
use Rattle.bus_drift.proofs.Steps.{again, short_again, delays, round_longest, order, interval_fits}
use Rattle.bus_drift.proofs.Turning.{Turning, Fact, tg_within, ti_within, is_one, soon_late, late_most, some_long}
use Rattle.bus_drift.proofs.Chains.{Chain, at_most, fast, behind, chain}
use Rattle.bus_drift.proofs.Dues.{Due, Free, Ready, ready_from, ready_last, long_quiet}
use Rattle.bus_drift.proofs.Turns.{behind_own, behind_last, in_first, InSync, IsFirst}

-- a bus with room for turns, and what happens on it
pub record Keeping : Type 0 where
  pub w : Turning
  pub sync : HasRoomForSync w.bus
  pub order : NoneOvertaken w.bus
  pub round : w.late (w.bus.senders - 1) + w.bus.longest (w.bus.senders - 1) + w.bus.delay + w.bus.tg_long 0 ≤ w.soon 0 + w.bus.ti_short 0
  pub again : (k : ℕ) → k < w.bus.senders → w.late (w.bus.senders - 1) + w.bus.delay < w.soon k + w.bus.ti_short k

module _ (g : Keeping) where
  abbrev w : Turning
  w = g.w

  abbrev bus : Bus
  bus = w.bus

  abbrev c : Course
  c = w.c

  abbrev N : ℕ
  N = bus.senders

  abbrev len : ℕ
  len = length c.list

  abbrev s : ℕ → ℕ
  s n = (turn c n).moment

  abbrev e : ℕ → ℕ
  e n = end_of (turn c n)

  abbrev up : ℕ
  up = w.up

  abbrev soon : ℕ → ℕ
  soon = w.soon

  abbrev late : ℕ → ℕ
  late = w.late

  -- what is held back from a first start on is held back no longer than from the first sender's second turn on
  lift_by : (r i m : ℕ) → i + r ≡ N - 1 → N ≤ m → late i + slowest bus i m ≤ soon 0 + bus.ti_short 0 + slowest bus N m
  lift_by zero i m is on =
      let any : 0 < N = w.sound.some in
      let last : late (N - 1) + bus.longest (N - 1) + bus.delay + bus.tg_long 0 ≤ soon 0 + bus.ti_short 0 = g.round in
      let same : late i ≡ late (N - 1) = ap late (let q : i ≡ N - 1 = omega arith in q) in
      let parts : slowest bus i m ≡ slowest bus i N + slowest bus N m = between_join (longest_step bus) i N m (omega arith) on in
      let one : slowest bus i N ≡ slowest bus i (suc i) = ap (slowest bus i) (let q : N ≡ suc i = omega arith in q) in
      let two : slowest bus i (suc i) ≡ longest_step bus i = between_next (longest_step bus) i in
      let three : bus.longest (who bus i) ≡ bus.longest (N - 1) = ap bus.longest (mod-eq_of_lt (let q : i < N = omega arith in q) ∙ (let q : i ≡ N - 1 = omega arith in q)) in
      let four : who bus (suc i) ≡ who bus (0 + N) = ap (who bus) (let q : suc i ≡ 0 + N = omega arith in q) in
      let five : who bus (0 + N) ≡ 0 = add-mod_right 0 N ∙ mod-eq_of_lt (let q : 0 < N = omega arith in q) in
      let six : bus.tg_long (who bus (suc i)) ≡ bus.tg_long 0 = ap bus.tg_long (four ∙ five) in
      omega arith
  lift_by (suc r) i m is on =
      let more : late (suc i) + slowest bus (suc i) m ≤ soon 0 + bus.ti_short 0 + slowest bus N m = lift_by r (suc i) m (omega arith) on in
      let next : late i + bus.longest i + bus.delay + bus.tg_long (suc i) ≤ soon (suc i) = w.begun.apart i (omega arith) in
      let fine : soon (suc i) ≤ late (suc i) = soon_late w (suc i) (omega arith) in
      let parts : slowest bus i m ≡ slowest bus i (suc i) + slowest bus (suc i) m = between_join (longest_step bus) i (suc i) m (omega arith) (omega arith) in
      let two : slowest bus i (suc i) ≡ longest_step bus i = between_next (longest_step bus) i in
      let three : bus.longest (who bus i) ≡ bus.longest i = ap bus.longest (mod-eq_of_lt (let q : i < N = omega arith in q)) in
      let six : bus.tg_long (who bus (suc i)) ≡ bus.tg_long (suc i) = ap bus.tg_long (mod-eq_of_lt (let q : suc i < N = omega arith in q)) in
      omega arith

  module _ (n : ℕ) (upto : n ≤ len) (facts : (m : ℕ) → m < n → Fact w m) where
    -- from the second round on it owes it to no first start
    abbrev pub Link : ℕ → ℕ → ℕ → Type 0
    Link p m v =
        (v ≤ s p + slowest bus p m)
        ⊎ ((i : ℕ) × (p < i) × (i ≤ m) × (N ≤ i) × (v ≤ s (i - N) + bus.ti_long (who bus i) + slowest bus i m))

    pub link : (p m v : ℕ) → N ≤ m → 0 < n → Chain w n upto facts p m v → Link p m v
    link p m v on some (inl h) = inl h
    link p m v on some (inr (inl h)) = inr h
    link p m v on some (inr (inr h)) =
        let any : 0 < N = w.sound.some in
        let a : p < h.0 = h.1 in
        let b : h.0 < N = h.3 in
        let f : v ≤ late h.0 + slowest bus h.0 m = h.4 in
        let l : late h.0 + slowest bus h.0 m ≤ soon 0 + bus.ti_short 0 + slowest bus N m = lift_by (N - 1 - h.0) h.0 m (omega arith) on in
        let first : soon 0 ≤ s 0 = (facts 0 some).first (omega arith) in
        let at : s (N - N) ≡ s 0 = ap s (let q : N - N ≡ 0 = omega arith in q) in
        let same : who bus N ≡ 0 = ap (who bus) (let q : N ≡ 0 + N = omega arith in q) ∙ add-mod_right 0 N ∙ mod-eq_of_lt (let q : 0 < N = omega arith in q) in
        let ti : bus.ti_long (who bus N) ≡ bus.ti_long 0 = ap bus.ti_long same in
        let within : bus.ti_short 0 ≤ bus.ti_long 0 = ti_within w 0 (omega arith) in
        inr (N, omega arith, on, omega arith, omega arith)

    module _ (m : ℕ) (du : Due w n upto facts m) where
      abbrev k : ℕ
      k = who bus n

      module _ (free : Free w n upto facts m du) where
        -- what all have taken at most where no quiet was long
        abbrev filled : ℕ → ℕ → ℕ
        filled a b = between (λ l. bus.longest (who bus l) + bus.delay + bus.sg_long k) a b

        sought : N ≤ n → (b : ℕ) → n - N < b → b < n → Ready w n upto facts m du ⊎ (s b + (b - (n - N)) + bus.delay ≤ s (n - N) + filled (n - N) b)
        sought on zero low less = absurd (omega arith)
        sought on (suc b) low less = elim (cases_eq b (n - N)) [
          | inl own ↦
              let one : filled (n - N) (suc b) ≡ filled b (suc b) = ap (λ i. filled i (suc b)) (sym own) in
              let two : filled b (suc b) ≡ bus.longest (who bus b) + bus.delay + bus.sg_long k = between_next (λ l. bus.longest (who bus l) + bus.delay + bus.sg_long k) b in
              let at : s b ≡ s (n - N) = ap s own in
              let long : (turn c b).length ≤ bus.longest (who bus b) = at_most w n upto facts b (omega arith) in
              elim (cases_lt (s (suc b)) (e b + bus.sg_long k)) [
                | inl soon ↦ inr (omega arith)
                | inr quiet ↦ inl (long_quiet w n upto facts m du free on b (e b) (omega arith) less (omega arith) (inr own) quiet)
              ]
          | inr other ↦ elim (sought on b (omega arith) (omega arith)) [
            | inl found ↦ inl found
            | inr before ↦
                let two : filled (n - N) (suc b) ≡ filled (n - N) b + (bus.longest (who bus b) + bus.delay + bus.sg_long k) =
                between_more (λ l. bus.longest (who bus l) + bus.delay + bus.sg_long k) (n - N) b (omega arith) in
                let long : (turn c b).length ≤ bus.longest (who bus b) = at_most w n upto facts b (omega arith) in
                elim (cases_lt (s (suc b)) (e b + bus.delay + bus.sg_long k)) [
                  | inl soon ↦ inr (omega arith)
                  | inr quiet ↦ inl (long_quiet w n upto facts m du free on b (e b + bus.delay) (omega arith) less (omega arith) (inl refl) quiet)
                ]
          ]
        ]

        filled_round : N ≤ n → filled (n - N) n ≡ sum_below bus.longest N + N * bus.delay + N * bus.sg_long k
        filled_round on =
            let f : ℕ → ℕ = λ l. bus.longest (who bus l) + bus.delay + bus.sg_long k in
            let zero : filled (n - N) n ≡ filled (n - N) (n - N + N) = ap (filled (n - N)) (let q : n ≡ n - N + N = omega arith in q) in
            let one : filled (n - N) (n - N + N) ≡ sum_from f 0 N = between_round f N (λ l. ap (λ i. bus.longest i + bus.delay + bus.sg_long k) (again bus w.sound l)) (n - N) in
            let two : sum_from f 0 N ≡ sum_from (λ l. bus.longest (who bus l) + bus.delay) 0 N + sum_from (λ l. bus.sg_long k) 0 N =
            sum_plus (λ l. bus.longest (who bus l) + bus.delay) (λ l. bus.sg_long k) 0 N in
            let three : sum_from (λ l. bus.longest (who bus l) + bus.delay) 0 N ≡ sum_from (λ l. bus.longest (who bus l)) 0 N + sum_from (λ l. bus.delay) 0 N =
            sum_plus (λ l. bus.longest (who bus l)) (λ l. bus.delay) 0 N in
            let four : sum_from (λ l. bus.delay) 0 N ≡ N * bus.delay = sum_const bus.delay 0 N in
            let five : sum_from (λ l. bus.sg_long k) 0 N ≡ N * bus.sg_long k = sum_const (bus.sg_long k) 0 N in
            omega (arith, round_longest bus w.sound)

        -- a sender that is alone hears its own end at once
        ready_alone : N ≤ n → N ≡ 1 → Ready w n upto facts m du
        ready_alone on alone =
            let own : s (n - N) + bus.ti_long k ≤ m = du.own on in
            let at : s (n - N) ≡ s (n - 1) = ap s (let q : n - N ≡ n - 1 = omega arith in q) in
            let long : (turn c (n - 1)).length ≤ bus.longest (who bus (n - 1)) = at_most w n upto facts (n - 1) (omega arith) in
            let first : who bus (n - 1) ≡ 0 = (let l : who bus (n - 1) < N = is_one w (n - 1) in omega arith) in
            let most : bus.longest (who bus (n - 1)) ≡ bus.longest 0 = ap bus.longest first in
            let sum : sum_below bus.longest N ≡ sum_below bus.longest 1 = ap (sum_below bus.longest) alone in
            let one : N * bus.sg_long k ≡ 1 * bus.sg_long k = ap (λ i. i * bus.sg_long k) alone in
            let room : sum_below bus.longest N + N * bus.sg_long k + bus.tg_long k + (N - 1) * bus.delay ≤ bus.ti_long k + (N - 1) = g.sync.room k (is_one w n) in
            ready_from w n upto facts m du free on (e (n - 1)) (omega arith) (inr (omega arith)) (omega arith)

        -- among others there is a quiet long enough between two turns, or behind the last one
        ready_among : N ≤ n → 1 < N → Ready w n upto facts m du
        ready_among on several =
            let any : 0 < N = w.sound.some in
            elim (sought on (n - 1) (omega arith) (omega arith)) [
              | inl found ↦ found
              | inr before ↦
                  let prev : e (n - 1) + bus.delay + bus.tg_long k ≤ m = du.prev (omega arith) in
                  let own : s (n - N) + bus.ti_long k ≤ m = du.own on in
                  let long : (turn c (n - 1)).length ≤ bus.longest (who bus (n - 1)) = at_most w n upto facts (n - 1) (omega arith) in
                  let some : 0 < (turn c (n - 1)).length = some_long w (n - 1) (omega arith) in
                  elim (cases_lt m (e (n - 1) + bus.delay + bus.sg_long k + bus.tg_long k)) [
                    | inr quiet ↦ ready_last w n upto facts m du free on quiet
                    | inl soon ↦
                        let one : filled (n - N) (suc (n - 1)) ≡ filled (n - N) (n - 1) + (bus.longest (who bus (n - 1)) + bus.delay + bus.sg_long k) =
                        between_more (λ l. bus.longest (who bus l) + bus.delay + bus.sg_long k) (n - N) (n - 1) (omega arith) in
                        let two : filled (n - N) (suc (n - 1)) ≡ filled (n - N) n = ap (filled (n - N)) (let q : suc (n - 1) ≡ n = omega arith in q) in
                        let three : filled (n - N) n ≡ sum_below bus.longest N + N * bus.delay + N * bus.sg_long k = filled_round on in
                        let room : sum_below bus.longest N + N * bus.sg_long k + bus.tg_long k + (N - 1) * bus.delay ≤ bus.ti_long k + (N - 1) = g.sync.room k (is_one w n) in
                        let four : (N - 1) * bus.delay + bus.delay ≡ N * bus.delay = delays bus w.sound in
                        absurd (omega arith)
                  ]
            ]

        ready_later : N ≤ n → Ready w n upto facts m du
        ready_later on = elim (cases_eq N 1) [
          | inl alone ↦ ready_alone on alone
          | inr more ↦ (let any : 0 < N = w.sound.some in ready_among on (omega arith))
        ]

      -- turn z is of the sender whose next turn is q
      module _ (z q : ℕ) (from : n ≤ z) (within : z < len) (low : n < q) (high : q < n + N) (mine : (turn c z).sender ≡ who bus q) where
        first_round : n < N → m + bus.delay < s z
        first_round less = elim (cases_lt q N) [
          | inl first ↦ in_first w n upto facts m du z q from within low high mine less first
          | inr on ↦
              let f : m ≡ late n = du.first less in
              let one : s (q - N) + bus.ti_short (who bus q) ≤ s z = behind_own w n upto facts m du z q from within low high mine on in
              let two : soon (q - N) ≤ s (q - N) = (facts (q - N) (omega arith)).first (omega arith) in
              let three : late (N - 1) + bus.delay < soon (q - N) + bus.ti_short (q - N) = g.again (q - N) (omega arith) in
              let four : late n ≤ late (N - 1) = late_most w n less in
              let five : bus.ti_short (q - N) ≡ bus.ti_short (who bus q) = ap bus.ti_short (sym (mod-eq_of_lt (let i : q - N < N = omega arith in i)) ∙ turn_before N q on) in
              omega arith
        ]

        past_own : N ≤ n → s (n - N) + bus.ti_long (who bus n) + bus.delay < s z
        past_own on =
            let one : s (q - N) + bus.ti_short (who bus q) ≤ s z = behind_own w n upto facts m du z q from within low high mine (omega arith) in
            let any : 0 < N = w.sound.some in
            let two : s (n - N) + fastest bus (n - N) (q - N) ≤ s (q - N) = fast w n upto facts (n - N) (q - N) (omega arith) (omega arith) in
            let three : fastest bus n q ≡ fastest bus (n - N) (q - N) = between_shift (shortest_step bus) N (short_again bus w.sound) n q on (omega arith) in
            let four : bus.ti_long (who bus n) + slowest bus n n + bus.delay < bus.ti_short (who bus q) + fastest bus n q = order bus w.sound g.sync g.order (tg_within w) n n q (omega arith) low high (inl refl) in
            omega arith

        past_last : N ≤ n → e (n - 1) + bus.delay + bus.tg_long (who bus n) + bus.delay < s z
        past_last on = elim (cases_lt (bus.tg_long (who bus n) + 2 * bus.delay) (bus.tg_short (who bus q))) [
          | inl apart ↦ (let any : 0 < N = w.sound.some in let gap : e (n - 1) + bus.tg_short (who bus q) ≤ s z = behind_last w n upto facts m du z q from within low high mine (omega arith) in omega arith)
          | inr close ↦
              let any : 0 < N = w.sound.some in
              let is : suc (n - 1) ≡ n = omega arith in
              let one : s (q - N) + bus.ti_short (who bus q) ≤ s z = behind_own w n upto facts m du z q from within low high mine (omega arith) in
              let h : Chain w n upto facts (q - N) n (e (n - 1) + bus.delay + bus.tg_long (who bus n)) =
              subst (λ i. Chain w n upto facts (q - N) i (e (n - 1) + bus.delay + bus.tg_long (who bus i))) is
              (behind w n upto facts (q - N) (n - 1) (omega arith) (omega arith) (chain w n upto facts (q - N) (n - 1) (omega arith) (omega arith))) in
              elim (link (q - N) n (e (n - 1) + bus.delay + bus.tg_long (who bus n)) on (omega arith) h) [
                | inl held ↦ (let f : slowest bus (q - N) n + bus.delay < bus.ti_short (who bus q) = interval_fits bus w.sound g.sync g.order (tg_within w) n q on low high in omega arith)
                | inr l ↦
                    let i : ℕ = l.0 in
                    let a : q - N < i = l.1 in
                    let b : i ≤ n = l.2 in
                    let later : N ≤ i = l.3 in
                    let held : e (n - 1) + bus.delay + bus.tg_long (who bus n) ≤ s (i - N) + bus.ti_long (who bus i) + slowest bus i n = l.4 in
                    let two : s (i - N) + fastest bus (i - N) (q - N) ≤ s (q - N) = fast w n upto facts (i - N) (q - N) (omega arith) (omega arith) in
                    let three : fastest bus i q ≡ fastest bus (i - N) (q - N) = between_shift (shortest_step bus) N (short_again bus w.sound) i q later (omega arith) in
                    let four : bus.ti_long (who bus i) + slowest bus i n + bus.delay < bus.ti_short (who bus q) + fastest bus i q =
                    order bus w.sound g.sync g.order (tg_within w) i n q b low (omega arith) (inr close) in
                    omega arith
              ]
        ]

        past : m + bus.delay < s z
        past = elim (cases_lt n N) [
          | inl less ↦ first_round less
          | inr on ↦ elim (du.is on) [
            | inl own ↦ (let p : s (n - N) + bus.ti_long (who bus n) + bus.delay < s z = past_own on in omega arith)
            | inr prev ↦ (let p : e (n - 1) + bus.delay + bus.tg_long (who bus n) + bus.delay < s z = past_last on in omega arith)
          ]
        ]

  pub in_sync : InSync w
  in_sync n upto facts m du free on = ready_later n upto facts m du free on

  pub is_first : IsFirst w
  is_first n upto facts m du z q from within low high mine = past n upto facts m du z q from within low high mine
