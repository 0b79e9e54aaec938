-- Where one clock leads all follow it.
use Rattle.std.proofs.Common.{◌≡◌, ℕ, zero, suc, ◌+◌, ◌-◌, ◌*◌, ◌/◌, ◌%◌, ◌<◌, ◌≤◌, length, inl, inr, arith, sym, refl, ap, ◌∙◌, subst}
use Rattle.std.proofs.lemmas.Bool.{cases_lt, cases_eq}
use Rattle.std.proofs.lemmas.Nat.{div-add-mod'}
use Rattle.std.proofs.Math.Nat.{mod-eq_of_lt, mod-le, suc-mul}
use Rattle.bus_clocks.specs.Buses.{Bus}
use Rattle.bus_clocks.specs.Entries.{end_of}
use Rattle.bus_clocks.specs.Courses.{Course}
use Rattle.bus_drift.specs.InTurn.{IsDue}
use Rattle.bus_drift.specs.Leading.{AreOffsets, NoneOvertakenInRound, HasPause, FollowsLead, KeepsOffset, OneLeads}
use Rattle.bus_drift.specs.Turns.{who, longest_step, shortest_step, slowest, fastest, turn}
use Rattle.bus_drift.proofs.Sums.{turn_before, between_rounds}
use Rattle.bus_drift.proofs.Steps.{long_again, short_again, rounds_later}
use Rattle.bus_drift.proofs.Turning.{Turning, Fact, begun_at, ti_within, is_one}
use Rattle.bus_drift.proofs.Chains.{Chain, at_most, fast, behind, chain}
use Rattle.bus_drift.proofs.Dues.{Due, Free, Ready, ready_last, long_quiet}
use Rattle.bus_drift.proofs.Turns.{behind_own, behind_last, in_first, facts_all, all, InSync, IsFirst}

sum_swap : (a b n : ℕ) → a + b ≡ n → b + a ≡ n
sum_swap a b n is = omega arith

-- a bus on which one clock leads, and what happens there
pub record Led : Type 0 where
  pub w : Turning
  pub offset : ℕ → ℕ
  pub clock : (k : ℕ) → 0 < k → k < w.bus.senders → w.bus.ti_long k ≤ w.bus.ti_short 0
  pub offsets : AreOffsets w.bus w.soon w.late offset
  pub order : NoneOvertakenInRound w.bus
  pub pause : HasPause w.bus offset

module _ (g : Led) where
  abbrev w : Turning
  w = g.w

  abbrev offset : ℕ → ℕ
  offset = g.offset

  abbrev bus : Bus
  bus = w.bus

  abbrev c : Course
  c = w.c

  abbrev N : ℕ
  N = bus.senders

  abbrev len : ℕ
  len = length c.list

  abbrev s : ℕ → ℕ
  s n = (turn c n).moment

  abbrev e : ℕ → ℕ
  e n = end_of (turn c n)

  abbrev soon : ℕ → ℕ
  soon = w.soon

  abbrev late : ℕ → ℕ
  late = w.late

  -- ---- places in a round

  -- the round of turn n
  record RoundOf (n : ℕ) : Type 0 where
    r : ℕ
    is : who bus n + r * N ≡ n

  round_of : (n : ℕ) → RoundOf n
  round_of n =
      let q : n / N * N + n % N ≡ n = div-add-mod' n N in
      record { r = n / N; is = sum_swap (n / N * N) (n % N) n q }

  -- a turn of round r is told by its place
  place_is : (r x : ℕ) → r * N ≤ x → x < r * N + N → who bus x + r * N ≡ x
  place_is r x low high =
      let one : who bus x ≡ who bus (x - r * N + r * N) = ap (who bus) (let q : x ≡ x - r * N + r * N = omega arith in q) in
      let two : who bus (x - r * N + r * N) ≡ who bus (x - r * N) = rounds_later bus w.sound r (x - r * N) in
      let three : who bus (x - r * N) ≡ x - r * N = mod-eq_of_lt (let q : x - r * N < N = omega arith in q) in
      let four : who bus x ≡ x - r * N = one ∙ two ∙ three in
      omega arith

  -- from the second round on the round begins a round later
  lead_later : (n : ℕ) → N ≤ n → who bus n + N ≤ n
  lead_later n on =
      let one : who bus (n - N) ≡ who bus n = turn_before N n on in
      let two : who bus (n - N) ≤ n - N = mod-le (n - N) N in
      omega arith

  -- the first sender's turn of the round
  lead_is : (n : ℕ) → who bus (n - who bus n) ≡ 0
  lead_is n =
      let any : 0 < N = w.sound.some in
      let one : who bus n < N = is_one w n in
      let r : RoundOf n = round_of n in
      let is : who bus n + r.r * N ≡ n = r.is in
      let two : who bus (n - who bus n) + r.r * N ≡ n - who bus n = place_is r.r (n - who bus n) (omega arith) (omega arith) in
      omega arith

  who_prev : (n : ℕ) → 0 < who bus n → who bus (n - 1) + 1 ≡ who bus n
  who_prev n some =
      let one : who bus n < N = is_one w n in
      let r : RoundOf n = round_of n in
      let is : who bus n + r.r * N ≡ n = r.is in
      let two : who bus (n - 1) + r.r * N ≡ n - 1 = place_is r.r (n - 1) (omega arith) (omega arith) in
      omega arith

  who_last : (n : ℕ) → who bus n ≡ 0 → N ≤ n → who bus (n - 1) ≡ N - 1
  who_last n none on =
      let any : 0 < N = w.sound.some in
      let r : RoundOf (n - N) = round_of (n - N) in
      let is : who bus (n - N) + r.r * N ≡ n - N = r.is in
      let same : who bus (n - N) ≡ who bus n = turn_before N n on in
      let two : who bus (n - 1) + r.r * N ≡ n - 1 = place_is r.r (n - 1) (omega arith) (omega arith) in
      omega arith

  -- sums inside a round
  fast_in : (r i j : ℕ) → fastest bus (i + r * N) (j + r * N) ≡ fastest bus i j
  fast_in r i j = between_rounds (shortest_step bus) N (short_again bus w.sound) r i j

  slow_in : (r i j : ℕ) → slowest bus (i + r * N) (j + r * N) ≡ slowest bus i j
  slow_in r i j = between_rounds (longest_step bus) N (long_again bus w.sound) r i j

  fast_at : (r x y i j : ℕ) → i + r * N ≡ x → j + r * N ≡ y → fastest bus x y ≡ fastest bus i j
  fast_at r x y i j a b = ap (λ v. fastest bus v y) (sym a) ∙ ap (fastest bus (i + r * N)) (sym b) ∙ fast_in r i j

  slow_at : (r x y i j : ℕ) → i + r * N ≡ x → j + r * N ≡ y → slowest bus x y ≡ slowest bus i j
  slow_at r x y i j a b = ap (λ v. slowest bus v y) (sym a) ∙ ap (slowest bus (i + r * N)) (sym b) ∙ slow_in r i j

  offsets : (j k : ℕ) → j ≤ k → k < N → offset j ≤ offset k
  offsets j zero less known = (let q : offset j ≡ offset 0 = ap offset (let i : j ≡ 0 = omega arith in i) in omega arith)
  offsets j (suc k) less known = elim (cases_eq j (suc k)) [
    | inl same ↦ (let q : offset j ≡ offset (suc k) = ap offset same in omega arith)
    | inr other ↦
        let before : offset j ≤ offset k = offsets j k (omega arith) (omega arith) in
        let step : offset k + bus.longest k + bus.delay + bus.tg_long (suc k) ≤ offset (suc k) = g.offsets.steps k known in
        omega arith
  ]

  -- ---- all follow

  module _ (n : ℕ) (upto : n ≤ len) (facts : (m : ℕ) → m < n → Fact w m) where
    abbrev Offset : ℕ → ℕ → Type 0
    Offset m v = v ≤ s (m - who bus m) + offset (who bus m)

    -- who isn't due later than that
    offset_of : (m v : ℕ) → m ≤ n → 0 < who bus m → ((i : ℕ) → i < m → Offset i (s i)) → IsDue bus c late m v → Offset m v
    offset_of m v upto_n some before due = elim (cases_lt m N) [
      | inl first ↦
          let is : who bus m ≡ m = mod-eq_of_lt first in
          let one : v ≤ late m = due.0 first in
          let two : late m ≤ soon 0 + offset m = g.offsets.first m (omega arith) first in
          let three : soon 0 ≤ s 0 = (facts 0 (omega arith)).first (omega arith) in
          let four : offset (who bus m) ≡ offset m = ap offset is in
          let five : s (m - who bus m) ≡ s 0 = ap s (let q : m - who bus m ≡ 0 = omega arith in q) in
          omega arith
      | inr on ↦
          let any : 0 < N = w.sound.some in
          let known : who bus m < N = is_one w m in
          elim (due.1 on) [
            | inl own ↦
                let later : who bus m + N ≤ m = lead_later m on in
                let same : who bus (m - N) ≡ who bus m = turn_before N m on in
                let one : s (m - N) ≤ s (m - N - who bus (m - N)) + offset (who bus (m - N)) = before (m - N) (omega arith) in
                let two : offset (who bus (m - N)) ≡ offset (who bus m) = ap offset same in
                let three : s (m - N - who bus (m - N)) ≡ s (m - who bus m - N) = ap s (let q : m - N - who bus (m - N) ≡ m - who bus m - N = omega arith in q) in
                let lead : who bus (m - who bus m) ≡ 0 = lead_is m in
                let four : s (m - who bus m - N) + bus.ti_short (who bus (m - who bus m)) ≤ s (m - who bus m) = (facts (m - who bus m) (omega arith)).interval (omega arith) in
                let five : bus.ti_short (who bus (m - who bus m)) ≡ bus.ti_short 0 = ap bus.ti_short lead in
                let six : bus.ti_long (who bus m) ≤ bus.ti_short 0 = g.clock (who bus m) some known in
                omega arith
            | inr prev ↦
                let at : who bus (m - 1) + 1 ≡ who bus m = who_prev m some in
                let one : s (m - 1) ≤ s (m - 1 - who bus (m - 1)) + offset (who bus (m - 1)) = before (m - 1) (omega arith) in
                let two : s (m - 1 - who bus (m - 1)) ≡ s (m - who bus m) = ap s (let q : m - 1 - who bus (m - 1) ≡ m - who bus m = omega arith in q) in
                let long : (turn c (m - 1)).length ≤ bus.longest (who bus (m - 1)) = at_most w n upto facts (m - 1) (omega arith) in
                let next : suc (who bus (m - 1)) ≡ who bus m = omega arith in
                let step : offset (who bus (m - 1)) + bus.longest (who bus (m - 1)) + bus.delay + bus.tg_long (suc (who bus (m - 1))) ≤ offset (suc (who bus (m - 1)))
                = g.offsets.steps (who bus (m - 1)) (omega arith) in
                let three : bus.tg_long (suc (who bus (m - 1))) ≡ bus.tg_long (who bus m) = ap bus.tg_long next in
                let four : offset (suc (who bus (m - 1))) ≡ offset (who bus m) = ap offset next in
                omega arith
          ]
    ]

    offset_by : (fuel m : ℕ) → m < fuel → m < n → Offset m (s m)
    offset_by zero m fit less = absurd (omega arith)
    offset_by (suc fuel) m fit less = elim (cases_eq (who bus m) 0) [
      | inl none ↦ (let q : s (m - who bus m) ≡ s m = ap s (let i : m - who bus m ≡ m = omega arith in i) in omega arith)
      | inr some ↦ offset_of m (s m) (omega arith) (omega arith) (λ i low. offset_by fuel i (omega arith) (omega arith)) (facts m less).held
    ]

    is_offset : (m : ℕ) → m < n → Offset m (s m)
    is_offset m less = offset_by (suc m) m (omega arith) less

    -- by then all of the round before have ended
    ended_by : (m : ℕ) → m ≤ n → who bus m ≡ 0 → N ≤ m → e (m - 1) ≤ s (m - N) + offset (N - 1) + bus.longest (N - 1)
    ended_by m upto_n none on =
        let any : 0 < N = w.sound.some in
        let last : who bus (m - 1) ≡ N - 1 = who_last m none on in
        let one : s (m - 1) ≤ s (m - 1 - who bus (m - 1)) + offset (who bus (m - 1)) = is_offset (m - 1) (omega arith) in
        let two : s (m - 1 - who bus (m - 1)) ≡ s (m - N) = ap s (let q : m - 1 - who bus (m - 1) ≡ m - N = omega arith in q) in
        let three : offset (who bus (m - 1)) ≡ offset (N - 1) = ap offset last in
        let long : (turn c (m - 1)).length ≤ bus.longest (who bus (m - 1)) = at_most w n upto facts (m - 1) (omega arith) in
        let four : bus.longest (who bus (m - 1)) ≡ bus.longest (N - 1) = ap bus.longest last in
        omega arith

    lead_of : (m v : ℕ) → m ≤ n → who bus m ≡ 0 → N ≤ m → IsDue bus c late m v → v ≤ s (m - N) + bus.ti_long 0
    lead_of m v upto_n none on due =
        let ti : bus.ti_long (who bus m) ≡ bus.ti_long 0 = ap bus.ti_long none in
        let tg : bus.tg_long (who bus m) ≡ bus.tg_long 0 = ap bus.tg_long none in
        elim (due.1 on) [
          | inl own ↦ omega arith
          | inr prev ↦
              let by : e (m - 1) ≤ s (m - N) + offset (N - 1) + bus.longest (N - 1) = ended_by m upto_n none on in
              let opening : offset (N - 1) + bus.longest (N - 1) + bus.delay + bus.sg_long 0 + bus.tg_long 0 ≤ bus.ti_long 0 = g.pause.opening in
              omega arith
        ]

    -- turn m of the first sender comes so late that all others are in sync
    lead_late : (m k : ℕ) → m < n → who bus m ≡ 0 → N ≤ m → 0 < k → k < N → e (m - 1) + bus.delay + bus.sg_long k ≤ s m
    lead_late m k less none on some known =
        let by : e (m - 1) ≤ s (m - N) + offset (N - 1) + bus.longest (N - 1) = ended_by m (omega arith) none on in
        let one : s (m - N) + bus.ti_short (who bus m) ≤ s m = (facts m less).interval on in
        let two : bus.ti_short (who bus m) ≡ bus.ti_short 0 = ap bus.ti_short none in
        let room : offset (N - 1) + bus.longest (N - 1) + bus.delay + bus.sg_long k ≤ bus.ti_short 0 = g.pause.room k some known in
        omega arith

    module _ (m : ℕ) (du : Due w n upto facts m) where
      is_due : IsDue bus c late n m
      is_due = (
        (λ early. let q : m ≡ late n = du.first early in omega arith),
        (λ on. elim (du.is on) [ inl own ↦ inl (omega arith) | inr prev ↦ inr (omega arith) ]),
      )

      synced : Free w n upto facts m du → N ≤ n → Ready w n upto facts m du
      synced free on =
          let any : 0 < N = w.sound.some in
          elim (cases_eq (who bus n) 0) [
            | inl none ↦
                let own : s (n - N) + bus.ti_long (who bus n) ≤ m = du.own on in
                let ti : bus.ti_long (who bus n) ≡ bus.ti_long 0 = ap bus.ti_long none in
                let tg : bus.tg_long (who bus n) ≡ bus.tg_long 0 = ap bus.tg_long none in
                let sg : bus.sg_long (who bus n) ≡ bus.sg_long 0 = ap bus.sg_long none in
                let by : e (n - 1) ≤ s (n - N) + offset (N - 1) + bus.longest (N - 1) = ended_by n (omega arith) none on in
                let opening : offset (N - 1) + bus.longest (N - 1) + bus.delay + bus.sg_long 0 + bus.tg_long 0 ≤ bus.ti_long 0 = g.pause.opening in
                ready_last w n upto facts m du free on (omega arith)
            | inr some ↦
                let later : who bus n + N ≤ n = lead_later n on in
                let l : ℕ = n - who bus n in
                let known : who bus n < N = is_one w n in
                let quiet : e (n - who bus n - 1) + bus.delay + bus.sg_long (who bus n) ≤ s (n - who bus n) =
                lead_late (n - who bus n) (who bus n) (omega arith) (lead_is n) (omega arith) (omega arith) known in
                let at : s (suc (n - who bus n - 1)) ≡ s (n - who bus n) = ap s (let q : suc (n - who bus n - 1) ≡ n - who bus n = omega arith in q) in
                long_quiet w n upto facts m du free on (n - who bus n - 1) (e (n - who bus n - 1) + bus.delay) (omega arith) (omega arith) (omega arith) (inl refl) (omega arith)
          ]

      module _ (z q : ℕ) (from : n ≤ z) (within : z < len) (low : n < q) (high : q < n + N) (mine : (turn c z).sender ≡ who bus q) where
        own_after : N ≤ q → s (q - N) + bus.ti_short (who bus q) ≤ s z
        own_after on = behind_own w n upto facts m du z q from within low high mine on

        -- the first sender's turn is heard before any other of its round
        lead_first : who bus n ≡ 0 → N ≤ n → m + bus.delay < s z
        lead_first none on =
            let any : 0 < N = w.sound.some in
            let by : m ≤ s (n - N) + bus.ti_long 0 = lead_of n m (omega arith) none on is_due in
            let r : RoundOf (n - N) = round_of (n - N) in
            let is : who bus (n - N) + r.r * N ≡ n - N = r.is in
            let same : who bus (n - N) ≡ who bus n = turn_before N n on in
            let at : who bus (q - N) + r.r * N ≡ q - N = place_is r.r (q - N) (omega arith) (omega arith) in
            let same_q : who bus (q - N) ≡ who bus q = turn_before N q (omega arith) in
            let one : s (q - N) + bus.ti_short (who bus q) ≤ s z = own_after (omega arith) in
            let two : s (n - N) + fastest bus (n - N) (q - N) ≤ s (q - N) = fast w n upto facts (n - N) (q - N) (omega arith) (omega arith) in
            let three : fastest bus (n - N) (q - N) ≡ fastest bus 0 (who bus q) = fast_at r.r (n - N) (q - N) 0 (who bus q) (omega arith) (omega arith) in
            let four : bus.ti_long 0 + slowest bus 0 0 + bus.delay < bus.ti_short (who bus q) + fastest bus 0 (who bus q) =
            g.order 0 0 (who bus q) (omega arith) (omega arith) (is_one w q) (inl refl) in
            omega arith

        -- the next round comes behind
        next_round : 0 < who bus n → n - who bus n + N ≤ q → m + bus.delay < s z
        next_round some next =
            let any : 0 < N = w.sound.some in
            let known : who bus n < N = is_one w n in
            let r : RoundOf n = round_of n in
            let is : who bus n + r.r * N ≡ n = r.is in
            let by : m ≤ s (n - who bus n) + offset (who bus n) = offset_of n m (omega arith) some is_offset is_due in
            let at : who bus (q - N) + r.r * N ≡ q - N = place_is r.r (q - N) (omega arith) (omega arith) in
            let same_q : who bus (q - N) ≡ who bus q = turn_before N q (omega arith) in
            let one : s (q - N) + bus.ti_short (who bus q) ≤ s z = own_after (omega arith) in
            let two : s (n - who bus n) + fastest bus (n - who bus n) (q - N) ≤ s (q - N) = fast w n upto facts (n - who bus n) (q - N) (omega arith) (omega arith) in
            let three : fastest bus (n - who bus n) (q - N) ≡ fastest bus 0 (who bus q) = fast_at r.r (n - who bus n) (q - N) 0 (who bus q) (omega arith) (omega arith) in
            let room : offset (N - 1) + bus.longest (N - 1) + bus.delay + bus.sg_long (who bus n) ≤ bus.ti_short 0 = g.pause.room (who bus n) some known in
            let grows : offset (who bus n) ≤ offset (N - 1) = offsets (who bus n) (N - 1) (omega arith) (omega arith) in
            let long : 0 < bus.longest (N - 1) = (w.sound.lasting (N - 1) (omega arith)).0 in
            let within_0 : bus.ti_short 0 ≤ bus.ti_long 0 = ti_within w 0 (omega arith) in
            elim (cases_eq (who bus q) 0) [
              | inl none ↦ (let ti : bus.ti_short (who bus q) ≡ bus.ti_short 0 = ap bus.ti_short none in omega arith)
              | inr other ↦
                  let four : bus.ti_long 0 + slowest bus 0 0 + bus.delay < bus.ti_short (who bus q) + fastest bus 0 (who bus q) =
                  g.order 0 0 (who bus q) (omega arith) (omega arith) (is_one w q) (inl refl) in
                  omega arith
            ]

        -- inside the round
        same_round : 0 < who bus n → N ≤ n → q < n - who bus n + N → m + bus.delay < s z
        same_round some on near =
            let any : 0 < N = w.sound.some in
            let known : who bus n < N = is_one w n in
            let later : who bus n + N ≤ n = lead_later n on in
            let r : RoundOf n = round_of n in
            let is : who bus n + r.r * N ≡ n = r.is in
            let at : who bus q + r.r * N ≡ q = place_is r.r q (omega arith) (omega arith) in
            let b : RoundOf (n - N) = round_of (n - N) in
            let is_b : who bus (n - N) + b.r * N ≡ n - N = b.is in
            let same : who bus (n - N) ≡ who bus n = turn_before N n on in
            let one : s (q - N) + bus.ti_short (who bus q) ≤ s z = own_after (omega arith) in
            let known_q : who bus q < N = is_one w q in
            elim (du.is on) [
              | inl own ↦
                  let two : s (n - N) + fastest bus (n - N) (q - N) ≤ s (q - N) = fast w n upto facts (n - N) (q - N) (omega arith) (omega arith) in
                  let three : fastest bus (n - N) (q - N) ≡ fastest bus (who bus n) (who bus q) = fast_at b.r (n - N) (q - N) (who bus n) (who bus q) (omega arith) (omega arith) in
                  let four : bus.ti_long (who bus n) + slowest bus (who bus n) (who bus n) + bus.delay < bus.ti_short (who bus q) + fastest bus (who bus n) (who bus q) =
                  g.order (who bus n) (who bus n) (who bus q) (omega arith) (omega arith) known_q (inl refl) in
                  omega arith
              | inr prev ↦ elim (cases_lt (bus.tg_long (who bus n) + 2 * bus.delay) (bus.tg_short (who bus q))) [
                | inl apart ↦ (let g : e (n - 1) + bus.tg_short (who bus q) ≤ s z = behind_last w n upto facts m du z q from within low high mine (omega arith) in omega arith)
                | inr close ↦
                    let held : (i : ℕ) → n - who bus n ≤ i → i ≤ n → m ≤ s (i - N) + bus.ti_long (who bus i) + slowest bus i n → m + bus.delay < s z = λ i first last by.
                    let at_i : who bus i + r.r * N ≡ i = place_is r.r i (omega arith) (omega arith) in
                    let two : s (i - N) + fastest bus (i - N) (q - N) ≤ s (q - N) = fast w n upto facts (i - N) (q - N) (omega arith) (omega arith) in
                    let three : fastest bus (i - N) (q - N) ≡ fastest bus (who bus i) (who bus q) = fast_at b.r (i - N) (q - N) (who bus i) (who bus q) (omega arith) (omega arith) in
                    let four : slowest bus i n ≡ slowest bus (who bus i) (who bus n) = slow_at r.r i n (who bus i) (who bus n) at_i is in
                    let five : bus.ti_long (who bus i) + slowest bus (who bus i) (who bus n) + bus.delay < bus.ti_short (who bus q) + fastest bus (who bus i) (who bus q) =
                    g.order (who bus i) (who bus n) (who bus q) (omega arith) (omega arith) known_q (inr close) in
                    omega arith in
                    let next : suc (n - 1) ≡ n = omega arith in
                    let l : ℕ = n - who bus n in
                    let h : Chain w n upto facts (n - who bus n) n (e (n - 1) + bus.delay + bus.tg_long (who bus n)) =
                    subst (λ i. Chain w n upto facts (n - who bus n) i (e (n - 1) + bus.delay + bus.tg_long (who bus i))) next
                    (behind w n upto facts (n - who bus n) (n - 1) (omega arith) (omega arith) (chain w n upto facts (n - who bus n) (n - 1) (omega arith) (omega arith))) in
                    elim h [
                      | inl down ↦
                          let lead : who bus (n - who bus n) ≡ 0 = lead_is n in
                          let f : s (n - who bus n) ≤ s (n - who bus n - N) + bus.ti_long 0 =
                          lead_of (n - who bus n) (s (n - who bus n)) (omega arith) lead (omega arith) (facts (n - who bus n) (omega arith)).held in
                          let ti : bus.ti_long (who bus (n - who bus n)) ≡ bus.ti_long 0 = ap bus.ti_long lead in
                          held (n - who bus n) (omega arith) (omega arith) (omega arith)
                      | inr (inl g) ↦
                          let a : n - who bus n < g.0 = g.1 in
                          let by : e (n - 1) + bus.delay + bus.tg_long (who bus n) ≤ s (g.0 - N) + bus.ti_long (who bus g.0) + slowest bus g.0 n = g.4 in
                          held g.0 (omega arith) g.2 (omega arith)
                      | inr (inr g) ↦
                          let a : n - who bus n < g.0 = g.1 in
                          let b : g.0 < N = g.3 in
                          absurd (omega arith)
                    ]
              ]
            ]

        past : m + bus.delay < s z
        past =
            let any : 0 < N = w.sound.some in
            elim (cases_eq (who bus n) 0) [
              | inl none ↦ elim (cases_lt n N) [
                | inl less ↦
                    let is : who bus n ≡ n = mod-eq_of_lt less in
                    in_first w n upto facts m du z q from within low high mine less (omega arith)
                | inr on ↦ lead_first none on
              ]
              | inr some ↦ elim (cases_lt q (n - who bus n + N)) [
                | inr next ↦ next_round (omega arith) next
                | inl near ↦ elim (cases_lt n N) [
                  | inl less ↦
                      let is : who bus n ≡ n = mod-eq_of_lt less in
                      in_first w n upto facts m du z q from within low high mine less (omega arith)
                  | inr on ↦ same_round (omega arith) on near
                ]
              ]
            ]

  in_sync : InSync w
  in_sync n upto facts m du free on = synced n upto facts m du free on

  is_first : IsFirst w
  is_first n upto facts m du z q from within low high mine = past n upto facts m du z q from within low high mine

  fact_of : (n : ℕ) → n < len → Fact w n
  fact_of n less = facts_all w (in_sync) (is_first) n less

  follows : (n : ℕ) → n < len → FollowsLead bus c offset n
  follows n less =
      let r : RoundOf n = round_of n in
      let is : who bus n + r.r * N ≡ n = r.is in
      record {
        leads = λ none on. lead_of len (omega arith) fact_of n (s n) (omega arith) none on (fact_of n less).held;
        least =
            let one : s (n - who bus n) + fastest bus (n - who bus n) n ≤ s n = fast w len (omega arith) fact_of (n - who bus n) n (omega arith) less in
            let two : fastest bus (n - who bus n) n ≡ fastest bus 0 (who bus n) = fast_at r.r (n - who bus n) n 0 (who bus n) (omega arith) (omega arith) in
            omega arith;
        most = λ some. is_offset len (omega arith) fact_of n less;
      }

  -- ---- many rounds

  lead_pace : (m r : ℕ) → who bus m ≡ 0 → m + r * N < len → (s m + r * bus.ti_short 0 ≤ s (m + r * N)) × (s (m + r * N) ≤ s m + r * bus.ti_long 0)
  lead_pace m zero none less =
      let at : s (m + 0 * N) ≡ s m = ap s (let q : m + 0 * N ≡ m = omega arith in q) in
      (omega arith, omega arith)
  lead_pace m (suc r) none less =
      let more : suc r * N ≡ r * N + N = suc-mul r N in
      let before : (s m + r * bus.ti_short 0 ≤ s (m + r * N)) × (s (m + r * N) ≤ s m + r * bus.ti_long 0) = lead_pace m r none (omega arith) in
      let lead : who bus (m + suc r * N) ≡ 0 = rounds_later bus w.sound (suc r) m ∙ none in
      let f : Fact w (m + suc r * N) = fact_of (m + suc r * N) less in
      let low : s (m + suc r * N - N) + bus.ti_short (who bus (m + suc r * N)) ≤ s (m + suc r * N) = f.interval (omega arith) in
      let high : s (m + suc r * N) ≤ s (m + suc r * N - N) + bus.ti_long 0 =
      lead_of len (omega arith) fact_of (m + suc r * N) (s (m + suc r * N)) (omega arith) lead (omega arith) f.held in
      let at : s (m + suc r * N - N) ≡ s (m + r * N) = ap s (let q : m + suc r * N - N ≡ m + r * N = omega arith in q) in
      let ti : bus.ti_short (who bus (m + suc r * N)) ≡ bus.ti_short 0 = ap bus.ti_short lead in
      let one : suc r * bus.ti_short 0 ≡ r * bus.ti_short 0 + bus.ti_short 0 = suc-mul r (bus.ti_short 0) in
      let two : suc r * bus.ti_long 0 ≡ r * bus.ti_long 0 + bus.ti_long 0 = suc-mul r (bus.ti_long 0) in
      (omega arith, omega arith)

  -- no turn is later than its offset, nor earlier than all before it take at least
  around : (n : ℕ) → n < len → (s (n - who bus n) + fastest bus 0 (who bus n) ≤ s n) × (s n ≤ s (n - who bus n) + offset (who bus n))
  around n less = ((follows n less).least, is_offset len (omega arith) fact_of n less)

  keeps_offset : (n r : ℕ) → n + r * N < len → KeepsOffset bus c offset n r
  keeps_offset n r less =
      let of : RoundOf n = round_of n in
      let is : who bus n + of.r * N ≡ n = of.is in
      let same : who bus (n + r * N) ≡ who bus n = rounds_later bus w.sound r n in
      let now : (s (n - who bus n) + fastest bus 0 (who bus n) ≤ s n) × (s n ≤ s (n - who bus n) + offset (who bus n)) = around n (omega arith) in
      let then : (s (n + r * N - who bus (n + r * N)) + fastest bus 0 (who bus (n + r * N)) ≤ s (n + r * N))
      × (s (n + r * N) ≤ s (n + r * N - who bus (n + r * N)) + offset (who bus (n + r * N))) = around (n + r * N) less in
      let at : s (n + r * N - who bus (n + r * N)) ≡ s (n - who bus n + r * N) =
      ap s (let q : n + r * N - who bus (n + r * N) ≡ n - who bus n + r * N = omega arith in q) in
      let fast_same : fastest bus 0 (who bus (n + r * N)) ≡ fastest bus 0 (who bus n) = ap (fastest bus 0) same in
      let offset_same : offset (who bus (n + r * N)) ≡ offset (who bus n) = ap offset same in
      let pace : (s (n - who bus n) + r * bus.ti_short 0 ≤ s (n - who bus n + r * N)) × (s (n - who bus n + r * N) ≤ s (n - who bus n) + r * bus.ti_long 0) =
      lead_pace (n - who bus n) r (lead_is n) (omega arith) in
      record { least = omega arith; most = omega arith }

pub one_leads : OneLeads
one_leads bus c start soon late offset room ok even begins =
    let g : Led = record {
      w = record {
        bus = bus;
        c = c;
        up = start;
        soon = λ k. start + soon k;
        late = λ k. start + late k;
        sound = room.hearing;
        ok = ok;
        even = even;
        begun = begun_at bus c start soon late room.hearing.some room.begin begins;
      };
      offset = offset;
      clock = room.clock;
      offsets = record {
        first = λ k some known. (let f : late k ≤ soon 0 + offset k = room.offsets.first k some known in omega arith);
        steps = room.offsets.steps;
      };
      order = room.order;
      pause = room.pause;
    } in
    record {
      turns = all g.w (in_sync g) (is_first g);
      follow = λ n less. follows g n less;
      offsets = λ n rounds less. keeps_offset g n rounds less;
    }
