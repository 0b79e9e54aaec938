-- What the conditions say of any stretch of turns, in whichever round it begins.
use Rattle.std.proofs.Common.{◌≡◌, ℕ, zero, suc, ◌+◌, ◌-◌, ◌*◌, ◌<◌, ◌≤◌, ◌⊎◌, inl, inr, arith, refl, ap, ◌∙◌}
use Rattle.std.proofs.lemmas.Bool.{cases_lt}
use Rattle.std.proofs.lemmas.Nat.{mod_below}
use Rattle.std.proofs.Math.Nat.{add-mod_right, mod-eq_of_lt, suc-mul}
use Rattle.bus_clocks.specs.Buses.{Bus, sum_below}
use Rattle.bus_drift.specs.Room.{HearsOut, HasRoomForSync, NoneOvertaken}
use Rattle.bus_drift.specs.Turns.{who, longest_step, shortest_step, slowest, fastest}
use Rattle.bus_drift.proofs.Sums.{sum_from, sum_plus, sum_const, sum_less, sum_is_below, between_none, between_join, between_shift, between_less, between_round, turn_before}

module _ (bus : Bus) (sound : HearsOut bus) where
  abbrev K : ℕ
  K = bus.senders

  pub one_of : (n : ℕ) → who bus n < K
  one_of n = let any : 0 < K = sound.some in mod_below n K (omega arith)

  pub again : (n : ℕ) → who bus (n + K) ≡ who bus n
  again n = add-mod_right n K

  pub again_next : (n : ℕ) → who bus (suc (n + K)) ≡ who bus (suc n)
  again_next n = ap (who bus) (let e : suc (n + K) ≡ suc n + K = omega arith in e) ∙ again (suc n)

  pub long_again : (n : ℕ) → longest_step bus (n + K) ≡ longest_step bus n
  long_again n =
      let a : bus.longest (who bus (n + K)) ≡ bus.longest (who bus n) = ap bus.longest (again n) in
      let b : bus.tg_long (who bus (suc (n + K))) ≡ bus.tg_long (who bus (suc n)) = ap bus.tg_long (again_next n) in
      omega arith

  pub short_again : (n : ℕ) → shortest_step bus (n + K) ≡ shortest_step bus n
  short_again n =
      let a : bus.shortest (who bus (n + K)) ≡ bus.shortest (who bus n) = ap bus.shortest (again n) in
      let b : bus.tg_short (who bus (suc (n + K))) ≡ bus.tg_short (who bus (suc n)) = ap bus.tg_short (again_next n) in
      omega arith

  pub rounds_later : (r n : ℕ) → who bus (n + r * K) ≡ who bus n
  rounds_later zero n = ap (who bus) (let q : n + 0 * K ≡ n = omega arith in q)
  rounds_later (suc r) n =
      let more : suc r * K ≡ r * K + K = suc-mul r K in
      ap (who bus) (let q : n + suc r * K ≡ n + r * K + K = omega arith in q) ∙ again (n + r * K) ∙ rounds_later r n

  pub round_longest : sum_from (λ l. bus.longest (who bus l)) 0 K ≡ sum_below bus.longest K
  round_longest = sum_is_below (λ l. bus.longest (who bus l)) bus.longest K (λ l less. ap bus.longest (mod-eq_of_lt less))

  pub delays : (K - 1) * bus.delay + bus.delay ≡ K * bus.delay
  delays =
      let any : 0 < K = sound.some in
      let a : suc (K - 1) * bus.delay ≡ (K - 1) * bus.delay + bus.delay = suc-mul (K - 1) bus.delay in
      let b : suc (K - 1) * bus.delay ≡ K * bus.delay = ap (λ m. m * bus.delay) (let e : suc (K - 1) ≡ K = omega arith in e) in
      omega arith

module _ (bus : Bus) (hearing : HearsOut bus) (sync : HasRoomForSync bus) (unpassed : NoneOvertaken bus) (tg_within : (k : ℕ) → k < bus.senders → bus.tg_short k ≤ bus.tg_long k) where
  pub step_less : (n : ℕ) → shortest_step bus n ≤ longest_step bus n
  step_less n =
      let a : bus.shortest (who bus n) ≤ bus.longest (who bus n) = (hearing.lasting (who bus n) (one_of bus hearing n)).1 in
      let b : bus.tg_short (who bus (suc n)) ≤ bus.tg_long (who bus (suc n)) = tg_within (who bus (suc n)) (one_of bus hearing (suc n)) in
      omega arith

  -- all send once, each behind the one before it, in less than a transmit interval
  pub fits : (k a : ℕ) → k < bus.senders → slowest bus a (a + bus.senders) < bus.ti_long k
  fits k a known =
      let any : 0 < bus.senders = hearing.some in
      let room : sum_below bus.longest bus.senders + bus.senders * bus.sg_long k + bus.tg_long k + (bus.senders - 1) * bus.delay ≤ bus.ti_long k + (bus.senders - 1) = sync.room k known in
      let heard : bus.delay ≤ bus.tg_short k = hearing.heard k known in
      let within : bus.tg_short k ≤ bus.tg_long k = tg_within k known in
      let one : slowest bus a (a + bus.senders) ≡ sum_from (longest_step bus) 0 bus.senders = between_round (longest_step bus) bus.senders (long_again bus hearing) a in
      let two : sum_from (longest_step bus) 0 bus.senders ≡ sum_from (λ l. bus.longest (who bus l) + bus.delay) 0 bus.senders + sum_from (λ l. bus.tg_long (who bus (suc l))) 0 bus.senders
      = sum_plus (λ l. bus.longest (who bus l) + bus.delay) (λ l. bus.tg_long (who bus (suc l))) 0 bus.senders in
      let three : sum_from (λ l. bus.longest (who bus l) + bus.delay) 0 bus.senders ≡ sum_from (λ l. bus.longest (who bus l)) 0 bus.senders + sum_from (λ l. bus.delay) 0 bus.senders
      = sum_plus (λ l. bus.longest (who bus l)) (λ l. bus.delay) 0 bus.senders in
      let four : sum_from (λ l. bus.delay) 0 bus.senders ≡ bus.senders * bus.delay = sum_const bus.delay 0 bus.senders in
      let five : sum_from (λ l. bus.tg_long (who bus (suc l)) + 1) 0 bus.senders ≡ sum_from (λ l. bus.tg_long (who bus (suc l))) 0 bus.senders + sum_from (λ l. 1) 0 bus.senders
      = sum_plus (λ l. bus.tg_long (who bus (suc l))) (λ l. 1) 0 bus.senders in
      let six : sum_from (λ l. 1) 0 bus.senders ≡ bus.senders * 1 = sum_const 1 0 bus.senders in
      let seven : sum_from (λ l. bus.tg_long (who bus (suc l)) + 1) 0 bus.senders ≤ sum_from (λ l. bus.sg_long k) 0 bus.senders
      = sum_less (λ l. bus.tg_long (who bus (suc l)) + 1) (λ l. bus.sg_long k)
      (λ l. let g : bus.tg_long (who bus (suc l)) < bus.sg_long k = sync.gaps (who bus (suc l)) k (one_of bus hearing (suc l)) known in omega arith) 0 bus.senders in
      let eight : sum_from (λ l. bus.sg_long k) 0 bus.senders ≡ bus.senders * bus.sg_long k = sum_const (bus.sg_long k) 0 bus.senders in
      omega (arith, delays bus hearing, round_longest bus hearing)

  -- nobody is overtaken, in whichever round
  abbrev Order : ℕ → ℕ → ℕ → Type 0
  Order i j k = bus.ti_long (who bus i) + slowest bus i j + bus.delay < bus.ti_short (who bus k) + fastest bus i k

  order_by : (r i j k : ℕ) → i < r → i ≤ j → j < k → k < i + bus.senders → (i ≡ j) ⊎ (bus.tg_short (who bus k) ≤ bus.tg_long (who bus j) + 2 * bus.delay) → Order i j k
  order_by zero i j k upto a b d close = absurd (omega arith)
  order_by (suc r) i j k upto a b d close = elim (cases_lt i bus.senders) [
    | inl first ↦ unpassed i j k first a b d close
    | inr on ↦
        let any : 0 < bus.senders = hearing.some in
        let wi : who bus (i - bus.senders) ≡ who bus i = turn_before bus.senders i on in
        let wj : who bus (j - bus.senders) ≡ who bus j = turn_before bus.senders j (omega arith) in
        let wk : who bus (k - bus.senders) ≡ who bus k = turn_before bus.senders k (omega arith) in
        let o : Order (i - bus.senders) (j - bus.senders) (k - bus.senders) = order_by r (i - bus.senders) (j - bus.senders) (k - bus.senders) (omega arith) (omega arith) (omega arith) (omega arith) (elim close [
          | inl same ↦ inl (omega arith)
          | inr near ↦
              let one : bus.tg_short (who bus (k - bus.senders)) ≡ bus.tg_short (who bus k) = ap bus.tg_short wk in
              let two : bus.tg_long (who bus (j - bus.senders)) ≡ bus.tg_long (who bus j) = ap bus.tg_long wj in
              inr (omega arith)
        ]) in
        let ti : bus.ti_long (who bus (i - bus.senders)) ≡ bus.ti_long (who bus i) = ap bus.ti_long wi in
        let tk : bus.ti_short (who bus (k - bus.senders)) ≡ bus.ti_short (who bus k) = ap bus.ti_short wk in
        let slow : slowest bus i j ≡ slowest bus (i - bus.senders) (j - bus.senders) = between_shift (longest_step bus) bus.senders (long_again bus hearing) i j on (omega arith) in
        let fast : fastest bus i k ≡ fastest bus (i - bus.senders) (k - bus.senders) = between_shift (shortest_step bus) bus.senders (short_again bus hearing) i k on (omega arith) in
        omega arith
  ]

  pub order : (i j k : ℕ) → i ≤ j → j < k → k < i + bus.senders → (i ≡ j) ⊎ (bus.tg_short (who bus k) ≤ bus.tg_long (who bus j) + 2 * bus.delay) → Order i j k
  order i j k a b d close = order_by (suc i) i j k (omega arith) a b d close

  -- a sender's short transmit interval is longer than all others take, each behind the one before it, and the delay
  pub interval_fits : (n q : ℕ) → bus.senders ≤ n → n < q → q < n + bus.senders → slowest bus (q - bus.senders) n + bus.delay < bus.ti_short (who bus q)
  interval_fits n q on less near =
      let o : Order n n q = order n n q (omega arith) less near (inl refl) in
      let none : slowest bus n n ≡ 0 = between_none (longest_step bus) n in
      let round : slowest bus n (n + bus.senders) < bus.ti_long (who bus n) = fits (who bus n) n (one_of bus hearing n) in
      let parts : slowest bus n (n + bus.senders) ≡ slowest bus n q + slowest bus q (n + bus.senders) = between_join (longest_step bus) n q (n + bus.senders) (omega arith) (omega arith) in
      let shift : slowest bus q (n + bus.senders) ≡ slowest bus (q - bus.senders) (n + bus.senders - bus.senders) = between_shift (longest_step bus) bus.senders (long_again bus hearing) q (n + bus.senders) (omega arith) (omega arith) in
      let same : slowest bus (q - bus.senders) (n + bus.senders - bus.senders) ≡ slowest bus (q - bus.senders) n = ap (slowest bus (q - bus.senders)) (let e : n + bus.senders - bus.senders ≡ n = omega arith in e) in
      let least : fastest bus n q ≤ slowest bus n q = between_less (shortest_step bus) (longest_step bus) step_less n q in
      omega arith
