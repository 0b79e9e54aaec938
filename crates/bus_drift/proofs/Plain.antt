-- Where clocks and lengths vary little nobody is overtaken.
use Rattle.std.proofs.Common.{◌≡◌, ℕ, suc, ◌+◌, ◌-◌, ◌*◌, ◌<◌, ◌≤◌, arith, ap}
use Rattle.std.proofs.lemmas.Nat.{mod_below}
use Rattle.std.proofs.Math.Nat.{add-mod_right, mod-eq_of_lt}
use Rattle.bus_clocks.specs.Buses.{Bus, sum_below}
use Rattle.bus_drift.specs.Plain.{varies, VariesLittle, LittleIsEnough, SpreadIsLittle}
use Rattle.bus_drift.specs.Room.{NoneOvertaken}
use Rattle.bus_drift.specs.Turns.{who, between, longest_step, shortest_step, slowest, fastest}
use Rattle.bus_drift.proofs.Sums.{sum_from, sum_plus, sum_const, sum_less, sum_is_below, between_join, between_next, between_round, times_less}

module _ (bus : Bus) (wait : ℕ) (some : 0 < bus.senders) (waits : (k : ℕ) → k < bus.senders → bus.delay + bus.tg_long k ≤ bus.tg_short k + wait) where
  one_of : (n : ℕ) → who bus n < bus.senders
  one_of n = mod_below n bus.senders some

  -- a step takes at most so much more than the shortest
  more : (a n : ℕ) → sum_from (longest_step bus) a n ≤ sum_from (shortest_step bus) a n + (sum_from (λ l. varies bus (who bus l)) a n + n * wait)
  more a n =
      let one : sum_from (longest_step bus) a n ≤ sum_from (λ l. shortest_step bus l + (varies bus (who bus l) + wait)) a n =
      sum_less (longest_step bus) (λ l. shortest_step bus l + (varies bus (who bus l) + wait)) (λ l.
      let w : bus.delay + bus.tg_long (who bus (suc l)) ≤ bus.tg_short (who bus (suc l)) + wait = waits (who bus (suc l)) (one_of (suc l)) in
      omega arith) a n in
      let two : sum_from (λ l. shortest_step bus l + (varies bus (who bus l) + wait)) a n ≡ sum_from (shortest_step bus) a n + sum_from (λ l. varies bus (who bus l) + wait) a n =
      sum_plus (shortest_step bus) (λ l. varies bus (who bus l) + wait) a n in
      let three : sum_from (λ l. varies bus (who bus l) + wait) a n ≡ sum_from (λ l. varies bus (who bus l)) a n + sum_from (λ l. wait) a n =
      sum_plus (λ l. varies bus (who bus l)) (λ l. wait) a n in
      let four : sum_from (λ l. wait) a n ≡ n * wait = sum_const wait a n in
      omega arith

  spread_is : (i j : ℕ) → i ≤ j → j < i + bus.senders → slowest bus i j ≤ fastest bus i j + (sum_below (varies bus) bus.senders + (bus.senders - 1) * wait)
  spread_is i j a near =
      let vary : ℕ → ℕ = λ l. varies bus (who bus l) in
      let one : slowest bus i j ≤ fastest bus i j + (between vary i j + (j - i) * wait) = more i (j - i) in
      let two : between vary i (i + bus.senders) ≡ sum_from vary 0 bus.senders = between_round vary bus.senders (λ l. ap (varies bus) (add-mod_right l bus.senders)) i in
      let three : sum_from vary 0 bus.senders ≡ sum_below (varies bus) bus.senders = sum_is_below vary (varies bus) bus.senders (λ l less. ap (varies bus) (mod-eq_of_lt less)) in
      let four : between vary i (i + bus.senders) ≡ between vary i j + between vary j (i + bus.senders) = between_join vary i j (i + bus.senders) a (omega arith) in
      let five : (j - i) * wait ≤ (bus.senders - 1) * wait = times_less (j - i) (bus.senders - 1) wait (omega arith) in
      omega arith

module _ (bus : Bus) (ti_least ti_most least gap wait : ℕ) (v : VariesLittle bus ti_least ti_most least gap wait) where
  none_overtaken : NoneOvertaken bus
  none_overtaken i j k known a b d close =
      let some : 0 < bus.senders = omega arith in
      let one : slowest bus i j ≤ fastest bus i j + (sum_below (varies bus) bus.senders + (bus.senders - 1) * wait) = spread_is bus wait some v.waits i j a (omega arith) in
      let six : fastest bus i k ≡ fastest bus i j + fastest bus j k = between_join (shortest_step bus) i j k a (omega arith) in
      let seven : fastest bus j k ≡ fastest bus j (suc j) + fastest bus (suc j) k = between_join (shortest_step bus) j (suc j) k (omega arith) (omega arith) in
      let eight : fastest bus j (suc j) ≡ shortest_step bus j = between_next (shortest_step bus) j in
      let long : least ≤ bus.shortest (who bus j) = v.long (who bus j) (mod_below j bus.senders some) in
      let short : gap ≤ bus.tg_short (who bus (suc j)) = v.gaps (who bus (suc j)) (mod_below (suc j) bus.senders some) in
      let ti : bus.ti_long (who bus i) ≤ ti_most = v.ti_high (who bus i) (mod_below i bus.senders some) in
      let tk : ti_least ≤ bus.ti_short (who bus k) = v.ti_low (who bus k) (mod_below k bus.senders some) in
      let little : ti_most + bus.delay + sum_below (varies bus) bus.senders + (bus.senders - 1) * wait < ti_least + least + gap = v.little in
      omega arith

pub little_is_enough : LittleIsEnough
little_is_enough bus ti_least ti_most least gap wait v = none_overtaken bus ti_least ti_most least gap wait v

pub spread_is_little : SpreadIsLittle
spread_is_little bus wait n some waits =
    let i : ℕ = n + 1 - bus.senders in
    let h : slowest bus (n + 1 - bus.senders) n ≤ fastest bus (n + 1 - bus.senders) n + (sum_below (varies bus) bus.senders + (bus.senders - 1) * wait) =
    spread_is bus wait some waits (n + 1 - bus.senders) n (omega arith) (omega arith) in
    omega arith
