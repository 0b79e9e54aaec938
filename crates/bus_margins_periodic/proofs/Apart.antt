-- How far apart successive starts of a sender are.
use Rattle.std.proofs.Common.{◌≡◌, ℕ, ◌+◌, ◌-◌, ◌*◌, ◌<◌, ◌≤◌, arith, ap}
use Rattle.std.proofs.lemmas.Nat.{mod_below}
use Rattle.bus_clocks.specs.Buses.{Bus}
use Rattle.bus_clocks.specs.Courses.{Course}
use Rattle.bus_drift.specs.InTurn.{TakeTurns, InTurn}
use Rattle.bus_drift.specs.Leading.{FollowOne, KeepsOffset, least_offset}
use Rattle.bus_drift.specs.Pace.{longest_round, KeepPace}
use Rattle.bus_drift.specs.Turns.{who, fastest, turn}
use Rattle.bus_drift.proofs.Greatest.{is_greatest, longest_is_round}
use Rattle.bus_margins_periodic.specs.Laws.{AreApart}
use Rattle.bus_margins_periodic.specs.Margins.{sway}

-- where all share a transmit interval
module _ (bus : Bus) (c : Course) (soon late : ℕ → ℕ) (some : 0 < bus.senders) (alike : (k : ℕ) → bus.ti_short k ≡ bus.ti_short 0) where
  pub turns_apart : TakeTurns bus c soon late → KeepPace bus c → AreApart bus c (bus.ti_short 0) (longest_round bus)
  turns_apart turns pace n less on =
      let t : InTurn bus c soon late n = turns.turns n less in
      let low : (turn c (n - bus.senders)).moment + bus.ti_short (who bus n) ≤ (turn c n).moment = t.interval on in
      let is : bus.ti_short (who bus n) ≡ bus.ti_short 0 = alike (who bus n) in
      (omega arith, pace.round n (longest_round bus) less on (longest_is_round bus n))

-- where one leads
module _ (bus : Bus) (c : Course) (soon late : ℕ → ℕ) (some : 0 < bus.senders) where
  abbrev offset : ℕ → ℕ
  offset = least_offset bus soon late

  pub lead_apart : (first last : ℕ → ℕ) → FollowOne bus c first last offset
      → AreApart bus c (bus.ti_short 0 - sway bus soon late) (bus.ti_long 0 + sway bus soon late)
  lead_apart first last follow n less on =
      let back : n - bus.senders + 1 * bus.senders ≡ n = omega arith in
      let k : KeepsOffset bus c offset (n - bus.senders) 1 = follow.offsets (n - bus.senders) 1 (omega arith) in
      let low : (turn c (n - bus.senders)).moment + 1 * bus.ti_short 0 + fastest bus 0 (who bus (n - bus.senders))
      ≤ (turn c (n - bus.senders + 1 * bus.senders)).moment + offset (who bus (n - bus.senders)) = k.least in
      let high : (turn c (n - bus.senders + 1 * bus.senders)).moment + fastest bus 0 (who bus (n - bus.senders))
      ≤ (turn c (n - bus.senders)).moment + 1 * bus.ti_long 0 + offset (who bus (n - bus.senders)) = k.most in
      let t : InTurn bus c first last n = follow.turns.turns n less in
      let later : (turn c (n - bus.senders)).moment + bus.ti_short (who bus n) ≤ (turn c n).moment = t.interval on in
      let same : (turn c (n - bus.senders + 1 * bus.senders)).moment ≡ (turn c n).moment = ap (λ i. (turn c i).moment) back in
      let known : who bus (n - bus.senders) < bus.senders = mod_below (n - bus.senders) bus.senders some in
      let most : offset (who bus (n - bus.senders)) - fastest bus 0 (who bus (n - bus.senders)) ≤ sway bus soon late =
      is_greatest (λ k. offset k - fastest bus 0 k) bus.senders (who bus (n - bus.senders)) known in
      (omega arith, omega arith)
