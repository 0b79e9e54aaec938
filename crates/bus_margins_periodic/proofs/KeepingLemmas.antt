-- How the rule of order is decided.
use Rattle.std.specs.Prelude.{nat_le, nat_lt}
use Rattle.std.proofs.Common.{◌≡◌, ℕ, suc, ◌+◌, ◌-◌, ◌<◌, ◌≤◌, true, false, cond, Option, None, inl, inr, arith, sym, ap, ◌∙◌, subst, ltb-true, lt-ltb, leb-true}
use Rattle.std.proofs.lemmas.Bool.{cases_lt, cases_Bool, true≢false}
use Rattle.bus_clocks.specs.Buses.{Bus}
use Rattle.bus_drift.specs.Turns.{who, slowest, fastest, shortest_step}
use Rattle.bus_drift.proofs.Sums.{between_join}
use Rattle.bus_margins_periodic.specs.declared.room.Room.{Room}
use Rattle.bus_margins_periodic.specs.Least.{holds, least_of}
use Rattle.bus_margins_periodic.specs.Rooms.{room_among, order_among, passed_room, held_room}
use Rattle.bus_margins_periodic.specs.inside.Cases.{is_ruled, is_enough}
use Rattle.bus_margins_periodic.proofs.LeastLemmas.{each, all}
use Rattle.bus_margins_periodic.proofs.RoomLemmas.{is_among}

-- the rule holds of the first n of these
abbrev pub Hold : (ℕ → Option Room) → ℕ → Type 0
Hold room n = (b : ℕ) → b < n → holds (room b) ≡ true

pub hold_none : (room : ℕ → Option Room) → Hold room 0
hold_none room b less = absurd (omega arith)

pub hold_next : (room : ℕ → Option Room) (n : ℕ) → Hold room n → holds (room n) ≡ true → Hold room (n + 1)
hold_next room n before now b less = elim (cases_lt b n) [
  | inl low ↦ before b low
  | inr high ↦ ap (λ i. holds (room i)) (let same : b ≡ n = omega arith in same) ∙ now
]

pub hold_all : (room : ℕ → Option Room) (m n : ℕ) → m ≤ n → Hold room n → holds (least_of m room) ≡ true
hold_all room m n less h = all m room (λ b low. h b (omega arith))

pub lacks : (room : ℕ → Option Room) (m n : ℕ) → n < m → holds (room n) ≡ false → holds (least_of m room) ≡ false
lacks room m n less h = elim (cases_Bool (holds (least_of m room))) [
  | inl yes' ↦ absurd (true≢false (sym (each m room yes' n less) ∙ h))
  | inr no' ↦ no'
]

-- ---- one case

enough_holds : (bus : Bus) (i j k : ℕ) → bus.ti_long (who bus i) + slowest bus i j + bus.delay < bus.ti_short (who bus k) + fastest bus i k
    → holds (order_among bus i j k) ≡ true
enough_holds bus i j k h = is_among bus i j k (λ close. h)

ruled_out : (bus : Bus) (i j k : ℕ) → is_ruled bus i j k ≡ false → holds (order_among bus i j k) ≡ true
ruled_out bus i j k h =
    ap (λ t. holds (cond t (room_among (who bus i) (who bus j) (who bus k) (bus.ti_long (who bus i) + slowest bus i j + bus.delay + 1)
    (bus.ti_short (who bus k) + fastest bus i k)) None)) h

case_lacks : (bus : Bus) (i j k : ℕ) → is_ruled bus i j k ≡ true → is_enough bus i j k ≡ false → holds (order_among bus i j k) ≡ false
case_lacks bus i j k ruled short =
    let is : holds (order_among bus i j k) ≡ nat_le (bus.ti_long (who bus i) + slowest bus i j + bus.delay + 1) (bus.ti_short (who bus k) + fastest bus i k) =
    ap (λ t. holds (cond t (room_among (who bus i) (who bus j) (who bus k) (bus.ti_long (who bus i) + slowest bus i j + bus.delay + 1)
    (bus.ti_short (who bus k) + fastest bus i k)) None)) ruled in
    is ∙ too_little (bus.ti_long (who bus i) + slowest bus i j + bus.delay) (bus.ti_short (who bus k) + fastest bus i k) short where
      too_little : (need have : ℕ) → nat_lt need have ≡ false → nat_le (need + 1) have ≡ false
      too_little need have h = elim (cases_Bool (nat_le (need + 1) have)) [
        | inl yes' ↦
            let l : need + 1 ≤ have = leb-true (need + 1) have yes' in
            absurd (true≢false (sym (lt-ltb need have (let m : need < have = omega arith in m)) ∙ h))
        | inr no' ↦ no'
      ]

-- ---- those that are due behind the one that is held back

module _ (bus : Bus) (alike : (k : ℕ) → bus.ti_short k ≡ bus.ti_short 0) (last late held : ℕ) (order : late ≤ held) where
  abbrev room : ℕ → Option Room
  room b = order_among bus late held (held + suc b)

  -- one that is due late enough leaves all that are due later late enough
  enough_on : (due k : ℕ) → suc held ≤ due → due ≤ k → is_enough bus late held due ≡ true
      → bus.ti_long (who bus late) + slowest bus late held + bus.delay < bus.ti_short (who bus k) + fastest bus late k
  enough_on due k low high h =
      let now : bus.ti_long (who bus late) + slowest bus late held + bus.delay < bus.ti_short (who bus due) + fastest bus late due =
      ltb-true (bus.ti_long (who bus late) + slowest bus late held + bus.delay) (bus.ti_short (who bus due) + fastest bus late due) h in
      let more : fastest bus late k ≡ fastest bus late due + fastest bus due k = between_join (shortest_step bus) late due k (omega arith) high in
      let a : bus.ti_short (who bus due) ≡ bus.ti_short 0 = alike (who bus due) in
      let b : bus.ti_short (who bus k) ≡ bus.ti_short 0 = alike (who bus k) in
      sum _ _ _ _ _ _ _ now more a b where
        sum : (need s t z f g h : ℕ) → need < s + f → g ≡ f + h → s ≡ z → t ≡ z → need < t + g
        sum need s t z f g h now more a b = omega arith

  pub passed_all : (due : ℕ) → suc held ≤ due → Hold room (due - suc held) → is_enough bus late held due ≡ true
      → holds (passed_room bus last late held) ≡ true
  passed_all due low before enough = all (last - suc held) room (λ b less. elim (cases_lt b (due - suc held)) [
    | inl early ↦ before b early
    | inr behind ↦ enough_holds bus late held (held + suc b) (enough_on due (held + suc b) low (omega arith) enough)
  ])

  at_due : (due : ℕ) → suc held ≤ due → held + suc (due - suc held) ≡ due
  at_due due low = omega arith

  pub passed_lacks : (due : ℕ) → suc held ≤ due → due < last → is_ruled bus late held due ≡ true → is_enough bus late held due ≡ false
      → holds (passed_room bus last late held) ≡ false
  passed_lacks due low less ruled short =
      lacks room (last - suc held) (due - suc held) (omega arith)
      (ap (λ k. holds (order_among bus late held k)) (at_due due low) ∙ case_lacks bus late held due ruled short)

  pub passed_next : (due : ℕ) → suc held ≤ due → Hold room (due - suc held) → is_ruled bus late held due ≡ false → Hold room (due + 1 - suc held)
  passed_next due low before out =
      subst (Hold room) (let e : due - suc held + 1 ≡ due + 1 - suc held = omega arith in e)
      (hold_next room (due - suc held) before (ap (λ k. holds (order_among bus late held k)) (at_due due low) ∙ ruled_out bus late held due out))

  pub passed_end : (due : ℕ) → last ≤ due → Hold room (due - suc held) → holds (passed_room bus last late held) ≡ true
  passed_end due behind before = hold_all room (last - suc held) (due - suc held) (omega arith) before

-- ---- those that a late turn holds back

module _ (bus : Bus) (last late : ℕ) where
  abbrev passed : ℕ → Option Room
  passed a = passed_room bus last late (late + a)

  at_held : (held : ℕ) → late ≤ held → late + (held - late) ≡ held
  at_held held low = omega arith

  pub held_next : (held : ℕ) → late ≤ held → Hold passed (held - late) → holds (passed_room bus last late held) ≡ true → Hold passed (held + 1 - late)
  held_next held low before now =
      subst (Hold passed) (let e : held - late + 1 ≡ held + 1 - late = omega arith in e)
      (hold_next passed (held - late) before (ap (λ j. holds (passed_room bus last late j)) (at_held held low) ∙ now))

  pub held_lacks : (held : ℕ) → late ≤ held → held < last → holds (passed_room bus last late held) ≡ false → holds (held_room bus last late) ≡ false
  held_lacks held low less now =
      lacks passed (last - late) (held - late) (omega arith) (ap (λ j. holds (passed_room bus last late j)) (at_held held low) ∙ now)

  pub held_end : (held : ℕ) → last ≤ held → Hold passed (held - late) → holds (held_room bus last late) ≡ true
  held_end held behind before = hold_all passed (last - late) (held - late) (omega arith) before
