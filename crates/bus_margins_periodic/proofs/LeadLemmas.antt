-- The rules of one that leads hold exactly where the bus leaves room for it.
use Rattle.std.proofs.Common.{◌≡◌, ℕ, suc, ◌+◌, ◌-◌, ◌*◌, ◌<◌, ◌≤◌, ◌⊎◌, true, ◌&&◌, inl, inr, arith, ap, subst, leb-true, le-leb}
use Rattle.std.proofs.lemmas.Bool.{and_parts}
use Rattle.std.proofs.Math.Nat.{mod-eq_of_lt}
use Rattle.bus_clocks.specs.Buses.{Bus}
use Rattle.bus_drift.specs.Leading.{NoneOvertakenInRound, HasPause, LeavesLead, least_offset, round_end}
use Rattle.bus_drift.specs.Turns.{who, slowest, fastest}
use Rattle.bus_drift.proofs.Greatest.{offsets_are_least}
use Rattle.bus_margins_periodic.specs.Least.{holds, least_of}
use Rattle.bus_margins_periodic.specs.Margins.{lead_holds}
use Rattle.bus_margins_periodic.specs.Rooms.{room_at, room_between, hearing_room, held_room, lead_order_room, first_room, clock_room, pause_room}
use Rattle.bus_margins_periodic.proofs.LeastLemmas.{split, join, each, all}
use Rattle.bus_margins_periodic.proofs.RoomLemmas.{both, Sound, Close, Waits, hearing_of, is_hearing, held_of, is_held, first_of, is_first}

-- ---- order

-- inside the first round turns are told by places
close_at : (bus : Bus) (i j k : ℕ) → j < bus.senders → k < bus.senders → (i ≡ j) ⊎ (bus.tg_short k ≤ bus.tg_long j + 2 * bus.delay) → Close bus i j k
close_at bus i j k known_j known_k (inl same) = inl same
close_at bus i j k known_j known_k (inr near) =
    let a : bus.tg_short (who bus k) ≡ bus.tg_short k = ap bus.tg_short (mod-eq_of_lt known_k) in
    let b : bus.tg_long (who bus j) ≡ bus.tg_long j = ap bus.tg_long (mod-eq_of_lt known_j) in
    inr (omega arith)

at_close : (bus : Bus) (i j k : ℕ) → j < bus.senders → k < bus.senders → Close bus i j k → (i ≡ j) ⊎ (bus.tg_short k ≤ bus.tg_long j + 2 * bus.delay)
at_close bus i j k known_j known_k (inl same) = inl same
at_close bus i j k known_j known_k (inr near) =
    let a : bus.tg_short (who bus k) ≡ bus.tg_short k = ap bus.tg_short (mod-eq_of_lt known_k) in
    let b : bus.tg_long (who bus j) ≡ bus.tg_long j = ap bus.tg_long (mod-eq_of_lt known_j) in
    inr (omega arith)

lead_order_of : (bus : Bus) → holds (lead_order_room bus) ≡ true → NoneOvertakenInRound bus
lead_order_of bus h i j k low less known close =
    let known_j : j < bus.senders = omega arith in
    let l : Waits bus i j k =
    held_of bus bus.senders i j k (each bus.senders (λ i. held_room bus bus.senders i) h i (omega arith)) low less known (close_at bus i j k known_j known close) in
    let a : bus.ti_long (who bus i) ≡ bus.ti_long i = ap bus.ti_long (mod-eq_of_lt (let q : i < bus.senders = omega arith in q)) in
    let b : bus.ti_short (who bus k) ≡ bus.ti_short k = ap bus.ti_short (mod-eq_of_lt known) in
    omega arith

is_lead_order : (bus : Bus) → NoneOvertakenInRound bus → holds (lead_order_room bus) ≡ true
is_lead_order bus order =
    all bus.senders (λ i. held_room bus bus.senders i) (λ i known. is_held bus bus.senders i (λ j k low less within close.
    let known_j : j < bus.senders = omega arith in
    let l : bus.ti_long i + slowest bus i j + bus.delay < bus.ti_short k + fastest bus i k =
    order i j k low less within (at_close bus i j k known_j within close) in
    let c : bus.ti_long (who bus i) ≡ bus.ti_long i = ap bus.ti_long (mod-eq_of_lt known) in
    let d : bus.ti_short (who bus k) ≡ bus.ti_short k = ap bus.ti_short (mod-eq_of_lt within) in
    omega arith))

-- ---- the clock, and the pause

pub clock_of : (bus : Bus) → holds (clock_room bus) ≡ true → (k : ℕ) → 0 < k → k < bus.senders → bus.ti_long k ≤ bus.ti_short 0
clock_of bus h k some known =
    let is : suc (k - 1) ≡ k = omega arith in
    subst (λ i. bus.ti_long i ≤ bus.ti_short 0) is
    (leb-true (bus.ti_long (suc (k - 1))) (bus.ti_short 0)
    (each (bus.senders - 1) (λ b. room_between (suc b) 0 (bus.ti_long (suc b)) (bus.ti_short 0)) h (k - 1) (omega arith)))

pub is_clock : (bus : Bus) → ((k : ℕ) → 0 < k → k < bus.senders → bus.ti_long k ≤ bus.ti_short 0) → holds (clock_room bus) ≡ true
is_clock bus clock =
    all (bus.senders - 1) (λ b. room_between (suc b) 0 (bus.ti_long (suc b)) (bus.ti_short 0))
    (λ b less. le-leb (bus.ti_long (suc b)) (bus.ti_short 0) (clock (suc b) (omega arith) (omega arith)))

module _ (bus : Bus) (offset : ℕ → ℕ) where
  abbrev ends : ℕ
  ends = round_end bus offset

  pause_of : holds (pause_room bus ends) ≡ true → HasPause bus offset
  pause_of h =
      let p = split (room_at 0 (ends + bus.delay + bus.sg_long 0 + bus.tg_long 0) (bus.ti_long 0))
      (least_of (bus.senders - 1) (λ b. room_between (suc b) 0 (ends + bus.delay + bus.sg_long (suc b)) (bus.ti_short 0))) h in
      record {
        opening = leb-true (ends + bus.delay + bus.sg_long 0 + bus.tg_long 0) (bus.ti_long 0) p.0;
        room = λ k some known.
            let is : suc (k - 1) ≡ k = omega arith in
            subst (λ i. ends + bus.delay + bus.sg_long i ≤ bus.ti_short 0) is
            (leb-true (ends + bus.delay + bus.sg_long (suc (k - 1))) (bus.ti_short 0)
            (each (bus.senders - 1) (λ b. room_between (suc b) 0 (ends + bus.delay + bus.sg_long (suc b)) (bus.ti_short 0)) p.1 (k - 1) (omega arith)));
      }

  is_pause : HasPause bus offset → holds (pause_room bus ends) ≡ true
  is_pause pause =
      join (room_at 0 (ends + bus.delay + bus.sg_long 0 + bus.tg_long 0) (bus.ti_long 0))
      (least_of (bus.senders - 1) (λ b. room_between (suc b) 0 (ends + bus.delay + bus.sg_long (suc b)) (bus.ti_short 0)))
      (le-leb (ends + bus.delay + bus.sg_long 0 + bus.tg_long 0) (bus.ti_long 0) pause.opening)
      (all (bus.senders - 1) (λ b. room_between (suc b) 0 (ends + bus.delay + bus.sg_long (suc b)) (bus.ti_short 0))
      (λ b less. le-leb (ends + bus.delay + bus.sg_long (suc b)) (bus.ti_short 0) (pause.room (suc b) (omega arith) (omega arith))))

-- ---- all

module _ (bus : Bus) (soon late : ℕ → ℕ) where
  abbrev offset : ℕ → ℕ
  offset = least_offset bus soon late

  pub lead_of : Sound bus → bus.sg_long 0 + bus.tg_long 0 + bus.delay ≤ late 0 → lead_holds bus soon late ≡ true → LeavesLead bus soon late offset
  lead_of sound opens h =
      let a = and_parts (holds (hearing_room bus))
      (holds (clock_room bus) && (holds (lead_order_room bus) && (holds (pause_room bus (round_end bus offset)) && holds (first_room bus soon late)))) h in
      let b = and_parts (holds (clock_room bus))
      (holds (lead_order_room bus) && (holds (pause_room bus (round_end bus offset)) && holds (first_room bus soon late))) a.1 in
      let d = and_parts (holds (lead_order_room bus)) (holds (pause_room bus (round_end bus offset)) && holds (first_room bus soon late)) b.1 in
      let g = and_parts (holds (pause_room bus (round_end bus offset))) (holds (first_room bus soon late)) d.1 in
      record {
        hearing = hearing_of bus sound a.0;
        clock = clock_of bus b.0;
        offsets = (offsets_are_least bus soon late).0;
        order = lead_order_of bus d.0;
        pause = pause_of bus offset g.0;
        begin = first_of bus soon late opens g.1;
      }

  pub is_lead : LeavesLead bus soon late offset → lead_holds bus soon late ≡ true
  is_lead room =
      both (holds (hearing_room bus))
      (holds (clock_room bus) && (holds (lead_order_room bus) && (holds (pause_room bus (round_end bus offset)) && holds (first_room bus soon late))))
      (is_hearing bus room.hearing)
      (both (holds (clock_room bus)) (holds (lead_order_room bus) && (holds (pause_room bus (round_end bus offset)) && holds (first_room bus soon late)))
      (is_clock bus room.clock)
      (both (holds (lead_order_room bus)) (holds (pause_room bus (round_end bus offset)) && holds (first_room bus soon late)) (is_lead_order bus room.order)
      (both (holds (pause_room bus (round_end bus offset))) (holds (first_room bus soon late)) (is_pause bus offset room.pause) (is_first bus soon late room.begin))))
