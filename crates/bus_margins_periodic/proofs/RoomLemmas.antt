-- The rules hold exactly where the bus leaves room for turns.
use Rattle.std.proofs.Common.{◌≡◌, ℕ, suc, ◌+◌, ◌-◌, ◌*◌, ◌<◌, ◌≤◌, ◌⊎◌, Bool, true, false, ◌||◌, ◌&&◌, cond, eqb, Option, None, inl, inr, arith, sym, refl, ap, ◌∙◌, subst, leb-true, le-leb, eq-eqb}
use Rattle.std.proofs.lemmas.Bool.{cases_Bool, true≢false, and_parts, eqb-true}
use Rattle.bus_clocks.specs.Buses.{Bus, sum_below}
use Rattle.bus_drift.specs.Room.{HearsOut, HasRoomForSync, NoneOvertaken, BeginsApart, BeginsInTurn, LeavesTurns}
use Rattle.bus_drift.specs.Turns.{who, slowest, fastest}
use Rattle.bus_margins_periodic.specs.declared.room.Room.{Room}
use Rattle.bus_margins_periodic.specs.Least.{holds, least_of}
use Rattle.bus_margins_periodic.specs.Margins.{rooms_by, all_hold}
use Rattle.bus_margins_periodic.specs.Rooms.{room_at, gap_room, hearing_room, sync_at, sync_room, is_close, room_among, order_among, passed_room, held_room, order_room, synced_room, apart_room, round_room, again_room, first_room, second_room, begin_room}
use Rattle.bus_margins_periodic.proofs.LeastLemmas.{split, join, each, all}

pub both : (a b : Bool) → a ≡ true → b ≡ true → a && b ≡ true
both true b h k = k
both false b h k = absurd (true≢false (sym h))

-- what holds of each bus of a table
pub record Sound (bus : Bus) : Type 0 where
  pub some : 0 < bus.senders
  pub lasting : (k : ℕ) → k < bus.senders → (0 < bus.longest k) × (bus.shortest k ≤ bus.longest k)
  pub gaps : (j k : ℕ) → j < bus.senders → k < bus.senders → bus.tg_long j < bus.sg_long k

-- ---- hearing

pub hearing_of : (bus : Bus) → Sound bus → holds (hearing_room bus) ≡ true → HearsOut bus
hearing_of bus sound h =
    let p = split (gap_room bus bus.drop) (gap_room bus bus.delay) h in
    record {
      some = sound.some;
      lasting = sound.lasting;
      whole = λ k known. leb-true bus.drop (bus.tg_short k) (each bus.senders (λ k. room_at k bus.drop (bus.tg_short k)) p.0 k known);
      heard = λ k known. leb-true bus.delay (bus.tg_short k) (each bus.senders (λ k. room_at k bus.delay (bus.tg_short k)) p.1 k known);
    }

pub is_hearing : (bus : Bus) → HearsOut bus → holds (hearing_room bus) ≡ true
is_hearing bus hearing =
    join (gap_room bus bus.drop) (gap_room bus bus.delay)
    (all bus.senders (λ k. room_at k bus.drop (bus.tg_short k)) (λ k known. le-leb bus.drop (bus.tg_short k) (hearing.whole k known)))
    (all bus.senders (λ k. room_at k bus.delay (bus.tg_short k)) (λ k known. le-leb bus.delay (bus.tg_short k) (hearing.heard k known)))

-- ---- sync

abbrev needed : Bus → ℕ → ℕ
needed bus k = sum_below bus.longest bus.senders + bus.senders * bus.sg_long k + bus.tg_long k + (bus.senders - 1) * bus.delay

pub sync_of : (bus : Bus) → Sound bus → holds (sync_room bus) ≡ true → HasRoomForSync bus
sync_of bus sound h = record {
  gaps = sound.gaps;
  room = λ k known. leb-true (needed bus k) (bus.ti_long k + (bus.senders - 1)) (each bus.senders (sync_at bus) h k known);
}

pub is_sync : (bus : Bus) → HasRoomForSync bus → holds (sync_room bus) ≡ true
is_sync bus sync = all bus.senders (sync_at bus) (λ k known. le-leb (needed bus k) (bus.ti_long k + (bus.senders - 1)) (sync.room k known))

-- ---- order

pub or_left : (a b : Bool) → a ≡ true → a || b ≡ true
or_left true b h = refl
or_left false b h = absurd (true≢false (sym h))

pub or_right : (a b : Bool) → b ≡ true → a || b ≡ true
or_right true b h = refl
or_right false b h = h

pub or_cases : (a b : Bool) → a || b ≡ true → (a ≡ true) ⊎ (b ≡ true)
or_cases true b h = inl refl
or_cases false b h = inr h

-- turn k is not told apart from turn j by the gaps alone, or turn j is late itself
abbrev pub Close : Bus → ℕ → ℕ → ℕ → Type 0
Close bus i j k = (i ≡ j) ⊎ (bus.tg_short (who bus k) ≤ bus.tg_long (who bus j) + 2 * bus.delay)

abbrev pub Waits : Bus → ℕ → ℕ → ℕ → Type 0
Waits bus i j k = bus.ti_long (who bus i) + slowest bus i j + bus.delay < bus.ti_short (who bus k) + fastest bus i k

abbrev ruled : Bus → ℕ → ℕ → ℕ → Option Room
ruled bus i j k =
    room_among (who bus i) (who bus j) (who bus k) (bus.ti_long (who bus i) + slowest bus i j + bus.delay + 1)
    (bus.ti_short (who bus k) + fastest bus i k)

pub among_of : (bus : Bus) (i j k : ℕ) → holds (order_among bus i j k) ≡ true → Close bus i j k → Waits bus i j k
among_of bus i j k h close =
    let test : (eqb i j || is_close bus j k) ≡ true = elim close [
      | inl same ↦ or_left (eqb i j) (is_close bus j k) (eq-eqb i j same)
      | inr near ↦ or_right (eqb i j) (is_close bus j k) (le-leb (bus.tg_short (who bus k)) (bus.tg_long (who bus j) + 2 * bus.delay) near)
    ] in
    let is : holds (order_among bus i j k) ≡ holds (ruled bus i j k) = ap (λ t. holds (cond t (ruled bus i j k) None)) test in
    let l : bus.ti_long (who bus i) + slowest bus i j + bus.delay + 1 ≤ bus.ti_short (who bus k) + fastest bus i k =
    leb-true (bus.ti_long (who bus i) + slowest bus i j + bus.delay + 1) (bus.ti_short (who bus k) + fastest bus i k) (sym is ∙ h) in
    omega arith

pub is_among : (bus : Bus) (i j k : ℕ) → (Close bus i j k → Waits bus i j k) → holds (order_among bus i j k) ≡ true
is_among bus i j k waits = elim (cases_Bool (eqb i j || is_close bus j k)) [
  | inr no' ↦ ap (λ t. holds (cond t (ruled bus i j k) None)) no'
  | inl yes' ↦
      let close : Close bus i j k = elim (or_cases (eqb i j) (is_close bus j k) yes') [
        | inl same ↦ inl (eqb-true i j same)
        | inr near ↦ inr (leb-true (bus.tg_short (who bus k)) (bus.tg_long (who bus j) + 2 * bus.delay) near)
      ] in
      let l : Waits bus i j k = waits close in
      ap (λ t. holds (cond t (ruled bus i j k) None)) yes'
      ∙ le-leb (bus.ti_long (who bus i) + slowest bus i j + bus.delay + 1) (bus.ti_short (who bus k) + fastest bus i k) (omega arith)
]

-- told by steps from one turn to the next
pub at_turns : (bus : Bus) (i j k : ℕ) → i ≤ j → j < k → holds (order_among bus i (i + (j - i)) (i + (j - i) + suc (k - (i + (j - i)) - 1))) ≡ true
    → holds (order_among bus i j k) ≡ true
at_turns bus i j k low less h =
    let at_j : i + (j - i) ≡ j = omega arith in
    let at_k : i + (j - i) + suc (k - (i + (j - i)) - 1) ≡ k = omega arith in
    subst (λ y. holds (order_among bus i y k) ≡ true) at_j (subst (λ z. holds (order_among bus i (i + (j - i)) z) ≡ true) at_k h)

pub held_of : (bus : Bus) (last i j k : ℕ) → holds (held_room bus last i) ≡ true → i ≤ j → j < k → k < last → Close bus i j k → Waits bus i j k
held_of bus last i j k h low less within close =
    let one = each (last - i) (λ a. passed_room bus last i (i + a)) h (j - i) (omega arith) in
    let two = each (last - suc (i + (j - i))) (λ b. order_among bus i (i + (j - i)) (i + (j - i) + suc b)) one (k - (i + (j - i)) - 1) (omega arith) in
    among_of bus i j k (at_turns bus i j k low less two) close

pub is_held : (bus : Bus) (last i : ℕ) → ((j k : ℕ) → i ≤ j → j < k → k < last → Close bus i j k → Waits bus i j k) → holds (held_room bus last i) ≡ true
is_held bus last i h =
    all (last - i) (λ a. passed_room bus last i (i + a)) (λ a low.
    all (last - suc (i + a)) (λ b. order_among bus i (i + a) (i + a + suc b)) (λ b less.
    is_among bus i (i + a) (i + a + suc b) (λ close. h (i + a) (i + a + suc b) (omega arith) (omega arith) (omega arith) close)))

pub order_of : (bus : Bus) → holds (order_room bus) ≡ true → NoneOvertaken bus
order_of bus h i j k known low less within close =
    held_of bus (i + bus.senders) i j k (each bus.senders (λ i. held_room bus (i + bus.senders) i) h i known) low less within close

pub is_order : (bus : Bus) → NoneOvertaken bus → holds (order_room bus) ≡ true
is_order bus order =
    all bus.senders (λ i. held_room bus (i + bus.senders) i)
    (λ i known. is_held bus (i + bus.senders) i (λ j k low less within close. order i j k known low less within close))

-- ---- begin

pub first_of : (bus : Bus) (soon late : ℕ → ℕ) → bus.sg_long 0 + bus.tg_long 0 + bus.delay ≤ late 0 → holds (first_room bus soon late) ≡ true
    → BeginsApart bus soon late
first_of bus soon late opens h =
    let p = split (least_of (bus.senders - 1) (λ b. synced_room bus soon (suc b))) (least_of (bus.senders - 1) (apart_room bus soon late)) h in
    record {
      opens = opens;
      synced = λ k some known.
          let is : suc (k - 1) ≡ k = omega arith in
          subst (λ i. bus.sg_long i + bus.delay ≤ soon 0) is
          (leb-true (bus.sg_long (suc (k - 1)) + bus.delay) (soon 0) (each (bus.senders - 1) (λ b. synced_room bus soon (suc b)) p.0 (k - 1) (omega arith)));
      apart = λ k known. leb-true (late k + bus.longest k + bus.delay + bus.tg_long (suc k)) (soon (suc k))
          (each (bus.senders - 1) (apart_room bus soon late) p.1 k (omega arith));
    }

pub is_first : (bus : Bus) (soon late : ℕ → ℕ) → BeginsApart bus soon late → holds (first_room bus soon late) ≡ true
is_first bus soon late first =
    join (least_of (bus.senders - 1) (λ b. synced_room bus soon (suc b))) (least_of (bus.senders - 1) (apart_room bus soon late))
    (all (bus.senders - 1) (λ b. synced_room bus soon (suc b)) (λ b less.
    le-leb (bus.sg_long (suc b) + bus.delay) (soon 0) (first.synced (suc b) (omega arith) (omega arith))))
    (all (bus.senders - 1) (apart_room bus soon late) (λ k less.
    le-leb (late k + bus.longest k + bus.delay + bus.tg_long (suc k)) (soon (suc k)) (first.apart k (omega arith))))

pub begin_of : (bus : Bus) (soon late : ℕ → ℕ) → bus.sg_long 0 + bus.tg_long 0 + bus.delay ≤ late 0 → holds (begin_room bus soon late) ≡ true
    → BeginsInTurn bus soon late
begin_of bus soon late opens h =
    let p = split (first_room bus soon late) (second_room bus soon late) h in
    let q = split (round_room bus soon late) (least_of bus.senders (again_room bus soon late)) p.1 in
    record {
      first = first_of bus soon late opens p.0;
      round = leb-true (late (bus.senders - 1) + bus.longest (bus.senders - 1) + bus.delay + bus.tg_long 0) (soon 0 + bus.ti_short 0) q.0;
      again = λ k known.
          let l : late (bus.senders - 1) + bus.delay + 1 ≤ soon k + bus.ti_short k =
          leb-true (late (bus.senders - 1) + bus.delay + 1) (soon k + bus.ti_short k) (each bus.senders (again_room bus soon late) q.1 k known) in
          omega arith;
    }

pub is_begin : (bus : Bus) (soon late : ℕ → ℕ) → BeginsInTurn bus soon late → holds (begin_room bus soon late) ≡ true
is_begin bus soon late begin =
    join (first_room bus soon late) (second_room bus soon late) (is_first bus soon late begin.first)
    (join (round_room bus soon late) (least_of bus.senders (again_room bus soon late))
    (le-leb (late (bus.senders - 1) + bus.longest (bus.senders - 1) + bus.delay + bus.tg_long 0) (soon 0 + bus.ti_short 0) begin.round)
    (all bus.senders (again_room bus soon late) (λ k known.
    let l : late (bus.senders - 1) + bus.delay < soon k + bus.ti_short k = begin.again k known in
    le-leb (late (bus.senders - 1) + bus.delay + 1) (soon k + bus.ti_short k) (omega arith))))

-- ---- all

pub turns_of : (bus : Bus) (soon late : ℕ → ℕ) → Sound bus → bus.sg_long 0 + bus.tg_long 0 + bus.delay ≤ late 0
    → all_hold (rooms_by bus soon late) ≡ true → LeavesTurns bus soon late
turns_of bus soon late sound opens h =
    let a = and_parts (holds (hearing_room bus)) (holds (sync_room bus) && (holds (order_room bus) && holds (begin_room bus soon late))) h in
    let b = and_parts (holds (sync_room bus)) (holds (order_room bus) && holds (begin_room bus soon late)) a.1 in
    let d = and_parts (holds (order_room bus)) (holds (begin_room bus soon late)) b.1 in
    record {
      hearing = hearing_of bus sound a.0;
      sync = sync_of bus sound b.0;
      order = order_of bus d.0;
      begin = begin_of bus soon late opens d.1;
    }

pub are_turns : (bus : Bus) (soon late : ℕ → ℕ) → LeavesTurns bus soon late → all_hold (rooms_by bus soon late) ≡ true
are_turns bus soon late room =
    both (holds (hearing_room bus)) (holds (sync_room bus) && (holds (order_room bus) && holds (begin_room bus soon late))) (is_hearing bus room.hearing)
    (both (holds (sync_room bus)) (holds (order_room bus) && holds (begin_room bus soon late)) (is_sync bus room.sync)
    (both (holds (order_room bus)) (holds (begin_room bus soon late)) (is_order bus room.order) (is_begin bus soon late room.begin)))
