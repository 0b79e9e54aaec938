-- Senders that are powered up at about the same time are in order from the beginning.
use Rattle.std.proofs.Common.{◌≡◌, ℕ, suc, ◌+◌, ◌*◌, ◌<◌, ◌≤◌, ◌⊎◌, List, [], ◌∷◌, length, inl, inr, arith, sym, ap, subst}
use Rattle.std.proofs.lemmas.Bool.{cases_lt, cases_eq}
use Rattle.bus_clocks.specs.Buses.{Bus, among}
use Rattle.bus_clocks.specs.Entries.{AreClear, Entry, In, end_of}
use Rattle.bus_clocks.specs.Courses.{Course, HasEntry, HasLeft, HasMore, IsCourse, IsQuiet}
use Rattle.bus_clocks.specs.Room.{HasCycle, LeavesRoom, StartsItself}
use Rattle.bus_clocks.specs.Rounds.{AreSpaced, InRounds, least_round, most_round, next}
use Rattle.bus_clocks.specs.Order.{AreEven, ArePoweredWithin, BeginsBy, IsCold, IsPlaced, RealClocksKeepOrder}
use Rattle.bus_clocks.proofs.Alone.{among_more, among_one, as_first, clear_alone, course_alone, room_alone, rounds_alone, spaced_alone}
use Rattle.bus_clocks.proofs.Lists.{own_none}
use Rattle.bus_clocks.proofs.Timers.{Synced, begins_up, is_quiet, sync_must}
use Rattle.bus_clocks.proofs.Worlds.{World, Started, started, start_must, ears}
use Rattle.bus_clocks.proofs.Turns.{Left, sent, turn_then, left_then, behind_then, weaker}
use Rattle.bus_clocks.proofs.Rounds.{Opening, Opens, opens, idle_opening, left_first, next_at, in_rounds}
use Rattle.bus_clocks.proofs.Placed.{placed}
use Rattle.bus_clocks.proofs.Spacing.{spaced}

-- a bus where no sender hears itself later, and what it does that begins cold
module _ (bus : Bus) (c : Course) (room : LeavesRoom bus) (lone : bus.senders ≡ 1 → bus.delay ≡ 0) (timely : StartsItself bus ⊎ HasCycle bus)
    (ok : IsCourse bus c) (cold : IsCold bus c) (powered : ArePoweredWithin bus c) (even : AreEven bus c) where
  abbrev w : World
  w = record { bus = bus; c = c; up = 0; room = room; lone = lone; ok = ok; still = λ n t low. cold.still n t; due = λ k known. inr (cold.due k known) }

  abbrev lo : ℕ
  lo = c.up 0 + bus.sg_short 0 + bus.tg_short 0

  abbrev pub hi : ℕ
  hi = c.up 0 + bus.sg_long 0 + bus.tg_long 0

  -- nobody starts before both its gaps
  start_late : (x : Entry) → In x c.list → c.up x.sender + bus.sg_short x.sender + bus.tg_short x.sender ≤ x.moment
  start_late x i =
      let s : Started w x = started w x i in
      let is : s.synced.from + c.sg x.sender s.synced.from ≡ s.sync = s.synced.elapsed in
      let up : c.up x.sender ≤ s.synced.from = begins_up (ears w) x.sender s.synced.from s.synced.begins in
      let low : bus.sg_short x.sender ≤ c.sg x.sender s.synced.from = cold.sg x.sender s.synced.from s.known in
      let before : s.sync + bus.tg_short x.sender ≤ x.moment = s.before (inr (λ a. cold.tg x.sender a s.known)) in
      omega arith

  quiet_until : (k a b u : ℕ) → ((x : Entry) → In x c.list → 0 ≤ x.moment → u ≤ x.moment) → b ≤ u → IsQuiet c k a b
  quiet_until k a b u next low = is_quiet (ears w) k a b (omega arith) (λ x i. (let n : u ≤ x.moment = next x i (omega arith) in inl (omega arith)))

  joins : (k u : ℕ) → k < bus.senders → ((x : Entry) → In x c.list → 0 ≤ x.moment → u ≤ x.moment) → c.up k + bus.sg_long k ≤ u
      → Synced (ears w) k (c.up k + bus.sg_long k) (c.up k + bus.sg_long k)
  joins k u known next low =
      sync_must (ears w) k (c.up k) (c.up k + bus.sg_long k) known (omega arith) (omega arith) (quiet_until k (c.up k) (c.up k + bus.sg_long k) u next low)

  none_at : (u : ℕ) → ((x : Entry) → In x c.list → 0 ≤ x.moment → u ≤ x.moment) → hi < u → (h : HasEntry c.list 0 hi) → h.entry.moment ≡ hi → ⊥
  none_at u next far h at = (let n : u ≤ h.entry.moment = next h.entry h.there (omega arith) in omega arith)

  no_later : (u : ℕ) → ((x : Entry) → In x c.list → 0 ≤ x.moment → u ≤ x.moment) → hi < u → hi < c.horizon → HasLeft c 0 hi → ⊥
  no_later u next far soon left =
      let s : Synced (ears w) 0 (c.up 0 + bus.sg_long 0) (c.up 0 + bus.sg_long 0) = joins 0 u room.some next (omega arith) in
      let by : s.at ≤ c.up 0 + bus.sg_long 0 = s.by in
      let none : (x : Entry) → In x c.list → x.moment < c.up 0 + bus.sg_long 0 + bus.tg_long 0 → ⊥ = λ x i less.
      (let n : u ≤ x.moment = next x i (omega arith) in omega arith) in
      let h : HasEntry c.list 0 (c.up 0 + bus.sg_long 0 + bus.tg_long 0) =
      start_must w 0 s.at (c.up 0 + bus.sg_long 0) (c.up 0 + bus.sg_long 0 + bus.tg_long 0) room.some s.sync (λ x i mine less. absurd (none x i less))
      s.by (omega arith) soon (omega arith) (quiet_until 0 (c.up 0 + bus.sg_long 0) (c.up 0 + bus.sg_long 0 + bus.tg_long 0) u next (omega arith)) left
      (λ x i mine less. absurd (none x i less)) in
      let at : h.entry.moment ≡ c.up 0 + bus.sg_long 0 + bus.tg_long 0 = h.moment in
      none_at u next far h at

  none_sent : (k : ℕ) → sent w k 0 ≡ 0
  none_sent k = ap (λ (l : List Entry). length l) (own_none c.list k 0 (λ x i. omega arith))

  opening : Opening w 0 lo hi
  opening = record {
    rest = λ x i less. absurd (omega arith);
    low = λ x i from mine. subst (λ k. c.up k + bus.sg_short k + bus.tg_short k ≤ x.moment) mine (start_late x i);
    fits = omega arith;
    by = no_later;
    ahead = λ x i from other.
        let known : x.sender < bus.senders = (started w x i).known in
        let wide : bus.sg_long 0 + bus.tg_long 0 + 2 * bus.delay < bus.sg_short x.sender + bus.tg_short x.sender = room.opening 0 x.sender other known in
        let far : c.up x.sender + bus.sg_short x.sender + bus.tg_short x.sender ≤ x.moment = start_late x i in
        let near : c.up 0 ≤ c.up x.sender + bus.delay = (powered x.sender known).0 in
        omega arith;
    joined = λ k u more known next low.
        let joining : bus.sg_long k + bus.delay ≤ bus.sg_short 0 + bus.tg_short 0 = room.joining 0 k more known in
        let near : c.up k ≤ c.up 0 + bus.delay = (powered k known).1 in
        weaker w k (c.up k + bus.sg_long k) (c.up k + bus.sg_long k) u 0 (joins k u known next (omega arith)) (omega arith) (omega arith);
    since = omega arith;
    powered = λ k known. (let near : c.up k ≤ c.up 0 + bus.delay = (powered k known).1 in omega arith);
    full = λ k known. inr (λ a. cold.tg k a known);
    idle = λ y i mine from low only. idle_opening w 0 y i mine from only (omega arith) (elim timely [
      | inl itself ↦ inl itself
      | inr cycle ↦ inr (cycle, record { same = λ k less one x j own before. absurd (omega arith); then = λ k more one x j own before. absurd (omega arith) })
    ]);
    lasts = inr (record {
      n = 0;
      alike = even;
      spoke = λ k less one. none_sent k;
      yet = λ k more one. absurd (omega arith);
    });
  }

  pub record InOrder (ys : List Entry) : Type 0 where
    pub rounds : InRounds bus c 0 (c.up 0) ys
    pub soon : BeginsBy bus c hi ys
    pub clear : AreClear bus.delay ys

  go : (ys : List Entry) → Left w 0 ys → InOrder ys
  go [] left =
      let late : (k : ℕ) → k < bus.senders → HasMore c k → c.horizon ≤ hi = λ k known has. elim (cases_lt hi c.horizon) [
        | inr fine ↦ fine
        | inl soon ↦ absurd (no_later (suc hi) (λ x i on. absurd (left.all x i on)) (omega arith) soon
            (left_first w 0 opening.lasts k hi hi known (has hi soon) (omega arith) (omega arith) soon (λ x i on. absurd (left.all x i on))))
      ] in
      record {
        rounds = λ k known has. (let l : c.horizon ≤ c.up 0 + bus.sg_long 0 + bus.tg_long 0 = late k known has in omega arith);
        soon = late;
        clear = tt;
      }
  go (y ∷ ys) left =
      let n : Opens w 0 lo hi y ys = opens w 0 lo hi opening y ys left in
      let low : c.up 0 + bus.sg_short 0 + bus.tg_short 0 ≤ y.moment = n.low in
      let high : y.moment ≤ c.up 0 + bus.sg_long 0 + bus.tg_long 0 = n.high in
      let more = in_rounds w ys (end_of y) (next bus.senders 0) (next_at w (end_of y) 0 (turn_then w 0 0 y ys n.step)) (left_then w 0 0 y ys n.step) in
      record {
        rounds = (n.mine, low, (let l : y.moment ≤ c.up 0 + bus.delay + bus.sg_long 0 + bus.tg_long 0 = omega arith in l), more.0);
        soon = n.high;
        clear = (behind_then w 0 0 y ys n.step, more.1);
      }

  pub in_order : InOrder c.list
  in_order = go c.list (record { all = λ x i from. i; there = λ x i. i; later = λ x i. omega arith; ordered = ok.ordered })

  pub spaced_order : AreSpaced (least_round bus) (most_round bus) c c.list
  spaced_order = spaced bus c c.list (c.up 0) 0 room.some in_order.rounds (λ x i. let l = ok.sent x i in (l.2, l.3))

begins_alone : (bus : Bus) (c : Course) (m : ℕ) (l : List Entry) → BeginsBy (among bus) (as_first c) m l → BeginsBy bus c m l
begins_alone bus c m [] h = h
begins_alone bus c m (x ∷ l) h = h

places : (bus : Bus) (c : Course) → LeavesRoom bus → IsCourse bus c → InRounds (among bus) c 0 (c.up 0) c.list → IsPlaced bus c
places bus c room ok rounds = placed (among bus) c room.some c.list (c.up 0) ok.ordered rounds (λ y i.
    (let long : bus.shortest y.sender ≤ y.length = (ok.sent y i).2 in
    let some : 0 < bus.shortest y.sender = room.lasting y.sender (ok.sent y i).0 in
    omega arith))

pub real_clocks_keep_order : RealClocksKeepOrder
real_clocks_keep_order bus c room timely ok cold powered even = elim (cases_eq bus.senders 1) [
  | inr more ↦
      let lone : bus.senders ≡ 1 → bus.delay ≡ 0 = λ one. absurd (more one) in
      let r : InOrder bus c room lone timely ok cold powered even c.list = in_order bus c room lone timely ok cold powered even in
      let e : among bus ≡ bus = among_more bus more in
      record {
        rounds = subst (λ (b : Bus). InRounds b c 0 (c.up 0) c.list) (sym e) r.rounds;
        placed = places bus c room ok (subst (λ (b : Bus). InRounds b c 0 (c.up 0) c.list) (sym e) r.rounds);
        soon = r.soon;
        clear = r.clear;
        spaced = subst (λ (b : Bus). AreSpaced (least_round b) (most_round b) c c.list) (sym e) (spaced_order bus c room lone timely ok cold powered even);
      }
  | inl one ↦
      let lone : (among bus).senders ≡ 1 → (among bus).delay ≡ 0 = λ _. among_one bus one in
      let timely_one : StartsItself (among bus) ⊎ HasCycle (among bus) = elim timely [
        | inl itself ↦ inl itself
        | inr cycle ↦ inr (record { others = cycle.others; first = cycle.first })
      ] in
      let cold_one : IsCold (among bus) (as_first c) = record { due = cold.due; still = λ n t. cold.still 0 t; tg = cold.tg; sg = cold.sg } in
      let powered_one : ArePoweredWithin (among bus) (as_first c) = λ k known.
      (let is : c.up k ≡ c.up 0 = ap c.up (let e : k ≡ 0 = omega arith in e) in (omega arith, omega arith)) in
      let ok_one : IsCourse (among bus) (as_first c) = course_alone bus one c ok in
      let r : InOrder (among bus) (as_first c) (room_alone bus one room) lone timely_one ok_one cold_one powered_one even c.list =
      in_order (among bus) (as_first c) (room_alone bus one room) lone timely_one ok_one cold_one powered_one even in
      let rounds : InRounds (among bus) c 0 (c.up 0) c.list = rounds_alone bus one c 0 (c.up 0) c.list r.rounds in
      record {
        rounds = rounds;
        placed = places bus c room ok rounds;
        soon = begins_alone bus c (c.up 0 + bus.sg_long 0 + bus.tg_long 0) c.list r.soon;
        clear = (clear_alone bus one c (c.up 0) c.list (room.alone one) ok.ordered rounds).1;
        spaced = spaced_alone bus one c (least_round (among bus)) (most_round (among bus)) c.list
            (spaced_order (among bus) (as_first c) (room_alone bus one room) lone timely_one ok_one cold_one powered_one even);
      }
]
