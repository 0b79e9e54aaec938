-- What the turns before turn n know of each other: how soon one comes behind another at least, and what held it back.
use Rattle.std.proofs.Common.{◌≡◌, ℕ, zero, suc, ◌+◌, ◌-◌, ◌<◌, ◌≤◌, ◌⊎◌, length, inl, inr, arith, sym, ap, subst}
use Rattle.std.proofs.lemmas.Bool.{cases_lt, cases_eq}
use Rattle.bus_clocks.specs.Buses.{Bus}
use Rattle.bus_clocks.specs.Entries.{end_of}
use Rattle.bus_clocks.specs.Courses.{Course, IsCourse}
use Rattle.bus_drift.specs.Room.{HearsOut}
use Rattle.bus_drift.specs.Turns.{who, longest_step, shortest_step, slowest, fastest, turn}
use Rattle.bus_drift.proofs.Sums.{between_none, between_more}
use Rattle.bus_drift.proofs.Turning.{Turning, Begun, Fact, is_one, there, asc}

module _ (w : Turning) where
  abbrev bus : Bus
  bus = w.bus

  abbrev c : Course
  c = w.c

  abbrev up : ℕ
  up = w.up

  abbrev soon : ℕ → ℕ
  soon = w.soon

  abbrev late : ℕ → ℕ
  late = w.late

  abbrev sound : HearsOut bus
  sound = w.sound

  abbrev ok : IsCourse bus c
  ok = w.ok

  abbrev begun : Begun bus c up soon late
  begun = w.begun

  abbrev N : ℕ
  N = bus.senders

  abbrev len : ℕ
  len = length c.list

  -- when turn n begins and has ended
  abbrev s : ℕ → ℕ
  s n = (turn c n).moment

  abbrev e : ℕ → ℕ
  e n = end_of (turn c n)

  module _ (n : ℕ) (upto : n ≤ len) (facts : (m : ℕ) → m < n → Fact w m) where
    pub at_least : (m : ℕ) → m < n → bus.shortest (who bus m) ≤ (turn c m).length
    at_least m less = subst (λ k. bus.shortest k ≤ (turn c m).length) (facts m less).sender (ok.sent (turn c m) (there w m (omega arith))).2

    pub at_most : (m : ℕ) → m < n → (turn c m).length ≤ bus.longest (who bus m)
    at_most m less = subst (λ k. (turn c m).length ≤ bus.longest k) (facts m less).sender (ok.sent (turn c m) (there w m (omega arith))).3

    pub gap_next : (b : ℕ) → suc b < n → e b + bus.tg_short (who bus (suc b)) ≤ s (suc b)
    gap_next b less =
        let g : e (suc b - 1) + bus.tg_short (who bus (suc b)) ≤ s (suc b) = (facts (suc b) less).gap (omega arith) in
        let q : e (suc b - 1) ≡ e b = ap e (let i : suc b - 1 ≡ b = omega arith in i) in
        omega arith

    -- each begins when those before it have been heard by all
    pub over : (a b : ℕ) → a < b → b < n → e a + bus.delay ≤ s b
    over a b less on =
        let g : e a + bus.tg_short (who bus (suc a)) ≤ s (suc a) = gap_next a (omega arith) in
        let h : bus.delay ≤ bus.tg_short (who bus (suc a)) = sound.heard (who bus (suc a)) (is_one w (suc a)) in
        let l : s (suc a) ≤ s b = asc w (suc a) b (omega arith) (omega arith) in
        omega arith

    -- from one to another it takes at least so long
    pub fast : (a b : ℕ) → a ≤ b → b < n → s a + fastest bus a b ≤ s b
    fast a zero low less =
        let same : a ≡ 0 = omega arith in
        let one : fastest bus a 0 ≡ fastest bus 0 0 = ap (λ i. fastest bus i 0) same in
        let two : fastest bus 0 0 ≡ 0 = between_none (shortest_step bus) 0 in
        let three : s a ≡ s 0 = ap s same in
        omega arith
    fast a (suc b) low less = elim (cases_eq a (suc b)) [
      | inl same ↦
          let one : fastest bus a (suc b) ≡ fastest bus a a = ap (fastest bus a) (sym same) in
          let two : fastest bus a a ≡ 0 = between_none (shortest_step bus) a in
          let three : s a ≡ s (suc b) = ap s same in
          omega arith
      | inr other ↦
          let before : s a + fastest bus a b ≤ s b = fast a b (omega arith) (omega arith) in
          let more : fastest bus a (suc b) ≡ fastest bus a b + shortest_step bus b = between_more (shortest_step bus) a b (omega arith) in
          let g : e b + bus.tg_short (who bus (suc b)) ≤ s (suc b) = gap_next b less in
          let long : bus.shortest (who bus b) ≤ (turn c b).length = at_least b (omega arith) in
          omega arith
    ]

    -- what moment v owes to turn p, to a later turn's transmit interval, or to a later first start
    abbrev pub Chain : ℕ → ℕ → ℕ → Type 0
    Chain p m v =
        (v ≤ s p + slowest bus p m)
        ⊎ ((i : ℕ) × (p < i) × (i ≤ m) × (N ≤ i) × (v ≤ s (i - N) + bus.ti_long (who bus i) + slowest bus i m))
        ⊎ ((i : ℕ) × (p < i) × (i ≤ m) × (i < N) × (v ≤ late i + slowest bus i m))

    pub extend : (p m v u : ℕ) → p ≤ m → Chain p m v → u ≤ v + longest_step bus m → Chain p (suc m) u
    extend p m v u low (inl h) less = (let more : slowest bus p (suc m) ≡ slowest bus p m + longest_step bus m = between_more (longest_step bus) p m low in inl (omega arith))
    extend p m v u low (inr (inl h)) less =
        let a : p < h.0 = h.1 in
        let b : h.0 ≤ m = h.2 in
        let f : v ≤ s (h.0 - N) + bus.ti_long (who bus h.0) + slowest bus h.0 m = h.4 in
        let more : slowest bus h.0 (suc m) ≡ slowest bus h.0 m + longest_step bus m = between_more (longest_step bus) h.0 m b in
        inr (inl (h.0, h.1, omega arith, h.3, omega arith))
    extend p m v u low (inr (inr h)) less =
        let a : p < h.0 = h.1 in
        let b : h.0 ≤ m = h.2 in
        let f : v ≤ late h.0 + slowest bus h.0 m = h.4 in
        let more : slowest bus h.0 (suc m) ≡ slowest bus h.0 m + longest_step bus m = between_more (longest_step bus) h.0 m b in
        inr (inr (h.0, h.1, omega arith, h.3, omega arith))

    -- behind turn b the next one's terminal gap elapses
    pub behind : (p b : ℕ) → p ≤ b → b < n → Chain p b (s b) → Chain p (suc b) (e b + bus.delay + bus.tg_long (who bus (suc b)))
    behind p b low less h =
        let long : (turn c b).length ≤ bus.longest (who bus b) = at_most b less in
        extend p b (s b) (e b + bus.delay + bus.tg_long (who bus (suc b))) low h (omega arith)

    pub chain : (p m : ℕ) → p ≤ m → m < n → Chain p m (s m)
    chain p zero low less =
        let same : s p ≡ s 0 = ap s (let q : p ≡ 0 = omega arith in q) in inl (omega arith)
    chain p (suc m) low less = elim (cases_eq p (suc m)) [
      | inl same ↦ (let q : s p ≡ s (suc m) = ap s same in inl (omega arith))
      | inr other ↦
          let none : slowest bus (suc m) (suc m) ≡ 0 = between_none (longest_step bus) (suc m) in
          elim (cases_lt (suc m) N) [
            | inl first ↦ (let h : s (suc m) ≤ late (suc m) = (facts (suc m) less).held.0 first in inr (inr (suc m, omega arith, omega arith, first, omega arith)))
            | inr on ↦ elim ((facts (suc m) less).held.1 on) [
              | inl own ↦ inr (inl (suc m, omega arith, omega arith, on, omega arith))
              | inr prev ↦
                  let before : Chain p (suc m) (e m + bus.delay + bus.tg_long (who bus (suc m))) = behind p m (omega arith) (omega arith) (chain p m (omega arith) (omega arith)) in
                  let q : e (suc m - 1) ≡ e m = ap e (let i : suc m - 1 ≡ m = omega arith in i) in
                  elim before [
                    | inl h ↦ inl (omega arith)
                    | inr (inl h) ↦ (let f : e m + bus.delay + bus.tg_long (who bus (suc m)) ≤ s (h.0 - N) + bus.ti_long (who bus h.0) + slowest bus h.0 (suc m) = h.4 in inr (inl (h.0, h.1, h.2, h.3, omega arith)))
                    | inr (inr h) ↦ (let f : e m + bus.delay + bus.tg_long (who bus (suc m)) ≤ late h.0 + slowest bus h.0 (suc m) = h.4 in inr (inr (h.0, h.1, h.2, h.3, omega arith)))
                  ]
            ]
          ]
    ]
