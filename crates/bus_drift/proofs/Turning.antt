-- A bus, what happens on it and how its first round begins; and what turn m knows of those around it.
use Rattle.std.proofs.Common.{◌≡◌, ℕ, zero, suc, ◌+◌, ◌-◌, ◌<◌, ◌≤◌, ◌⊎◌, false, length, inl, inr, arith, sym, refl, ap, ◌∙◌, subst}
use Rattle.std.proofs.lemmas.Bool.{cases_lt, cases_eq}
use Rattle.bus_clocks.specs.Buses.{Bus}
use Rattle.bus_clocks.specs.Entries.{Entry, end_of, In}
use Rattle.bus_clocks.specs.Courses.{Course, IsCourse, MayStart}
use Rattle.bus_clocks.specs.Hearing.{Hears}
use Rattle.bus_clocks.specs.Order.{AreEven}
use Rattle.bus_clocks.proofs.Timers.{Heard, may, some, sync_up}
use Rattle.bus_drift.specs.Beginning.{Begins}
use Rattle.bus_drift.specs.InTurn.{IsDue}
use Rattle.bus_drift.specs.Room.{HearsOut, BeginsApart}
use Rattle.bus_drift.specs.Turns.{who, turn}
use Rattle.bus_drift.proofs.Lists.{in_place, Place, place, ascending}
use Rattle.bus_drift.proofs.Steps.{one_of}

-- the greater of two numbers
pub top : (a b : ℕ) → (c : ℕ) × (a ≤ c) × (b ≤ c) × ((c ≡ a) ⊎ (c ≡ b))
top a b = elim (cases_lt a b) [
  | inl less ↦ (b, omega arith, omega arith, inr refl)
  | inr more ↦ (a, omega arith, omega arith, inl refl)
]

-- how the first round begins, told by moments
pub record Begun (bus : Bus) (c : Course) (up : ℕ) (soon late : ℕ → ℕ) : Type 0 where
  pub still : (n t : ℕ) → up ≤ t → c.noise n t ≡ false
  pub powered : (k : ℕ) → k < bus.senders → up ≤ c.up k
  pub opens : c.up 0 + bus.sg_long 0 + bus.tg_long 0 ≤ late 0
  pub synced : (k : ℕ) → 0 < k → k < bus.senders → c.up k + bus.sg_long k ≤ soon 0
  pub after : up ≤ soon 0
  pub due : (k : ℕ) → k < bus.senders → (soon k ≤ c.due k) × (c.due k ≤ late k)
  pub apart : (k : ℕ) → suc k < bus.senders → late k + bus.longest k + bus.delay + bus.tg_long (suc k) ≤ soon (suc k)

pub begun_at : (bus : Bus) (c : Course) (start : ℕ) (soon late : ℕ → ℕ) → 0 < bus.senders → BeginsApart bus soon late → Begins bus c start soon late
    → Begun bus c start (λ k. start + soon k) (λ k. start + late k)
begun_at bus c start soon late some first begins = record {
  still = begins.still;
  powered = λ k known. (begins.powered k known).0;
  opens = (let a : c.up 0 ≤ start + bus.delay = (begins.powered 0 some).1 in let b : bus.sg_long 0 + bus.tg_long 0 + bus.delay ≤ late 0 = first.opens in omega arith);
  synced = λ k other known. (let a : c.up k ≤ start + bus.delay = (begins.powered k known).1 in let b : bus.sg_long k + bus.delay ≤ soon 0 = first.synced k other known in omega arith);
  after = omega arith;
  due = begins.due;
  apart = λ k known. (let a : late k + bus.longest k + bus.delay + bus.tg_long (suc k) ≤ soon (suc k) = first.apart k known in omega arith);
}

-- a bus, what happens on it, and how the first round begins
pub record Turning : Type 0 where
  pub bus : Bus
  pub c : Course
  pub up : ℕ
  pub soon : ℕ → ℕ
  pub late : ℕ → ℕ
  pub sound : HearsOut bus
  pub ok : IsCourse bus c
  pub even : AreEven bus c
  pub begun : Begun bus c up soon late

module _ (w : Turning) where
  abbrev bus : Bus
  bus = w.bus

  abbrev c : Course
  c = w.c

  abbrev up : ℕ
  up = w.up

  abbrev soon : ℕ → ℕ
  soon = w.soon

  abbrev late : ℕ → ℕ
  late = w.late

  abbrev sound : HearsOut bus
  sound = w.sound

  abbrev ok : IsCourse bus c
  ok = w.ok

  abbrev begun : Begun bus c up soon late
  begun = w.begun

  abbrev N : ℕ
  N = bus.senders

  abbrev len : ℕ
  len = length c.list

  -- when turn n begins and has ended
  abbrev s : ℕ → ℕ
  s n = (turn c n).moment

  abbrev e : ℕ → ℕ
  e n = end_of (turn c n)

  abbrev d : Entry
  d = record { moment = 0; sender = 0; length = 0 }

  pub tg_within : (k : ℕ) → k < N → bus.tg_short k ≤ bus.tg_long k
  tg_within k known =
      let a : ℕ = suc (c.up k) in
      let one : bus.tg_short k ≤ c.tg k a = ok.tg_low k a known (inl (omega arith)) in
      let two : c.tg k a ≤ bus.tg_long k = ok.tg_high k a known in
      omega arith

  pub ti_within : (k : ℕ) → k < N → bus.ti_short k ≤ bus.ti_long k
  ti_within k known =
      let one : bus.ti_short k ≤ c.ti k 0 = ok.ti_low k 0 known in
      let two : c.ti k 0 ≤ bus.ti_long k = ok.ti_high k 0 known in
      omega arith

  pub is_one : (n : ℕ) → who bus n < N
  is_one n = one_of bus sound n

  -- what is sent is heard, so it isn't empty, however short a transmission might be
  pub heard_long : (x : Entry) → In x c.list → 1 ≤ x.length
  heard_long x i =
      let h : Hears c.hears 0 bus.drop x x.sender = ok.own x i in
      let inside : (x.moment ≤ h.first) × (h.first < x.moment + x.length + 0) = h.within h.first h.first_heard in
      let low : x.moment ≤ h.first = inside.0 in
      let high : h.first < x.moment + x.length + 0 = inside.1 in
      omega arith

  abbrev pub ear : Heard
  ear = record {
    bus = record bus { shortest = λ _. 1 };
    c = c;
    up = up;
    ok = record {
      ordered = ok.ordered;
      sent = λ x i. (let h = ok.sent x i in (h.0, h.1, heard_long x i, h.3));
      exact = ok.exact;
      own = ok.own;
      others = ok.others;
      tg_low = ok.tg_low;
      tg_high = ok.tg_high;
      sg_low = ok.sg_low;
      sg_high = ok.sg_high;
      ti_low = ok.ti_low;
      ti_high = ok.ti_high;
    };
    still = begun.still;
    lasting = λ k known. omega arith;
  }

  -- ---- the list

  pub there : (n : ℕ) → n < len → In (turn c n) c.list
  there n less = in_place c.list n d less

  pub asc : (m n : ℕ) → m ≤ n → n < len → s m ≤ s n
  asc m n less on = elim (cases_eq m n) [
    | inl same ↦ (let q : s m ≡ s n = ap s same in omega arith)
    | inr other ↦ elim (ascending c.list d m n ok.ordered (omega arith) on) [
      | inl before ↦ omega arith
      | inr at ↦ (let q : s m ≡ s n = at.0 in omega arith)
    ]
  ]

  -- those of one sender begin at different moments
  pub asc_own : (m n : ℕ) → m < n → n < len → (turn c m).sender ≡ (turn c n).sender → s m < s n
  asc_own m n less on same = elim (ascending c.list d m n ok.ordered less on) [
    | inl before ↦ before
    | inr at ↦ absurd (at.1 same)
  ]

  -- ---- the first round

  pub soon_late : (k : ℕ) → k < N → soon k ≤ late k
  soon_late k known =
      let one : soon k ≤ c.due k = (begun.due k known).0 in
      let two : c.due k ≤ late k = (begun.due k known).1 in
      omega arith

  pub spread : (j k : ℕ) → j < k → k < N → late j + bus.longest j + bus.delay + bus.tg_long (suc j) ≤ soon k
  spread j zero less known = absurd (omega arith)
  spread j (suc k) less known =
      let last : late k + bus.longest k + bus.delay + bus.tg_long (suc k) ≤ soon (suc k) = begun.apart k known in
      elim (cases_eq j k) [
        | inl same ↦ subst (λ i. late i + bus.longest i + bus.delay + bus.tg_long (suc i) ≤ soon (suc k)) (sym same) last
        | inr other ↦
            let before : late j + bus.longest j + bus.delay + bus.tg_long (suc j) ≤ soon k = spread j k (omega arith) (omega arith) in
            let fine : soon k ≤ late k = soon_late k (omega arith) in
            omega arith
      ]

  pub soon_least : (k : ℕ) → k < N → soon 0 ≤ soon k
  soon_least k known = elim (cases_eq k 0) [
    | inl same ↦ (let q : soon k ≡ soon 0 = ap soon same in omega arith)
    | inr other ↦
        let a : late 0 + bus.longest 0 + bus.delay + bus.tg_long 1 ≤ soon k = spread 0 k (omega arith) known in
        let b : soon 0 ≤ late 0 = soon_late 0 (omega arith) in
        omega arith
  ]

  pub late_most : (k : ℕ) → k < N → late k ≤ late (N - 1)
  late_most k known = elim (cases_eq k (N - 1)) [
    | inl same ↦ (let q : late k ≡ late (N - 1) = ap late same in omega arith)
    | inr other ↦
        let a : late k + bus.longest k + bus.delay + bus.tg_long (suc k) ≤ soon (N - 1) = spread k (N - 1) (omega arith) (omega arith) in
        let b : soon (N - 1) ≤ late (N - 1) = soon_late (N - 1) (omega arith) in
        omega arith
  ]

  -- ---- one turn behind the others

  pub record Fact (m : ℕ) : Type 0 where
    pub sender : (turn c m).sender ≡ who bus m
    pub gap : 0 < m → e (m - 1) + bus.tg_short (who bus m) ≤ s m
    pub held : IsDue bus c late m (s m)
    pub first : m < N → soon m ≤ s m
    pub interval : N ≤ m → s (m - N) + bus.ti_short (who bus m) ≤ s m
    pub later : (z : ℕ) → m < z → z < len → ((turn c z).sender ≡ who bus m → ⊥) → s m + bus.delay < s z

  -- a sender's next transmissions come a transmit interval behind
  last_own : (r a u b : ℕ) → a + suc r ≡ u → u ≤ b → (turn c a).sender ≡ (turn c b).sender
      → ((y : ℕ) → u ≤ y → y < b → (turn c y).sender ≡ (turn c b).sender → ⊥)
      → (p : ℕ) × (a ≤ p) × (p < b) × ((turn c p).sender ≡ (turn c b).sender) × ((y : ℕ) → p < y → y < b → (turn c y).sender ≡ (turn c b).sender → ⊥)
  last_own zero a u b is on same none = (a, omega arith, omega arith, same, λ y low high mine. none y (omega arith) high mine)
  last_own (suc r) a u b is on same none = elim (cases_eq (turn c (u - 1)).sender (turn c b).sender) [
    | inl mine ↦ (u - 1, omega arith, omega arith, mine, λ y low high own. none y (omega arith) high own)
    | inr other ↦ last_own r a (u - 1) b (omega arith) (omega arith) same (λ y low high own. elim (cases_eq y (u - 1)) [
      | inl is ↦ other (ap (λ i. (turn c i).sender) (sym is) ∙ own)
      | inr behind ↦ none y (omega arith) high own
    ])
  ]

  pub interval_behind : (a r b : ℕ) → a + r ≡ b → 0 < r → b < len → (turn c a).sender ≡ (turn c b).sender → s a + bus.ti_short (turn c b).sender ≤ s b
  interval_behind a r b is some on same =
      let l = last_own (r - 1) a b b (omega arith) (omega arith) same (λ y low high mine. absurd (omega arith)) in
      let p : ℕ = l.0 in
      let low : a ≤ p = l.1 in
      let high : p < b = l.2 in
      let mine : (turn c p).sender ≡ (turn c b).sender = l.3 in
      let q : MayStart c (turn c b).sender (s b) = may ear (turn c b) (there b on) in
      let up_to : s a ≤ s p = asc a p low (omega arith) in
      let ti : bus.ti_short (turn c b).sender ≤ c.ti (turn c b).sender (s p) = ok.ti_low (turn c b).sender (s p) (ok.sent (turn c b) (there b on)).0 in
      let i : s p + c.ti (turn c b).sender (s p) ≤ s b = q.interval (turn c p) (there p (omega arith)) mine (asc_own p b high on mine) (λ y j own before.
      let at : Place c.list d y = place c.list d y j in
      let is : y.moment ≡ s at.at = ap (λ (z : Entry). z.moment) at.is in
      elim (cases_lt p at.at) [
        | inr fine ↦ (let l : s at.at ≤ s p = asc at.at p fine (omega arith) in omega arith)
        | inl behind ↦ elim (cases_lt at.at b) [
          | inl inside ↦ absurd (l.4 at.at behind inside (ap (λ (z : Entry). z.sender) (sym at.is) ∙ own))
          | inr beyond ↦ (let l : s b ≤ s at.at = asc b at.at beyond at.less in absurd (omega arith))
        ]
      ]) in
      omega arith

  pub some_long : (m : ℕ) → m < len → 0 < (turn c m).length
  some_long m less = some ear (turn c m) (there m less)

  -- who begins has been powered up
  pub powered : (x : Entry) → In x c.list → c.up x.sender ≤ x.moment
  powered x i =
      let m : MayStart c x.sender x.moment = may ear x i in
      let up_by : c.up x.sender ≤ m.sync = sync_up ear x.sender m.sync m.synced in
      let from : m.sync ≤ m.from = elim m.begins [ inl is ↦ omega arith | inr p ↦ omega arith ] in
      let terminal : m.from + c.tg x.sender m.from ≤ x.moment = m.terminal in
      omega arith
