-- What the timers of a sender do on a bus with room, told by the transmissions on it alone: when its synchronization gap
-- may and must elapse, and when it may and must start.
use Rattle.std.proofs.Common.{◌≡◌, ℕ, suc, ◌+◌, ◌*◌, ◌<◌, ◌≤◌, ◌⊎◌, false, inl, inr, arith, sym, refl, subst}
use Rattle.std.proofs.lemmas.Bool.{cases_eq}
use Rattle.bus_clocks.specs.Buses.{Bus}
use Rattle.bus_clocks.specs.Room.{LeavesRoom, StartsItself}
use Rattle.bus_clocks.specs.Entries.{Entry, In, end_of}
use Rattle.bus_clocks.specs.Courses.{Course, HasEntry, HasLeft, IsCourse, IsQuiet, MayStart, SyncAt}
use Rattle.bus_clocks.proofs.Timers.{Heard, quiet_apart, quiet_apart_own, fresh, begins_up, sync_up, may_out, start_due}

-- a bus with room, what happens on it, and from when on no noise is heard; no transmit interval goes on then, or behind a later power-up, that was
-- running before a first start; and a sender that is alone is heard at once
pub record World : Type 0 where
  pub bus : Bus
  pub c : Course
  pub up : ℕ
  pub room : LeavesRoom bus
  pub lone : bus.senders ≡ 1 → bus.delay ≡ 0
  pub ok : IsCourse bus c
  pub still : (n t : ℕ) → up ≤ t → c.noise n t ≡ false
  pub due : (k : ℕ) → k < bus.senders → (c.due k ≤ up) ⊎ (c.due k ≤ c.up k)

module _ (w : World) where
  abbrev pub ears : Heard
  ears = record { bus = w.bus; c = w.c; up = w.up; ok = w.ok; still = w.still; lasting = w.room.lasting }

  -- where the synchronization gap elapses, each transmission has ended a short one before, or isn't heard yet
  pub sync_apart : (k e : ℕ) (x : Entry) → k < w.bus.senders → In x w.c.list → SyncAt w.c k e → (e ≤ x.moment + w.bus.delay) ⊎ (end_of x + w.bus.sg_short k ≤ e)
  sync_apart k e x b i s =
      let is : s.from + w.c.sg k s.from ≡ e = s.elapsed in
      let drop : w.bus.drop ≤ w.bus.sg_short k = w.room.whole k b in
      elim (fresh ears k s.from x i (begins_up ears k s.from s.begins)) [
        | inl fresh ↦
            let low : w.bus.sg_short k ≤ w.c.sg k s.from = w.ok.sg_low k s.from b fresh in
            elim (quiet_apart ears k s.from e x i s.quiet (inl (omega arith))) [
              | inl early ↦ inl early
              | inr late ↦ inr (omega arith)
            ]
        | inr early ↦ elim (quiet_apart ears k s.from e x i s.quiet (inr early)) [
          | inl fine ↦ inl fine
          | inr late ↦ (let some : 0 < w.bus.shortest x.sender = w.room.lasting x.sender (w.ok.sent x i).0 in
              let short : w.bus.shortest x.sender ≤ x.length = (w.ok.sent x i).2 in absurd (omega arith))
        ]
      ]

  pub sync_apart_own : (k e : ℕ) (x : Entry) → k < w.bus.senders → In x w.c.list → x.sender ≡ k → SyncAt w.c k e → (e ≤ x.moment) ⊎ (end_of x + w.bus.sg_short k ≤ e)
  sync_apart_own k e x b i mine s =
      let is : s.from + w.c.sg k s.from ≡ e = s.elapsed in
      let drop : w.bus.drop ≤ w.bus.sg_short k = w.room.whole k b in
      elim (fresh ears k s.from x i (begins_up ears k s.from s.begins)) [
        | inl fresh ↦
            let low : w.bus.sg_short k ≤ w.c.sg k s.from = w.ok.sg_low k s.from b fresh in
            elim (quiet_apart_own ears k s.from e x i mine s.quiet (inl (omega arith))) [
              | inl early ↦ inl early
              | inr late ↦ inr (omega arith)
            ]
        | inr early ↦ elim (quiet_apart_own ears k s.from e x i mine s.quiet (inr early)) [
          | inl fine ↦ inl fine
          | inr late ↦ (let some : 0 < w.bus.shortest x.sender = w.room.lasting x.sender (w.ok.sent x i).0 in
              let short : w.bus.shortest x.sender ≤ x.length = (w.ok.sent x i).2 in absurd (omega arith))
        ]
      ]

  -- a terminal gap that sender k begins at moment e or later takes its time
  abbrev pub Full : ℕ → ℕ → Type 0
  Full k e = (w.c.up k < e) ⊎ ((a : ℕ) → w.bus.tg_short k ≤ w.c.tg k a)

  -- what a start tells
  pub record Started (x : Entry) : Type 0 where
    pub known : x.sender < w.bus.senders
    pub soon : x.moment < w.c.horizon
    pub some : 0 < x.length
    pub brief : x.length ≤ w.bus.longest x.sender
    pub sync : ℕ
    pub synced : SyncAt w.c x.sender sync
    pub behind : sync ≤ x.moment
    pub before : Full x.sender sync → sync + w.bus.tg_short x.sender ≤ x.moment
    pub none : (y : Entry) → In y w.c.list → y.sender ≡ x.sender → y.moment < x.moment → y.moment < sync
    pub left : HasLeft w.c x.sender x.moment
    pub apart : (y : Entry) → In y w.c.list → 0 < x.sender → (x.moment ≤ y.moment + w.bus.delay) ⊎ (end_of y + w.bus.tg_short x.sender ≤ x.moment)

  pub started : (x : Entry) → In x w.c.list → Started x
  started x i =
      let s = w.ok.sent x i in
      let known : x.sender < w.bus.senders = s.0 in
      let short : w.bus.shortest x.sender ≤ x.length = s.2 in
      let lasts : 0 < w.bus.shortest x.sender = w.room.lasting x.sender known in
      let both = (w.ok.exact x.sender x.moment known s.1).0 (record { entry = x; there = i; sender = refl; moment = refl }) in
      let m : MayStart w.c x.sender x.moment = both.0 in
      let terminal : m.from + w.c.tg x.sender m.from ≤ x.moment = m.terminal in
      let from : m.sync ≤ m.from = elim m.begins [ inl is ↦ omega arith | inr p ↦ omega arith ] in
      let up : w.c.up x.sender ≤ m.sync = sync_up ears x.sender m.sync m.synced in
      record {
        known = known;
        soon = s.1;
        some = omega arith;
        brief = s.3;
        sync = m.sync;
        synced = m.synced;
        behind = omega arith;
        before = λ full. elim full [
          | inl later ↦ (let low : w.bus.tg_short x.sender ≤ w.c.tg x.sender m.from = w.ok.tg_low x.sender m.from known (inl (omega arith)) in omega arith)
          | inr each ↦ (let low : w.bus.tg_short x.sender ≤ w.c.tg x.sender m.from = each m.from in omega arith)
        ];
        left = both.1;
        none = m.none;
        apart = λ y j more. may_out ears x.sender x.moment y known (w.room.drop x.sender more known) m j;
      }

  -- at moment t the transmit interval of sender k is no hindrance
  abbrev pub IsIdle : ℕ → ℕ → Type 0
  IsIdle k t = (x : Entry) → In x w.c.list → x.sender ≡ k → x.moment < t → x.moment + w.bus.ti_long k ≤ t

  -- nor is it where the bus starts itself
  pub idle_itself : StartsItself w.bus → (k e t : ℕ) → k < w.bus.senders → SyncAt w.c k e
      → ((x : Entry) → In x w.c.list → x.sender ≡ k → x.moment < t → x.moment < e) → e + w.bus.tg_long k ≤ t → IsIdle k t
  idle_itself itself k e t known sync none fits x i mine less =
      let ti : w.bus.ti_long k ≤ w.bus.shortest k + w.bus.sg_short k + w.bus.tg_long k = itself k known in
      let far : x.moment < e = none x i mine less in
      let short : w.bus.shortest k ≤ x.length = subst (λ n. w.bus.shortest n ≤ x.length) mine (w.ok.sent x i).2 in
      elim (sync_apart_own k e x known i mine sync) [
        | inl early ↦ absurd (omega arith)
        | inr late ↦ omega arith
      ]

  -- a sender in sync starts where its terminal gap is over
  pub start_must : (k e a t : ℕ) → k < w.bus.senders → SyncAt w.c k e → ((x : Entry) → In x w.c.list → x.sender ≡ k → x.moment < t → x.moment < e)
      → e ≤ a → a + w.bus.tg_long k ≤ t → t < w.c.horizon → w.up ≤ t → IsQuiet w.c k a t → HasLeft w.c k t → IsIdle k t → HasEntry w.c.list k t
  start_must k e a t known sync none low fits soon alone quiet left idle =
      let power : w.c.up k ≤ e = sync_up ears k e sync in
      let due : w.c.due k ≤ t = elim (w.due k known) [ inl soon ↦ omega arith | inr first ↦ omega arith ] in
      start_due ears k e a t known sync none low fits soon quiet left due idle

  -- the timers lie within their bounds
  pub within : (k : ℕ) → k < w.bus.senders → (w.bus.tg_short k ≤ w.bus.tg_long k) × (w.bus.sg_short k ≤ w.bus.sg_long k)
  within k known =
      let a : ℕ = suc (w.c.up k) in
      let one : w.bus.tg_short k ≤ w.c.tg k a = w.ok.tg_low k a known (inl (omega arith)) in
      let two : w.c.tg k a ≤ w.bus.tg_long k = w.ok.tg_high k a known in
      let three : w.bus.sg_short k ≤ w.c.sg k a = w.ok.sg_low k a known (inl (omega arith)) in
      let four : w.c.sg k a ≤ w.bus.sg_long k = w.ok.sg_high k a known in
      (omega arith, omega arith)

  -- and all terminal gaps but the first sender's are longer than the delay
  pub heard_out : (k : ℕ) → 0 < k → k < w.bus.senders → w.bus.delay ≤ w.bus.tg_short k
  heard_out k more known =
      let opening : w.bus.sg_long 0 + w.bus.tg_long 0 + 2 * w.bus.delay < w.bus.sg_short k + w.bus.tg_short k = w.room.opening 0 k more known in
      let joining : w.bus.sg_long k + w.bus.delay ≤ w.bus.sg_short 0 + w.bus.tg_short 0 = w.room.joining 0 k more known in
      let one : (w.bus.tg_short 0 ≤ w.bus.tg_long 0) × (w.bus.sg_short 0 ≤ w.bus.sg_long 0) = within 0 (omega arith) in
      let two : w.bus.sg_short k ≤ w.bus.sg_long k = (within k known).1 in
      let a : w.bus.tg_short 0 ≤ w.bus.tg_long 0 = one.0 in
      let b : w.bus.sg_short 0 ≤ w.bus.sg_long 0 = one.1 in
      omega arith

  -- where there is another sender, a synchronization gap is longer than the delay
  pub longer : (j k : ℕ) → j < w.bus.senders → k < w.bus.senders → (j ≡ k → ⊥) → w.bus.delay < w.bus.sg_short k
  longer j k one known other = (let wait : w.bus.tg_long j + 2 * w.bus.delay < w.bus.sg_short k = w.room.waiting j k one known other in omega arith)

  -- and no shorter than it in any case
  pub close : (k : ℕ) → k < w.bus.senders → w.bus.delay ≤ w.bus.sg_short k
  close k known = elim (cases_eq w.bus.senders 1) [
    | inl alone ↦ (let none : w.bus.delay ≡ 0 = w.lone alone in omega arith)
    | inr more ↦ elim (cases_eq k 0) [
      | inl first ↦ (let l : w.bus.delay < w.bus.sg_short k = longer 1 k (omega arith) known (λ e. omega arith) in omega arith)
      | inr behind ↦ (let l : w.bus.delay < w.bus.sg_short k = longer 0 k (omega arith) known (λ e. omega arith) in omega arith)
    ]
  ]

  -- where there is another, a sender that waits for both gaps waits longer than one in sync
  pub outwaits : (j k : ℕ) → j < w.bus.senders → k < w.bus.senders → (j ≡ k → ⊥)
      → w.bus.tg_long k + 2 * w.bus.delay < w.bus.sg_short k + w.bus.tg_short k
  outwaits j k one known other = elim (cases_eq k 0) [
    | inl first ↦
        let joining : w.bus.sg_long 1 + w.bus.delay ≤ w.bus.sg_short 0 + w.bus.tg_short 0 = w.room.joining 0 1 (omega arith) (omega arith) in
        let wait : w.bus.tg_long 0 + 2 * w.bus.delay < w.bus.sg_short 1 = w.room.waiting 0 1 (omega arith) (omega arith) (λ e. omega arith) in
        let bounds : w.bus.sg_short 1 ≤ w.bus.sg_long 1 = (within 1 (omega arith)).1 in
        subst (λ i. w.bus.tg_long i + 2 * w.bus.delay < w.bus.sg_short i + w.bus.tg_short i) (sym first)
        (let goal : w.bus.tg_long 0 + 2 * w.bus.delay < w.bus.sg_short 0 + w.bus.tg_short 0 = omega arith in goal)
    | inr behind ↦
        let opening : w.bus.sg_long 0 + w.bus.tg_long 0 + 2 * w.bus.delay < w.bus.sg_short k + w.bus.tg_short k = w.room.opening 0 k (omega arith) known in
        let wait : w.bus.tg_long k + 2 * w.bus.delay < w.bus.sg_short 0 = w.room.waiting k 0 known (omega arith) behind in
        let bounds : w.bus.sg_short 0 ≤ w.bus.sg_long 0 = (within 0 (omega arith)).1 in
        omega arith
  ]
