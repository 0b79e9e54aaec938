-- Why the senders of a course keep their bounds.
use Rattle.std.proofs.Common.{◌≡◌, ℕ, true, ◌+◌, ◌-◌, ◌<◌, ◌≤◌, length, inl, inr, arith, refl, subst}
use Rattle.std.proofs.lemmas.Bool.{cases_lt}
use Rattle.bus_clocks.specs.Buses.{Bus}
use Rattle.bus_clocks.specs.Entries.{Entry, In, own}
use Rattle.bus_clocks.specs.Courses.{Course, HasEntry, HasLeft, IsCourse, IsFresh, IsQuiet, MayStart, carrier}
use Rattle.bus_clocks.specs.Hearing.{Hears}
use Rattle.bus_clocks.proofs.Hands.{left_by, own_most}
use Rattle.bus_clocks.proofs.Timers.{Beginning, beginning, begins_by}
use Rattle.bus_recording.specs.Keeping.{AreInRow, AreOver, HasBeenQuiet}
use Rattle.bus_recording.specs.Bounded.{bounds_of, CoursesKeepBounds}
use Rattle.bus_recording.proofs.Quiet.{silent}

module _ (bus : Bus) (c : Course) (ok : IsCourse bus c) (k : ℕ) (known : k < bus.senders) where
  starts : (x : Entry) → In x c.list → x.sender ≡ k → MayStart c k x.moment × HasLeft c k x.moment
  starts x i mine = (ok.exact k x.moment known (ok.sent x i).1).0 (record { entry = x; there = i; sender = mine; moment = refl })

  -- a sender doesn't start while it hears nothing, as it hears itself
  outside : (x : Entry) (a b : ℕ) → In x c.list → x.sender ≡ k → IsQuiet c k a b → x.moment < b → x.moment < a
  outside x a b i mine quiet before = elim (cases_lt x.moment a) [
    | inl fine ↦ fine
    | inr inside ↦
        let h : Hears c.hears 0 bus.drop x k = subst (λ n. Hears c.hears 0 bus.drop x n) mine (ok.own x i) in
        let soon : h.first ≤ x.moment + 0 = h.first_soon in
        let low : x.moment ≤ h.first = (h.within h.first h.first_heard).0 in
        absurd (silent c x k h.first i h.first_heard (quiet h.first (omega arith) (omega arith)))
  ]

  in_time : (t : ℕ) (m : MayStart c k t) → (c.up k ≤ m.synced.from) × (m.synced.from ≤ m.sync) × (m.sync ≤ m.from) × (m.from ≤ t)
  in_time t m =
      let one : m.synced.from + c.sg k m.synced.from ≡ m.sync = m.synced.elapsed in
      let two : m.from + c.tg k m.from ≤ t = m.terminal in (
        elim m.synced.begins [ inl is ↦ omega arith | inr p ↦ (let low : c.up k < m.synced.from = p.0 in omega arith) ],
        omega arith,
        elim m.begins [ inl is ↦ omega arith | inr p ↦ (let low : m.sync < m.from = p.0 in omega arith) ],
        omega arith,
      )

  powered : (x : Entry) → In x c.list → x.sender ≡ k → c.up k ≤ x.moment
  powered x i mine =
      let w = in_time x.moment (starts x i mine).0 in
      let one : c.up k ≤ (starts x i mine).0.synced.from = w.0 in
      let two : (starts x i mine).0.synced.from ≤ (starts x i mine).0.sync = w.1 in
      let three : (starts x i mine).0.sync ≤ (starts x i mine).0.from = w.2 in
      let four : (starts x i mine).0.from ≤ x.moment = w.3 in
      omega arith

  -- behind an own start quiet begins later
  later : (x : Entry) (t : ℕ) (m : MayStart c k t) → In x c.list → x.sender ≡ k → x.moment < t → x.moment < m.synced.from
  later x t m i mine before = outside x m.synced.from m.sync i mine m.synced.quiet (m.none x i mine before)

  gap_of : (t : ℕ) (m : MayStart c k t) → bus.tg_short k ≤ c.tg k m.from → HasBeenQuiet c k (bus.tg_short k) t
  gap_of t m long =
      let terminal : m.from + c.tg k m.from ≤ t = m.terminal in
      (omega arith, λ u low high. m.quiet u (omega arith) high)

  -- behind an own start timers take their time
  full : (x : Entry) (t : ℕ) (m : MayStart c k t) → In x c.list → x.sender ≡ k → x.moment < t
      → (bus.tg_short k ≤ c.tg k m.from) × (bus.sg_short k ≤ c.sg k m.synced.from)
  full x t m i mine before =
      let up : c.up k ≤ x.moment = powered x i mine in
      let low : x.moment < m.synced.from = later x t m i mine before in
      let w = in_time t m in
      let two : m.synced.from ≤ m.sync = w.1 in
      let three : m.sync ≤ m.from = w.2 in
      (ok.tg_low k m.from known (inl (omega arith)), ok.sg_low k m.synced.from known (inl (omega arith)))

  -- nor does a terminal gap that begins at the power-up, where a transmission had been heard
  fresh : (x : Entry) (t u : ℕ) (m : MayStart c k t) → In x c.list → c.hears x k u ≡ true → u < t → IsFresh c k m.from
  fresh x t u m i heard before =
      let w = in_time t m in
      let one : c.up k ≤ m.synced.from = w.0 in
      let two : m.synced.from ≤ m.sync = w.1 in
      let three : m.sync ≤ m.from = w.2 in
      elim (cases_lt (c.up k) m.from) [
        | inl behind ↦ inl behind
        | inr at ↦
            let begun : x.moment ≤ u = ((ok.others x k i).within u heard).0 in
            elim (cases_lt u m.from) [
              | inl low ↦ inr (x, i, omega arith)
              | inr high ↦ absurd (silent c x k u i heard (m.quiet u high before))
            ]
      ]

  early : (x z : Entry) → AreInRow c.list k x z → AreOver c k (bounds_of bus k).short x z.moment
  early x z p =
      let m = (starts z p.here p.own).0 in
      let f = full x z.moment m p.there p.mine p.behind in
      let tg : bus.tg_short k ≤ c.tg k m.from = f.0 in
      let sg : bus.sg_short k ≤ c.sg k m.synced.from = f.1 in
      let low : x.moment < m.synced.from = later x z.moment m p.there p.mine p.behind in
      let w = in_time z.moment m in
      let one : m.synced.from + c.sg k m.synced.from ≡ m.sync = m.synced.elapsed in
      let three : m.sync ≤ m.from = w.2 in
      let terminal : m.from + c.tg k m.from ≤ z.moment = m.terminal in
      let ti : bus.ti_short k ≤ c.ti k x.moment = ok.ti_low k x.moment known in
      let passed : x.moment + c.ti k x.moment ≤ z.moment = m.interval x p.there p.mine p.behind p.next in
      record {
        interval = omega arith;
        elapsed = m.sync;
        behind = omega arith;
        synchronized = (omega arith, λ u from to. m.synced.quiet u (omega arith) to);
        room = omega arith;
        gap = gap_of z.moment m tg;
      }

  left_at : (z : Entry) (t : ℕ) → In z c.list → z.sender ≡ k → t ≤ z.moment → HasLeft c k t
  left_at z t i mine low = left_by (c.messages k) (length (own c.list k t)) (length (own c.list k z.moment)) (own_most c.list k t z.moment low) (starts z i mine).1

  -- where the long timers are over behind the last own start, it may start
  may : (x : Entry) (t : ℕ) → 0 < bus.sg_long k → In x c.list → x.sender ≡ k → AreOver c k (bounds_of bus k).long x t
      → ((y : Entry) → In y c.list → y.sender ≡ k → y.moment < t → y.moment ≤ x.moment) → MayStart c k t
  may x t some i mine over last =
      let up : c.up k ≤ x.moment = powered x i mine in
      let passed : x.moment + bus.ti_long k ≤ t = over.interval in
      let behind : x.moment + bus.sg_long k ≤ over.elapsed = over.behind in
      let room : over.elapsed + bus.tg_long k ≤ t = over.room in
      let s : Beginning (carrier c k) (c.up k) over.elapsed = beginning (carrier c k) (c.up k) (over.elapsed - c.up k) over.elapsed (omega arith) in
      let by : s.from ≤ over.elapsed - bus.sg_long k =
      begins_by (carrier c k) (c.up k) over.elapsed (over.elapsed - bus.sg_long k) s (omega arith) (omega arith) over.synchronized.1 in
      let brief : c.sg k s.from ≤ bus.sg_long k = ok.sg_high k s.from known in
      let g : Beginning (carrier c k) (s.from + c.sg k s.from) t = beginning (carrier c k) (s.from + c.sg k s.from) (t - (s.from + c.sg k s.from)) t (omega arith) in
      let by_g : g.from ≤ t - bus.tg_long k = begins_by (carrier c k) (s.from + c.sg k s.from) t (t - bus.tg_long k) g (omega arith) (omega arith) over.gap.1 in
      let brief_g : c.tg k g.from ≤ bus.tg_long k = ok.tg_high k g.from known in
      let due : c.due k ≤ x.moment = (starts x i mine).0.due in
      record {
        sync = s.from + c.sg k s.from;
        synced = record { from = s.from; begins = s.begins; quiet = λ u low high. s.quiet u low (omega arith); elapsed = refl };
        none = λ y j own less.
            let before : y.moment ≤ x.moment = last y j own less in
            let out : y.moment < s.from = outside y s.from over.elapsed j own s.quiet (omega arith) in
            omega arith;
        from = g.from;
        begins = g.begins;
        quiet = g.quiet;
        terminal = omega arith;
        due = omega arith;
        interval = λ y j own less most.
            let before : y.moment ≤ x.moment = last y j own less in
            let long : c.ti k y.moment ≤ bus.ti_long k = ok.ti_high k y.moment known in
            omega arith;
      }

  started : (x z : Entry) (t : ℕ) → AreInRow c.list k x z → x.moment < t → t < z.moment → HasEntry c.list k t → z.moment ≤ t
  started x z t p low high e =
      let at : e.entry.moment ≡ t = e.moment in
      let last : e.entry.moment ≤ x.moment = p.next e.entry e.there e.sender (omega arith) in
      absurd (omega arith)

  late : 0 < bus.sg_long k → (x z : Entry) (t : ℕ) → AreInRow c.list k x z → AreOver c k (bounds_of bus k).long x t → z.moment ≤ t
  late some x z t p over = elim (cases_lt t z.moment) [
    | inr fine ↦ fine
    | inl sooner ↦
        let behind : x.moment + bus.sg_long k ≤ over.elapsed = over.behind in
        let room : over.elapsed + bus.tg_long k ≤ t = over.room in
        let low : x.moment < t = omega arith in
        let below : t < c.horizon = (let high : z.moment < c.horizon = (ok.sent z p.here).1 in omega arith) in
        let m : MayStart c k t = may x t some p.there p.mine over (λ y i mine less. p.next y i mine (omega arith)) in
        started x z t p low sooner ((ok.exact k t known below).1 (m, left_at z t p.here p.own (omega arith)))
  ]

pub courses_keep : CoursesKeepBounds
courses_keep bus c k from ok known some = record {
  gap = λ z x t i mine since j heard before.
      let m = (starts bus c ok k known z i mine).0 in
      gap_of bus c ok k known z.moment m (ok.tg_low k m.from known (fresh bus c ok k known x z.moment t m j heard before));
  early = λ x z p since. early bus c ok k known x z p;
  late = λ x z t p since over. late bus c ok k known some x z t p over;
}
