-- Why the senders of what is admissible keep their bounds.
use Rattle.std.proofs.Common.{◌≡◌, ℕ, zero, suc, ◌+◌, ◌-◌, ◌<◌, ◌≤◌, false, length, Option, Some, None, inl, inr, arith, sym, refl, ◌∙◌, subst}
use Rattle.std.proofs.lemmas.Bool.{cases_lt}
use Rattle.bus_timers.specs.MayStart.{MayStart as Allows, IsSync, IsQuiet as IsStill}
use Rattle.bus_clocks.specs.Buses.{Bus}
use Rattle.bus_clocks.specs.Entries.{Entry, In, own}
use Rattle.bus_clocks.specs.Courses.{Course, HasEntry, HasLeft, IsQuiet, carrier}
use Rattle.bus_clocks.specs.Windows.{IsAdmissible, IsLast, past, timing}
use Rattle.bus_clocks.proofs.Bridge.{bits_at, bits_length}
use Rattle.bus_clocks.proofs.Hands.{left_by, own_most}
use Rattle.bus_clocks.proofs.LastStarts.{find_last}
use Rattle.bus_recording.specs.Keeping.{AreInRow, AreOver, HasBeenQuiet}
use Rattle.bus_recording.specs.Bounded.{AdmissibleKeepsBounds, bounds_of}

module _ (c : Course) (k : ℕ) where
  -- quiet in the one and in the other
  heard : (t i j a b : ℕ) → j ≤ t - c.up k → a ≡ c.up k + i → b ≡ c.up k + j → IsStill (past c k t) i j → IsQuiet c k a b
  heard t i j a b low is_a is_b still u p q =
      let e : c.up k + (u - c.up k) ≡ u = omega arith in
      subst (λ v. carrier c k v ≡ false) e (sym (bits_at c k (t - c.up k) (u - c.up k) (omega arith)) ∙ still (u - c.up k) (omega arith) (omega arith))

  still : (t i j a b : ℕ) → j ≤ t - c.up k → a ≡ c.up k + i → b ≡ c.up k + j → IsQuiet c k a b → IsStill (past c k t) i j
  still t i j a b low is_a is_b quiet n p q = bits_at c k (t - c.up k) n (omega arith) ∙ quiet (c.up k + n) (omega arith) (omega arith)

  -- how long a past is that allows a start
  long_past : (t ti sg tg : ℕ) (last : Option ℕ) → Allows (timing ti sg tg) (past c k t) last → sg + tg ≤ t - c.up k
  long_past t ti sg tg last m =
      let len : length (past c k t) ≡ t - c.up k = bits_length c k (t - c.up k) in
      let fits : m.synchronized.0 + tg ≤ length (past c k t) = m.synchronized.1 in
      let long : sg ≤ m.synchronized.0 = m.synchronized.2.long in
      omega arith

  quiet_gap : (t ti sg tg : ℕ) (last : Option ℕ) → 0 < sg → Allows (timing ti sg tg) (past c k t) last → HasBeenQuiet c k tg t
  quiet_gap t ti sg tg last some m =
      let len : length (past c k t) ≡ t - c.up k = bits_length c k (t - c.up k) in
      let long : sg + tg ≤ t - c.up k = long_past t ti sg tg last m in
      let fits : tg ≤ length (past c k t) = m.gap_fits in
      (omega arith, heard t (length (past c k t) - tg) (length (past c k t)) (t - tg) t (omega arith) (omega arith) (omega arith) m.gap)

  pub over : (x : Entry) (t ti sg tg : ℕ) → c.up k ≤ x.moment → 0 < sg → Allows (timing ti sg tg) (past c k t) (Some (x.moment - c.up k))
      → AreOver c k (record { ti = ti; sg = sg; tg = tg }) x t
  over x t ti sg tg up some m =
      let len : length (past c k t) ≡ t - c.up k = bits_length c k (t - c.up k) in
      let fits : m.synchronized.0 + tg ≤ length (past c k t) = m.synchronized.1 in
      let sync : IsSync sg (past c k t) (Some (x.moment - c.up k)) m.synchronized.0 = m.synchronized.2 in
      let long : sg ≤ m.synchronized.0 = sync.long in
      let behind : x.moment - c.up k ≤ m.synchronized.0 - sg = sync.own in
      let passed : x.moment - c.up k + ti ≤ length (past c k t) = m.interval in
      record {
        interval = omega arith;
        elapsed = c.up k + m.synchronized.0;
        behind = omega arith;
        synchronized = (
          omega arith,
          heard t (m.synchronized.0 - sg) m.synchronized.0 (c.up k + m.synchronized.0 - sg) (c.up k + m.synchronized.0) (omega arith) (omega arith) refl sync.quiet,
        );
        room = omega arith;
        gap = quiet_gap t ti sg tg (Some (x.moment - c.up k)) some m;
      }

  pub allowed : (x : Entry) (t ti sg tg : ℕ) → c.up k ≤ x.moment → AreOver c k (record { ti = ti; sg = sg; tg = tg }) x t
      → Allows (timing ti sg tg) (past c k t) (Some (x.moment - c.up k))
  allowed x t ti sg tg up o =
      let len : length (past c k t) ≡ t - c.up k = bits_length c k (t - c.up k) in
      let passed : x.moment + ti ≤ t = o.interval in
      let behind : x.moment + sg ≤ o.elapsed = o.behind in
      let room : o.elapsed + tg ≤ t = o.room in
      let fits : tg ≤ t = o.gap.0 in
      record {
        interval = (let goal : x.moment - c.up k + ti ≤ length (past c k t) = omega arith in goal);
        synchronized = (
          o.elapsed - c.up k,
          omega arith,
          record {
            long = omega arith;
            quiet = still t (o.elapsed - c.up k - sg) (o.elapsed - c.up k) (o.elapsed - sg) o.elapsed (omega arith) (omega arith) (omega arith) o.synchronized.1;
            own = (let goal : x.moment - c.up k ≤ o.elapsed - c.up k - sg = omega arith in goal);
          },
        );
        gap_fits = omega arith;
        gap = still t (length (past c k t) - tg) (length (past c k t)) (t - tg) t (omega arith) (omega arith) (omega arith) o.gap.1;
      }

module _ (bus : Bus) (c : Course) (ok : IsAdmissible bus c) (k : ℕ) (known : k < bus.senders) (some : 0 < bus.sg_short k) where
  may : (z : Entry) (last : Option ℕ) → In z c.list → z.sender ≡ k → IsLast c k z.moment last
      → Allows (timing (bus.ti_short k) (bus.sg_short k) (bus.tg_short k)) (past c k z.moment) last
  may z last i mine l =
      subst (λ n. IsLast c n z.moment last → Allows (timing (bus.ti_short n) (bus.sg_short n) (bus.tg_short n)) (past c n z.moment) last) mine (ok.allowed z last i) l

  -- no sender starts before it is powered up
  powered : (n : ℕ) (z : Entry) → In z c.list → z.sender ≡ k → z.moment < n → c.up k ≤ z.moment
  powered zero z i mine low = absurd (omega arith)
  powered (suc n) z i mine low = elim (find_last c.list k z.moment) [
    | inl none ↦
        let long : bus.sg_short k + bus.tg_short k ≤ z.moment - c.up k =
        long_past c k z.moment (bus.ti_short k) (bus.sg_short k) (bus.tg_short k) None (may z None i mine none) in
        omega arith
    | inr p ↦
        let less : p.0.moment < z.moment = p.3 in
        let before : c.up k ≤ p.0.moment = powered n p.0 p.1 p.2 (omega arith) in
        omega arith
  ]

  up : (z : Entry) → In z c.list → z.sender ≡ k → c.up k ≤ z.moment
  up z i mine = powered (z.moment + 1) z i mine (omega arith)

  gap : (z : Entry) → In z c.list → z.sender ≡ k → HasBeenQuiet c k (bus.tg_short k) z.moment
  gap z i mine = elim (find_last c.list k z.moment) [
    | inl none ↦ quiet_gap c k z.moment (bus.ti_short k) (bus.sg_short k) (bus.tg_short k) None some (may z None i mine none)
    | inr p ↦
        let low : c.up k ≤ p.0.moment = up p.0 p.1 p.2 in
        quiet_gap c k z.moment (bus.ti_short k) (bus.sg_short k) (bus.tg_short k) (Some (p.0.moment - c.up k)) some
        (may z (Some (p.0.moment - c.up k)) i mine (p.0, p.1, p.2, p.3, omega arith, p.4))
  ]

  early : (x z : Entry) → AreInRow c.list k x z → AreOver c k (bounds_of bus k).short x z.moment
  early x z p =
      let low : c.up k ≤ x.moment = up x p.there p.mine in
      over c k x z.moment (bus.ti_short k) (bus.sg_short k) (bus.tg_short k) low some
      (may z (Some (x.moment - c.up k)) p.here p.own (x, p.there, p.mine, p.behind, omega arith, p.next))

  left_at : (z : Entry) (t : ℕ) → In z c.list → z.sender ≡ k → t ≤ z.moment → HasLeft c k t
  left_at z t i mine low =
      left_by (c.messages k) (length (own c.list k t)) (length (own c.list k z.moment)) (own_most c.list k t z.moment low)
      (subst (λ n. HasLeft c n z.moment) mine (ok.left z i))

  late : 0 < bus.sg_long k → (x z : Entry) (t : ℕ) → AreInRow c.list k x z → AreOver c k (bounds_of bus k).long x t → z.moment ≤ t
  late long x z t p o = elim (cases_lt t z.moment) [
    | inr fine ↦ fine
    | inl sooner ↦
        let low : c.up k ≤ x.moment = up x p.there p.mine in
        let behind : x.moment + bus.sg_long k ≤ o.elapsed = o.behind in
        let room : o.elapsed + bus.tg_long k ≤ t = o.room in
        let below : z.moment < c.horizon = (ok.sent z p.here).1 in
        let e : HasEntry c.list k t = ok.demanded k t (Some (x.moment - c.up k)) known (omega arith) (omega arith)
        (x, p.there, p.mine, omega arith, omega arith, λ y i mine less. p.next y i mine (omega arith))
        (allowed c k x t (bus.ti_long k) (bus.sg_long k) (bus.tg_long k) low o) (left_at z t p.here p.own (omega arith)) in
        let at : e.entry.moment ≡ t = e.moment in
        let last : e.entry.moment ≤ x.moment = p.next e.entry e.there e.sender (omega arith) in
        absurd (omega arith)
  ]

pub admissible_keeps : AdmissibleKeepsBounds
admissible_keeps bus c k from ok known some long = record {
  gap = λ z x t i mine since j heard before. gap bus c ok k known some z i mine;
  early = λ x z p since. early bus c ok k known some x z p;
  late = λ x z t p since o. late bus c ok k known some long x z t p o;
}
