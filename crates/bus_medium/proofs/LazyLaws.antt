-- What clocks tell of their senders, and that a core which is told what was heard stands for all of it.
use Rattle.std.proofs.Common.{◌≡◌, ℕ, ◌+◌, ◌-◌, ◌^◌, ◌<◌, ◌≤◌, Bool, true, false, cond, List, length, take, drop, max, Option, unwrap_or, inl, inr, arith, sym, refl, ap, ◌∙◌, subst}
use Rattle.std.proofs.lemmas.Bool.{cases_lt, lt-ltb, le-ltb}
use Rattle.std.proofs.lemmas.List.{take-append-drop, length-drop}
use Rattle.bus_timers.specs.declared.timing.Timing.{Timing}
use Rattle.bus_timers.specs.declared.history.History.{History}
use Rattle.bus_timers.specs.declared.cores.Core.{Ghosts}
use Rattle.bus_timers.specs.Timings.{due_place}
use Rattle.bus_timers.specs.MayStart.{MayStart}
use Rattle.bus_timers.specs.GapPlace.{GapFrom}
use Rattle.bus_timers.specs.Histories.{Tells, HasHeardAll}
use Rattle.bus_timers.proofs.TimingLaws.{sound_sg, sound_tg}
use Rattle.bus_timers.proofs.GapStepLaws.{gap_ready}
use Rattle.bus_medium.specs.Buses.{Seat}
use Rattle.bus_medium.specs.inside.Lazy.{Clock, Clocked, StandsLazily, due_at, never}

pub due_left : {C : Type 0} (x : Seat C) (p : ℕ) → x.terminal.sent < length x.terminal.hand.messages → due_at x p ≡ p
due_left x p h = rw (lt-ltb x.terminal.sent (length x.terminal.hand.messages) h) refl

pub due_spent : {C : Type 0} (x : Seat C) (p : ℕ) → length x.terminal.hand.messages ≤ x.terminal.sent → due_at x p ≡ never
due_spent x p h = rw (le-ltb x.terminal.sent (length x.terminal.hand.messages) h) refl

-- a clock that is not ready yet
pub not_ready : {C : Type 0} (core : Ghosts C) (q now : ℕ) (x : Clocked C) (timing : Timing) (p : List Bool) (last : Option ℕ) → StandsLazily core q now x timing p last → now < x.clock.ready
    → MayStart timing p last → x.seat.terminal.sent < length x.seat.terminal.hand.messages → ⊥
not_ready core q now x timing p last s early may left =
    let both = (gap_ready timing p last x.clock.gap_from (sound_sg timing s.sound) (sound_tg timing s.sound) s.gap).1 may in
    let interval : due_place timing last ≤ length p = both.0 in
    let gap : x.clock.gap_from + timing.tg ≤ length p = both.1 in
    let due : x.clock.due ≡ due_place timing last = s.due ∙ due_left x.seat (due_place timing last) left in
    let at : length p ≡ now = s.at in
    let tg : x.clock.tg ≡ timing.tg = s.tg in
    let ready : x.clock.ready ≡ max x.clock.due (x.clock.gap_from + x.clock.tg) = s.ready in
    omega arith

-- one that is
pub is_ready : {C : Type 0} (core : Ghosts C) (q now : ℕ) (x : Clocked C) (timing : Timing) (p : List Bool) (last : Option ℕ) → StandsLazily core q now x timing p last → x.clock.ready ≤ now → now < 2 ^ 62
    → MayStart timing p last × (x.seat.terminal.sent < length x.seat.terminal.hand.messages)
is_ready core q now x timing p last s late small =
    let at : length p ≡ now = s.at in
    let tg : x.clock.tg ≡ timing.tg = s.tg in
    let ready : x.clock.ready ≡ max x.clock.due (x.clock.gap_from + x.clock.tg) = s.ready in
    elim (cases_lt x.seat.terminal.sent (length x.seat.terminal.hand.messages)) [
      | inl left ↦
          let due : x.clock.due ≡ due_place timing last = s.due ∙ due_left x.seat (due_place timing last) left in
          ((gap_ready timing p last x.clock.gap_from (sound_sg timing s.sound) (sound_tg timing s.sound) s.gap).0 (omega arith, omega arith), left)
      | inr spent ↦ let due : x.clock.due ≡ never = s.due ∙ due_spent x.seat (due_place timing last) spent in absurd (omega arith)
    ]

-- the terminal gap counts from no further than a synchronization gap ahead
pub gap_near : (sg : ℕ) (p : List Bool) (last : Option ℕ) (g : ℕ) → GapFrom sg p last g → g ≤ length p + sg
gap_near sg p last g (inl x) = let h : g ≤ length p = x.reached in omega arith
gap_near sg p last g (inr w) = w.near

pub gap_waits : (sg : ℕ) (p : List Bool) (last : Option ℕ) (g : ℕ) → GapFrom sg p last g → length p < g → sg ≤ g
gap_waits sg p last g (inl x) h = let k : g ≤ length p = x.reached in absurd (omega arith)
gap_waits sg p last g (inr w) h = let k : unwrap_or last 0 + sg ≤ g = w.own in omega arith

-- what a history tells of
tells_whole : (sg : ℕ) (p : List Bool) (last : Option ℕ) (g : ℕ) (h : History) (n : ℕ) → GapFrom sg p last g → h.bits ≡ length p - n
    → (g ≤ length p → (h.synchronized ≡ true) × (h.quiet ≡ length p - g)) → (length p < g → (h.synchronized ≡ false) × (h.quiet ≡ length p + sg - g))
    → Tells sg (take n p) last h (drop n p)
tells_whole sg p last g h n from bits elapsed waiting = record {
  long = length-drop n p ∙ sym bits;
  gap = subst (λ (w : List Bool). GapFrom sg w last (length w - h.quiet + cond h.synchronized 0 sg)) (sym (take-append-drop n p))
      (elim (cases_lt (length p) g) [
        | inl ahead ↦
            let near : g ≤ length p + sg = gap_near sg p last g from in
            let least : sg ≤ g = gap_waits sg p last g from ahead in
            let quiet : h.quiet ≡ length p + sg - g = (waiting ahead).1 in
            let base : cond h.synchronized 0 sg ≡ sg = ap (λ b. cond b 0 sg) (waiting ahead).0 in
            subst (λ w. GapFrom sg p last w) (let e : g ≡ length p - h.quiet + cond h.synchronized 0 sg = omega arith in e) from
        | inr reached ↦
            let quiet : h.quiet ≡ length p - g = (elapsed reached).1 in
            let base : cond h.synchronized 0 sg ≡ 0 = ap (λ b. cond b 0 sg) (elapsed reached).0 in
            subst (λ w. GapFrom sg p last w) (let e : g ≡ length p - h.quiet + cond h.synchronized 0 sg = omega arith in e) from
      ]);
}

-- what the clock's history says to the core
pub record Says (now : ℕ) (clock : Clock) (h : History) : Type 0 where
  pub bits : h.bits ≡ now - clock.told
  pub elapsed : clock.gap_from ≤ now → (h.synchronized ≡ true) × (h.quiet ≡ now - clock.gap_from)
  pub waiting : now < clock.gap_from → (h.synchronized ≡ false) × (h.quiet ≡ now + clock.sg - clock.gap_from)

-- a core that is told so stands for all of the past
pub told_all : {C : Type 0} (core : Ghosts C) (q now : ℕ) (x : Clocked C) (after : Timing → List Bool → Option ℕ → Type 0) (h : History) → Says now x.clock h
    → HasHeardAll (core.stands x.seat.terminal.core) after h
    → (timing : Timing) (p : List Bool) (last : Option ℕ) → StandsLazily core q now x timing p last → after timing p last
told_all core q now x after h says heard timing p last s =
    let at : length p ≡ now = s.at in
    let sg : x.clock.sg ≡ timing.sg = s.sg in
    let bits : h.bits ≡ now - x.clock.told = says.bits in
    subst (λ w. after timing w last) (take-append-drop x.clock.told p)
    (heard timing (take x.clock.told p) last (drop x.clock.told p) s.stands
    (tells_whole timing.sg p last x.clock.gap_from h x.clock.told s.gap (omega arith)
    (λ reached. let e = says.elapsed (omega arith) in let quiet : h.quiet ≡ now - x.clock.gap_from = e.1 in (e.0, omega arith))
    (λ ahead. let e = says.waiting (omega arith) in let quiet : h.quiet ≡ now + x.clock.sg - x.clock.gap_from = e.1 in (e.0, omega arith))))

-- the numbers that telling it asks for
pub told_room : {C : Type 0} (core : Ghosts C) (q now : ℕ) (x : Clocked C) (timing : Timing) (p : List Bool) (last : Option ℕ) → StandsLazily core q now x timing p last → now ≤ q + 1099511627776
    → (now - x.clock.told ≤ core.room x.seat.terminal.core) × (now - x.clock.told ≤ 1099511627776) × (x.clock.gap_from ≤ now + x.clock.sg)
told_room core q now x timing p last s small =
    let room : 2 ^ 62 + q ≤ core.room x.seat.terminal.core + x.clock.told = s.room in
    let from : q ≤ x.clock.told = s.from in
    let told : x.clock.told ≤ now = s.told in
    let near : x.clock.gap_from ≤ length p + timing.sg = gap_near timing.sg p last x.clock.gap_from s.gap in
    let at : length p ≡ now = s.at in
    let sg : x.clock.sg ≡ timing.sg = s.sg in
    (omega arith, omega arith, omega arith)
