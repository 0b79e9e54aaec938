-- How a terminal goes on hearing, and when it starts next.
use Rattle.std.proofs.Common.{◌≡◌, ℕ, zero, suc, ◌+◌, ◌-◌, ◌<◌, ◌≤◌, ◌↔◌, max, false, List, length, Option, inl, inr, arith, sym, refl, ap, ◌∙◌, subst}
use Rattle.std.proofs.lemmas.Bool.{cases_lt, cases_Bool, le-leb, lt-leb}
use Rattle.bus_timers.specs.Timings.{IsSound, due_place}
use Rattle.bus_timers.proofs.GapStepLaws.{gap_ready}
use Rattle.bus_timers.proofs.TimingLaws.{sound_sg, sound_tg}
use Rattle.bus_strings.specs.Members.{In}
use Rattle.bus_strings.proofs.MemberLaws.{in_map, from_map}
use Rattle.bus_strings.specs.Messages.{Entry, bits}
use Rattle.bus_strings.specs.Transmissions.{carrier, end_of}
use Rattle.bus_medium.specs.Past.{own}
use Rattle.bus_medium.specs.BusyLaws.{IsBusy}
use Rattle.bus_medium.specs.Lawful.{Station}
use Rattle.bus_medium.specs.Delays.{Delays, later, heard, heard_end}
use Rattle.bus_medium.specs.Wakes.{Wakes, woken_past, woken_place}
use Rattle.bus_medium.specs.Clocks.{GapAt}
use Rattle.bus_medium.specs.CableLawful.{IsDueOnCable}
use Rattle.bus_medium.proofs.BusyLaws.{entry_is_busy}
use Rattle.bus_medium.proofs.PastLaws.{own_later, no_carrier}
use Rattle.bus_medium.proofs.Waking.{length_woken, at_quiet, at_elapsed, busy_waiting_at, busy_waiting_whole, woken_nobody}
use Rattle.bus_propagation.specs.inside.Arrivals.{heard_begin, ComesFirst}
use Rattle.bus_propagation.specs.inside.Hearing.{HaveBegun, gap_after, ready_moment, Hears, RestsUntil, IsNextStart, HaveWords}

-- what was not heard to its end at moment v isn't heard before moment t
abbrev pub ComeFrom : Delays → ℕ → List Entry → ℕ → ℕ → Type 0
ComeFrom delay number list v t = (y : Entry) → In y list → v < heard_end delay y number → t ≤ heard_begin delay y number

module _ (delay : Delays) (wake : Wakes) (s : Station) (sound : IsSound s.timing) where
  abbrev q : ℕ
  q = s.timing.quiet

  abbrev w : ℕ
  w = wake s.number

  abbrev n : ℕ
  n = s.number

  abbrev sg : ℕ
  sg = s.timing.sg

  abbrev place : List Entry → ℕ → Option ℕ
  place list u = woken_place q w (own list n u)

  some_sg : 5 ≤ sg
  some_sg = let k : 9 ≤ sg = sound.sg_least in omega arith

  -- what is its own is the same from a moment on at which all of it has begun
  pub own_from : (list : List Entry) (v u : ℕ) → HaveBegun list n (v + 1) → HaveBegun list n u → v ≤ u → own list n u ≡ own list n (v + 1)
  own_from list v u all begun low = elim (cases_lt v u) [
    | inl more ↦ own_later list n (v + 1) u (omega arith) (λ x i mine from to. let k : x.moment < v + 1 = all x i mine in omega arith)
    | inr none ↦
        let same : u ≡ v = omega arith in
        sym (own_later list n u (v + 1) (omega arith) (λ x i mine from to. let k : x.moment < u = begun x i mine in omega arith))
  ]

  silent_to : (list : List Entry) (v t : ℕ) → ComeFrom delay n list v t → (u : ℕ) → v ≤ u → u < t → carrier (heard delay n list) u ≡ false
  silent_to list v t come u low high =
      no_carrier (heard delay n list) u (λ y i.
      let f = from_map (λ (z : Entry). later (delay z n) z) list y i in
      let begins : f.0.moment + delay f.0 n ≡ y.moment = ap (λ (z : Entry). z.moment) f.2 in
      let ends : f.0.moment + delay f.0 n + bits f.0.message ≡ end_of y = ap end_of f.2 in
      elim (cases_lt v (heard_end delay f.0 n)) [
        | inl ahead ↦ let k : t ≤ heard_begin delay f.0 n = come f.0 f.1 ahead in inr (omega arith)
        | inr over ↦ inl (omega arith)
      ])

  quiet_on : (l : List Entry) (last : Option ℕ) (v k G : ℕ) → w ≤ q + v → ((u : ℕ) → v ≤ u → u < v + k → carrier l u ≡ false) → GapAt sg q w l v last G → GapAt sg q w l (v + k) last G
  quiet_on l last v zero G h silent at = subst (λ u. GapAt sg q w l u last G) (let e : v ≡ v + 0 = omega arith in e) at
  quiet_on l last v (suc k) G h silent at =
      subst (λ u. GapAt sg q w l u last G) (let e : suc (v + k) ≡ v + suc k = omega arith in e)
      (at_quiet sg q w some_sg l last (v + k) G (omega arith) (silent (v + k) (omega arith) (omega arith)) (quiet_on l last v k G h (λ u low high. silent u low (omega arith)) at))

  -- the place stays while nothing comes
  gap_to : (list : List Entry) (last : Option ℕ) (v t G : ℕ) → w ≤ q + v → v ≤ t → ComeFrom delay n list v t → GapAt sg q w (heard delay n list) v last G → GapAt sg q w (heard delay n list) t last G
  gap_to list last v t G h low come at =
      subst (λ u. GapAt sg q w (heard delay n list) u last G) (let e : v + (t - v) ≡ t = omega arith in e)
      (quiet_on (heard delay n list) last v (t - v) G h (λ u from to. silent_to list v t come u from (omega arith)) at)

  -- both places tell whether it is due
  told : (list : List Entry) (m D G : ℕ) → w ≤ q + m → due_place s.timing (place list m) + w ≡ D → GapAt sg q w (heard delay n list) m (place list m) G
      → ((D ≤ q + m) × (G + s.timing.tg ≤ q + m) × (length (own list n m) < length s.hand)) ↔ IsDueOnCable q delay wake list s m
  told list m D G h interval at =
      let len : length (woken_past q w (heard delay n list) m) + w ≡ q + m = length_woken q w (heard delay n list) m h in
      let is : at.g + w ≡ G = at.is in
      let both = gap_ready s.timing (woken_past q w (heard delay n list) m) (place list m) at.g (sound_sg s.timing sound) (sound_tg s.timing sound) at.from in (
        (λ p.
            let d : D ≤ q + m = p.0 in
            let g : G + s.timing.tg ≤ q + m = p.1 in
            record { may = both.0 (omega arith, omega arith); left = p.2 }),
        (λ d.
            let p = both.1 d.may in
            let due : due_place s.timing (place list m) ≤ length (woken_past q w (heard delay n list) m) = p.0 in
            let gap : at.g + s.timing.tg ≤ length (woken_past q w (heard delay n list) m) = p.1 in
            (omega arith, omega arith, d.left)),
      )

  -- at a moment before which nothing more comes
  told_later : (list : List Entry) (v D G m : ℕ) → Hears delay wake s list v D G → v ≤ m → ComeFrom delay n list v m → HaveBegun list n m
      → ((D ≤ q + m) × (G + s.timing.tg ≤ q + m) × (length (own list n m) < length s.hand)) ↔ IsDueOnCable q delay wake list s m
  told_later list v D G m h low come begun =
      let powered : w ≤ q + v = h.powered in
      let same : own list n m ≡ own list n (v + 1) = own_from list v m h.begun begun low in
      told list m D G (omega arith) (ap (λ o. due_place s.timing (woken_place q w o) + w) same ∙ h.interval)
      (subst (λ o. GapAt sg q w (heard delay n list) m (woken_place q w o) G) (sym same) (gap_to list (place list (v + 1)) v m G powered low come h.gap))

  -- whatever comes, it isn't due before its transmit interval elapses
  pub rests_interval : (list : List Entry) (v D G : ℕ) → Hears delay wake s list v D G → RestsUntil delay wake s list v (D - q)
  rests_interval list v D G h m low high begun due =
      let powered : w ≤ q + v = h.powered in
      let same : own list n m ≡ own list n (v + 1) = own_from list v m h.begun begun low in
      let len : length (woken_past q w (heard delay n list) m) + w ≡ q + m = length_woken q w (heard delay n list) m (omega arith) in
      let at : due_place s.timing (place list m) + w ≡ D = ap (λ o. due_place s.timing (woken_place q w o) + w) same ∙ h.interval in
      let due_by : due_place s.timing (place list m) ≤ length (woken_past q w (heard delay n list) m) = due.may.interval in
      omega arith

  rests_before : (list : List Entry) (v D G m : ℕ) → Hears delay wake s list v D G → v ≤ m → ComeFrom delay n list v m → HaveBegun list n m → m < ready_moment s.timing D G
      → IsDueOnCable q delay wake list s m → ⊥
  rests_before list v D G m h low come begun early due =
      let p = (told_later list v D G m h low come begun).1 due in
      let d : D ≤ q + m = p.0 in
      let g : G + s.timing.tg ≤ q + m = p.1 in
      omega arith

  -- the arrival is busy for it
  busy_there : (list : List Entry) (v b e : ℕ) → HaveWords list → ComesFirst delay n list v b e → IsBusy (heard delay n list) b e
  busy_there list v b e words c =
      let busy = entry_is_busy (heard delay n list) (later (delay c.entry n) c.entry) (in_map (λ (z : Entry). later (delay z n) z) list c.entry c.there) (words c.entry c.there) in
      let ends : c.entry.moment + delay c.entry n + bits c.entry.message ≡ heard_end delay c.entry n = omega arith in
      subst (λ t. IsBusy (heard delay n list) b t) (ends ∙ sym c.ends) (subst (λ t. IsBusy (heard delay n list) t (c.entry.moment + delay c.entry n + bits c.entry.message)) (sym c.begins) busy)

  -- up to the end of an arrival before which it wasn't ready
  pub rests_through : (list : List Entry) (v D G b e : ℕ) → HaveWords list → Hears delay wake s list v D G → ComesFirst delay n list v b e → b < ready_moment s.timing D G
      → RestsUntil delay wake s list v e
  rests_through list v D G b e words h c late m low high begun due = elim (cases_lt b m) [
    | inl inside ↦ woken_nobody q w (heard delay n list) s.timing (place list m) b e m sound (busy_there list v b e words c) inside high due.may
    | inr before ↦ rests_before list v D G m h low (λ y i ahead. let k : b ≤ heard_begin delay y n = c.first y i ahead in omega arith) begun (omega arith) due
  ]

  -- behind an elapsed synchronization gap, from the middle of a busy stretch too
  record Reached (l : List Entry) (last : Option ℕ) (v : ℕ) : Type 0 where
    G : ℕ
    low : G ≤ q + v
    at : GapAt sg q w l v last G

  reached_on : (l : List Entry) (last : Option ℕ) (v k : ℕ) → w ≤ q + v → Reached l last v → Reached l last (v + k)
  reached_on l last v zero h r = subst (Reached l last) (let e : v ≡ v + 0 = omega arith in e) r
  reached_on l last v (suc k) h r =
      let so : Reached l last (v + k) = reached_on l last v k h r in
      let low : so.G ≤ q + (v + k) = so.low in
      subst (Reached l last) (let e : suc (v + k) ≡ v + suc k = omega arith in e) (elim (cases_Bool (carrier l (v + k))) [
        | inl sounds ↦ record { G = q + suc (v + k); low = omega arith; at = at_elapsed sg q w some_sg l last (v + k) so.G (omega arith) sounds so.low so.at }
        | inr rests ↦ record { G = so.G; low = omega arith; at = at_quiet sg q w some_sg l last (v + k) so.G (omega arith) rests so.at }
      ])

  elapsed_from : (l : List Entry) (last : Option ℕ) (b e a G : ℕ) → w ≤ q + a → IsBusy l b e → a < e → G ≤ q + a → GapAt sg q w l a last G → GapAt sg q w l e last (q + e)
  elapsed_from l last b e a G h busy inside low at =
      let before : Reached l last (e - 1) = subst (Reached l last) (let is : a + (e - 1 - a) ≡ e - 1 = omega arith in is) (reached_on l last a (e - 1 - a) h (record { G = G; low = low; at = at })) in
      subst (λ v. GapAt sg q w l v last (q + v)) (let is : suc (e - 1) ≡ e = omega arith in is)
      (at_elapsed sg q w some_sg l last (e - 1) before.G (omega arith) busy.final before.low before.at)

  gap_elapsed : (G at end : ℕ) → G ≤ q + at → gap_after q sg G at end ≡ q + end
  gap_elapsed G at end h = rw (le-leb G (q + at) h) refl

  gap_waiting : (G at end : ℕ) → q + at < G → gap_after q sg G at end ≡ q + end + sg
  gap_waiting G at end h = rw (lt-leb G (q + at) h) refl

  -- the place behind an arrival that is still to come, and behind one in whose middle the terminal stands
  gap_ahead : (list : List Entry) (v D G b e : ℕ) → HaveWords list → Hears delay wake s list v D G → ComesFirst delay n list v b e → v ≤ b
      → GapAt sg q w (heard delay n list) e (place list (v + 1)) (gap_after q sg G b e)
  gap_ahead list v D G b e words h c ahead =
      let powered : w ≤ q + v = h.powered in
      let busy : IsBusy (heard delay n list) b e = busy_there list v b e words c in
      let at : GapAt sg q w (heard delay n list) b (place list (v + 1)) G = gap_to list (place list (v + 1)) v b G powered ahead c.first h.gap in
      elim (cases_lt (q + b) G) [
        | inr elapsed ↦ subst (GapAt sg q w (heard delay n list) e (place list (v + 1))) (sym (gap_elapsed G b e elapsed)) (elapsed_from (heard delay n list) (place list (v + 1)) b e b G (omega arith) busy busy.some elapsed at)
        | inl waits ↦ subst (GapAt sg q w (heard delay n list) e (place list (v + 1))) (sym (gap_waiting G b e waits)) (busy_waiting_whole sg q w some_sg (heard delay n list) (place list (v + 1)) b e G (omega arith) busy waits at)
      ]

  gap_inside : (list : List Entry) (v D G b e : ℕ) → HaveWords list → Hears delay wake s list v D G → ComesFirst delay n list v b e → b < v
      → GapAt sg q w (heard delay n list) e (place list (v + 1)) (gap_after q sg G v e)
  gap_inside list v D G b e words h c inside =
      let powered : w ≤ q + v = h.powered in
      let busy : IsBusy (heard delay n list) b e = busy_there list v b e words c in
      let elapsed : G ≤ q + v → GapAt sg q w (heard delay n list) e (place list (v + 1)) (gap_after q sg G v e) = λ low.
      subst (GapAt sg q w (heard delay n list) e (place list (v + 1))) (sym (gap_elapsed G v e low)) (elapsed_from (heard delay n list) (place list (v + 1)) b e v G powered busy c.ahead low h.gap) in
      elim h.fresh [
        | inl ended ↦ elapsed (omega arith)
        | inr other ↦ elim other [
          | inl waits ↦
              subst (GapAt sg q w (heard delay n list) e (place list (v + 1))) (sym (gap_waiting G v e (omega (arith, some_sg))))
              (busy_waiting_at sg q w some_sg (heard delay n list) (place list (v + 1)) b e v powered busy (omega arith) c.ahead (subst (GapAt sg q w (heard delay n list) v (place list (v + 1))) waits h.gap))
          | inr start ↦ let none : v ≡ 0 = start.0 in absurd (omega arith)
        ]
      ]

  gap_behind : (list : List Entry) (v D G b e : ℕ) → HaveWords list → Hears delay wake s list v D G → ComesFirst delay n list v b e
      → GapAt sg q w (heard delay n list) e (place list (v + 1)) (gap_after q sg G (max v b) e)
  gap_behind list v D G b e words h c = elim (cases_lt b v) [
    | inl inside ↦ subst (λ a. GapAt sg q w (heard delay n list) e (place list (v + 1)) (gap_after q sg G a e)) (let is : v ≡ max v b = omega arith in is) (gap_inside list v D G b e words h c inside)
    | inr ahead ↦ subst (λ a. GapAt sg q w (heard delay n list) e (place list (v + 1)) (gap_after q sg G a e)) (let is : b ≡ max v b = omega arith in is) (gap_ahead list v D G b e words h c ahead)
  ]

  -- the terminal has heard an arrival to its end
  pub hears_behind : (list : List Entry) (v D G b e : ℕ) → HaveWords list → Hears delay wake s list v D G → ComesFirst delay n list v b e
      → Hears delay wake s list e D (gap_after q sg G (max v b) e)
  hears_behind list v D G b e words h c =
      let powered : w ≤ q + v = h.powered in
      let ahead : v < e = c.ahead in
      let begun : HaveBegun list n (e + 1) = λ x i mine. let k : x.moment < v + 1 = h.begun x i mine in omega arith in
      let same : own list n (e + 1) ≡ own list n (v + 1) = own_from list v (e + 1) h.begun begun (omega arith) in
      record {
        powered = omega arith;
        begun = begun;
        interval = ap (λ o. due_place s.timing (woken_place q w o) + w) same ∙ h.interval;
        gap = subst (λ o. GapAt sg q w (heard delay n list) e (woken_place q w o) (gap_after q sg G (max v b) e)) (sym same) (gap_behind list v D G b e words h c);
        fresh = elim (cases_lt (q + max v b) G) [
          | inr elapsed ↦ inl (gap_elapsed G (max v b) e elapsed)
          | inl waits ↦ inr (inl (gap_waiting G (max v b) e waits))
        ];
      }

  -- the next start, where nothing comes before it
  pub next_start : (list : List Entry) (v D G : ℕ) → Hears delay wake s list v D G → ComeFrom delay n list v (ready_moment s.timing D G)
      → IsNextStart delay wake s list v (ready_moment s.timing D G)
  next_start list v D G h come =
      let tg : 8 ≤ s.timing.tg = sound.tg_least in
      let low : v ≤ ready_moment s.timing D G = elim h.fresh [
        | inl ended ↦ omega arith
        | inr other ↦ elim other [
          | inl waits ↦ omega arith
          | inr start ↦ let none : v ≡ 0 = start.0 in omega arith
        ]
      ] in
      let behind : v < ready_moment s.timing D G → HaveBegun list n (ready_moment s.timing D G) = λ more x i mine. let k : x.moment < v + 1 = h.begun x i mine in omega arith in
      let begun : HaveBegun list n (ready_moment s.timing D G) = elim h.fresh [
        | inl ended ↦ behind (omega arith)
        | inr other ↦ elim other [
          | inl waits ↦ behind (omega arith)
          | inr start ↦ λ x i mine. let k : x.moment < 0 = start.1 x i mine in absurd (omega arith)
        ]
      ] in
      record {
        low = low;
        begun = begun;
        rests = λ m from early started. rests_before list v D G m h from (λ y i ahead. let k : ready_moment s.timing D G ≤ heard_begin delay y n = come y i ahead in omega arith) started early;
        due = λ left. (told_later list v D G (ready_moment s.timing D G) h low come begun).0 (omega arith, omega arith, left);
      }
