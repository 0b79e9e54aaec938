-- Why the walk finds the first moment at which all timers were over for certain.
use Rattle.std.specs.Prelude.{max}
use Rattle.std.proofs.Common.{◌≡◌, ◌⊎◌, ℕ, ◌+◌, ◌-◌, ◌<◌, ◌≤◌, List, [], ◌∷◌, Option, Some, None, inl, inr, arith, sym, refl, ap, ◌∙◌}
use Rattle.std.proofs.lemmas.Bool.{cases_lt}
use Rattle.bus_recording.specs.Seen.{Bounds, IsIn, Monitor, Seen}
use Rattle.bus_recording.specs.Findings.{IsOverForCertain, IsQuietForCertain}
use Rattle.bus_recording.specs.Walk.{IsElapsed, IsLateWalk, LateAmount, WalkFindsDue, WalkFindsElapsed, WalkFindsNotDue, due_in, elapsed_by, first_due, first_elapsed, first_of}
use Rattle.bus_recording.proofs.Stretches.{Going, begins, due_is, due_some, elapsed_is, elapsed_some, far_of, first_cases, first_some, goes_on, none_some, some_one, top}

module _ (bounds : Bounds) (monitor : Monitor) (recording : List Seen) (o y : Seen) where
  -- ---- what is found is so

  -- the stretch from c to m is quiet for certain
  quiet : (c m : ℕ) (l : List Seen) → Going monitor recording o y c l → m ≤ y.moment → ((r : Seen) → IsIn r l → m ≤ r.moment) → (a b : ℕ) → c ≤ a → b ≤ m
      → IsQuietForCertain monitor recording o a b
  quiet c m l w high far a b low end' =
      let s : monitor.settled ≤ c = w.settles in
      let own : o.latest ≤ c = w.own in
      record {
        recorded = omega arith;
        own = omega arith;
        others = λ x i. elim (w.others x i) [
          | inl same ↦ inl same
          | inr other ↦ elim other [
            | inl inside ↦ (let k : m ≤ x.moment = far x inside in inr (inl (omega arith)))
            | inr outside ↦ elim outside [ inl over ↦ inr (inr (omega arith)) | inr late ↦ inr (inl (omega arith)) ]
          ]
        ];
      }

  -- what has elapsed has elapsed for certain
  Elapsed : Option ℕ → Type 0
  Elapsed e = (v : ℕ) → e ≡ Some v → IsElapsed bounds monitor recording o v × (v ≤ y.moment)

  elapses : (c m : ℕ) (l : List Seen) (e : Option ℕ) → Going monitor recording o y c l → m ≤ y.moment → ((r : Seen) → IsIn r l → m ≤ r.moment)
      → Elapsed e → Elapsed (elapsed_by bounds.long.sg c m e)
  unfolding Elapsed
  elapses c m l e w high far known v is = elim (elapsed_some bounds.long.sg c m v e is) [
    | inl old ↦ known v old
    | inr new ↦
        let at : c + bounds.long.sg ≡ v = new.0 in
        let le : c + bounds.long.sg ≤ m = new.1 in
        ((omega arith, quiet c m l w high far (v - bounds.long.sg) v (omega arith) (omega arith)), omega arith)
  ]

  over_here : (c m t : ℕ) (l : List Seen) (e : Option ℕ) → Going monitor recording o y c l → m ≤ y.moment → ((r : Seen) → IsIn r l → m ≤ r.moment)
      → Elapsed e → due_in bounds.long.tg (o.moment + bounds.long.ti) y.moment c m e ≡ Some t → (t < y.moment) × IsOverForCertain bounds monitor recording o t
  unfolding Elapsed
  over_here c m t l None w high far known is = absurd (none_some t is)
  over_here c m t l (Some e) w high far known is =
      let p = due_some bounds.long.tg (o.moment + bounds.long.ti) y.moment c m t e is in
      let same : top bounds.long.tg (o.moment + bounds.long.ti) c e ≡ t = p.0 in
      let low : t ≤ m = p.1 in
      let k = known e refl in (
        p.2,
        record {
          interval = omega arith;
          elapsed = e;
          fits = k.0.0;
          synchronized = k.0.1;
          room = omega arith;
          gap = quiet c m l w high far (t - bounds.long.tg) t (omega arith) low;
        },
      )

  over_found : (c t : ℕ) (l : List Seen) (e : Option ℕ) → Going monitor recording o y c l → Elapsed e
      → first_due monitor.rest bounds.long.sg bounds.long.tg (o.moment + bounds.long.ti) y.moment c e l ≡ Some t
      → (t < y.moment) × IsOverForCertain bounds monitor recording o t
  over_found c t [] e w known is =
      over_here c y.moment t [] (elapsed_by bounds.long.sg c y.moment e) w (omega arith) (λ r i. absurd i)
      (elapses c y.moment [] e w (omega arith) (λ r i. absurd i) known) is
  over_found c t (r ∷ l) e w known is =
      let high : r.moment ≤ y.moment = (w.there r (inl refl)).2 in
      let next = elapses c r.moment (r ∷ l) e w high (far_of r l w.ascends) known in
      elim (first_cases (due_in bounds.long.tg (o.moment + bounds.long.ti) y.moment c r.moment (elapsed_by bounds.long.sg c r.moment e))
      (first_due monitor.rest bounds.long.sg bounds.long.tg (o.moment + bounds.long.ti) y.moment (max c (r.latest + monitor.rest)) (elapsed_by bounds.long.sg c r.moment e) l) t is) [
        | inl here ↦ over_here c r.moment t (r ∷ l) (elapsed_by bounds.long.sg c r.moment e) w high (far_of r l w.ascends) next here
        | inr later ↦ over_found (max c (r.latest + monitor.rest)) t l (elapsed_by bounds.long.sg c r.moment e) (goes_on monitor recording o y c r l w) next later
      ]

  elapsed_found : (c t : ℕ) (l : List Seen) (e : Option ℕ) → Going monitor recording o y c l → Elapsed e
      → first_elapsed monitor.rest bounds.long.sg y.moment c e l ≡ Some t → IsElapsed bounds monitor recording o t × (t ≤ y.moment)
  unfolding Elapsed
  elapsed_found c t [] e w known is = elapses c y.moment [] e w (omega arith) (λ r i. absurd i) known t is
  elapsed_found c t (r ∷ l) e w known is =
      let high : r.moment ≤ y.moment = (w.there r (inl refl)).2 in
      elapsed_found (max c (r.latest + monitor.rest)) t l (elapsed_by bounds.long.sg c r.moment e) (goes_on monitor recording o y c r l w)
      (elapses c r.moment (r ∷ l) e w high (far_of r l w.ascends) known) is

  -- ---- what is so is found, and no later

  -- a synchronization gap that ends at v was elapsed before, or lies in this stretch or behind it
  Reached : ℕ → Option ℕ → ℕ → Type 0
  Reached c e v = ((u : ℕ) × (e ≡ Some u) × (u ≤ v)) ⊎ (c + bounds.long.sg ≤ v)

  -- what has elapsed before has elapsed before this stretch
  Before : ℕ → Option ℕ → Type 0
  Before c e = (u : ℕ) → e ≡ Some u → u ≤ c

  before_next : (c m next : ℕ) (e : Option ℕ) → Before c e → c ≤ next → m ≤ next → Before next (elapsed_by bounds.long.sg c m e)
  unfolding Before
  before_next c m next e before low high u is = elim (elapsed_some bounds.long.sg c m u e is) [
    | inl old ↦ (let k : u ≤ c = before u old in omega arith)
    | inr new ↦ (let at : c + bounds.long.sg ≡ u = new.0 in let le : c + bounds.long.sg ≤ m = new.1 in omega arith)
  ]

  -- if it ends in this stretch, it is found there, if not before
  reached_here : (c m v : ℕ) (e : Option ℕ) → Before c e → Reached c e v → v ≤ m → (u : ℕ) × (elapsed_by bounds.long.sg c m e ≡ Some u) × (u ≤ v)
  unfolding Before Reached
  reached_here c m v (Some u) before r fits = elim r [
    | inl old ↦ (u, refl, (let same : u ≡ old.0 = some_one u old.0 old.1 in let low : old.0 ≤ v = old.2 in omega arith))
    | inr new ↦ (u, refl, (let k : u ≤ c = before u refl in omega arith))
  ]
  reached_here c m v None before r fits = elim r [
    | inl old ↦ absurd (none_some old.0 old.1)
    | inr new ↦ (c + bounds.long.sg, elapsed_is bounds.long.sg c m (omega arith), new)
  ]

  -- a run that is quiet for certain ends before a transmission, or begins behind it
  apart : (r : Seen) (a b : ℕ) → IsIn r recording → ((r ≡ o) → ⊥) → IsQuietForCertain monitor recording o a b → (b ≤ r.moment) ⊎ (r.latest + monitor.rest ≤ a)
  apart r a b i other q = elim (q.others r i) [ inl same ↦ absurd (other same) | inr two ↦ two ]

  -- the synchronization gap goes on to the next stretch
  reached_next : (c v : ℕ) (r : Seen) (l : List Seen) (e : Option ℕ) → Going monitor recording o y c (r ∷ l) → Before c e → Reached c e v
      → IsElapsed bounds monitor recording o v → Reached (max c (r.latest + monitor.rest)) (elapsed_by bounds.long.sg c r.moment e) v
  unfolding Reached
  reached_next c v r l e w before reached q =
      let t = w.there r (inl refl) in
      let long : bounds.long.sg ≤ v = q.0 in
      elim (apart r (v - bounds.long.sg) v t.0 t.1 q.1) [
        | inl ends ↦ inl (reached_here c r.moment v e before reached ends)
        | inr begins' ↦ elim reached [
          | inl old ↦ inl (old.0, ap (elapsed_by bounds.long.sg c r.moment) old.1, old.2)
          | inr new ↦ inr (omega arith)
        ]
      ]

  -- where all timers are over in this stretch, that is found
  due_here : (c m u : ℕ) (e : Option ℕ) (f : IsOverForCertain bounds monitor recording o u) → Before c e → Reached c e f.elapsed → c + bounds.long.tg ≤ u → u ≤ m
      → u < y.moment → (t : ℕ) × (due_in bounds.long.tg (o.moment + bounds.long.ti) y.moment c m (elapsed_by bounds.long.sg c m e) ≡ Some t) × (t ≤ u)
  due_here c m u e f before reached low fits less =
      let room : f.elapsed + bounds.long.tg ≤ u = f.room in
      let passed : o.moment + bounds.long.ti ≤ u = f.interval in
      let v = reached_here c m f.elapsed e before reached (omega arith) in
      let early : v.0 ≤ f.elapsed = v.2 in (
        top bounds.long.tg (o.moment + bounds.long.ti) c v.0,
        ap (due_in bounds.long.tg (o.moment + bounds.long.ti) y.moment c m) v.1
            ∙ due_is bounds.long.tg (o.moment + bounds.long.ti) y.moment c m v.0 (omega arith) (omega arith),
        omega arith,
      )

  Found : ℕ → Option ℕ → List Seen → ℕ → Type 0
  Found c e l u = (t : ℕ) × (first_due monitor.rest bounds.long.sg bounds.long.tg (o.moment + bounds.long.ti) y.moment c e l ≡ Some t) × (t ≤ u)

  option_cases : (a : Option ℕ) → (a ≡ None) ⊎ ((t : ℕ) × (a ≡ Some t))
  option_cases None = inl refl
  option_cases (Some t) = inr (t, refl)

  due_low : (c m s : ℕ) (e : Option ℕ) → due_in bounds.long.tg (o.moment + bounds.long.ti) y.moment c m e ≡ Some s → s ≤ m
  due_low c m s None is = absurd (none_some s is)
  due_low c m s (Some v) is = (due_some bounds.long.tg (o.moment + bounds.long.ti) y.moment c m s v is).1

  due_found : (c u : ℕ) (l : List Seen) (e : Option ℕ) (f : IsOverForCertain bounds monitor recording o u) → Going monitor recording o y c l → Before c e
      → Reached c e f.elapsed → c + bounds.long.tg ≤ u → u < y.moment → Found c e l u
  unfolding Found
  due_found c u [] e f w before reached low less = due_here c y.moment u e f before reached low (omega arith) less
  due_found c u (r ∷ l) e f w before reached low less =
      let t = w.there r (inl refl) in
      let lasts : r.moment ≤ r.latest = t.3 in
      let fits : bounds.long.tg ≤ u = omega arith in
      elim (apart r (u - bounds.long.tg) u t.0 t.1 f.gap) [
        | inl ends ↦
            let h = due_here c r.moment u e f before reached low ends less in (
              h.0,
              first_some (due_in bounds.long.tg (o.moment + bounds.long.ti) y.moment c r.moment (elapsed_by bounds.long.sg c r.moment e))
                  (first_due monitor.rest bounds.long.sg bounds.long.tg (o.moment + bounds.long.ti) y.moment (max c (r.latest + monitor.rest)) (elapsed_by bounds.long.sg c r.moment e) l) h.0 h.1,
              h.2,
            )
        | inr begins' ↦ elim (option_cases (due_in bounds.long.tg (o.moment + bounds.long.ti) y.moment c r.moment (elapsed_by bounds.long.sg c r.moment e))) [
          | inr here ↦ (
            here.0,
            first_some (due_in bounds.long.tg (o.moment + bounds.long.ti) y.moment c r.moment (elapsed_by bounds.long.sg c r.moment e))
                (first_due monitor.rest bounds.long.sg bounds.long.tg (o.moment + bounds.long.ti) y.moment (max c (r.latest + monitor.rest)) (elapsed_by bounds.long.sg c r.moment e) l) here.0 here.1,
            (let k : here.0 ≤ r.moment = due_low c r.moment here.0 (elapsed_by bounds.long.sg c r.moment e) here.1 in omega arith),
          )
          | inl none ↦
              let g : Found (max c (r.latest + monitor.rest)) (elapsed_by bounds.long.sg c r.moment e) l u =
              due_found (max c (r.latest + monitor.rest)) u l (elapsed_by bounds.long.sg c r.moment e) f (goes_on monitor recording o y c r l w)
              (before_next c r.moment (max c (r.latest + monitor.rest)) e before (omega arith) (omega arith))
              (reached_next c f.elapsed r l e w before reached (f.fits, f.synchronized)) (omega arith) less in (
                g.0,
                ap (λ v. first_of v (first_due monitor.rest bounds.long.sg bounds.long.tg (o.moment + bounds.long.ti) y.moment (max c (r.latest + monitor.rest)) (elapsed_by bounds.long.sg c r.moment e) l)) none ∙ g.1,
                g.2,
              )
        ]
      ]

  sync_found : (c v : ℕ) (l : List Seen) (e : Option ℕ) → IsElapsed bounds monitor recording o v → v ≤ y.moment → Going monitor recording o y c l → Before c e
      → Reached c e v → (t : ℕ) × (first_elapsed monitor.rest bounds.long.sg y.moment c e l ≡ Some t) × (t ≤ v)
  sync_found c v [] e q fits w before reached = reached_here c y.moment v e before reached fits
  sync_found c v (r ∷ l) e q fits w before reached =
      let t = w.there r (inl refl) in
      let lasts : r.moment ≤ r.latest = t.3 in
      sync_found (max c (r.latest + monitor.rest)) v l (elapsed_by bounds.long.sg c r.moment e) q fits (goes_on monitor recording o y c r l w)
      (before_next c r.moment (max c (r.latest + monitor.rest)) e before (omega arith) (omega arith)) (reached_next c v r l e w before reached q)

  -- a run that is quiet for certain doesn't begin before the walk
  not_before : (c a b : ℕ) (l : List Seen) → IsLateWalk monitor recording o y c l → IsQuietForCertain monitor recording o a b → a < b → c ≤ a
  not_before c a b l w q some =
      let settles : monitor.settled ≤ a = q.recorded in
      let own : o.latest ≤ a = q.own in
      let lasts : o.moment ≤ o.latest = w.lasts in
      elim w.least [
        | inl is ↦ omega arith
        | inr (inl is) ↦ omega arith
        | inr (inr p) ↦
            let early : p.0.moment ≤ o.moment = p.3 in
            let is : c ≡ p.0.latest + monitor.rest = p.4 in
            elim (apart p.0 a b p.1 p.2 q) [ inl ends ↦ absurd (omega arith) | inr begins' ↦ omega arith ]
      ]

  none_before : (c : ℕ) → Before c None
  unfolding Before
  none_before c u is = absurd (none_some u is)

  none_elapsed : Elapsed None
  unfolding Elapsed
  none_elapsed v is = absurd (none_some v is)

  reached_first : (c v : ℕ) (l : List Seen) → IsLateWalk monitor recording o y c l → 0 < bounds.long.sg → IsElapsed bounds monitor recording o v → Reached c None v
  unfolding Reached
  reached_first c v l w some q =
      let fits : bounds.long.sg ≤ v = q.0 in
      let low : c ≤ v - bounds.long.sg = not_before c (v - bounds.long.sg) v l w q.1 (omega arith) in
      inr (omega arith)

  all_found : (c u : ℕ) (l : List Seen) → IsLateWalk monitor recording o y c l → 0 < bounds.long.sg → 0 < bounds.long.tg → u < y.moment
      → IsOverForCertain bounds monitor recording o u → Found c None l u
  all_found c u l w some also less f =
      let room : f.elapsed + bounds.long.tg ≤ u = f.room in
      let low : c ≤ u - bounds.long.tg = not_before c (u - bounds.long.tg) u l w f.gap (omega arith) in
      due_found c u l None f (begins monitor recording o y c l w) (none_before c) (reached_first c f.elapsed l w some (f.fits, f.synchronized)) (omega arith) less

  least_due : (c u t : ℕ) (l : List Seen) → Found c None l u
      → first_due monitor.rest bounds.long.sg bounds.long.tg (o.moment + bounds.long.ti) y.moment c None l ≡ Some t → t ≤ u
  unfolding Found
  least_due c u t l g is = (let same : g.0 ≡ t = some_one g.0 t (sym g.1 ∙ is) in let low : g.0 ≤ u = g.2 in omega arith)

  no_due : (c u : ℕ) (l : List Seen) → Found c None l u
      → first_due monitor.rest bounds.long.sg bounds.long.tg (o.moment + bounds.long.ti) y.moment c None l ≡ None → ⊥
  unfolding Found
  no_due c u l g is = none_some g.0 (sym is ∙ g.1)

pub walk_finds_due : WalkFindsDue
walk_finds_due bounds monitor recording o y c t between w some also is =
    let f = over_found bounds monitor recording o y c t between None (begins monitor recording o y c between w) (none_elapsed bounds monitor recording o y) is in
    (f.0, f.1, λ u less over. least_due bounds monitor recording o y c u t between (all_found bounds monitor recording o y c u between w some also less over) is)

pub walk_finds_not_due : WalkFindsNotDue
walk_finds_not_due bounds monitor recording o y c between w some also is u less over =
    no_due bounds monitor recording o y c u between (all_found bounds monitor recording o y c u between w some also less over) is

pub walk_finds_elapsed : WalkFindsElapsed
walk_finds_elapsed bounds monitor recording o y c e between w some is =
    let f = elapsed_found bounds monitor recording o y c e between None (begins monitor recording o y c between w) (none_elapsed bounds monitor recording o y) is in (
      f.1,
      f.0,
      λ u fits q.
          let g = sync_found bounds monitor recording o y c u between None q fits (begins monitor recording o y c between w) (none_before bounds monitor recording o y c)
          (reached_first bounds monitor recording o y c u between w some q) in
          let same : g.0 ≡ e = some_one g.0 e (sym g.1 ∙ is) in
          let low : g.0 ≤ u = g.2 in
          omega arith,
    )

pub late_amount : LateAmount
late_amount bounds monitor recording o y t n over least some is = record {
  so = record { due = t; early = omega arith; over = over };
  most = λ m f.
      let early : f.due + m ≤ y.moment = f.early in
      elim (cases_lt n m) [
        | inr fine ↦ fine
        | inl more ↦ (let low : t ≤ f.due = least f.due (omega arith) f.over in absurd (omega arith))
      ];
}
