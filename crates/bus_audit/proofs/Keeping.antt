-- What the code keeps of watches, one after another.
use Rattle.std.proofs.Common.{◌≡◌, ℕ, ◌+◌, ◌*◌, ◌-◌, ◌<◌, ◌≤◌, ◌⊎◌, max, true, false, cond, leb, eqb, List, length, set, map, Some, inl, inr, arith, sym, refl, ap, ◌∙◌, subst}
use Rattle.std.specs.Prelude.{slice_get}
use Rattle.std.proofs.lemmas.Bool.{cases_lt, cases_eq, lt-ltb, le-ltb, le-leb, lt-leb, leb-true, eqb-true}
use Rattle.std.proofs.lemmas.List.{length-map, map-set}
use Rattle.std.proofs.lemmas.Option.{slice_get_within}
use Rattle.bus_strings.proofs.ListLaws.{some_at}
use Rattle.bus_outer.specs.Faults.{last_u64}
use Rattle.bus_medium.specs.Jumps.{Each}
use Rattle.bus_medium.proofs.Seats.{get_set_same, get_set_other, same_some, map_at}
use Rattle.bus_audit.specs.declared.watch.Watch.{Watch}
use Rattle.bus_audit.specs.declared.lazy_timers.LazyTimers.{LazyTimers}
use Rattle.bus_audit.specs.declared.lazy_timers.Heard.{Heard}
use Rattle.bus_audit.specs.inside.Watches.{ready, pair, begun, passed, IsLow, AreLow, NoneBefore}
use Rattle.bus_audit.specs.inside.Keeping.{soon_of, gap_of, watch_of, watches_of, gap_behind, told_busy, NotSooner, IsKept, AreKept, AreEarly, AreStill}
use Rattle.bus_audit.proofs.Watching.{same_lists}

pub watch_at : (h : Heard) (ks : List LazyTimers) (j : ℕ) (k : LazyTimers) → slice_get ks j ≡ Some k → slice_get (watches_of h ks) j ≡ Some (watch_of h k)
watch_at h ks j k at = map_at (watch_of h) ks j k at

pub record LazyPlace (h : Heard) (ks : List LazyTimers) (j : ℕ) (w : Watch) : Type 0 where
  pub lazy : LazyTimers
  pub at : slice_get ks j ≡ Some lazy
  pub is : watch_of h lazy ≡ w

pub lazy_at : (h : Heard) (ks : List LazyTimers) (j : ℕ) (w : Watch) → slice_get (watches_of h ks) j ≡ Some w → LazyPlace h ks j w
lazy_at h ks j w at =
    let long : length (watches_of h ks) ≡ length ks = length-map ks (watch_of h) in
    let within : j < length (watches_of h ks) = slice_get_within (watches_of h ks) j w at in
    let k = some_at ks j (omega arith) in
    record { lazy = k.0; at = k.1; is = same_some (watch_of h k.0) w (sym (watch_at h ks j k.0 k.1) ∙ at) }

pub low_lazy : (h : Heard) (ks : List LazyTimers) (j : ℕ) (k : LazyTimers) → AreLow (watches_of h ks) → slice_get ks j ≡ Some k → IsLow (watch_of h k)
low_lazy h ks j k low at = low j (watch_of h k) (watch_at h ks j k at)

-- ---- a pair that comes before all turns
pub none_before : (q c m n first : ℕ) (ws : List Watch) → AreLow ws → n < 256 → 256 * (q + m) + n ≤ first → NotSooner first ws → NoneBefore q c ws (pair m n)
none_before q c m n first ws low few behind sooner j w at left =
    let number : w.number ≤ 128 = (low j w at).number in
    let late : first ≤ 256 * ready w + w.number = sooner j w at left in
    omega arith

-- the soonest of the first i
abbrev pub SoonSoFar : ℕ → List LazyTimers → ℕ → Type 0
SoonSoFar first ks i = (j : ℕ) (k : LazyTimers) → j < i → slice_get ks j ≡ Some k → first ≤ k.soon

pub soon_none : (first : ℕ) (ks : List LazyTimers) → SoonSoFar first ks 0
soon_none first ks j k below at = absurd (omega arith)

pub soon_more : (first next : ℕ) (ks : List LazyTimers) (i : ℕ) (k : LazyTimers) → SoonSoFar first ks i → slice_get ks i ≡ Some k → next ≤ first → next ≤ k.soon → SoonSoFar next ks (i + 1)
soon_more first next ks i k so at less small j v below v_at = elim (cases_eq i j) [
  | inl here ↦ let same : k.soon ≡ v.soon = ap (λ (x : LazyTimers). x.soon) (same_some k v (sym at ∙ ap (slice_get ks) here ∙ v_at)) in omega arith
  | inr other ↦ let old : first ≤ v.soon = so j v (omega arith) v_at in omega arith
]

pub soon_set : (first next : ℕ) (ks : List LazyTimers) (i : ℕ) (k : LazyTimers) → SoonSoFar first ks i → i < length ks → next ≤ first → next ≤ k.soon
    → SoonSoFar next (set ks i k) (i + 1)
soon_set first next ks i k so within less small j v below at = elim (cases_eq i j) [
  | inl here ↦
      let same : k.soon ≡ v.soon = ap (λ (x : LazyTimers). x.soon) (same_some k v (sym (get_set_same ks i k within) ∙ ap (slice_get (set ks i k)) here ∙ at)) in
      omega arith
  | inr other ↦ let old : first ≤ v.soon = so j v (omega arith) (sym (get_set_other ks i j k other) ∙ at) in omega arith
]

pub soon_all : (h : Heard) (first : ℕ) (ks : List LazyTimers) (i : ℕ) → SoonSoFar first ks i → length ks ≤ i → AreEarly h ks → NotSooner first (watches_of h ks)
soon_all h first ks i so past early j w at left =
    let k = lazy_at h ks j w at in
    let within : j < length ks = slice_get_within ks j k.lazy k.at in
    let a : first ≤ k.lazy.soon = so j k.lazy (omega arith) k.at in
    let b : k.lazy.soon ≤ 256 * ready (watch_of h k.lazy) + k.lazy.watch.number = early j k.lazy k.at (subst (λ (x : Watch). 0 < x.left) (sym k.is) left) in
    subst (λ (x : Watch). first ≤ 256 * ready x + x.number) k.is (let c : first ≤ 256 * ready (watch_of h k.lazy) + k.lazy.watch.number = omega arith in c)

-- ---- those that tell exactly
pub soon_left : (w : Watch) → 0 < w.left → soon_of w ≡ 256 * ready w + w.number
soon_left w left = elim (eqb w.left 0) as (λ b. (eqb w.left 0 ≡ b) → cond b last_u64 (256 * ready w + w.number) ≡ 256 * ready w + w.number) [
  | true ↦ λ e. absurd (let z : w.left ≡ 0 = eqb-true w.left 0 e in omega arith)
  | false ↦ λ e. refl
] refl

abbrev pub Told : Heard → LazyTimers → LazyTimers → Type 0
Told h k v = v ≡ record k { soon = soon_of (watch_of h k) }

pub told_same : (h : Heard) (k v : LazyTimers) → Told h k v → watch_of h v ≡ watch_of h k
told_same h k v e = ap (watch_of h) e

pub all_same : (h : Heard) (ks vs : List LazyTimers) → Each (Told h) ks vs → watches_of h vs ≡ watches_of h ks
all_same h ks vs t = same_lists (watches_of h vs) (watches_of h ks) (length-map vs (watch_of h) ∙ t.same_length ∙ sym (length-map ks (watch_of h))) (λ j w at.
    let v = lazy_at h vs j w at in
    let within : j < length vs = slice_get_within vs j v.lazy v.at in
    let long : length vs ≡ length ks = t.same_length in
    let k = some_at ks j (omega arith) in
    watch_at h ks j k.0 k.1 ∙ ap (λ x. Some x) (sym (told_same h k.0 v.lazy (t.each j k.0 v.lazy k.1 v.at)) ∙ v.is))

told_early : (h : Heard) (k v : LazyTimers) → Told h k v → 0 < v.watch.left → v.soon ≤ 256 * ready (watch_of h v) + v.watch.number
told_early h k v e left =
    let soon : v.soon ≡ soon_of (watch_of h k) = ap (λ (x : LazyTimers). x.soon) e in
    let same : watch_of h v ≡ watch_of h k = told_same h k v e in
    let exact : soon_of (watch_of h v) ≡ 256 * ready (watch_of h v) + v.watch.number = soon_left (watch_of h v) left in
    let also : soon_of (watch_of h v) ≡ soon_of (watch_of h k) = ap soon_of same in
    omega arith

pub all_early : (h : Heard) (ks vs : List LazyTimers) → Each (Told h) ks vs → AreEarly h vs
all_early h ks vs t j v at left =
    let within : j < length vs = slice_get_within vs j v at in
    let long : length vs ≡ length ks = t.same_length in
    let k = some_at ks j (omega arith) in
    told_early h k.0 v (t.each j k.0 v k.1 at) left

pub all_kept : (h : Heard) (ks vs : List LazyTimers) → Each (Told h) ks vs → (place till : ℕ) → AreKept h place till ks → AreKept h place till vs
all_kept h ks vs t place till kept = record {
  from = kept.from;
  ended = kept.ended;
  each = λ j v at.
      let within : j < length vs = slice_get_within vs j v at in
      let long : length vs ≡ length ks = t.same_length in
      let k = some_at ks j (omega arith) in
      let e = t.each j k.0 v k.1 at in
      let o = kept.each j k.0 k.1 in
      let made : IsKept h place till (record k.0 { soon = soon_of (watch_of h k.0) }) = record {
        sg = o.sg;
        counted = o.counted;
        last = o.last;
        fresh = o.fresh;
        early = λ left. let exact : soon_of (watch_of h k.0) ≡ 256 * ready (watch_of h k.0) + k.0.watch.number = soon_left (watch_of h k.0) left in let r : soon_of (watch_of h k.0) ≤ 256 * ready (watch_of h k.0) + k.0.watch.number = omega arith in r;
      } in
      subst (IsKept h place till) (sym e) made;
}

-- ---- a busy stretch
-- the place of the gap, of who began since, and of the others
gap_fresh : (h : Heard) (k : LazyTimers) → h.from < k.last → gap_of h k ≡ k.last + k.watch.timing.sg
gap_fresh h k new = ap (λ b. cond b (k.last + k.watch.timing.sg) (h.ended + k.behind)) (lt-ltb h.from k.last new)

gap_old : (h : Heard) (k : LazyTimers) → k.last ≤ h.from → gap_of h k ≡ h.ended + k.behind
gap_old h k old = ap (λ b. cond b (k.last + k.watch.timing.sg) (h.ended + k.behind)) (le-ltb h.from k.last old)

pub gap_near : (h : Heard) (from till : ℕ) (k : LazyTimers) → IsKept h from till k → h.ended ≤ from → gap_of h k ≤ from + h.sg
gap_near h from till k kept ended = elim (cases_lt h.from k.last) [
  | inl new ↦ let e = gap_fresh h k new in let f = kept.fresh new in let a : k.last ≡ from = f.0 in let b : k.watch.timing.sg ≡ h.sg = kept.sg in omega arith
  | inr old ↦ let e = gap_old h k old in elim kept.counted [ inl none ↦ let z : k.behind ≡ 0 = none in omega arith | inr whole ↦ let z : k.behind ≡ h.sg = whole in omega arith ]
]

abbrev pub gap_next : ℕ → ℕ → Heard → LazyTimers → ℕ
gap_next from to h k = cond (leb (gap_of h k) from) to (to + k.watch.timing.sg)

-- what is kept behind it
pub record Goes (h : Heard) (from to : ℕ) (k v : LazyTimers) : Type 0 where
  pub same : v.watch ≡ k.watch
  pub watch : watch_of (record { from = from; ended = to; sg = h.sg }) v ≡ passed from to (watch_of h k)
  pub kept : (till : ℕ) → IsKept (record { from = from; ended = to; sg = h.sg }) to till v
  pub last : v.last ≤ from
  pub later : ready (watch_of h k) ≤ ready (watch_of (record { from = from; ended = to; sg = h.sg }) v)

goes_by : (h : Heard) (from to till b : ℕ) (k : LazyTimers) → IsKept h from till k → h.ended ≤ from → from < to → (b ≡ 0) ⊎ (b ≡ h.sg) → to + b ≡ gap_next from to h k → gap_of h k ≤ to + b → Goes h from to k (record k { behind = b })
goes_by h from to till b k kept ended order counted next mono =
    let now : Heard = record { from = from; ended = to; sg = h.sg } in
    let v : LazyTimers = record k { behind = b } in
    let gap : gap_of now v ≡ to + b = gap_old now v kept.last in
    let low : k.last ≤ from = kept.last in
    let later : max k.watch.due (gap_of h k + k.watch.timing.tg) ≤ max k.watch.due (gap_of now v + k.watch.timing.tg) = omega arith in
    record {
      same = refl;
      watch = ap (λ g. record k.watch { gap = g }) (gap ∙ next);
      kept = λ till. record {
        sg = kept.sg;
        counted = counted;
        last = (let r : k.last ≤ to = omega arith in r);
        fresh = λ new. let r : from < k.last = new in absurd (omega arith);
        early = λ left. let r : k.soon ≤ 256 * max k.watch.due (gap_of h k + k.watch.timing.tg) + k.watch.number = kept.early left in let s : k.soon ≤ 256 * max k.watch.due (gap_of now v + k.watch.timing.tg) + k.watch.number = omega arith in s;
      };
      last = low;
      later = later;
    }

-- told or not
pub goes_told : (h : Heard) (from to till : ℕ) (k : LazyTimers) → IsKept h from till k → h.ended ≤ from → from < to → Goes h from to k (record k { behind = gap_behind from (watch_of h k) })
goes_told h from to till k kept ended order =
    let near : gap_of h k ≤ from + h.sg = gap_near h from till k kept ended in
    let sg : k.watch.timing.sg ≡ h.sg = kept.sg in
    elim (cases_lt from (gap_of h k)) [
      | inl ahead ↦
          let b : gap_behind from (watch_of h k) ≡ k.watch.timing.sg = ap (λ z. cond z 0 k.watch.timing.sg) (lt-leb (gap_of h k) from ahead) in
          let n : gap_next from to h k ≡ to + k.watch.timing.sg = ap (λ z. cond z to (to + k.watch.timing.sg)) (lt-leb (gap_of h k) from ahead) in
          goes_by h from to till (gap_behind from (watch_of h k)) k kept ended order (inr (b ∙ sg)) (omega arith) (omega arith)
      | inr reached ↦
          let b : gap_behind from (watch_of h k) ≡ 0 = ap (λ z. cond z 0 k.watch.timing.sg) (le-leb (gap_of h k) from reached) in
          let n : gap_next from to h k ≡ to = ap (λ z. cond z to (to + k.watch.timing.sg)) (le-leb (gap_of h k) from reached) in
          goes_by h from to till (gap_behind from (watch_of h k)) k kept ended order (inl b) (omega arith) (omega arith)
    ]

pub goes_untold : (h : Heard) (from to till : ℕ) (k : LazyTimers) → IsKept h from till k → h.ended ≤ from → from < to → from < h.ended + h.sg → Goes h from to k k
goes_untold h from to till k kept ended order short =
    let sg : k.watch.timing.sg ≡ h.sg = kept.sg in
    let ahead_next : from < gap_of h k → gap_next from to h k ≡ to + k.watch.timing.sg = λ ahead. ap (λ z. cond z to (to + k.watch.timing.sg)) (lt-leb (gap_of h k) from ahead) in
    let near : gap_of h k ≤ from + h.sg = gap_near h from till k kept ended in
    elim (cases_lt h.from k.last) [
      | inl new ↦
          let f = kept.fresh new in
          let a : k.last ≡ from = f.0 in
          let b : k.behind ≡ h.sg = f.1 in
          let some : 0 < h.sg = omega arith in
          let e : gap_of h k ≡ k.last + k.watch.timing.sg = gap_fresh h k new in
          let n : gap_next from to h k ≡ to + k.watch.timing.sg = ahead_next (omega arith) in
          goes_by h from to till k.behind k kept ended order kept.counted (omega arith) (omega arith)
      | inr old ↦
          let e : gap_of h k ≡ h.ended + k.behind = gap_old h k old in
          elim kept.counted [
            | inl none ↦
                let z : k.behind ≡ 0 = none in
                let n : gap_next from to h k ≡ to = ap (λ z. cond z to (to + k.watch.timing.sg)) (le-leb (gap_of h k) from (omega arith)) in
                goes_by h from to till k.behind k kept ended order kept.counted (omega arith) (omega arith)
            | inr whole ↦
                let z : k.behind ≡ h.sg = whole in
                let n : gap_next from to h k ≡ to + k.watch.timing.sg = ahead_next (omega arith) in
                goes_by h from to till k.behind k kept ended order kept.counted (omega arith) (omega arith)
          ]
    ]

pub each_told : (h : Heard) (from to till : ℕ) (ks : List LazyTimers) → AreKept h from till ks → from < to → Each (Goes h from to) ks (map (told_busy h from) ks)
each_told h from to till ks kept order = record {
  same_length = length-map ks (told_busy h from);
  each = λ j k v k_at v_at.
      let e : record k { behind = gap_behind from (watch_of h k) } ≡ v = same_some (record k { behind = gap_behind from (watch_of h k) }) v (sym (map_at (told_busy h from) ks j k k_at) ∙ v_at) in
      subst (Goes h from to k) e (goes_told h from to till k (kept.each j k k_at) kept.ended order);
}

pub each_untold : (h : Heard) (from to till : ℕ) (ks : List LazyTimers) → AreKept h from till ks → from < to → from < h.ended + h.sg → Each (Goes h from to) ks ks
each_untold h from to till ks kept order short = record {
  same_length = refl;
  each = λ j k v k_at v_at. subst (Goes h from to k) (same_some k v (sym k_at ∙ v_at)) (goes_untold h from to till k (kept.each j k k_at) kept.ended order short);
}

pub goes_watches : (h : Heard) (from to : ℕ) (ks vs : List LazyTimers) → Each (Goes h from to) ks vs → watches_of (record { from = from; ended = to; sg = h.sg }) vs ≡ map (passed from to) (watches_of h ks)
goes_watches h from to ks vs g =
    let now : Heard = record { from = from; ended = to; sg = h.sg } in
    same_lists (watches_of now vs) (map (passed from to) (watches_of h ks))
    (length-map vs (watch_of now) ∙ g.same_length ∙ sym (length-map ks (watch_of h)) ∙ sym (length-map (watches_of h ks) (passed from to))) (λ j w at.
    let v = lazy_at now vs j w at in
    let within : j < length vs = slice_get_within vs j v.lazy v.at in
    let long : length vs ≡ length ks = g.same_length in
    let k = some_at ks j (omega arith) in
    map_at (passed from to) (watches_of h ks) j (watch_of h k.0) (watch_at h ks j k.0 k.1) ∙ ap (λ x. Some x) (sym (g.each j k.0 v.lazy k.1 v.at).watch ∙ v.is))

pub goes_still : (h : Heard) (from to : ℕ) (ks vs : List LazyTimers) → from < to → Each (Goes h from to) ks vs → AreStill (record { from = from; ended = to; sg = h.sg }) to vs
goes_still h from to ks vs order g =
    let long : length vs ≡ length ks = g.same_length in
    let old : (j : ℕ) (v : LazyTimers) → slice_get vs j ≡ Some v → (k : LazyTimers) × Goes h from to k v = λ j v at.
    let within : j < length vs = slice_get_within vs j v at in
    let k = some_at ks j (omega arith) in (k.0, g.each j k.0 v k.1 at) in
    record {
      kept = λ till. record { from = order; ended = (let r : to ≤ to = omega arith in r); each = λ j v at. (old j v at).1.kept till };
      last = λ j v at. (old j v at).1.last;
    }

pub goes_sooner : (h : Heard) (from to : ℕ) (ks vs : List LazyTimers) → Each (Goes h from to) ks vs → (first : ℕ) → NotSooner first (watches_of h ks) → NotSooner first (watches_of (record { from = from; ended = to; sg = h.sg }) vs)
goes_sooner h from to ks vs g first sooner j w at left =
    let now : Heard = record { from = from; ended = to; sg = h.sg } in
    let v = lazy_at now vs j w at in
    let within : j < length vs = slice_get_within vs j v.lazy v.at in
    let long : length vs ≡ length ks = g.same_length in
    let k = some_at ks j (omega arith) in
    let go = g.each j k.0 v.lazy k.1 v.at in
    let left_v : 0 < v.lazy.watch.left = subst (λ (x : Watch). 0 < x.left) (sym v.is) left in
    let left_k : 0 < k.0.watch.left = subst (λ (x : Watch). 0 < x.left) go.same left_v in
    let number : v.lazy.watch.number ≡ k.0.watch.number = ap (λ (x : Watch). x.number) go.same in
    let old : first ≤ 256 * ready (watch_of h k.0) + k.0.watch.number = sooner j (watch_of h k.0) (watch_at h ks j k.0 k.1) left_k in
    let later : ready (watch_of h k.0) ≤ ready (watch_of now v.lazy) = go.later in
    subst (λ (x : Watch). first ≤ 256 * ready x + x.number) v.is (let r : first ≤ 256 * ready (watch_of now v.lazy) + v.lazy.watch.number = omega arith in r)

-- where nobody is busy
pub still_calm : (h : Heard) (place till : ℕ) (ks : List LazyTimers) → till ≤ place → AreKept h place till ks → AreStill h place ks
still_calm h place till ks over kept =
    let old : (j : ℕ) (k : LazyTimers) → slice_get ks j ≡ Some k → k.last ≤ h.from = λ j k at. elim (cases_lt h.from k.last) [
      | inl new ↦ let f : place < till = ((kept.each j k at).fresh new).2 in absurd (omega arith)
      | inr not ↦ not
    ] in
    record {
      kept = λ other. record { from = kept.from; ended = kept.ended; each = λ j k at. let e = kept.each j k at in record { sg = e.sg; counted = e.counted; last = e.last; fresh = λ new. let o : k.last ≤ h.from = old j k at in absurd (omega arith); early = e.early } };
      last = old;
    }

pub still_on : (h : Heard) (place later till : ℕ) (ks : List LazyTimers) → AreStill h place ks → place ≤ later → AreKept h later till ks
still_on h place later till ks still order =
    let kept = still.kept till in
    let from : h.from < place = kept.from in
    let ended : h.ended ≤ place = kept.ended in
    record {
      from = omega arith;
      ended = omega arith;
      each = λ j k at.
          let e = kept.each j k at in
          let last : k.last ≤ place = e.last in
          record { sg = e.sg; counted = e.counted; last = omega arith; fresh = λ new. let o : k.last ≤ h.from = still.last j k at in absurd (omega arith); early = e.early };
    }

-- ---- a sender begins
pub watch_begun : (h : Heard) (p : ℕ) (k v : LazyTimers) → h.from < p → v.watch ≡ begun p (watch_of h k) → v.last ≡ p → watch_of h v ≡ begun p (watch_of h k)
watch_begun h p k v new watch last =
    let gap : gap_of h v ≡ v.last + v.watch.timing.sg = gap_fresh h v (omega arith) in
    ap (λ g. record v.watch { gap = g }) (gap ∙ ap (λ l. l + v.watch.timing.sg) last) ∙ ap (λ (x : Watch). record x { gap = p + x.timing.sg }) watch

pub watches_begun : (h : Heard) (p : ℕ) (ks : List LazyTimers) (i : ℕ) (k v : LazyTimers) → h.from < p → v.watch ≡ begun p (watch_of h k) → v.last ≡ p → watches_of h (set ks i v) ≡ set (watches_of h ks) i (begun p (watch_of h k))
watches_begun h p ks i k v new watch last = map-set (watch_of h) ks i v ∙ ap (set (watches_of h ks) i) (watch_begun h p k v new watch last)

pub kept_begun : (h : Heard) (p till more : ℕ) (ks : List LazyTimers) (i : ℕ) (k v : LazyTimers) → AreKept h p till ks → slice_get ks i ≡ Some k → till ≤ more → p < more → v.watch ≡ begun p (watch_of h k) → v.last ≡ p → v.behind ≡ k.watch.timing.sg → v.soon ≡ soon_of v.watch
    → AreKept h p more (set ks i v)
kept_begun h p till more ks i k v kept at longer some watch last behind soon = record {
  from = kept.from;
  ended = kept.ended;
  each = λ j x x_at. elim (cases_eq i j) [
    | inl here ↦
        let within : i < length ks = slice_get_within ks i k at in
        let is : v ≡ x = same_some v x (sym (get_set_same ks i v within) ∙ ap (slice_get (set ks i v)) here ∙ x_at) in
        let old = kept.each i k at in
        let sg : v.watch.timing.sg ≡ k.watch.timing.sg = ap (λ (y : Watch). y.timing.sg) watch in
        let all : watch_of h v ≡ v.watch = watch_begun h p k v kept.from watch last ∙ sym watch in
        subst (IsKept h p more) is (record {
          sg = sg ∙ old.sg;
          counted = inr (behind ∙ old.sg);
          last = omega arith;
          fresh = λ new. (last, behind ∙ old.sg, some);
          early = λ left.
              let exact : soon_of v.watch ≡ 256 * ready v.watch + v.watch.number = soon_left v.watch left in
              let same : ready (watch_of h v) ≡ ready v.watch = ap ready all in
              let r : v.soon ≤ 256 * ready (watch_of h v) + v.watch.number = omega arith in r;
        })
    | inr other ↦
        let e = kept.each j x (sym (get_set_other ks i j v other) ∙ x_at) in
        record { sg = e.sg; counted = e.counted; last = e.last; fresh = λ new. let f = e.fresh new in (f.0, f.1, let b : p < till = f.2 in omega arith); early = e.early }
  ];
}

-- ---- all are told of a busy stretch
abbrev pub Put : Heard → ℕ → LazyTimers → LazyTimers → Type 0
Put h from k v = v ≡ record k { behind = gap_behind from (watch_of h k) }

pub all_put : (h : Heard) (from : ℕ) (ks vs : List LazyTimers) → Each (Put h from) ks vs → vs ≡ map (told_busy h from) ks
all_put h from ks vs t = same_lists vs (map (told_busy h from) ks) (t.same_length ∙ sym (length-map ks (told_busy h from))) (λ j v at.
    let within : j < length vs = slice_get_within vs j v at in
    let long : length vs ≡ length ks = t.same_length in
    let k = some_at ks j (omega arith) in
    map_at (told_busy h from) ks j k.0 k.1 ∙ ap (λ x. Some x) (sym (t.each j k.0 v k.1 at)))

pub behind_tells : (q c m n first : ℕ) (ws : List Watch) → AreLow ws → n < 256 → leb (256 * (q + m) + n) first ≡ true → NotSooner first ws → NoneBefore q c ws (pair m n)
behind_tells q c m n first ws low few is sooner = none_before q c m n first ws low few (leb-true (256 * (q + m) + n) first is) sooner

pub early_kept : (h : Heard) (place till : ℕ) (ks : List LazyTimers) → AreKept h place till ks → AreEarly h ks
early_kept h place till ks kept j k at left = (kept.each j k at).early left
