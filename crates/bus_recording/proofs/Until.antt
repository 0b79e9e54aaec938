-- Why a terminal keeps its bounds by what a monitor has heard begin before it stops.
use Rattle.std.specs.Prelude.{nat_lt}
use Rattle.std.proofs.Common.{◌≡◌, ℕ, ◌+◌, ◌-◌, ◌<◌, ◌≤◌, true, false, ◌||◌, cond, List, [], ◌∷◌, inl, inr, arith, sym, refl, ap, ◌∙◌, subst}
use Rattle.std.proofs.lemmas.Bool.{cases_lt, cases_eq, cases_Bool, true≢false, lt-ltb, ltb-true}
use Rattle.bus_clocks.specs.Entries.{Entry, In}
use Rattle.bus_clocks.specs.Courses.{Course, IsQuiet, carrier}
use Rattle.bus_clocks.specs.Hearing.{hears_any}
use Rattle.bus_recording.specs.Seen.{Bounds, Timers}
use Rattle.bus_recording.specs.Keeping.{AreInRow, AreOver, KeepsBounds}
use Rattle.bus_recording.specs.Monitors.{HearsWithin, IsPlaced}
use Rattle.bus_recording.specs.Files.{UntilHearsWithin, UntilHeardKeepsBounds, UntilIsPlaced, UntilKeepsBounds, arrived, until}
use Rattle.bus_recording.proofs.Quiet.{hush, loud, silent}
use Rattle.bus_recording.proofs.Recorded.{in_order, of_one}

module _ (arrives : Entry → ℕ) (end : ℕ) where
  pub arrived_in : (list : List Entry) (x : Entry) → In x (arrived arrives end list) → In x list × (arrives x < end)
  arrived_in [] x i = absurd i
  arrived_in (y ∷ list) x i =
      (elim (nat_lt (arrives y) end) as
      (λ b. nat_lt (arrives y) end ≡ b → In x (cond b (y ∷ arrived arrives end list) (arrived arrives end list)) → In x (y ∷ list) × (arrives x < end)) [
        | true ↦ λ e j. elim j [
          | inl same ↦ (inl same, subst (λ w. arrives w < end) (sym same) (ltb-true (arrives y) end e))
          | inr k ↦ (let w = arrived_in list x k in (inr w.0, w.1))
        ]
        | false ↦ λ e j. (let w = arrived_in list x j in (inr w.0, w.1))
      ]) refl i

  pub in_arrived : (list : List Entry) (x : Entry) → In x list → arrives x < end → In x (arrived arrives end list)
  in_arrived [] x i low = i
  in_arrived (y ∷ list) x (inl same) low =
      let e : nat_lt (arrives y) end ≡ true = lt-ltb (arrives y) end (subst (λ w. arrives w < end) same low) in
      subst (λ b. In x (cond b (y ∷ arrived arrives end list) (arrived arrives end list))) (sym e) (inl same)
  in_arrived (y ∷ list) x (inr i) low =
      (elim (nat_lt (arrives y) end) as (λ b. In x (cond b (y ∷ arrived arrives end list) (arrived arrives end list))) [
        | true ↦ inr (in_arrived list x i low)
        | false ↦ in_arrived list x i low
      ])

module _ (c : Course) (arrives : Entry → ℕ) (end k : ℕ) where
  noisy : (d : Course) (t : ℕ) → d.noise k t ≡ true → carrier d k t ≡ true
  noisy d t e = ap (λ b. b || hears_any d.hears d.list k t) e

  more : (t : ℕ) → carrier (until arrives end c) k t ≡ true → carrier c k t ≡ true
  more t h = elim (cases_Bool (c.noise k t)) [
    | inl is ↦ noisy c t is
    | inr still ↦ (let w = of_one (until arrives end c) k t still h in loud c w.0 k t (arrived_in arrives end c.list w.0 w.1).0 w.2)
  ]

  pub quieter : (a b : ℕ) → IsQuiet c k a b → IsQuiet (until arrives end c) k a b
  quieter a b q u low high = hush (until arrives end c) k u (λ h. true≢false (sym (more u h) ∙ q u low high))

  over_by : (x : Entry) (timers : Timers) (t : ℕ) → AreOver c k timers x t → AreOver (until arrives end c) k timers x t
  over_by x timers t o = record {
    interval = o.interval;
    elapsed = o.elapsed;
    behind = o.behind;
    synchronized = (o.synchronized.0, quieter (o.elapsed - timers.sg) o.elapsed o.synchronized.1);
    room = o.room;
    gap = (o.gap.0, quieter (t - timers.tg) t o.gap.1);
  }

  -- where all that is heard before an own start arrives in time if it does
  module _ (from : ℕ)
      (in_time : (z x : Entry) (u : ℕ) → In z c.list → z.sender ≡ k → from ≤ z.moment → In x c.list → c.hears x k u ≡ true → u < z.moment → arrives z < end → arrives x < end) where
    same_quiet : (z : Entry) (a b : ℕ) → In z c.list → z.sender ≡ k → from ≤ z.moment → arrives z < end → b ≤ z.moment → IsQuiet (until arrives end c) k a b → IsQuiet c k a b
    same_quiet z a b j own since soon low q u low_u to = hush c k u (λ h. elim (cases_Bool (c.noise k u)) [
      | inl is ↦ true≢false (sym (noisy (until arrives end c) u is) ∙ q u low_u to)
      | inr still ↦
          let w = of_one c k u still h in
          true≢false (sym (loud (until arrives end c) w.0 k u (in_arrived arrives end c.list w.0 w.1 (in_time z w.0 u j own since w.1 w.2 (omega arith) soon)) w.2) ∙ q u low_u to)
    ])

    pub over_in : (z x : Entry) (timers : Timers) (t : ℕ) → In z c.list → z.sender ≡ k → from ≤ z.moment → arrives z < end → t ≤ z.moment
        → AreOver (until arrives end c) k timers x t → AreOver c k timers x t
    over_in z x timers t j own since soon low o =
        let room : o.elapsed + timers.tg ≤ t = o.room in
        record {
          interval = o.interval;
          elapsed = o.elapsed;
          behind = o.behind;
          synchronized = (o.synchronized.0, same_quiet z (o.elapsed - timers.sg) o.elapsed j own since soon (omega arith) o.synchronized.1);
          room = o.room;
          gap = (o.gap.0, same_quiet z (t - timers.tg) t j own since soon low o.gap.1);
        }

    -- and all own starts before it
    module _ (kept : Bounds) (keeps : KeepsBounds c kept k from)
        (own_time : (z y : Entry) → In z c.list → z.sender ≡ k → from ≤ z.moment → In y c.list → y.sender ≡ k → y.moment < z.moment → arrives z < end → arrives y < end) where
      row : (x z : Entry) → from ≤ x.moment → AreInRow (arrived arrives end c.list) k x z → AreInRow c.list k x z
      row x z since r =
          let to = arrived_in arrives end c.list z r.here in
          let less : x.moment < z.moment = r.behind in
          record {
            there = (arrived_in arrives end c.list x r.there).0;
            here = to.0;
            mine = r.mine;
            own = r.own;
            behind = r.behind;
            next = λ y i e before. r.next y (in_arrived arrives end c.list y i (own_time z y to.0 r.own (omega arith) i e before to.1)) e before;
          }

      pub kept_until : KeepsBounds (until arrives end c) kept k from
      kept_until = record {
        gap = λ z x t i own since j heard before.
            let q = keeps.gap z x t (arrived_in arrives end c.list z i).0 own since (arrived_in arrives end c.list x j).0 heard before in
            (q.0, quieter (z.moment - kept.short.tg) z.moment q.1);
        early = λ x z r since. over_by x kept.short z.moment (keeps.early x z (row x z since r) since);
        late = λ x z t r since o. elim (cases_lt t z.moment) [
          | inr fine ↦ fine
          | inl sooner ↦
              let to = arrived_in arrives end c.list z r.here in
              let less : x.moment < z.moment = r.behind in
              keeps.late x z t (row x z since r) since (over_in z x kept.long t to.0 r.own (omega arith) to.1 (omega arith) o)
        ];
      }

-- on a cable all that is does
pub heard_in_time : (c : Course) (k away drop end : ℕ) (arrives : Entry → ℕ) → IsPlaced c drop arrives k away → (from : ℕ) (z x : Entry) (u : ℕ) → In z c.list
    → z.sender ≡ k → from ≤ z.moment → In x c.list → c.hears x k u ≡ true → u < z.moment → arrives z < end → arrives x < end
heard_in_time c k away drop end arrives p from z x u j own since i h low soon =
    let at : arrives z ≡ z.moment + away = p.steady z j own in
    elim (cases_eq x.sender k) [
      | inl mine ↦
          let to : arrives x ≡ x.moment + away = p.steady x i mine in
          let begins : x.moment ≤ u = ((p.itself x i mine).within u h).0 in
          omega arith
      | inr foreign ↦ (let begins : arrives x ≤ u + away = ((p.near x i foreign).within u h).0 in omega arith)
    ]

pub until_keeps : UntilKeepsBounds
until_keeps c kept k from away drop end arrives p keeps =
    kept_until c arrives end k from (heard_in_time c k away drop end arrives p from) kept keeps
    (λ z y j own since i mine less soon.
    let at : arrives z ≡ z.moment + away = p.steady z j own in
    let to : arrives y ≡ y.moment + away = p.steady y i mine in
    omega arith)

begun : (c : Course) (drop k reach : ℕ) (arrives : Entry → ℕ) → HearsWithin c drop arrives k reach → (x : Entry) → In x c.list → (u : ℕ) → c.hears x k u ≡ true → x.moment ≤ u
begun c drop k reach arrives h x i u heard = elim (cases_eq x.sender k) [
  | inl mine ↦ ((h.itself x i mine).within u heard).0
  | inr foreign ↦ ((h.others x i foreign).within u heard).0
]

pub until_heard_keeps : UntilHeardKeepsBounds
until_heard_keeps c kept k from reach drop end arrives h wide long room keeps =
    kept_until c arrives end k from
    (λ z x u j own since i heard low soon.
    let to : z.moment ≤ arrives z = (h.recorded z j).0 in
    let high : arrives x ≤ x.moment + reach = (h.recorded x i).1 in
    let been = keeps.gap z x u j own since i heard low in
    let fits : kept.short.tg ≤ z.moment = been.0 in
    let before : x.moment ≤ u = begun c drop k reach arrives h x i u heard in
    elim (cases_lt u (z.moment - kept.short.tg)) [
      | inl early ↦ omega arith
      | inr late ↦ absurd (silent c x k u i heard (been.1 u late low))
    ])
    kept keeps
    (λ z y j own since i mine less soon.
    let to : z.moment ≤ arrives z = (h.recorded z j).0 in
    let high : arrives y ≤ y.moment + reach = (h.recorded y i).1 in
    let much : reach < y.length + kept.short.tg = room y i mine in
    let apart : y.moment + y.length + kept.short.tg ≤ z.moment = in_order c k from drop kept keeps wide y z i j own (h.itself y i mine) since less in
    omega arith)

pub until_placed : UntilIsPlaced
until_placed c k away drop end arrives p = record {
  steady = λ x i own. p.steady x (arrived_in arrives end c.list x i).0 own;
  itself = λ x i own. p.itself x (arrived_in arrives end c.list x i).0 own;
  near = λ x i foreign. p.near x (arrived_in arrives end c.list x i).0 foreign;
}

pub until_heard : UntilHearsWithin
until_heard c k reach drop end arrives h = record {
  recorded = λ x i. h.recorded x (arrived_in arrives end c.list x i).0;
  itself = λ x i own. h.itself x (arrived_in arrives end c.list x i).0 own;
  others = λ x i foreign. h.others x (arrived_in arrives end c.list x i).0 foreign;
  once = λ x z i j. h.once x z (arrived_in arrives end c.list x i).0 (arrived_in arrives end c.list z j).0;
}
