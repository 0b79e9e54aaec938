-- Behind the last power-up each sender starts but once until nothing begins for so long that all wait for a synchronization gap and hear it.
use Rattle.std.proofs.Common.{◌≡◌, ℕ, suc, ◌+◌, ◌-◌, ◌*◌, ◌<◌, ◌≤◌, ◌⊎◌, Bool, true, false, List, [], ◌∷◌, ◌++◌, inl, inr, arith, sym, refl, ap, ◌∙◌, subst}
use Rattle.std.proofs.lemmas.Bool.{cases_lt, cases_eq, cases_Bool, true≢false}
use Rattle.bus_clocks.specs.Buses.{sum_below}
use Rattle.bus_clocks.specs.Rounds.{InRounds, most_spoken}
use Rattle.bus_clocks.specs.Entries.{AreClear, Entry, In, IsAscending, end_of}
use Rattle.bus_clocks.specs.Courses.{HasEntry, HaveLeft, IsQuiet, SyncAt}
use Rattle.bus_clocks.specs.Room.{StartsItself}
use Rattle.bus_clocks.proofs.Timers.{Synced, sync_must, sync_up, is_quiet}
use Rattle.bus_clocks.proofs.Lists.{in_cases, in_left, in_right, in_push, moved, before_parts}
use Rattle.bus_clocks.proofs.Existence.{dec_both, dec_below, dec_le}
use Rattle.bus_clocks.proofs.Unspoken.{dec_false, mark, mark_other, mark_self, marked, none_spoken, sum_at, top, unspoken}
use Rattle.bus_clocks.proofs.Worlds.{World, Started, started, start_must, sync_apart, sync_apart_own, ears, idle_itself, close, longer, outwaits, within}
use Rattle.bus_clocks.proofs.Turns.{first_least, own_least, Left, Turn}
use Rattle.bus_clocks.proofs.Rounds.{in_rounds, open_early}

module _ (w : World) where
  abbrev span : ℕ → ℕ
  span k = w.bus.delay + w.bus.tg_long k + w.bus.longest k

  -- a start of sender k from moment e on, before moment m
  abbrev pub Own : ℕ → ℕ → ℕ → List Entry → Type 0
  Own k e m xs = (x : Entry) × In x xs × (x.sender ≡ k) × (e ≤ x.moment) × (x.moment < m)

  pub find_own : (k e m : ℕ) (xs : List Entry) → Own k e m xs ⊎ ((x : Entry) → In x xs → x.sender ≡ k → e ≤ x.moment → x.moment < m → ⊥)
  find_own k e m [] = inr (λ x i mine low high. i)
  find_own k e m (y ∷ ys) = elim (find_own k e m ys) [
    | inl p ↦ inl (p.0, inr p.1, p.2, p.3, p.4)
    | inr none ↦ elim (cases_eq y.sender k) [
      | inr other ↦ inr (λ x i mine low high. elim i [
        | inl same ↦ other (ap (λ (z : Entry). z.sender) (sym same) ∙ mine)
        | inr j ↦ none x j mine low high
      ])
      | inl is ↦ elim (cases_lt y.moment e) [
        | inl early ↦ inr (λ x i mine low high. elim i [
          | inl same ↦ (let s : x.moment ≡ y.moment = ap (λ (z : Entry). z.moment) same in omega arith)
          | inr j ↦ none x j mine low high
        ])
        | inr on ↦ elim (cases_lt y.moment m) [
          | inl before ↦ inl (y, inl refl, is, on, before)
          | inr late ↦ inr (λ x i mine low high. elim i [
            | inl same ↦ (let s : x.moment ≡ y.moment = ap (λ (z : Entry). z.moment) same in omega arith)
            | inr j ↦ none x j mine low high
          ])
        ]
      ]
    ]
  ]

  module _ (powered : (k : ℕ) → k < w.bus.senders → w.c.up k ≤ w.up) (itself : StartsItself w.bus) (have : HaveLeft w.bus w.c) (sg : ℕ) (greatest : (k : ℕ) → k < w.bus.senders → w.bus.sg_long k ≤ sg) where
    abbrev bound : ℕ
    bound = w.up + sg + most_spoken w.bus

    -- where the synchronization gap of anybody elapses that isn't old, all that is done has ended a synchronization gap before, or the sender has
    -- started since
    abbrev Anew : Entry → ℕ → List Entry → Type 0
    Anew first m before = (k e : ℕ) → k < w.bus.senders → SyncAt w.c k e → first.moment + w.bus.delay < e → (m + w.bus.sg_short k ≤ e) ⊎ Own k e m before

    -- each sender starts but once from moment `up` on
    abbrev Once : List Entry → Type 0
    Once before = (x y : Entry) → In x before → In y before → x.sender ≡ y.sender → w.up ≤ x.moment → x.moment < y.moment → ⊥

    -- the moment behind which there are rounds
    pub record Calm : Type 0 where
      pub m : ℕ
      pub before : List Entry
      pub ys : List Entry
      pub parts : w.c.list ≡ before ++ ys
      pub ended : (x : Entry) → In x before → end_of x ≤ m
      pub soon : m + w.bus.delay ≤ bound
      pub once : Once before
      pub later : (x : Entry) → In x ys → m + w.bus.delay ≤ x.moment
      pub order : InRounds w.bus w.c 0 m ys
      pub clear : AreClear w.bus.delay ys

    -- those of `before` are done, by moment m; `first` is the first of them that somebody may have heard from moment `up` on
    record Calming (first : Entry) (m : ℕ) (spoken : ℕ → Bool) (before ys : List Entry) : Type 0 where
      parts : w.c.list ≡ before ++ ys
      ended : (x : Entry) → In x before → end_of x ≤ m
      ordered : IsAscending ys
      begun : w.up ≤ end_of first + w.bus.delay
      some : 0 < first.length
      there : In first w.c.list
      low : end_of first ≤ m
      first_of : (x : Entry) → In x w.c.list → w.up ≤ end_of x + w.bus.delay → first.moment ≤ x.moment
      behind : (x : Entry) → In x ys → first.moment ≤ x.moment
      anew : Anew first m before
      once : Once before
      opened : spoken first.sender ≡ true
      spoke : (k : ℕ) → spoken k ≡ true → (x : Entry) × In x w.c.list × (x.sender ≡ k) × (first.moment ≤ x.moment)
          × ((z : Entry) → In z ys → z.sender ≡ k → x.moment < z.moment)
      soon : m + w.bus.delay + unspoken span spoken w.bus.senders ≤ bound

    module _ (first : Entry) (m : ℕ) (spoken : ℕ → Bool) (before ys : List Entry) (s : Calming first m spoken before ys) where
      each : (x : Entry) → In x w.c.list → (end_of x ≤ m) ⊎ In x ys
      each x i = elim (in_cases before ys x (subst (In x) s.parts i)) [ inl j ↦ inl (s.ended x j) | inr j ↦ inr j ]

      mine : (x : Entry) → In x ys → In x w.c.list
      mine x j = subst (In x) (sym s.parts) (in_right before ys x j)

      mine_before : (x : Entry) → In x before → In x w.c.list
      mine_before x j = subst (In x) (sym s.parts) (in_left before ys x j)

      -- who has spoken has started since an old synchronization
      spoken_since : (k e : ℕ) → k < w.bus.senders → spoken k ≡ true → SyncAt w.c k e → e ≤ first.moment + w.bus.delay → Own k e m w.c.list
      spoken_since k e known has sync old =
          let p = s.spoke k has in
          let x : Entry = p.0 in
          let from : first.moment ≤ x.moment = p.3 in
          let some : 0 < x.length = (started w x p.1).some in
          let near : w.bus.delay ≤ w.bus.sg_short k = close w k known in
          let low : e ≤ x.moment = elim (sync_apart_own w k e x known p.1 p.2 sync) [ inl fine ↦ fine | inr bad ↦ absurd (omega arith) ] in
          let high : x.moment < m = elim (each x p.1) [
            | inl done ↦ omega arith
            | inr j ↦ (let bad : x.moment < x.moment = p.4 x j p.2 in absurd (omega arith))
          ] in
          (x, p.1, p.2, low, high)

      -- who has not been in sync for long, or isn't the first sender
      alone_not : (k : ℕ) → k < w.bus.senders → spoken k ≡ false → first.sender ≡ k → ⊥
      alone_not k known silent same = true≢false (sym s.opened ∙ ap spoken same ∙ silent)

      first_known : first.sender < w.bus.senders
      first_known = (started w first s.there).known

      own_all : (k e n : ℕ) → Own k e n before → Own k e n w.c.list
      own_all k e n p = (p.0, mine_before p.0 p.1, p.2, p.3, p.4)

      -- nothing begins before moment u, which comes late enough for everybody who is in sync
      finish : (u : ℕ) → ((z : Entry) → In z ys → u ≤ z.moment) → m ≤ u → ((k : ℕ) → k < w.bus.senders → spoken k ≡ false → m + w.bus.delay + w.bus.tg_long k < u)
          → ((k : ℕ) → k < w.bus.senders → spoken k ≡ false → m + w.bus.delay + w.bus.tg_long k < w.c.horizon) → Calm
      finish u next past far within =
          let some : 0 < w.bus.senders = w.room.some in
          let low : end_of first ≤ m = s.low in
          let length : 0 < first.length = s.some in
          let begun : w.up ≤ end_of first + w.bus.delay = s.begun in
          let soon : m + w.bus.delay + unspoken span spoken w.bus.senders ≤ bound = s.soon in
          let turn : Turn w m w.bus.senders = record {
            upto = omega arith;
            rest = λ x i less. elim (each x i) [
              | inl done ↦ done
              | inr j ↦ (let n : u ≤ x.moment = next x j in absurd (omega arith))
            ];
            early = λ x i from above. (let known : x.sender < w.bus.senders = (started w x i).known in absurd (omega arith));
            synced = λ k from above. absurd (omega arith);
            waits = λ k known e sync. elim (cases_lt (first.moment + w.bus.delay) e) [
              | inl new ↦ elim (s.anew k e known sync new) [ inl behind ↦ inr behind | inr p ↦ inl (own_all k e m p) ]
              | inr old ↦ elim (cases_Bool (spoken k)) [
                | inl has ↦ inl (spoken_since k e known has sync old)
                | inr silent ↦ elim (find_own k e m w.c.list) [
                  | inl p ↦ inl p
                  | inr none ↦
                      let f : m + w.bus.delay + w.bus.tg_long k < u = far k known silent in
                      let none_on : (x : Entry) → In x w.c.list → x.sender ≡ k → x.moment < m + w.bus.delay + w.bus.tg_long k → x.moment < e = λ x i own less.
                      elim (cases_lt x.moment e) [
                        | inl sooner ↦ sooner
                        | inr on ↦ elim (cases_lt x.moment m) [
                          | inl inside ↦ absurd (none x i own on inside)
                          | inr behind ↦
                              let long : 0 < x.length = (started w x i).some in
                              elim (each x i) [
                                | inl done ↦ absurd (omega arith)
                                | inr j ↦ (let n : u ≤ x.moment = next x j in absurd (omega arith))
                              ]
                        ]
                      ] in
                      let h : HasEntry w.c.list k (m + w.bus.delay + w.bus.tg_long k) =
                      start_must w k e (m + w.bus.delay) (m + w.bus.delay + w.bus.tg_long k) known sync none_on (omega arith) (omega arith) (within k known silent) (omega arith)
                      (is_quiet (ears w) k (m + w.bus.delay) (m + w.bus.delay + w.bus.tg_long k) (omega arith) (λ x i. elim (each x i) [
                        | inl done ↦ inr (omega arith)
                        | inr j ↦ (let n : u ≤ x.moment = next x j in inl (omega arith))
                      ])) (have k (m + w.bus.delay + w.bus.tg_long k) known (within k known silent))
                      (idle_itself w itself k e (m + w.bus.delay + w.bus.tg_long k) known sync none_on (omega arith)) in
                      let at : h.entry.moment ≡ m + w.bus.delay + w.bus.tg_long k = h.moment in
                      let long : 0 < h.entry.length = (started w h.entry h.there).some in
                      absurd (elim (each h.entry h.there) [
                        | inl done ↦ omega arith
                        | inr j ↦ (let n : u ≤ h.entry.moment = next h.entry j in omega arith)
                      ])
                ]
              ]
            ];
            since = omega arith;
            powered = λ k known. (let power : w.c.up k ≤ w.up = powered k known in omega arith);
            full = λ k known. inl (elim (cases_eq first.sender k) [
              | inl same ↦
                  let t : Started w first = started w first s.there in
                  let power : w.c.up first.sender ≤ t.sync = sync_up (ears w) first.sender t.sync t.synced in
                  let behind : t.sync ≤ first.moment = t.behind in
                  let up : w.c.up k ≤ t.sync = subst (λ i. w.c.up i ≤ t.sync) same power in
                  omega arith
              | inr other ↦
                  let l : w.bus.delay < w.bus.sg_short k = longer w first.sender k first_known known other in
                  let power : w.c.up k ≤ w.up = powered k known in
                  omega arith
            ]);
            idle = inl itself;
            lasts = inl have;
          } in
          let left : Left w m ys = record {
            all = λ x i from. elim (each x i) [
              | inl done ↦ (let long : 0 < x.length = (started w x i).some in absurd (omega arith))
              | inr j ↦ j
            ];
            there = mine;
            later = λ x j. (let n : u ≤ x.moment = next x j in omega arith);
            ordered = s.ordered;
          } in
          let r = in_rounds w ys m 0 turn left in
          record {
            m = m;
            before = before;
            ys = ys;
            parts = s.parts;
            ended = s.ended;
            soon = omega arith;
            once = s.once;
            later = λ x j.
                let known : x.sender < w.bus.senders = (started w x (mine x j)).known in
                let far : m + w.bus.sg_short x.sender + w.bus.tg_short x.sender ≤ x.moment = open_early w m turn x (mine x j) (let n : u ≤ x.moment = next x j in omega arith) in
                let near : w.bus.delay ≤ w.bus.sg_short x.sender = close w x.sender known in
                omega arith;
            order = r.0;
            clear = r.1;
          }

    -- where nothing follows: either the horizon comes behind the last that is in sync, or no later than the next round
    last : (first : Entry) (m : ℕ) (spoken : ℕ → Bool) (before : List Entry) → Calming first m spoken before [] → Calm
    last first m spoken before s =
        let soon : m + w.bus.delay + unspoken span spoken w.bus.senders ≤ bound = s.soon in
        elim (dec_below (λ k. (spoken k ≡ false) × (w.c.horizon ≤ m + w.bus.delay + w.bus.tg_long k))
        (λ k. dec_both (dec_false (spoken k)) (dec_le w.c.horizon (m + w.bus.delay + w.bus.tg_long k))) w.bus.senders) [
          | inl p ↦
              let near : w.c.horizon ≤ m + w.bus.delay + w.bus.tg_long p.0 = p.2.1 in
              let within_horizon : w.c.horizon ≤ m + w.bus.delay + w.bus.sg_long 0 + w.bus.tg_long 0 = elim (cases_eq p.0 0) [
                | inl is ↦ (let e : w.bus.tg_long p.0 ≡ w.bus.tg_long 0 = ap w.bus.tg_long is in omega arith)
                | inr other ↦
                    let wait : w.bus.tg_long p.0 + 2 * w.bus.delay < w.bus.sg_short 0 = w.room.waiting p.0 0 p.1 w.room.some other in
                    let bounds : w.bus.sg_short 0 ≤ w.bus.sg_long 0 = (within w 0 w.room.some).1 in
                    omega arith
              ] in
              record {
                m = m;
                before = before;
                ys = [];
                parts = s.parts;
                ended = s.ended;
                soon = omega arith;
                once = s.once;
                later = λ x j. absurd j;
                order = λ k known left. within_horizon;
                clear = tt;
              }
          | inr none ↦
              let low : (k : ℕ) → k < w.bus.senders → spoken k ≡ false → m + w.bus.delay + w.bus.tg_long k < w.c.horizon + (m + 1) = λ k known silent.
              elim (cases_lt (m + w.bus.delay + w.bus.tg_long k) w.c.horizon) [
                | inl fine ↦ omega arith
                | inr bad ↦ absurd (none (k, known, (silent, bad)))
              ] in
              finish first m spoken before [] s (w.c.horizon + (m + 1)) (λ z j. absurd j) (omega arith) low (λ k known silent.
              elim (cases_lt (m + w.bus.delay + w.bus.tg_long k) w.c.horizon) [
                | inl fine ↦ fine
                | inr bad ↦ absurd (none (k, known, (silent, bad)))
              ])
        ]

    -- who is next was in sync before, or all wait
    record On (first : Entry) (m : ℕ) (spoken : ℕ → Bool) (before : List Entry) (y : Entry) (zs : List Entry) : Type 0 where
      n : ℕ
      next : Calming first n (mark spoken y.sender) (before ++ y ∷ []) zs

    module _ (first : Entry) (m : ℕ) (spoken : ℕ → Bool) (before : List Entry) (y : Entry) (zs : List Entry) (s : Calming first m spoken before (y ∷ zs)) where
      y_there : In y w.c.list
      y_there = mine first m spoken before (y ∷ zs) s y (inl refl)

      -- what is before y stands before it
      before_y : (x : Entry) → In x before → x.sender ≡ y.sender → x.moment < y.moment
      before_y x j same = elim (before_parts before (y ∷ zs) (subst IsAscending s.parts w.ok.ordered) x y j (inl refl)) [
        | inl less ↦ less
        | inr p ↦ absurd (p.1 same)
      ]

      y_new : (t : Started w y) → first.moment + w.bus.delay < t.sync → Calm
      y_new t new =
          let at : m + w.bus.sg_short y.sender ≤ t.sync = elim (s.anew y.sender t.sync t.known t.synced new) [
            | inl fine ↦ fine
            | inr p ↦
                let from : t.sync ≤ p.0.moment = p.3 in
                let sooner : p.0.moment < t.sync = t.none p.0 (mine_before first m spoken before (y ∷ zs) s p.0 p.1) p.2 (before_y p.0 p.1 p.2) in
                absurd (omega arith)
          ] in
          let behind : t.sync ≤ y.moment = t.behind in
          let horizon : y.moment < w.c.horizon = t.soon in
          let begun : w.up ≤ end_of first + w.bus.delay = s.begun in
          let done : end_of first ≤ m = s.low in
          let low : (k : ℕ) → k < w.bus.senders → spoken k ≡ false → m + w.bus.delay + w.bus.tg_long k < y.moment = λ k known silent.
          elim (cases_eq k y.sender) [
            | inr other ↦ (let wait : w.bus.tg_long k + 2 * w.bus.delay < w.bus.sg_short y.sender = w.room.waiting k y.sender known t.known other in omega arith)
            | inl same ↦
                let not : first.sender ≡ k → ⊥ = alone_not first m spoken before (y ∷ zs) s k known silent in
                let known_first : first.sender < w.bus.senders = first_known first m spoken before (y ∷ zs) s in
                let l : w.bus.delay < w.bus.sg_short y.sender = longer w first.sender y.sender known_first t.known (λ e. not (e ∙ sym same)) in
                let power : w.c.up y.sender ≤ w.up = powered y.sender t.known in
                let start : t.sync + w.bus.tg_short y.sender ≤ y.moment = t.before (inl (omega arith)) in
                let out : w.bus.tg_long y.sender + 2 * w.bus.delay < w.bus.sg_short y.sender + w.bus.tg_short y.sender =
                outwaits w first.sender y.sender known_first t.known (λ e. not (e ∙ sym same)) in
                let e : w.bus.tg_long k ≡ w.bus.tg_long y.sender = ap w.bus.tg_long same in
                omega arith
          ] in
          finish first m spoken before (y ∷ zs) s y.moment (first_least y zs s.ordered) (omega arith) low
          (λ k known silent. let l : m + w.bus.delay + w.bus.tg_long k < y.moment = low k known silent in omega arith)

      -- it hasn't spoken yet, and starts its terminal gap behind the others
      y_silent : (t : Started w y) → t.sync ≤ first.moment + w.bus.delay → spoken y.sender ≡ false
      y_silent t old = elim (cases_Bool (spoken y.sender)) [
        | inr fine ↦ fine
        | inl has ↦
            let p = s.spoke y.sender has in
            let x : Entry = p.0 in
            let from : first.moment ≤ x.moment = p.3 in
            let less : x.moment < y.moment = p.4 y (inl refl) refl in
            let sooner : x.moment < t.sync = t.none x p.1 p.2 less in
            let near : w.bus.delay ≤ w.bus.sg_short y.sender = close w y.sender t.known in
            let some : 0 < x.length = (started w x p.1).some in
            absurd (elim (sync_apart_own w y.sender t.sync x t.known p.1 p.2 t.synced) [
              | inl bad ↦ omega arith
              | inr behind ↦ omega arith
            ])
      ]

      y_soon : (t : Started w y) → t.sync ≤ first.moment + w.bus.delay → y.moment ≤ m + w.bus.delay + w.bus.tg_long y.sender
      y_soon t old = elim (cases_lt (m + w.bus.delay + w.bus.tg_long y.sender) y.moment) [
        | inr fine ↦ fine
        | inl far ↦
            let low : end_of first ≤ m = s.low in
            let begun : w.up ≤ end_of first + w.bus.delay = s.begun in
            let horizon : y.moment < w.c.horizon = t.soon in
            let h : HasEntry w.c.list y.sender (m + w.bus.delay + w.bus.tg_long y.sender) =
            start_must w y.sender t.sync (m + w.bus.delay) (m + w.bus.delay + w.bus.tg_long y.sender) t.known t.synced
            (λ x i own less. t.none x i own (omega arith)) (omega arith) (omega arith) (omega arith) (omega arith)
            (is_quiet (ears w) y.sender (m + w.bus.delay) (m + w.bus.delay + w.bus.tg_long y.sender) (omega arith) (λ x i. elim (each first m spoken before (y ∷ zs) s x i) [
              | inl done ↦ inr (omega arith)
              | inr j ↦ (let n : y.moment ≤ x.moment = first_least y zs s.ordered x j in inl (omega arith))
            ])) (have y.sender (m + w.bus.delay + w.bus.tg_long y.sender) t.known (omega arith))
            (idle_itself w itself y.sender t.sync (m + w.bus.delay + w.bus.tg_long y.sender) t.known t.synced (λ x i own less. t.none x i own (omega arith)) (omega arith)) in
            let at : h.entry.moment ≡ m + w.bus.delay + w.bus.tg_long y.sender = h.moment in
            let sooner : h.entry.moment < t.sync = t.none h.entry h.there h.sender (omega arith) in
            absurd (omega arith)
      ]

      y_old : (t : Started w y) → t.sync ≤ first.moment + w.bus.delay → On first m spoken before y zs
      y_old t old =
          let silent : spoken y.sender ≡ false = y_silent t old in
          let high : y.moment ≤ m + w.bus.delay + w.bus.tg_long y.sender = y_soon t old in
          let brief : y.length ≤ w.bus.longest y.sender = t.brief in
          let low : end_of first ≤ m = s.low in
          let soon : m + w.bus.delay + unspoken span spoken w.bus.senders ≤ bound = s.soon in
          let sum : unspoken span (mark spoken y.sender) w.bus.senders + span y.sender ≡ unspoken span spoken w.bus.senders =
          marked span spoken y.sender w.bus.senders t.known silent in
          let c = top m (end_of y) in
          let over : m ≤ c.0 = c.1 in
          let over_y : end_of y ≤ c.0 = c.2 in
          let from : first.moment ≤ y.moment = s.behind y (inl refl) in
          record {
            n = c.0;
            next = record {
              parts = s.parts ∙ moved before y zs;
              ended = λ x j. elim (in_push before y x j) [
                | inl old_x ↦ (let e : end_of x ≤ m = s.ended x old_x in omega arith)
                | inr same ↦ subst (λ (z : Entry). end_of z ≤ c.0) (sym same) over_y
              ];
              ordered = s.ordered.1;
              begun = s.begun;
              some = s.some;
              there = s.there;
              low = omega arith;
              first_of = s.first_of;
              behind = λ x j. s.behind x (inr j);
              anew = λ k e known sync new. elim (s.anew k e known sync new) [
                | inr p ↦ (let early : p.0.moment < m = p.4 in inr (p.0, in_left before (y ∷ []) p.0 p.1, p.2, p.3, omega arith))
                | inl one ↦ elim (cases_eq k y.sender) [
                  | inl same ↦ elim (sync_apart_own w k e y known y_there (sym same) sync) [
                    | inl since ↦
                        let some : 0 < y.length = t.some in
                        inr (y, in_right before (y ∷ []) y (inl refl), sym same, since, omega arith)
                    | inr two ↦ inl (elim c.3 [ inl is ↦ omega arith | inr is ↦ omega arith ])
                  ]
                  | inr other ↦
                      let wait : w.bus.tg_long y.sender + 2 * w.bus.delay < w.bus.sg_short k = w.room.waiting y.sender k t.known known (λ e. other (sym e)) in
                      let two : end_of y + w.bus.sg_short k ≤ e = elim (sync_apart w k e y known y_there sync) [
                        | inl near ↦ absurd (omega arith)
                        | inr behind ↦ behind
                      ] in
                      inl (elim c.3 [ inl is ↦ omega arith | inr is ↦ omega arith ])
                ]
              ];
              once = λ x z i j same late less. elim (in_push before y z j) [
                | inl old_z ↦ elim (in_push before y x i) [
                  | inl old_x ↦ s.once x z old_x old_z same late less
                  | inr is ↦
                      let after : z.moment < y.moment = before_y z old_z (sym same ∙ ap (λ (v : Entry). v.sender) is) in
                      let at : x.moment ≡ y.moment = ap (λ (v : Entry). v.moment) is in
                      omega arith
                ]
                | inr is_z ↦ elim (in_push before y x i) [
                  | inr is ↦
                      let at : x.moment ≡ y.moment = ap (λ (v : Entry). v.moment) is in
                      let at_z : z.moment ≡ y.moment = ap (λ (v : Entry). v.moment) is_z in
                      omega arith
                  | inl old_x ↦
                      let x_there : In x w.c.list = mine_before first m spoken before (y ∷ zs) s x old_x in
                      let mine_x : x.sender ≡ y.sender = same ∙ ap (λ (v : Entry). v.sender) is_z in
                      let at_z : z.moment ≡ y.moment = ap (λ (v : Entry). v.moment) is_z in
                      let some_x : 0 < x.length = (started w x x_there).some in
                      let on : first.moment ≤ x.moment = s.first_of x x_there (omega arith) in
                      let sooner : x.moment < t.sync = t.none x x_there mine_x (omega arith) in
                      let near : w.bus.delay ≤ w.bus.sg_short y.sender = close w y.sender t.known in
                      elim (sync_apart_own w y.sender t.sync x t.known x_there mine_x t.synced) [
                        | inl bad ↦ omega arith
                        | inr behind ↦ omega arith
                      ]
                ]
              ];
              opened = elim (cases_eq first.sender y.sender) [
                | inl same ↦ subst (λ i. mark spoken y.sender i ≡ true) (sym same) (mark_self spoken y.sender)
                | inr other ↦ mark_other spoken y.sender first.sender other ∙ s.opened
              ];
              spoke = λ k is. elim (cases_eq k y.sender) [
                | inl same ↦ (y, y_there, sym same, from, λ z j own. own_least y zs s.ordered z j (own ∙ same))
                | inr other ↦
                    let p = s.spoke k (sym (mark_other spoken y.sender k other) ∙ is) in
                    (p.0, p.1, p.2, p.3, λ z j own. p.4 z (inr j) own)
              ];
              soon = elim c.3 [ inl is ↦ omega arith | inr is ↦ omega arith ];
            };
          }

    calm_on : (ys : List Entry) (first : Entry) (m : ℕ) (spoken : ℕ → Bool) (before : List Entry) → Calming first m spoken before ys → Calm
    calm_on [] first m spoken before s = last first m spoken before s
    calm_on (y ∷ zs) first m spoken before s =
        let t : Started w y = started w y (y_there first m spoken before y zs s) in
        elim (cases_lt (first.moment + w.bus.delay) t.sync) [
          | inl new ↦ y_new first m spoken before y zs s t new
          | inr old ↦
              let n : On first m spoken before y zs = y_old first m spoken before y zs s t old in
              calm_on zs first n.n (mark spoken y.sender) (before ++ y ∷ []) n.next
        ]

    -- ---- the first that somebody may have heard from moment `up` on

    module _ (pre ys : List Entry) (parts : w.c.list ≡ pre ++ ys) (ended : (x : Entry) → In x pre → end_of x + w.bus.delay < w.up) (u : ℕ) (next : (x : Entry) → In x ys → u ≤ x.moment) where
      part : (x : Entry) → In x w.c.list → (end_of x + w.bus.delay < w.up) ⊎ (u ≤ x.moment)
      part x i = elim (in_cases pre ys x (subst (In x) parts i)) [ inl j ↦ inl (ended x j) | inr j ↦ inr (next x j) ]

      silence : (k b : ℕ) → b ≤ u → IsQuiet w.c k w.up b
      silence k b low = is_quiet (ears w) k w.up b (omega arith) (λ x i. elim (part x i) [
        | inl before ↦ inr (omega arith)
        | inr on ↦ inl (omega arith)
      ])

      no_silence : (k : ℕ) → k < w.bus.senders → w.up + w.bus.sg_long k + w.bus.tg_long k < u
          → w.up + w.bus.sg_long k + w.bus.tg_long k < w.c.horizon → ⊥
      no_silence k known far soon =
          let power : w.c.up k ≤ w.up = powered k known in
          let s : Synced (ears w) k (w.up + w.bus.sg_long k) (w.up + w.bus.sg_long k) =
          sync_must (ears w) k w.up (w.up + w.bus.sg_long k) known (omega arith) (omega arith)
          (silence k (w.up + w.bus.sg_long k) (omega arith)) in
          let h : HasEntry w.c.list k (w.up + w.bus.sg_long k + w.bus.tg_long k) =
          start_must w k s.at (w.up + w.bus.sg_long k) (w.up + w.bus.sg_long k + w.bus.tg_long k) known s.sync
          (λ x i mine less. elim (part x i) [
            | inl before ↦ s.none x i mine (omega arith)
            | inr on ↦ absurd (omega arith)
          ]) s.by (omega arith) soon (omega arith)
          (λ t p q. silence k (w.up + w.bus.sg_long k + w.bus.tg_long k) (omega arith) t (omega arith) q)
          (have k (w.up + w.bus.sg_long k + w.bus.tg_long k) known soon)
          (let by : s.at ≤ w.up + w.bus.sg_long k = s.by in idle_itself w itself k s.at (w.up + w.bus.sg_long k + w.bus.tg_long k) known s.sync
          (λ x i mine less. elim (part x i) [
            | inl before ↦ s.none x i mine (omega arith)
            | inr on ↦ absurd (omega arith)
          ]) (omega arith)) in
          let at : h.entry.moment ≡ w.up + w.bus.sg_long k + w.bus.tg_long k = h.moment in
          elim (part h.entry h.there) [ inl before ↦ omega arith | inr on ↦ omega arith ]

    begun : (pre : List Entry) (y : Entry) (zs : List Entry) → w.c.list ≡ pre ++ y ∷ zs → IsAscending (y ∷ zs) → ((x : Entry) → In x pre → end_of x + w.bus.delay < w.up) → w.up ≤ end_of y + w.bus.delay
        → Calming y (end_of y) (mark (λ _. false) y.sender) (pre ++ y ∷ []) zs
    begun pre y zs parts ordered ended over =
        let i : In y w.c.list = subst (In y) (sym parts) (in_right pre (y ∷ zs) y (inl refl)) in
        let t : Started w y = started w y i in
        let least : (x : Entry) → In x (y ∷ zs) → y.moment ≤ x.moment = first_least y zs ordered in
        record {
          parts = parts ∙ moved pre y zs;
          ended = λ x j. elim (in_push pre y x j) [
            | inl old ↦ (let e : end_of x + w.bus.delay < w.up = ended x old in omega arith)
            | inr same ↦ subst (λ (z : Entry). end_of z ≤ end_of y) (sym same) (let e : end_of y ≤ end_of y = omega arith in e)
          ];
          ordered = ordered.1;
          begun = over;
          some = t.some;
          there = i;
          low = omega arith;
          first_of = λ x j from. elim (in_cases pre (y ∷ zs) x (subst (In x) parts j)) [
            | inl old ↦ (let e : end_of x + w.bus.delay < w.up = ended x old in absurd (omega arith))
            | inr on ↦ least x on
          ];
          behind = λ x j. least x (inr j);
          anew = λ k e known sync new. elim (sync_apart w k e y known i sync) [
            | inl bad ↦ absurd (omega arith)
            | inr fine ↦ inl fine
          ];
          once = λ x z j k same late less. elim (in_push pre y x j) [
            | inl old ↦ (let e : end_of x + w.bus.delay < w.up = ended x old in omega arith)
            | inr is ↦ elim (in_push pre y z k) [
              | inl old ↦
                  let e : end_of z + w.bus.delay < w.up = ended z old in
                  let at : x.moment ≡ y.moment = ap (λ (v : Entry). v.moment) is in
                  omega arith
              | inr is_z ↦
                  let at : x.moment ≡ y.moment = ap (λ (v : Entry). v.moment) is in
                  let at_z : z.moment ≡ y.moment = ap (λ (v : Entry). v.moment) is_z in
                  omega arith
            ]
          ];
          opened = mark_self (λ _. false) y.sender;
          spoke = λ k is. elim (cases_eq k y.sender) [
            | inl same ↦ (y, i, sym same, (let e : y.moment ≤ y.moment = omega arith in e), λ z j own. own_least y zs ordered z j (own ∙ same))
            | inr other ↦ absurd (true≢false (sym is ∙ mark_other (λ _. false) y.sender k other))
          ];
          soon =
              let high : y.moment ≤ w.up + w.bus.sg_long y.sender + w.bus.tg_long y.sender = elim (cases_lt (w.up + w.bus.sg_long y.sender + w.bus.tg_long y.sender) y.moment) [
                | inr fine ↦ fine
                | inl far ↦ absurd (no_silence pre (y ∷ zs) parts ended y.moment least y.sender t.known far (let soon : y.moment < w.c.horizon = t.soon in omega arith))
              ] in
              let brief : y.length ≤ w.bus.longest y.sender = t.brief in
              let great : w.bus.sg_long y.sender ≤ sg = greatest y.sender t.known in
              let sum : unspoken span (mark (λ _. false) y.sender) w.bus.senders + span y.sender ≡ unspoken span (λ _. false) w.bus.senders =
              marked span (λ _. false) y.sender w.bus.senders t.known refl in
              let all : unspoken span (λ _. false) w.bus.senders ≡ sum_below span w.bus.senders = none_spoken span w.bus.senders in
              omega arith;
        }

    seek : (ys pre : List Entry) → w.c.list ≡ pre ++ ys → IsAscending ys → ((x : Entry) → In x pre → end_of x + w.bus.delay < w.up) → Calm
    seek [] pre parts ordered ended =
        let some : 0 < w.bus.senders = w.room.some in
        let great : w.bus.sg_long 0 ≤ sg = greatest 0 some in
        let horizon : w.c.horizon ≤ w.up + w.bus.sg_long 0 + w.bus.tg_long 0 = elim (cases_lt (w.up + w.bus.sg_long 0 + w.bus.tg_long 0) w.c.horizon) [
          | inr fine ↦ fine
          | inl soon ↦ absurd (no_silence pre [] parts ended (suc (w.up + w.bus.sg_long 0 + w.bus.tg_long 0)) (λ x j. absurd j) 0 some (omega arith) soon)
        ] in
        let spoken : w.bus.delay + w.bus.tg_long 0 + w.bus.longest 0 ≤ most_spoken w.bus = sum_at span 0 w.bus.senders some in
        record {
          m = w.up - w.bus.delay;
          before = pre;
          ys = [];
          parts = parts;
          ended = λ x j. (let e : end_of x + w.bus.delay < w.up = ended x j in omega arith);
          soon = omega arith;
          once = λ x y i j same late less. (let e : end_of x + w.bus.delay < w.up = ended x i in omega arith);
          later = λ x j. absurd j;
          order = λ k known left. (let goal : w.c.horizon ≤ w.up - w.bus.delay + w.bus.delay + w.bus.sg_long 0 + w.bus.tg_long 0 = omega arith in goal);
          clear = tt;
        }
    seek (y ∷ zs) pre parts ordered ended = elim (cases_lt (end_of y + w.bus.delay) w.up) [
      | inl before ↦ seek zs (pre ++ y ∷ []) (parts ∙ moved pre y zs) ordered.1 (λ x j. elim (in_push pre y x j) [
        | inl old ↦ ended x old
        | inr same ↦ subst (λ (z : Entry). end_of z + w.bus.delay < w.up) (sym same) before
      ])
      | inr over ↦ calm_on zs y (end_of y) (mark (λ _. false) y.sender) (pre ++ y ∷ []) (begun pre y zs parts ordered ended over)
    ]

    pub calm : Calm
    calm = seek w.c.list [] refl w.ok.ordered (λ x j. absurd j)
