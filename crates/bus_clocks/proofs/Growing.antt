-- Rounds that grow: as `Rounds`, where only those in the round are in sync, and all others wait, those too that aren't powered up yet.
use Rattle.std.proofs.Common.{◌≡◌, ℕ, suc, ◌+◌, ◌*◌, ◌<◌, ◌≤◌, ◌⊎◌, Bool, true, false, List, [], ◌∷◌, inl, inr, arith, sym, refl, ap, subst}
use Rattle.std.proofs.lemmas.Bool.{cases_lt, cases_eq, cases_Bool, true≢false}
use Rattle.bus_clocks.specs.Entries.{AreClear, Entry, In, end_of}
use Rattle.bus_clocks.specs.Courses.{Course, HasEntry, HaveLeft, IsCourse, IsQuiet, SyncAt}
use Rattle.bus_clocks.specs.Buses.{Bus}
use Rattle.bus_clocks.specs.Room.{LeavesRoom, StartsItself}
use Rattle.bus_clocks.specs.Growing.{InGrowing, IsJoined, IsNext, IsOver, Joins}
use Rattle.bus_clocks.proofs.Timers.{begins_up, Synced, sync_must, is_quiet}
use Rattle.bus_clocks.proofs.Worlds.{World, Started, started, start_must, sync_apart, sync_apart_own, ears, idle_itself, close, heard_out}
use Rattle.bus_clocks.proofs.Turns.{first_least, own_least, Left, IsRest, Waits, weaker}
use Rattle.bus_clocks.proofs.Deciding.{find_next, test, test_false, test_true, tested}
use Rattle.bus_clocks.proofs.Calming.{find_own}
use Rattle.bus_clocks.proofs.Existence.{Dec, dec_both, dec_below, dec_sync, dec_none, None}

module _ (w : World) (itself : StartsItself w.bus) (have : HaveLeft w.bus w.c) (tg_low : (k a : ℕ) → k < w.bus.senders → w.bus.tg_short k ≤ w.c.tg k a) (sg_low : (k a : ℕ) → k < w.bus.senders → w.bus.sg_short k ≤ w.c.sg k a) where
  sync_fresh : (k e : ℕ) → k < w.bus.senders → SyncAt w.c k e → w.c.up k + w.bus.sg_short k ≤ e
  sync_fresh k e known s =
      let is : s.from + w.c.sg k s.from ≡ e = s.elapsed in
      let up : w.c.up k ≤ s.from = begins_up (ears w) k s.from s.begins in
      let low : w.bus.sg_short k ≤ w.c.sg k s.from = sg_low k s.from known in
      omega arith

  start_behind : (x : Entry) (i : In x w.c.list) → (started w x i).sync + w.bus.tg_short x.sender ≤ x.moment
  start_behind x i =
      let s : Started w x = started w x i in
      s.before (inr (λ a. tg_low x.sender a s.known))

  -- at moment v those of the round from a on are in sync, and all others wait
  pub record Turn (v a : ℕ) (p : ℕ → Bool) : Type 0 where
    pub rest : IsRest w v
    pub early : (x : Entry) → In x w.c.list → v ≤ x.moment → a ≤ x.sender → p x.sender ≡ true → v + w.bus.tg_short x.sender ≤ x.moment
    pub synced : (k : ℕ) → a ≤ k → k < w.bus.senders → p k ≡ true → Synced (ears w) k (v + w.bus.delay) v
    pub waits : (k : ℕ) → k < w.bus.senders → (k < a) ⊎ (p k ≡ false) → Waits w k v (v + w.bus.sg_short k)
    pub since : w.up ≤ v + w.bus.delay
    pub first : w.c.up 0 ≤ v + w.bus.delay
    pub kept : (k : ℕ) → 0 < k → k < w.bus.senders → p k ≡ true → w.c.up k ≤ v + w.bus.delay

  -- where a sender's synchronization gap is waited for, so is its start
  waited : (v u : ℕ) (x : Entry) → In x w.c.list → v ≤ x.moment → Waits w x.sender v u → u + w.bus.tg_short x.sender ≤ x.moment
  waited v u x i from waits =
      let s : Started w x = started w x i in
      let before : s.sync + w.bus.tg_short x.sender ≤ x.moment = start_behind x i in
      elim (waits s.sync s.synced) [
        | inl q ↦
            let y : Entry = q.0 in
            let low : s.sync ≤ y.moment = q.3 in
            let high : y.moment < v = q.4 in
            let less : y.moment < s.sync = s.none y q.1 q.2 (omega arith) in
            absurd (omega arith)
        | inr late ↦ omega arith
      ]

  -- ---- behind the next transmission
  record Step (v : ℕ) (p : ℕ → Bool) (y : Entry) (ys : List Entry) : Type 0 where
    left : Left w v (y ∷ ys)
    rest : IsRest w v
    ahead : (z : Entry) → In z ys → y.sender < z.sender → p z.sender ≡ true → y.moment + w.bus.delay < z.moment
    synced : (k : ℕ) → y.sender < k → k < w.bus.senders → p k ≡ true → Synced (ears w) k (end_of y + w.bus.delay) v
    waits : (k : ℕ) → k < w.bus.senders → (k < y.sender) ⊎ ((y.sender < k) × (p k ≡ false)) → Waits w k v (y.moment + w.bus.delay + 1)
    since : w.up ≤ v + w.bus.delay
    first : w.c.up 0 ≤ v + w.bus.delay
    kept : (k : ℕ) → 0 < k → k < w.bus.senders → p k ≡ true → w.c.up k ≤ end_of y + w.bus.delay

  module _ (v : ℕ) (p : ℕ → Bool) (y : Entry) (ys : List Entry) (s : Step v p y ys) where
    y_there : In y w.c.list
    y_there = s.left.there y (inl refl)

    y_from : v ≤ y.moment
    y_from = s.left.later y (inl refl)

    waits_then : (k : ℕ) → k < w.bus.senders → (k < suc y.sender) ⊎ (p k ≡ false) → Waits w k (end_of y) (end_of y + w.bus.sg_short k)
    waits_then k known out e sync =
        let from : v ≤ y.moment = y_from in
        let some : 0 < y.length = (started w y y_there).some in
        elim (cases_eq k y.sender) [
          | inl same ↦ elim (sync_apart_own w k e y known y_there (sym same) sync) [
            | inl before ↦ inl (y, y_there, sym same, before, omega arith)
            | inr behind ↦ inr behind
          ]
          | inr other ↦
              let o : (k < y.sender) ⊎ ((y.sender < k) × (p k ≡ false)) = elim (cases_lt k y.sender) [
                | inl less ↦ inl less
                | inr more ↦ elim out [ inl bad ↦ absurd (omega arith) | inr isnt ↦ inr (omega arith, isnt) ]
              ] in
              elim (s.waits k known o e sync) [
                | inl q ↦ (let high : q.0.moment < v = q.4 in inl (q.0, q.1, q.2, q.3, omega arith))
                | inr late ↦ elim (sync_apart w k e y known y_there sync) [
                  | inl before ↦ absurd (omega arith)
                  | inr behind ↦ inr behind
                ]
              ]
        ]

    early_then : (z : Entry) → In z ys → y.sender < z.sender → p z.sender ≡ true → end_of y + w.bus.tg_short z.sender ≤ z.moment
    early_then z j more is = elim ((started w z (s.left.there z (inr j))).apart y y_there (omega arith)) [
      | inl near ↦ (let far : y.moment + w.bus.delay < z.moment = s.ahead z j more is in absurd (omega arith))
      | inr behind ↦ behind
    ]

    waited_then : (z : Entry) → In z ys → (z.sender < suc y.sender) ⊎ (p z.sender ≡ false) → end_of y + w.bus.sg_short z.sender + w.bus.tg_short z.sender ≤ z.moment
    waited_then z j out =
        let i : In z w.c.list = s.left.there z (inr j) in
        let t : Started w z = started w z i in
        let before : t.sync + w.bus.tg_short z.sender ≤ z.moment = start_behind z i in
        let behind_sync : t.sync ≤ z.moment = t.behind in
        let from : v ≤ y.moment = y_from in
        let later : y.moment ≤ z.moment = first_least y ys s.left.ordered z (inr j) in
        elim (waits_then z.sender t.known out t.sync t.synced) [
          | inl q ↦
              let x : Entry = q.0 in
              let low : t.sync ≤ x.moment = q.3 in
              let high : x.moment < end_of y = q.4 in
              elim (cases_lt x.moment z.moment) [
                | inl less ↦ (let bad : x.moment < t.sync = t.none x q.1 q.2 less in absurd (omega arith))
                | inr on ↦
                    -- then z begins within y: it isn't y's sender, which would start before
                    elim (cases_eq z.sender y.sender) [
                      | inl same ↦
                          let after : y.moment < z.moment = own_least y ys s.left.ordered z j same in
                          let sooner : y.moment < t.sync = t.none y y_there (sym same) after in
                          elim (sync_apart_own w z.sender t.sync y t.known y_there (sym same) t.synced) [
                            | inl bad ↦ absurd (omega arith)
                            | inr far ↦ omega arith
                          ]
                      | inr other ↦
                          let o : (z.sender < y.sender) ⊎ ((y.sender < z.sender) × (p z.sender ≡ false)) = elim (cases_lt z.sender y.sender) [
                            | inl less ↦ inl less
                            | inr more ↦ elim out [ inl bad ↦ absurd (omega arith) | inr isnt ↦ inr (omega arith, isnt) ]
                          ] in
                          elim (s.waits z.sender t.known o t.sync t.synced) [
                            | inl r ↦
                                let x2 : Entry = r.0 in
                                let low2 : t.sync ≤ x2.moment = r.3 in
                                let high2 : x2.moment < v = r.4 in
                                let bad : x2.moment < t.sync = t.none x2 r.1 r.2 (omega arith) in
                                absurd (omega arith)
                            | inr late ↦ elim (sync_apart w z.sender t.sync y t.known y_there t.synced) [
                              | inl bad ↦ absurd (omega arith)
                              | inr far ↦ omega arith
                            ]
                          ]
                    ]
              ]
          | inr late ↦ omega arith
        ]

    behind_then : (z : Entry) → In z ys → end_of y + w.bus.delay ≤ z.moment
    behind_then z j =
        let known : z.sender < w.bus.senders = (started w z (s.left.there z (inr j))).known in
        let long : w.bus.delay ≤ w.bus.sg_short z.sender = close w z.sender known in
        elim (cases_lt y.sender z.sender) [
          | inr less ↦ (let far : end_of y + w.bus.sg_short z.sender + w.bus.tg_short z.sender ≤ z.moment = waited_then z j (inl (omega arith)) in omega arith)
          | inl more ↦ elim (cases_Bool (p z.sender)) [
            | inr isnt ↦ (let far : end_of y + w.bus.sg_short z.sender + w.bus.tg_short z.sender ≤ z.moment = waited_then z j (inr isnt) in omega arith)
            | inl is ↦
                let heard : w.bus.delay ≤ w.bus.tg_short z.sender = heard_out w z.sender (omega arith) known in
                let far : end_of y + w.bus.tg_short z.sender ≤ z.moment = early_then z j more is in
                omega arith
          ]
        ]

    left_then : Left w (end_of y) ys
    left_then = record {
      all = λ x i low. elim (s.left.all x i (let from : v ≤ y.moment = y_from in omega arith)) [
        | inl same ↦
            let some : 0 < y.length = (started w y y_there).some in
            let bad : end_of y ≤ y.moment = subst (λ (z : Entry). end_of y ≤ z.moment) same low in
            absurd (omega arith)
        | inr j ↦ j
      ];
      there = λ x j. s.left.there x (inr j);
      later = λ x j. (let far : end_of y + w.bus.delay ≤ x.moment = behind_then x j in omega arith);
      ordered = s.left.ordered.1;
    }

    turn_then : Turn (end_of y) (suc y.sender) p
    turn_then =
        let from : v ≤ y.moment = y_from in
        record {
          rest = λ x i less. elim (cases_lt x.moment v) [
            | inl before ↦ (let e : end_of x ≤ v = s.rest x i before in omega arith)
            | inr on ↦ elim (s.left.all x i on) [
              | inl same ↦ subst (λ (z : Entry). end_of z ≤ end_of y) (sym same) (let e : end_of y ≤ end_of y = omega arith in e)
              | inr j ↦ (let far : end_of y + w.bus.delay ≤ x.moment = behind_then x j in absurd (omega arith))
            ]
          ];
          early = λ x i low more is. early_then x (left_then.all x i low) more is;
          synced = λ k low high is.
              let t : Synced (ears w) k (end_of y + w.bus.delay) v = s.synced k low high is in
              record {
                at = t.at;
                by = t.by;
                sync = t.sync;
                none = λ x i mine less. elim (cases_lt x.moment v) [
                  | inl before ↦ t.none x i mine before
                  | inr on ↦ elim (s.left.all x i on) [
                    | inl same ↦ (let e : x.sender ≡ y.sender = ap (λ (z : Entry). z.sender) same in absurd (omega arith))
                    | inr j ↦ (let far : end_of y + w.bus.delay ≤ x.moment = behind_then x j in absurd (omega arith))
                  ]
                ];
              };
          waits = waits_then;
          since = (let since : w.up ≤ v + w.bus.delay = s.since in omega arith);
          first = (let first : w.c.up 0 ≤ v + w.bus.delay = s.first in omega arith);
          kept = s.kept;
        }

  -- ---- inside a round: sender k is next
  module _ (v a : ℕ) (p : ℕ → Bool) (more : 0 < a) (so : Turn v a p) (k : ℕ) (next_k : IsNext w.bus.senders p a k) where
    no_later : (u : ℕ) → ((x : Entry) → In x w.c.list → v ≤ x.moment → u ≤ x.moment) → v + w.bus.delay + w.bus.tg_long k < u
        → v + w.bus.delay + w.bus.tg_long k < w.c.horizon → ⊥
    no_later u next far soon =
        let s : Synced (ears w) k (v + w.bus.delay) v = so.synced k next_k.low next_k.known next_k.there in
        let since : w.up ≤ v + w.bus.delay = so.since in
        let h : HasEntry w.c.list k (v + w.bus.delay + w.bus.tg_long k) =
        start_must w k s.at (v + w.bus.delay) (v + w.bus.delay + w.bus.tg_long k) next_k.known s.sync
        (λ x i mine less. elim (cases_lt x.moment v) [
          | inl before ↦ s.none x i mine before
          | inr on ↦ (let n : u ≤ x.moment = next x i on in absurd (omega arith))
        ]) s.by (omega arith) soon (omega arith)
        (is_quiet (ears w) k (v + w.bus.delay) (v + w.bus.delay + w.bus.tg_long k) so.since (λ x i. elim (cases_lt x.moment v) [
          | inl before ↦ (let e : end_of x ≤ v = so.rest x i before in inr (omega arith))
          | inr on ↦ (let n : u ≤ x.moment = next x i on in inl (omega arith))
        ])) (have k (v + w.bus.delay + w.bus.tg_long k) next_k.known soon)
        (let by : s.at ≤ v + w.bus.delay = s.by in idle_itself w itself k s.at (v + w.bus.delay + w.bus.tg_long k) next_k.known s.sync
        (λ x i mine less. elim (cases_lt x.moment v) [
          | inl before ↦ s.none x i mine before
          | inr on ↦ (let n : u ≤ x.moment = next x i on in absurd (omega arith))
        ]) (omega arith)) in
        let at : h.entry.moment ≡ v + w.bus.delay + w.bus.tg_long k = h.moment in
        let n : u ≤ h.entry.moment = next h.entry h.there (omega arith) in
        omega arith

    record Next (y : Entry) (ys : List Entry) : Type 0 where
      mine : y.sender ≡ k
      low : v + w.bus.tg_short y.sender ≤ y.moment
      high : y.moment ≤ v + w.bus.delay + w.bus.tg_long y.sender
      step : Step v p y ys

    -- who isn't in the round or has spoken waits
    not_yet : (j : ℕ) → j < w.bus.senders → (j < k) ⊎ ((k < j) × (p j ≡ false)) → Waits w j v (v + w.bus.sg_short j)
    not_yet j known out = so.waits j known (elim (cases_lt j a) [
      | inl less ↦ inl less
      | inr on ↦ elim out [
        | inl before ↦ inr (next_k.none j on before)
        | inr q ↦ inr q.1
      ]
    ])

    next_is : (y : Entry) (ys : List Entry) → Left w v (y ∷ ys) → Next y ys
    next_is y ys left =
        let i : In y w.c.list = left.there y (inl refl) in
        let s : Started w y = started w y i in
        let from : v ≤ y.moment = left.later y (inl refl) in
        let kn : y.sender < w.bus.senders = s.known in
        let k_known : k < w.bus.senders = next_k.known in
        let k_low : a ≤ k = next_k.low in
        let soon : y.moment < w.c.horizon = s.soon in
        let high : y.moment ≤ v + w.bus.delay + w.bus.tg_long k = elim (cases_lt (v + w.bus.delay + w.bus.tg_long k) y.moment) [
          | inr fine ↦ fine
          | inl far ↦ absurd (no_later y.moment (λ x j on. first_least y ys left.ordered x (left.all x j on)) far (omega arith))
        ] in
        let not : (y.sender < k) ⊎ ((k < y.sender) × (p y.sender ≡ false)) → ⊥ = λ out.
        (let other : k ≡ y.sender → ⊥ = λ e. elim out [ inl less ↦ omega arith | inr q ↦ (let l : k < y.sender = q.0 in omega arith) ] in
        let wait : w.bus.tg_long k + 2 * w.bus.delay < w.bus.sg_short y.sender = w.room.waiting k y.sender k_known kn other in
        let far : v + w.bus.sg_short y.sender + w.bus.tg_short y.sender ≤ y.moment = waited v (v + w.bus.sg_short y.sender) y i from (not_yet y.sender kn out) in omega arith) in
        let mine : y.sender ≡ k = elim (cases_lt y.sender k) [
          | inl less ↦ absurd (not (inl less))
          | inr same ↦ elim (cases_lt k y.sender) [
            | inr none ↦ omega arith
            | inl other ↦ elim (cases_Bool (p y.sender)) [
              | inr isnt ↦ absurd (not (inr (other, isnt)))
              | inl is ↦
                  let turns : w.bus.tg_long k + 2 * w.bus.delay < w.bus.tg_short y.sender = w.room.turns k y.sender (omega arith) other kn in
                  let far : v + w.bus.tg_short y.sender ≤ y.moment = so.early y i from (omega arith) is in
                  absurd (omega arith)
            ]
          ]
        ] in
        record {
          mine = mine;
          low = so.early y i from (omega arith) (subst (λ j. p j ≡ true) (sym mine) next_k.there);
          high = subst (λ j. y.moment ≤ v + w.bus.delay + w.bus.tg_long j) (sym mine) high;
          step = record {
            left = left;
            rest = so.rest;
            ahead = λ z j less is.
                let zk : z.sender < w.bus.senders = (started w z (left.there z (inr j))).known in
                let turns : w.bus.tg_long k + 2 * w.bus.delay < w.bus.tg_short z.sender = w.room.turns k z.sender (omega arith) (omega arith) zk in
                let far : v + w.bus.tg_short z.sender ≤ z.moment = so.early z (left.there z (inr j)) (left.later z (inr j)) (omega arith) is in
                omega arith;
            synced = λ j low less is. weaker w j (v + w.bus.delay) v (end_of y + w.bus.delay) v (so.synced j (omega arith) less is) (omega arith) (omega arith);
            waits = λ j known out e sync. elim (not_yet j known (elim out [ inl less ↦ inl (omega arith) | inr q ↦ (let l : y.sender < j = q.0 in inr (omega arith, q.1)) ]) e sync) [
              | inl q ↦ inl q
              | inr late ↦
                  let other : k ≡ j → ⊥ = λ e. elim out [ inl less ↦ omega arith | inr q ↦ (let l : y.sender < j = q.0 in omega arith) ] in
                  let wait_j : w.bus.tg_long k + 2 * w.bus.delay < w.bus.sg_short j = w.room.waiting k j k_known known other in
                  inr (omega arith)
            ];
            since = so.since;
            first = so.first;
            kept = λ j some known is. (let up : w.c.up j ≤ v + w.bus.delay = so.kept j some known is in omega arith);
          };
        }

  -- ---- at the beginning of a round: all wait
  module _ (v a : ℕ) (p : ℕ → Bool) (so : Turn v a p) (over : IsOver w.bus.senders p a) where
    some : 0 < w.bus.senders
    some = w.room.some

    all_wait : (k : ℕ) → k < w.bus.senders → Waits w k v (v + w.bus.sg_short k)
    all_wait k known = so.waits k known (elim (cases_lt k a) [ inl less ↦ inl less | inr on ↦ inr (over k on known) ])

    open_early : (x : Entry) → In x w.c.list → v ≤ x.moment → v + w.bus.sg_short x.sender + w.bus.tg_short x.sender ≤ x.moment
    open_early x i from = waited v (v + w.bus.sg_short x.sender) x i from (all_wait x.sender (started w x i).known)

    open_quiet : (k u b : ℕ) → ((x : Entry) → In x w.c.list → v ≤ x.moment → u ≤ x.moment) → b ≤ u → IsQuiet w.c k (v + w.bus.delay) b
    open_quiet k u b next low = is_quiet (ears w) k (v + w.bus.delay) b so.since (λ x i. elim (cases_lt x.moment v) [
      | inl before ↦ (let e : end_of x ≤ v = so.rest x i before in inr (omega arith))
      | inr on ↦ (let n : u ≤ x.moment = next x i on in inl (omega arith))
    ])

    -- from moment m on, where it was powered up and heard the end before, a sender hears a synchronization gap
    open_synced : (k u m : ℕ) → k < w.bus.senders → w.c.up k ≤ m → v + w.bus.delay ≤ m → ((x : Entry) → In x w.c.list → v ≤ x.moment → u ≤ x.moment) → m + w.bus.sg_long k ≤ u
        → Synced (ears w) k (m + w.bus.sg_long k) (m + w.bus.sg_long k)
    open_synced k u m known up high next low =
        sync_must (ears w) k m (m + w.bus.sg_long k) known up (omega arith) (λ t q r. open_quiet k u (m + w.bus.sg_long k) next low t (omega arith) r)

    open_no_later : (u : ℕ) → ((x : Entry) → In x w.c.list → v ≤ x.moment → u ≤ x.moment) → v + w.bus.delay + w.bus.sg_long 0 + w.bus.tg_long 0 < u
        → v + w.bus.delay + w.bus.sg_long 0 + w.bus.tg_long 0 < w.c.horizon → ⊥
    open_no_later u next far soon =
        let s : Synced (ears w) 0 (v + w.bus.delay + w.bus.sg_long 0) (v + w.bus.delay + w.bus.sg_long 0) = open_synced 0 u (v + w.bus.delay) some so.first (omega arith) next (omega arith) in
        let since : w.up ≤ v + w.bus.delay = so.since in
        let h : HasEntry w.c.list 0 (v + w.bus.delay + w.bus.sg_long 0 + w.bus.tg_long 0) =
        start_must w 0 s.at (v + w.bus.delay + w.bus.sg_long 0) (v + w.bus.delay + w.bus.sg_long 0 + w.bus.tg_long 0) some s.sync
        (λ x i mine less. elim (cases_lt x.moment v) [
          | inl before ↦ s.none x i mine (omega arith)
          | inr on ↦ (let n : u ≤ x.moment = next x i on in absurd (omega arith))
        ]) s.by (omega arith) soon (omega arith)
        (λ t q r. open_quiet 0 u (v + w.bus.delay + w.bus.sg_long 0 + w.bus.tg_long 0) next (omega arith) t (omega arith) r)
        (have 0 (v + w.bus.delay + w.bus.sg_long 0 + w.bus.tg_long 0) some soon)
        (let by : s.at ≤ v + w.bus.delay + w.bus.sg_long 0 = s.by in idle_itself w itself 0 s.at (v + w.bus.delay + w.bus.sg_long 0 + w.bus.tg_long 0) some s.sync
        (λ x i mine less. elim (cases_lt x.moment v) [
          | inl before ↦ s.none x i mine (omega arith)
          | inr on ↦ (let n : u ≤ x.moment = next x i on in absurd (omega arith))
        ]) (omega arith)) in
        let at : h.entry.moment ≡ v + w.bus.delay + w.bus.sg_long 0 + w.bus.tg_long 0 = h.moment in
        let n : u ≤ h.entry.moment = next h.entry h.there (omega arith) in
        omega arith

    -- who is in sync when it hears the opening
    Ready : Entry → ℕ → Type 0
    Ready y k = (e : ℕ) × (e < suc (y.moment + w.bus.delay)) × (SyncAt w.c k e × None w.c k v e)

    ready : (y : Entry) (k : ℕ) → Dec ((e : ℕ) × (e < suc (y.moment + w.bus.delay)) × (SyncAt w.c k e × None w.c k v e))
    ready y k = dec_below (λ e. SyncAt w.c k e × None w.c k v e) (λ e. dec_both (dec_sync w.c k e) (dec_none w.c k v e)) (suc (y.moment + w.bus.delay))

    joined : Entry → ℕ → Bool
    joined y k = test (ready y k)

    record Opens (y : Entry) (ys : List Entry) : Type 0 where
      mine : y.sender ≡ 0
      low : v + w.bus.sg_short 0 + w.bus.tg_short 0 ≤ y.moment
      high : y.moment ≤ v + w.bus.delay + w.bus.sg_long 0 + w.bus.tg_long 0
      joins : Joins w.bus w.c p y (joined y)
      step : Step v (joined y) y ys

    open_is : (y : Entry) (ys : List Entry) → Left w v (y ∷ ys) → Opens y ys
    unfolding joined
    open_is y ys left =
        let i : In y w.c.list = left.there y (inl refl) in
        let s : Started w y = started w y i in
        let from : v ≤ y.moment = left.later y (inl refl) in
        let kn : y.sender < w.bus.senders = s.known in
        let soon : y.moment < w.c.horizon = s.soon in
        let least : (x : Entry) → In x w.c.list → v ≤ x.moment → y.moment ≤ x.moment = λ x j on. first_least y ys left.ordered x (left.all x j on) in
        let high : y.moment ≤ v + w.bus.delay + w.bus.sg_long 0 + w.bus.tg_long 0 = elim (cases_lt (v + w.bus.delay + w.bus.sg_long 0 + w.bus.tg_long 0) y.moment) [
          | inr fine ↦ fine
          | inl far ↦ absurd (open_no_later y.moment least far (omega arith))
        ] in
        let opens : v + w.bus.sg_short y.sender + w.bus.tg_short y.sender ≤ y.moment = open_early y i from in
        let mine : y.sender ≡ 0 = elim (cases_lt 0 y.sender) [
          | inl other ↦
              let opening : w.bus.sg_long 0 + w.bus.tg_long 0 + 2 * w.bus.delay < w.bus.sg_short y.sender + w.bus.tg_short y.sender = w.room.opening 0 y.sender other kn in
              absurd (omega arith)
          | inr none ↦ omega arith
        ] in
        let low : v + w.bus.sg_short 0 + w.bus.tg_short 0 ≤ y.moment = subst (λ k. v + w.bus.sg_short k + w.bus.tg_short k ≤ y.moment) mine opens in
        let hears_in_time : (k m : ℕ) → k < w.bus.senders → w.c.up k ≤ m → v + w.bus.delay ≤ m → m + w.bus.sg_long k ≤ y.moment → joined y k ≡ true = λ k m known up high_m fits_m.
        (let t : Synced (ears w) k (m + w.bus.sg_long k) (m + w.bus.sg_long k) = open_synced k y.moment m known up high_m least fits_m in
        let by : t.at ≤ m + w.bus.sg_long k = t.by in
        tested (ready y k) (t.at, omega arith, (t.sync, (λ x j own less. t.none x j own (omega arith))))) in
        record {
          mine = mine;
          low = low;
          high = high;
          joins = record {
            keeps = λ k more known is.
                let joining : w.bus.sg_long k + w.bus.delay ≤ w.bus.sg_short 0 + w.bus.tg_short 0 = w.room.joining 0 k more known in
                hears_in_time k (v + w.bus.delay) known (so.kept k more known is) (omega arith) (omega arith);
            must = λ k more known long.
                let joining : w.bus.sg_long k + w.bus.delay ≤ w.bus.sg_short 0 + w.bus.tg_short 0 = w.room.joining 0 k more known in
                elim (cases_lt (w.c.up k) (v + w.bus.delay)) [
                  | inl before ↦ hears_in_time k (v + w.bus.delay) known (omega arith) (omega arith) (omega arith)
                  | inr behind ↦ hears_in_time k (w.c.up k) known (omega arith) behind long
                ];
            may = λ k more known is.
                let r = test_true (ready y k) is in
                let e : r.0 < suc (y.moment + w.bus.delay) = r.1 in
                let f : w.c.up k + w.bus.sg_short k ≤ r.0 = sync_fresh k r.0 known r.2.0 in
                omega arith;
          };
          step = record {
            left = left;
            rest = so.rest;
            ahead = λ z j less is.
                let k : z.sender < w.bus.senders = (started w z (left.there z (inr j))).known in
                let opening : w.bus.sg_long 0 + w.bus.tg_long 0 + 2 * w.bus.delay < w.bus.sg_short z.sender + w.bus.tg_short z.sender = w.room.opening 0 z.sender (omega arith) k in
                let far : v + w.bus.sg_short z.sender + w.bus.tg_short z.sender ≤ z.moment = open_early z (left.there z (inr j)) (left.later z (inr j)) in
                omega arith;
            synced = λ k more less is.
                let r = test_true (ready y k) is in
                let e : r.0 < suc (y.moment + w.bus.delay) = r.1 in
                record { at = r.0; by = omega arith; sync = r.2.0; none = r.2.1 };
            waits = λ k known out e sync. elim out [
              | inl less ↦ absurd (omega arith)
              | inr q ↦ elim (cases_lt (y.moment + w.bus.delay) e) [
                | inl late ↦ inr (omega arith)
                | inr soon_e ↦ elim (find_own w k e v w.c.list) [
                  | inl found ↦ inl found
                  | inr none ↦ absurd (test_false (ready y k) q.1 (
                    e,
                    omega arith,
                    (
                      sync,
                      (λ x j own less. elim (cases_lt x.moment e) [
                        | inl fine ↦ fine
                        | inr on ↦ absurd (none x j own on less)
                      ]),
                    ),
                  ))
                ]
              ]
            ];
            since = so.since;
            first = so.first;
            kept = λ k more known is.
                let r = test_true (ready y k) is in
                let e : r.0 < suc (y.moment + w.bus.delay) = r.1 in
                let f : w.c.up k + w.bus.sg_short k ≤ r.0 = sync_fresh k r.0 known r.2.0 in
                omega arith;
          };
        }

  -- ---- round by round
  pub in_growing : (ys : List Entry) (v a : ℕ) (p : ℕ → Bool) → 0 < a → Turn v a p → Left w v ys → InGrowing w.bus w.c a p v ys × AreClear w.bus.delay ys
  in_growing [] v a p more so left = (
    elim (find_next p a w.bus.senders) [
      | inl f ↦ inl (
        f.0,
        f.1,
        elim (cases_lt (v + w.bus.delay + w.bus.tg_long f.0) w.c.horizon) [
          | inr fine ↦ fine
          | inl soon ↦ absurd (no_later v a p more so f.0 f.1 (suc (v + w.bus.delay + w.bus.tg_long f.0)) (λ x i on. absurd (left.all x i on)) (omega arith) soon)
        ],
      )
      | inr over ↦ inr (
        over,
        elim (cases_lt (v + w.bus.delay + w.bus.sg_long 0 + w.bus.tg_long 0) w.c.horizon) [
          | inr fine ↦ fine
          | inl soon ↦ absurd (open_no_later v a p so over (suc (v + w.bus.delay + w.bus.sg_long 0 + w.bus.tg_long 0)) (λ x i on. absurd (left.all x i on)) (omega arith) soon)
        ],
      )
    ],
    tt,
  )
  in_growing (y ∷ ys) v a p more so left = elim (find_next p a w.bus.senders) [
    | inl f ↦
        let n : Next v a p more so f.0 f.1 y ys = next_is v a p more so f.0 f.1 y ys left in
        let on = in_growing ys (end_of y) (suc y.sender) p (omega arith) (turn_then v p y ys n.step) (left_then v p y ys n.step) in
        (inl (subst (IsNext w.bus.senders p a) (sym n.mine) f.1, n.low, n.high, on.0), (behind_then v p y ys n.step, on.1))
    | inr over ↦
        let n : Opens v a p so over y ys = open_is v a p so over y ys left in
        let q : ℕ → Bool = joined v a p so over y in
        let turn : Turn (end_of y) 1 (joined v a p so over y) = subst (λ k. Turn (end_of y) (suc k) (joined v a p so over y)) n.mine (turn_then v (joined v a p so over y) y ys n.step) in
        let on = in_growing ys (end_of y) 1 (joined v a p so over y) (omega arith) turn (left_then v (joined v a p so over y) y ys n.step) in
        (inr (over, n.mine, n.low, n.high, (joined v a p so over y, n.joins, on.0)), (behind_then v (joined v a p so over y) y ys n.step, on.1))
  ]

-- where no sender hears itself later
pub joining : (bus : Bus) (c : Course) (v : ℕ) → LeavesRoom bus → (bus.senders ≡ 1 → bus.delay ≡ 0) → StartsItself bus → IsCourse bus c → HaveLeft bus c → IsJoined bus c v
    → InGrowing bus c bus.senders (λ _. false) v c.list × AreClear bus.delay c.list
joining bus c v room lone itself ok have join =
    let w : World = record { bus = bus; c = c; up = v + bus.delay; room = room; lone = lone; ok = ok; still = join.still; due = λ k known. inr (join.due k known) } in
    let late : (k e : ℕ) → k < bus.senders → SyncAt c k e → v + bus.sg_short k ≤ e = λ k e known s.
    (let far : c.up k + bus.sg_short k ≤ e = sync_fresh w itself have join.tg join.sg k e known s in let low : v ≤ c.up k = join.later k known in omega arith) in
    let later : (x : Entry) → In x c.list → v ≤ x.moment = λ x i.
    let t : Started w x = started w x i in
    let low : v + bus.sg_short x.sender ≤ t.sync = late x.sender t.sync t.known t.synced in
    let behind : t.sync ≤ x.moment = t.behind in
    omega arith in
    in_growing w itself have join.tg join.sg c.list v bus.senders (λ _. false) room.some (record {
      rest = λ x i less. (let far : v ≤ x.moment = later x i in absurd (omega arith));
      early = λ x i from above is. absurd (true≢false (sym is));
      synced = λ k from above is. absurd (omega arith);
      waits = λ k known out e sync. inr (late k e known sync);
      since = omega arith;
      first = join.first;
      kept = λ k some known is. absurd (true≢false (sym is));
    }) (record {
      all = λ x i from. i;
      there = λ x i. i;
      later = later;
      ordered = ok.ordered;
    })
