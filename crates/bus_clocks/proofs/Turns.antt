-- What a turn is: all that began has ended, those that have yet to speak in the round are in sync, and the others wait; and that another turn follows.
use Rattle.std.proofs.Common.{length, ◌≡◌, ℕ, suc, ◌+◌, ◌<◌, ◌≤◌, ◌⊎◌, List, ◌∷◌, inl, inr, arith, sym, refl, ap, subst}
use Rattle.std.proofs.lemmas.Bool.{cases_lt, cases_eq}
use Rattle.bus_clocks.specs.Entries.{Entry, In, IsAscending, end_of, own}
use Rattle.bus_clocks.specs.Buses.{sum_below}
use Rattle.bus_clocks.specs.Courses.{HaveLeft, SyncAt}
use Rattle.bus_clocks.specs.Room.{HasCycle, StartsItself}
use Rattle.bus_clocks.proofs.Timers.{Synced}
use Rattle.bus_clocks.proofs.Worlds.{World, Started, started, sync_apart, sync_apart_own, ears, Full, close, heard_out}

pub first_least : (y : Entry) (ys : List Entry) → IsAscending (y ∷ ys) → (x : Entry) → In x (y ∷ ys) → y.moment ≤ x.moment
first_least y ys up x (inl same) = subst (λ (z : Entry). y.moment ≤ z.moment) (sym same) (let e : y.moment ≤ y.moment = omega arith in e)
first_least y ys up x (inr i) = elim (up.0 x i) [ inl less ↦ omega arith | inr p ↦ (let e : y.moment ≡ x.moment = p.0 in omega arith) ]

pub own_least : (y : Entry) (ys : List Entry) → IsAscending (y ∷ ys) → (x : Entry) → In x ys → x.sender ≡ y.sender → y.moment < x.moment
own_least y ys up x i mine = elim (up.0 x i) [ inl less ↦ less | inr p ↦ absurd (p.1 (sym mine)) ]

module _ (w : World) where
  -- what is left of the list from moment v on
  pub record Left (v : ℕ) (ys : List Entry) : Type 0 where
    pub all : (x : Entry) → In x w.c.list → v ≤ x.moment → In x ys
    pub there : (x : Entry) → In x ys → In x w.c.list
    pub later : (x : Entry) → In x ys → v ≤ x.moment
    pub ordered : IsAscending ys

  -- all that began before moment v has ended
  abbrev pub IsRest : ℕ → Type 0
  IsRest v = (x : Entry) → In x w.c.list → x.moment < v → end_of x ≤ v

  -- where the synchronization gap of sender k elapses is before a start of it before moment v, or u or later
  abbrev pub Waits : ℕ → ℕ → ℕ → Type 0
  Waits k v u = (e : ℕ) → SyncAt w.c k e
      → ((x : Entry) × In x w.c.list × (x.sender ≡ k) × (e ≤ x.moment) × (x.moment < v)) ⊎ (u ≤ e)

  -- what the first n senders of a round take at least
  abbrev pub part : ℕ → ℕ
  part n = sum_below (λ l. w.bus.tg_short l + w.bus.shortest l) n

  -- sender a being next behind moment v, so much time has passed since each own start
  pub record Passed (v a : ℕ) : Type 0 where
    pub same : (k : ℕ) → k < a → k < w.bus.senders → (x : Entry) → In x w.c.list → x.sender ≡ k → x.moment < v
        → x.moment + part a ≤ v + part k + w.bus.tg_short k
    pub then : (k : ℕ) → a ≤ k → k < w.bus.senders → (x : Entry) → In x w.c.list → x.sender ≡ k → x.moment < v
        → x.moment + w.bus.sg_short 0 + part w.bus.senders + part a ≤ v + part k + w.bus.tg_short k

  -- transmit intervals are no hindrance
  abbrev pub Idle : ℕ → ℕ → Type 0
  Idle v a = StartsItself w.bus ⊎ (HasCycle w.bus × Passed v a)

  -- how many transmissions of sender k begin before moment v
  abbrev pub sent : ℕ → ℕ → ℕ
  sent k v = length (own w.c.list k v)

  -- senders with as many messages each have sent as many, but those that have yet to speak in the round
  pub record Even (v a : ℕ) : Type 0 where
    pub n : ℕ
    pub alike : (k : ℕ) → k < w.bus.senders → w.c.messages k ≡ w.c.messages 0
    pub spoke : (k : ℕ) → k < a → k < w.bus.senders → sent k v ≡ n
    pub yet : (k : ℕ) → a ≤ k → k < w.bus.senders → suc (sent k v) ≡ n

  -- messages last
  abbrev pub Lasts : ℕ → ℕ → Type 0
  Lasts v a = HaveLeft w.bus w.c ⊎ Even v a

  -- at moment v the senders from a on are in sync, and those before a wait for a synchronization gap
  pub record Turn (v a : ℕ) : Type 0 where
    pub upto : a ≤ w.bus.senders
    pub rest : IsRest v
    pub early : (x : Entry) → In x w.c.list → v ≤ x.moment → a ≤ x.sender → v + w.bus.tg_short x.sender ≤ x.moment
    pub synced : (k : ℕ) → a ≤ k → k < w.bus.senders → Synced (ears w) k (v + w.bus.delay) v
    pub waits : (k : ℕ) → k < a → Waits k v (v + w.bus.sg_short k)
    pub since : w.up ≤ v + w.bus.delay
    pub powered : (k : ℕ) → k < w.bus.senders → w.c.up k ≤ v + w.bus.delay
    pub full : (k : ℕ) → k < w.bus.senders → Full w k (v + w.bus.sg_short k)
    pub idle : Idle v a
    pub lasts : Lasts v a

  -- what is full stays so
  pub full_later : (k e f : ℕ) → Full w k e → e ≤ f → Full w k f
  full_later k e f (inl less) low = inl (omega arith)
  full_later k e f (inr each) low = inr each

  -- who waits starts no earlier than a synchronization gap and a terminal gap behind
  pub waited : (v u : ℕ) (x : Entry) → In x w.c.list → v ≤ x.moment → Full w x.sender u → Waits x.sender v u → u + w.bus.tg_short x.sender ≤ x.moment
  waited v u x i from full waits =
      let s : Started w x = started w x i in
      let behind : s.sync ≤ x.moment = s.behind in
      elim (waits s.sync s.synced) [
        | inl p ↦
            let y : Entry = p.0 in
            let low : s.sync ≤ y.moment = p.3 in
            let high : y.moment < v = p.4 in
            let less : y.moment < s.sync = s.none y p.1 p.2 (omega arith) in
            absurd (omega arith)
        | inr late ↦ (let before : s.sync + w.bus.tg_short x.sender ≤ x.moment = s.before (full_later x.sender u s.sync full late) in omega arith)
      ]

  pub weaker : (k b t d u : ℕ) → Synced (ears w) k b t → b ≤ d → u ≤ t → Synced (ears w) k d u
  weaker k b t d u s wide near =
      let by : s.at ≤ b = s.by in
      record { at = s.at; by = omega arith; sync = s.sync; none = λ x i mine less. s.none x i mine (omega arith) }

  -- ---- behind the next transmission
  -- what began before its end began before moment v, or is it
  abbrev pub IsOnly : ℕ → Entry → Type 0
  IsOnly v y = (x : Entry) → In x w.c.list → x.moment < end_of y → (x.moment < v) ⊎ (x ≡ y)

  pub record Step (v a : ℕ) (y : Entry) (ys : List Entry) : Type 0 where
    pub left : Left v (y ∷ ys)
    pub known : a < w.bus.senders
    pub rest : IsRest v
    pub mine : y.sender ≡ a
    pub first : (z : Entry) → In z ys → a < z.sender → y.moment + w.bus.delay < z.moment
    pub synced : (k : ℕ) → a < k → k < w.bus.senders → Synced (ears w) k (end_of y + w.bus.delay) v
    pub waits : (k : ℕ) → k < a → Waits k v (y.moment + w.bus.delay + 1)
    pub since : w.up ≤ v + w.bus.delay
    pub powered : (k : ℕ) → k < w.bus.senders → w.c.up k ≤ end_of y + w.bus.delay
    pub full : (k : ℕ) → k < w.bus.senders → Full w k (end_of y + w.bus.sg_short k)
    pub idle : IsOnly v y → Idle (end_of y) (suc a)
    pub lasts : IsOnly v y → Lasts (end_of y) (suc a)

  module _ (v a : ℕ) (y : Entry) (ys : List Entry) (s : Step v a y ys) where
    y_there : In y w.c.list
    y_there = s.left.there y (inl refl)

    y_from : v ≤ y.moment
    y_from = s.left.later y (inl refl)

    -- those that spoke wait for a synchronization gap behind it
    waits_then : (k : ℕ) → k < suc a → Waits k (end_of y) (end_of y + w.bus.sg_short k)
    waits_then k less e sync =
        let known : a < w.bus.senders = s.known in
        let from : v ≤ y.moment = y_from in
        let some : 0 < y.length = (started w y y_there).some in
        elim (cases_eq k a) [
          | inl same ↦ elim (sync_apart_own w k e y (omega arith) y_there (let m : y.sender ≡ a = s.mine in omega arith) sync) [
            | inl before ↦ inl (y, y_there, (let m : y.sender ≡ a = s.mine in omega arith), before, omega arith)
            | inr behind ↦ inr behind
          ]
          | inr other ↦ elim (s.waits k (omega arith) e sync) [
            | inl p ↦ (let high : p.0.moment < v = p.4 in inl (p.0, p.1, p.2, p.3, omega arith))
            | inr late ↦ elim (sync_apart w k e y (omega arith) y_there sync) [
              | inl before ↦ absurd (omega arith)
              | inr behind ↦ inr behind
            ]
          ]
        ]

    -- what follows follows behind its end
    early_then : (z : Entry) → In z ys → suc a ≤ z.sender → end_of y + w.bus.tg_short z.sender ≤ z.moment
    early_then z j more = elim ((started w z (s.left.there z (inr j))).apart y y_there (omega arith)) [
      | inl near ↦ (let far : y.moment + w.bus.delay < z.moment = s.first z j more in absurd (omega arith))
      | inr behind ↦ behind
    ]

    waited_then : (z : Entry) → In z ys → z.sender < suc a → end_of y + w.bus.sg_short z.sender + w.bus.tg_short z.sender ≤ z.moment
    waited_then z j less =
        let i : In z w.c.list = s.left.there z (inr j) in
        let t : Started w z = started w z i in
        let behind_sync : t.sync ≤ z.moment = t.behind in
        let first : v ≤ y.moment = y_from in
        let from : v ≤ z.moment = s.left.later z (inr j) in
        elim (cases_eq z.sender a) [
          | inl same ↦
              let m : y.sender ≡ a = s.mine in
              let after : y.moment < z.moment = own_least y ys s.left.ordered z j (omega arith) in
              let sooner : y.moment < t.sync = t.none y y_there (omega arith) after in
              elim (sync_apart_own w z.sender t.sync y t.known y_there (omega arith) t.synced) [
                | inl bad ↦ absurd (omega arith)
                | inr behind ↦ (let before : t.sync + w.bus.tg_short z.sender ≤ z.moment = t.before (full_later z.sender (end_of y + w.bus.sg_short z.sender) t.sync (s.full z.sender t.known) behind) in omega arith)
              ]
          | inr other ↦ elim (s.waits z.sender (omega arith) t.sync t.synced) [
            | inl p ↦
                let x : Entry = p.0 in
                let low : t.sync ≤ x.moment = p.3 in
                let high : x.moment < v = p.4 in
                let bad : x.moment < t.sync = t.none x p.1 p.2 (omega arith) in
                absurd (omega arith)
            | inr late ↦ elim (sync_apart w z.sender t.sync y t.known y_there t.synced) [
              | inl bad ↦ absurd (omega arith)
              | inr behind ↦ (let before : t.sync + w.bus.tg_short z.sender ≤ z.moment = t.before (full_later z.sender (end_of y + w.bus.sg_short z.sender) t.sync (s.full z.sender t.known) behind) in omega arith)
            ]
          ]
        ]

    pub behind_then : (z : Entry) → In z ys → end_of y + w.bus.delay ≤ z.moment
    behind_then z j =
        let known : z.sender < w.bus.senders = (started w z (s.left.there z (inr j))).known in
        elim (cases_lt z.sender (suc a)) [
          | inl less ↦
              let near : w.bus.delay ≤ w.bus.sg_short z.sender = close w z.sender known in
              let far : end_of y + w.bus.sg_short z.sender + w.bus.tg_short z.sender ≤ z.moment = waited_then z j less in
              omega arith
          | inr more ↦
              let heard : w.bus.delay ≤ w.bus.tg_short z.sender = heard_out w z.sender (omega arith) known in
              let far : end_of y + w.bus.tg_short z.sender ≤ z.moment = early_then z j more in
              omega arith
        ]

    pub left_then : Left (end_of y) ys
    left_then = record {
      all = λ x i low. elim (s.left.all x i (let from : v ≤ y.moment = y_from in omega arith)) [
        | inl same ↦
            let some : 0 < y.length = (started w y y_there).some in
            let bad : end_of y ≤ y.moment = subst (λ (z : Entry). end_of y ≤ z.moment) same low in
            absurd (omega arith)
        | inr j ↦ j
      ];
      there = λ x j. s.left.there x (inr j);
      later = λ x j. (let far : end_of y + w.bus.delay ≤ x.moment = behind_then x j in omega arith);
      ordered = s.left.ordered.1;
    }

    only_then : IsOnly v y
    only_then x i less = elim (cases_lt x.moment v) [
      | inl before ↦ inl before
      | inr on ↦ elim (s.left.all x i on) [
        | inl same ↦ inr same
        | inr j ↦ (let far : end_of y + w.bus.delay ≤ x.moment = behind_then x j in absurd (omega arith))
      ]
    ]

    pub turn_then : Turn (end_of y) (suc a)
    turn_then =
        let known : a < w.bus.senders = s.known in
        let from : v ≤ y.moment = y_from in
        let m : y.sender ≡ a = s.mine in
        record {
          upto = omega arith;
          rest = λ x i less. elim (cases_lt x.moment v) [
            | inl before ↦ (let e : end_of x ≤ v = s.rest x i before in omega arith)
            | inr on ↦ elim (s.left.all x i on) [
              | inl same ↦ subst (λ (z : Entry). end_of z ≤ end_of y) (sym same) (let e : end_of y ≤ end_of y = omega arith in e)
              | inr j ↦ (let far : end_of y + w.bus.delay ≤ x.moment = behind_then x j in absurd (omega arith))
            ]
          ];
          early = λ x i low more. early_then x (left_then.all x i low) more;
          synced = λ k low high.
              let t : Synced (ears w) k (end_of y + w.bus.delay) v = s.synced k low high in
              record {
                at = t.at;
                by = t.by;
                sync = t.sync;
                none = λ x i mine less. elim (cases_lt x.moment v) [
                  | inl before ↦ t.none x i mine before
                  | inr on ↦ elim (s.left.all x i on) [
                    | inl same ↦ (let e : x.sender ≡ y.sender = ap (λ (z : Entry). z.sender) same in absurd (omega arith))
                    | inr j ↦ (let far : end_of y + w.bus.delay ≤ x.moment = behind_then x j in absurd (omega arith))
                  ]
                ];
              };
          waits = waits_then;
          since = (let since : w.up ≤ v + w.bus.delay = s.since in omega arith);
          powered = s.powered;
          full = s.full;
          idle = s.idle only_then;
          lasts = s.lasts only_then;
        }
