-- From a moment at which all that began has ended and everybody waits for a synchronization gap, whoever sends sends in rounds.
use Rattle.std.proofs.Common.{◌≡◌, ℕ, zero, suc, ◌+◌, ◌*◌, ◌<◌, ◌≤◌, true, false, cond, List, [], ◌∷◌, length, Option, inl, inr, arith, sym, refl, ap, ◌∙◌, subst, ltb-true, ltb-false}
use Rattle.std.specs.Prelude.{nat_lt, IfSome}
use Rattle.std.proofs.lemmas.Bool.{cases_lt, cases_eq}
use Rattle.bus_clocks.specs.Entries.{AreClear, Entry, In, end_of, own}
use Rattle.bus_clocks.specs.Courses.{HasEntry, HasLeft, IsQuiet}
use Rattle.bus_clocks.specs.Rounds.{InRounds, next}
use Rattle.bus_clocks.proofs.Hands.{left_by, own_same, own_more}
use Rattle.bus_clocks.proofs.Timers.{Synced, sync_must, is_quiet}
use Rattle.bus_clocks.proofs.Worlds.{World, Started, started, start_must, ears, Full, IsIdle, idle_itself}
use Rattle.bus_clocks.proofs.Turns.{first_least, Left, IsRest, Idle, sent, part, Lasts, Turn, IsOnly, Step, waited, weaker, full_later, behind_then, left_then, turn_then}

module _ (w : World) where
  -- ---- messages left

  -- nothing begins between
  sent_same : (k v t u : ℕ) → v ≤ t → t ≤ u → ((x : Entry) → In x w.c.list → v ≤ x.moment → u ≤ x.moment) → sent w k t ≡ sent w k v
  sent_same k v t u low high next = ap (λ l. length l) (own_same w.c.list k t v
      (λ x i mine less. elim (cases_lt x.moment v) [ inl before ↦ before | inr on ↦ (let n : u ≤ x.moment = next x i on in absurd (omega arith)) ])
      (λ x i mine less. omega arith))

  -- who is next has a message left where another has that speaks no earlier
  left_next : (v a : ℕ) → a < w.bus.senders → Lasts w v a → (j u t : ℕ) → j < w.bus.senders → HasLeft w.c j u → v ≤ t → t ≤ u → t < w.c.horizon
      → ((x : Entry) → In x w.c.list → v ≤ x.moment → u ≤ x.moment) → HasLeft w.c a t
  left_next v a known (inl have) j u t one left low high soon next = have a t known soon
  left_next v a known (inr even) j u t one left low high soon next =
      let mine : sent w a t ≡ sent w a v = sent_same a v t u low high next in
      let other : sent w j u ≡ sent w j v = sent_same j v u u (omega arith) (omega arith) next in
      let yet : suc (sent w a v) ≡ even.n = even.yet a (omega arith) known in
      let fewer : sent w a t ≤ sent w j u = elim (cases_lt j a) [
        | inl less ↦ (let spoke : sent w j v ≡ even.n = even.spoke j less one in omega arith)
        | inr more ↦ (let wait : suc (sent w j v) ≡ even.n = even.yet j more one in omega arith)
      ] in
      left_by (w.c.messages a) (sent w a t) (sent w j u) fewer
      (subst (λ (o : Option ℕ). IfSome o (λ n. sent w j u < n)) (even.alike j one ∙ sym (even.alike a known)) left)

  pub left_first : (v : ℕ) → Lasts w v w.bus.senders → (j u t : ℕ) → j < w.bus.senders → HasLeft w.c j u → v ≤ t → t ≤ u → t < w.c.horizon
      → ((x : Entry) → In x w.c.list → v ≤ x.moment → u ≤ x.moment) → HasLeft w.c 0 t
  left_first v (inl have) j u t one left low high soon next = have 0 t w.room.some soon
  left_first v (inr even) j u t one left low high soon next =
      let mine : sent w 0 t ≡ sent w 0 v = sent_same 0 v t u low high next in
      let other : sent w j u ≡ sent w j v = sent_same j v u u (omega arith) (omega arith) next in
      let spoke : sent w j v ≡ even.n = even.spoke j one one in
      let first : sent w 0 v ≡ even.n = even.spoke 0 w.room.some w.room.some in
      left_by (w.c.messages 0) (sent w 0 t) (sent w j u) (omega arith)
      (subst (λ (o : Option ℕ). IfSome o (λ n. sent w j u < n)) (even.alike j one) left)

  -- ---- what a transmission adds
  module _ (v a : ℕ) (y : Entry) (known : a < w.bus.senders) (i : In y w.c.list) (mine : y.sender ≡ a) (from : v ≤ y.moment) (only : IsOnly w v y) where
    sent_more : sent w a (end_of y) ≡ suc (sent w a v)
    sent_more = (let some : 0 < y.length = (started w y i).some in
        own_more w.c.list a v (end_of y) y w.ok.ordered i mine from (omega arith) (λ x j own less. only x j less))

    sent_other : (k : ℕ) → (k ≡ a → ⊥) → sent w k (end_of y) ≡ sent w k v
    sent_other k other = ap (λ l. length l) (own_same w.c.list k (end_of y) v
        (λ x j own less. elim (only x j less) [
          | inl before ↦ before
          | inr same ↦ absurd (other (sym own ∙ ap (λ (z : Entry). z.sender) same ∙ mine))
        ]) (λ x j own less. omega arith))

    long : y.moment + w.bus.shortest a ≤ end_of y
    long = (let short : w.bus.shortest a ≤ y.length = subst (λ n. w.bus.shortest n ≤ y.length) mine (w.ok.sent y i).2 in omega arith)

    -- an own start and the end
    own_then : (x : Entry) → In x w.c.list → x.moment < end_of y → x.moment + w.bus.shortest a ≤ end_of y
    own_then x j less = elim (only x j less) [
      | inl before ↦ (let l : y.moment + w.bus.shortest a ≤ end_of y = long in omega arith)
      | inr same ↦ (let l : y.moment + w.bus.shortest a ≤ end_of y = long in let e : x.moment ≡ y.moment = ap (λ (z : Entry). z.moment) same in omega arith)
    ]

    before_then : (k : ℕ) → (k ≡ a → ⊥) → (x : Entry) → In x w.c.list → x.sender ≡ k → x.moment < end_of y → x.moment < v
    before_then k other x j own less = elim (only x j less) [
      | inl before ↦ before
      | inr same ↦ absurd (other (sym own ∙ ap (λ (z : Entry). z.sender) same ∙ mine))
    ]

    idle_inside : v + w.bus.tg_short a ≤ y.moment → Idle w v a → Idle w (end_of y) (suc a)
    idle_inside low (inl itself) = inl itself
    idle_inside low (inr p) =
        let l : y.moment + w.bus.shortest a ≤ end_of y = long in
        inr (
          p.0,
          record {
            same = λ k less one x j own before. elim (cases_eq k a) [
              | inl is ↦
                  let o : x.moment + w.bus.shortest a ≤ end_of y = own_then x j before in
                  let e : part w k ≡ part w a = ap (λ n. part w n) is in
                  let f : w.bus.tg_short k ≡ w.bus.tg_short a = ap w.bus.tg_short is in
                  (let goal : x.moment + (part w a + (w.bus.tg_short a + w.bus.shortest a)) ≤ end_of y + part w k + w.bus.tg_short k = omega arith in goal)
              | inr other ↦
                  let o : x.moment + part w a ≤ v + part w k + w.bus.tg_short k = p.1.same k (omega arith) one x j own (before_then k other x j own before) in
                  (let goal : x.moment + (part w a + (w.bus.tg_short a + w.bus.shortest a)) ≤ end_of y + part w k + w.bus.tg_short k = omega arith in goal)
            ];
            then = λ k more one x j own before.
                let o : x.moment + w.bus.sg_short 0 + part w w.bus.senders + part w a ≤ v + part w k + w.bus.tg_short k =
                p.1.then k (omega arith) one x j own (before_then k (λ e. omega arith) x j own before) in
                (let goal : x.moment + w.bus.sg_short 0 + part w w.bus.senders + (part w a + (w.bus.tg_short a + w.bus.shortest a)) ≤ end_of y + part w k + w.bus.tg_short k = omega arith in goal);
          },
        )

    lasts_inside : Lasts w v a → Lasts w (end_of y) (suc a)
    lasts_inside (inl have) = inl have
    lasts_inside (inr even) = inr (record {
      n = even.n;
      alike = even.alike;
      spoke = λ k less one. elim (cases_eq k a) [
        | inl is ↦ subst (λ i. sent w i (end_of y) ≡ even.n) (sym is) (sent_more ∙ even.yet a (omega arith) known)
        | inr other ↦ sent_other k other ∙ even.spoke k (omega arith) one
      ];
      yet = λ k more one. ap suc (sent_other k (λ e. omega arith)) ∙ even.yet k (omega arith) one;
    })

  module _ (v : ℕ) (y : Entry) (i : In y w.c.list) (mine : y.sender ≡ 0) (from : v ≤ y.moment) (only : IsOnly w v y) where
    pub idle_opening : v + w.bus.sg_short 0 + w.bus.tg_short 0 ≤ y.moment → Idle w v w.bus.senders → Idle w (end_of y) 1
    idle_opening low (inl itself) = inl itself
    idle_opening low (inr p) =
        let l : y.moment + w.bus.shortest 0 ≤ end_of y = long v 0 y w.room.some i mine from only in
        inr (
          p.0,
          record {
            same = λ k less one x j own before.
                let is : k ≡ 0 = omega arith in
                let o : x.moment + w.bus.shortest 0 ≤ end_of y = own_then v 0 y w.room.some i mine from only x j before in
                let e : part w k ≡ 0 = ap (λ n. part w n) is in
                let f : w.bus.tg_short k ≡ w.bus.tg_short 0 = ap w.bus.tg_short is in
                (let goal : x.moment + (0 + (w.bus.tg_short 0 + w.bus.shortest 0)) ≤ end_of y + part w k + w.bus.tg_short k = omega arith in goal);
            then = λ k more one x j own before.
                let o : x.moment + part w w.bus.senders ≤ v + part w k + w.bus.tg_short k =
                p.1.same k one one x j own (before_then v 0 y w.room.some i mine from only k (λ e. omega arith) x j own before) in
                (let goal : x.moment + w.bus.sg_short 0 + part w w.bus.senders + (0 + (w.bus.tg_short 0 + w.bus.shortest 0)) ≤ end_of y + part w k + w.bus.tg_short k = omega arith in goal);
          },
        )

    lasts_opening : Lasts w v w.bus.senders → Lasts w (end_of y) 1
    lasts_opening (inl have) = inl have
    lasts_opening (inr even) = inr (record {
      n = suc even.n;
      alike = even.alike;
      spoke = λ k less one.
          let is : k ≡ 0 = omega arith in
          subst (λ i. sent w i (end_of y) ≡ suc even.n) (sym is)
          (sent_more v 0 y w.room.some i mine from only ∙ ap suc (even.spoke 0 w.room.some w.room.some));
      yet = λ k more one. ap suc (sent_other v 0 y w.room.some i mine from only k (λ e. omega arith) ∙ even.spoke k one one);
    })

  -- ---- inside a round
  module _ (v a : ℕ) (more : 0 < a) (known : a < w.bus.senders) (so : Turn w v a) where
    -- its transmit interval is no hindrance
    idle_next : (s : Synced (ears w) a (v + w.bus.delay) v) → (u : ℕ) → ((x : Entry) → In x w.c.list → v ≤ x.moment → u ≤ x.moment) → v + w.bus.delay + w.bus.tg_long a < u
        → IsIdle w a (v + w.bus.delay + w.bus.tg_long a)
    idle_next s u next far =
        let earlier : (x : Entry) → In x w.c.list → x.moment < v + w.bus.delay + w.bus.tg_long a → x.moment < v = λ x i less. elim (cases_lt x.moment v) [
          | inl before ↦ before
          | inr on ↦ (let n : u ≤ x.moment = next x i on in absurd (omega arith))
        ] in
        elim so.idle [
          | inl itself ↦
              let by : s.at ≤ v + w.bus.delay = s.by in
              idle_itself w itself a s.at (v + w.bus.delay + w.bus.tg_long a) known s.sync (λ x i mine less. s.none x i mine (earlier x i less)) (omega arith)
          | inr p ↦ λ x i mine less.
              let passed : x.moment + w.bus.sg_short 0 + part w w.bus.senders + part w a ≤ v + part w a + w.bus.tg_short a =
              p.1.then a (omega arith) known x i mine (earlier x i less) in
              let cycle : w.bus.ti_long a + w.bus.tg_short a ≤ w.bus.sg_short 0 + part w w.bus.senders + w.bus.tg_long a = p.0.others a more known in
              omega arith
        ]

    -- sender a starts by then
    no_later : (u : ℕ) → ((x : Entry) → In x w.c.list → v ≤ x.moment → u ≤ x.moment) → v + w.bus.delay + w.bus.tg_long a < u
        → v + w.bus.delay + w.bus.tg_long a < w.c.horizon → HasLeft w.c a (v + w.bus.delay + w.bus.tg_long a) → ⊥
    no_later u next far soon left =
        let s : Synced (ears w) a (v + w.bus.delay) v = so.synced a (omega arith) known in
        let since : w.up ≤ v + w.bus.delay = so.since in
        let h : HasEntry w.c.list a (v + w.bus.delay + w.bus.tg_long a) =
        start_must w a s.at (v + w.bus.delay) (v + w.bus.delay + w.bus.tg_long a) known s.sync
        (λ x i mine less. elim (cases_lt x.moment v) [
          | inl before ↦ s.none x i mine before
          | inr on ↦ (let n : u ≤ x.moment = next x i on in absurd (omega arith))
        ]) s.by (omega arith) soon (omega arith)
        (is_quiet (ears w) a (v + w.bus.delay) (v + w.bus.delay + w.bus.tg_long a) so.since (λ x i. elim (cases_lt x.moment v) [
          | inl before ↦ (let e : end_of x ≤ v = so.rest x i before in inr (omega arith))
          | inr on ↦ (let n : u ≤ x.moment = next x i on in inl (omega arith))
        ])) left (idle_next s u next far) in
        let at : h.entry.moment ≡ v + w.bus.delay + w.bus.tg_long a = h.moment in
        let n : u ≤ h.entry.moment = next h.entry h.there (omega arith) in
        omega arith

    record Next (y : Entry) (ys : List Entry) : Type 0 where
      mine : y.sender ≡ a
      low : v + w.bus.tg_short a ≤ y.moment
      high : y.moment ≤ v + w.bus.delay + w.bus.tg_long a
      step : Step w v a y ys

    next_is : (y : Entry) (ys : List Entry) → Left w v (y ∷ ys) → Next y ys
    next_is y ys left =
        let i : In y w.c.list = left.there y (inl refl) in
        let s : Started w y = started w y i in
        let from : v ≤ y.moment = left.later y (inl refl) in
        let kn : y.sender < w.bus.senders = s.known in
        let soon : y.moment < w.c.horizon = s.soon in
        let high : y.moment ≤ v + w.bus.delay + w.bus.tg_long a = elim (cases_lt (v + w.bus.delay + w.bus.tg_long a) y.moment) [
          | inr fine ↦ fine
          | inl far ↦
              let least : (x : Entry) → In x w.c.list → v ≤ x.moment → y.moment ≤ x.moment = λ x j on. first_least y ys left.ordered x (left.all x j on) in
              absurd (no_later y.moment least far (omega arith)
              (left_next v a known so.lasts y.sender y.moment (v + w.bus.delay + w.bus.tg_long a) kn s.left (omega arith) (omega arith) (omega arith) least))
        ] in
        let mine : y.sender ≡ a = elim (cases_lt y.sender a) [
          | inl less ↦
              let wait : w.bus.tg_long a + 2 * w.bus.delay < w.bus.sg_short y.sender = w.room.waiting a y.sender known kn (λ e. omega arith) in
              let far : v + w.bus.sg_short y.sender + w.bus.tg_short y.sender ≤ y.moment = waited w v (v + w.bus.sg_short y.sender) y i from (so.full y.sender kn) (so.waits y.sender less) in
              absurd (omega arith)
          | inr same ↦ elim (cases_lt a y.sender) [
            | inl other ↦
                let turns : w.bus.tg_long a + 2 * w.bus.delay < w.bus.tg_short y.sender = w.room.turns a y.sender more other kn in
                let far : v + w.bus.tg_short y.sender ≤ y.moment = so.early y i from (omega arith) in
                absurd (omega arith)
            | inr none ↦ omega arith
          ]
        ] in
        let low : v + w.bus.tg_short a ≤ y.moment = subst (λ k. v + w.bus.tg_short k ≤ y.moment) mine (so.early y i from (omega arith)) in
        record {
          mine = mine;
          low = low;
          high = high;
          step = record {
            left = left;
            known = known;
            rest = so.rest;
            mine = mine;
            first = λ z j less.
                let k : z.sender < w.bus.senders = (started w z (left.there z (inr j))).known in
                let turns : w.bus.tg_long a + 2 * w.bus.delay < w.bus.tg_short z.sender = w.room.turns a z.sender more less k in
                let far : v + w.bus.tg_short z.sender ≤ z.moment = so.early z (left.there z (inr j)) (left.later z (inr j)) (omega arith) in
                omega arith;
            synced = λ k low less. weaker w k (v + w.bus.delay) v (end_of y + w.bus.delay) v (so.synced k (omega arith) less) (omega arith) (omega arith);
            waits = λ k less e sync. elim (so.waits k less e sync) [
              | inl p ↦ inl p
              | inr late ↦
                  let wait : w.bus.tg_long a + 2 * w.bus.delay < w.bus.sg_short k = w.room.waiting a k known (omega arith) (λ e. omega arith) in
                  inr (omega arith)
            ];
            since = so.since;
            powered = λ k one. (let power : w.c.up k ≤ v + w.bus.delay = so.powered k one in omega arith);
            full = λ k one. full_later w k (v + w.bus.sg_short k) (end_of y + w.bus.sg_short k) (so.full k one) (omega arith);
            idle = λ only. idle_inside v a y known i mine from only low so.idle;
            lasts = λ only. lasts_inside v a y known i mine from only so.lasts;
          };
        }

  -- ---- at the beginning of a round: all wait, and the first sender starts from one moment to another
  pub record Opening (v lo hi : ℕ) : Type 0 where
    pub rest : IsRest w v
    pub low : (x : Entry) → In x w.c.list → v ≤ x.moment → x.sender ≡ 0 → lo ≤ x.moment
    pub fits : v ≤ hi
    pub by : (u : ℕ) → ((x : Entry) → In x w.c.list → v ≤ x.moment → u ≤ x.moment) → hi < u → hi < w.c.horizon → HasLeft w.c 0 hi → ⊥
    pub ahead : (x : Entry) → In x w.c.list → v ≤ x.moment → 0 < x.sender → hi + w.bus.delay < x.moment
    pub joined : (k u : ℕ) → 0 < k → k < w.bus.senders → ((x : Entry) → In x w.c.list → v ≤ x.moment → u ≤ x.moment) → lo ≤ u → Synced (ears w) k u v
    pub since : w.up ≤ v + w.bus.delay
    pub powered : (k : ℕ) → k < w.bus.senders → w.c.up k ≤ lo + w.bus.delay
    pub full : (k : ℕ) → k < w.bus.senders → Full w k (v + w.bus.sg_short k)
    pub idle : (y : Entry) → In y w.c.list → y.sender ≡ 0 → v ≤ y.moment → lo ≤ y.moment → IsOnly w v y → Idle w (end_of y) 1
    pub lasts : Lasts w v w.bus.senders

  pub record Opens (v lo hi : ℕ) (y : Entry) (ys : List Entry) : Type 0 where
    pub mine : y.sender ≡ 0
    pub low : lo ≤ y.moment
    pub high : y.moment ≤ hi
    pub step : Step w v 0 y ys

  pub opens : (v lo hi : ℕ) → Opening v lo hi → (y : Entry) (ys : List Entry) → Left w v (y ∷ ys) → Opens v lo hi y ys
  opens v lo hi o y ys left =
      let i : In y w.c.list = left.there y (inl refl) in
      let s : Started w y = started w y i in
      let from : v ≤ y.moment = left.later y (inl refl) in
      let kn : y.sender < w.bus.senders = s.known in
      let soon : y.moment < w.c.horizon = s.soon in
      let fits : v ≤ hi = o.fits in
      let least : (x : Entry) → In x w.c.list → v ≤ x.moment → y.moment ≤ x.moment = λ x j on. first_least y ys left.ordered x (left.all x j on) in
      let high : y.moment ≤ hi = elim (cases_lt hi y.moment) [
        | inr fine ↦ fine
        | inl far ↦ absurd (o.by y.moment least far (omega arith) (left_first v o.lasts y.sender y.moment hi kn s.left fits (omega arith) (omega arith) least))
      ] in
      let mine : y.sender ≡ 0 = elim (cases_lt 0 y.sender) [
        | inl other ↦ (let far : hi + w.bus.delay < y.moment = o.ahead y i from other in absurd (omega arith))
        | inr none ↦ omega arith
      ] in
      let low : lo ≤ y.moment = o.low y i from mine in
      record {
        mine = mine;
        low = low;
        high = high;
        step = record {
          left = left;
          known = w.room.some;
          rest = o.rest;
          mine = mine;
          first = λ z j less. (let far : hi + w.bus.delay < z.moment = o.ahead z (left.there z (inr j)) (left.later z (inr j)) less in omega arith);
          synced = λ k more less. weaker w k y.moment v (end_of y + w.bus.delay) v (o.joined k y.moment more less least low) (omega arith) (omega arith);
          waits = λ k less e sync. absurd (omega arith);
          since = o.since;
          powered = λ k one. (let power : w.c.up k ≤ lo + w.bus.delay = o.powered k one in omega arith);
          full = λ k one. full_later w k (v + w.bus.sg_short k) (end_of y + w.bus.sg_short k) (o.full k one) (omega arith);
          idle = λ only. o.idle y i mine from low only;
          lasts = λ only. lasts_opening v y i mine from only o.lasts;
        };
      }

  -- so it is behind a round
  module _ (v : ℕ) (so : Turn w v w.bus.senders) where
    pub open_early : (x : Entry) → In x w.c.list → v ≤ x.moment → v + w.bus.sg_short x.sender + w.bus.tg_short x.sender ≤ x.moment
    open_early x i from =
        let known : x.sender < w.bus.senders = (started w x i).known in
        waited w v (v + w.bus.sg_short x.sender) x i from (so.full x.sender known) (so.waits x.sender known)

    open_quiet : (k u b : ℕ) → ((x : Entry) → In x w.c.list → v ≤ x.moment → u ≤ x.moment) → b ≤ u → IsQuiet w.c k (v + w.bus.delay) b
    open_quiet k u b next low = is_quiet (ears w) k (v + w.bus.delay) b so.since (λ x i. elim (cases_lt x.moment v) [
      | inl before ↦ (let e : end_of x ≤ v = so.rest x i before in inr (omega arith))
      | inr on ↦ (let n : u ≤ x.moment = next x i on in inl (omega arith))
    ])

    open_synced : (k u : ℕ) → k < w.bus.senders → ((x : Entry) → In x w.c.list → v ≤ x.moment → u ≤ x.moment) → v + w.bus.delay + w.bus.sg_long k ≤ u
        → Synced (ears w) k (v + w.bus.delay + w.bus.sg_long k) (v + w.bus.delay + w.bus.sg_long k)
    open_synced k u known next low =
        sync_must (ears w) k (v + w.bus.delay) (v + w.bus.delay + w.bus.sg_long k) known (so.powered k known) (omega arith)
        (open_quiet k u (v + w.bus.delay + w.bus.sg_long k) next low)

    open_no_later : (u : ℕ) → ((x : Entry) → In x w.c.list → v ≤ x.moment → u ≤ x.moment) → v + w.bus.delay + w.bus.sg_long 0 + w.bus.tg_long 0 < u
        → v + w.bus.delay + w.bus.sg_long 0 + w.bus.tg_long 0 < w.c.horizon → HasLeft w.c 0 (v + w.bus.delay + w.bus.sg_long 0 + w.bus.tg_long 0) → ⊥
    open_no_later u next far soon left =
        let s : Synced (ears w) 0 (v + w.bus.delay + w.bus.sg_long 0) (v + w.bus.delay + w.bus.sg_long 0) = open_synced 0 u w.room.some next (omega arith) in
        let since : w.up ≤ v + w.bus.delay = so.since in
        let by : s.at ≤ v + w.bus.delay + w.bus.sg_long 0 = s.by in
        let earlier : (x : Entry) → In x w.c.list → x.moment < v + w.bus.delay + w.bus.sg_long 0 + w.bus.tg_long 0 → x.moment < v = λ x i less. elim (cases_lt x.moment v) [
          | inl before ↦ before
          | inr on ↦ (let n : u ≤ x.moment = next x i on in absurd (omega arith))
        ] in
        let none : (x : Entry) → In x w.c.list → x.sender ≡ 0 → x.moment < v + w.bus.delay + w.bus.sg_long 0 + w.bus.tg_long 0 → x.moment < s.at = λ x i mine less.
        (let before : x.moment < v = earlier x i less in s.none x i mine (omega arith)) in
        let idle : IsIdle w 0 (v + w.bus.delay + w.bus.sg_long 0 + w.bus.tg_long 0) = elim so.idle [
          | inl itself ↦ idle_itself w itself 0 s.at (v + w.bus.delay + w.bus.sg_long 0 + w.bus.tg_long 0) w.room.some s.sync none (omega arith)
          | inr p ↦ λ x i mine less.
              let passed : x.moment + part w w.bus.senders ≤ v + 0 + w.bus.tg_short 0 = p.1.same 0 w.room.some w.room.some x i mine (earlier x i less) in
              let cycle : w.bus.ti_long 0 + w.bus.tg_short 0 ≤ w.bus.sg_long 0 + part w w.bus.senders + w.bus.tg_long 0 = p.0.first in
              omega arith
        ] in
        let h : HasEntry w.c.list 0 (v + w.bus.delay + w.bus.sg_long 0 + w.bus.tg_long 0) =
        start_must w 0 s.at (v + w.bus.delay + w.bus.sg_long 0) (v + w.bus.delay + w.bus.sg_long 0 + w.bus.tg_long 0) w.room.some s.sync none s.by (omega arith) soon (omega arith)
        (λ t p q. open_quiet 0 u (v + w.bus.delay + w.bus.sg_long 0 + w.bus.tg_long 0) next (omega arith) t (omega arith) q) left idle in
        let at : h.entry.moment ≡ v + w.bus.delay + w.bus.sg_long 0 + w.bus.tg_long 0 = h.moment in
        let n : u ≤ h.entry.moment = next h.entry h.there (omega arith) in
        omega arith

    pub opening : Opening v (v + w.bus.sg_short 0 + w.bus.tg_short 0) (v + w.bus.delay + w.bus.sg_long 0 + w.bus.tg_long 0)
    opening = record {
      rest = so.rest;
      low = λ x i from mine. subst (λ k. v + w.bus.sg_short k + w.bus.tg_short k ≤ x.moment) mine (open_early x i from);
      fits = omega arith;
      by = open_no_later;
      ahead = λ x i from other.
          let known : x.sender < w.bus.senders = (started w x i).known in
          let room : w.bus.sg_long 0 + w.bus.tg_long 0 + 2 * w.bus.delay < w.bus.sg_short x.sender + w.bus.tg_short x.sender = w.room.opening 0 x.sender other known in
          let far : v + w.bus.sg_short x.sender + w.bus.tg_short x.sender ≤ x.moment = open_early x i from in
          omega arith;
      joined = λ k u more known next low.
          let joining : w.bus.sg_long k + w.bus.delay ≤ w.bus.sg_short 0 + w.bus.tg_short 0 = w.room.joining 0 k more known in
          weaker w k (v + w.bus.delay + w.bus.sg_long k) (v + w.bus.delay + w.bus.sg_long k) u v (open_synced k u known next (omega arith)) (omega arith) (omega arith);
      since = so.since;
      powered = λ k one. (let power : w.c.up k ≤ v + w.bus.delay = so.powered k one in omega arith);
      full = so.full;
      idle = λ y i mine from low only. idle_opening v y i mine from only low so.idle;
      lasts = so.lasts;
    }

  -- ---- round by round
  abbrev At : ℕ → ℕ → Type 0
  At v zero = Turn w v w.bus.senders
  At v (suc a) = (suc a < w.bus.senders) × Turn w v (suc a)

  pub next_at : (v a : ℕ) → Turn w v (suc a) → At v (next w.bus.senders a)
  next_at v a so =
      let upto : suc a ≤ w.bus.senders = so.upto in
      elim (nat_lt (suc a) w.bus.senders) as (λ b. nat_lt (suc a) w.bus.senders ≡ b → At v (cond b (suc a) 0)) [
        | true ↦ λ e. (ltb-true (suc a) w.bus.senders e, so)
        | false ↦ λ e. (let l : w.bus.senders ≤ suc a = ltb-false (suc a) w.bus.senders e in subst (Turn w v) (let e : suc a ≡ w.bus.senders = omega arith in e) so)
      ] refl

  pub in_rounds : (ys : List Entry) (v a : ℕ) → At v a → Left w v ys → InRounds w.bus w.c a v ys × AreClear w.bus.delay ys
  in_rounds [] v zero so left = (
    (λ k known has. elim (cases_lt (v + w.bus.delay + w.bus.sg_long 0 + w.bus.tg_long 0) w.c.horizon) [
      | inr fine ↦ fine
      | inl soon ↦ absurd (open_no_later v so (suc (v + w.bus.delay + w.bus.sg_long 0 + w.bus.tg_long 0)) (λ x i on. absurd (left.all x i on)) (omega arith) soon
          (left_first v so.lasts k (v + w.bus.delay + w.bus.sg_long 0 + w.bus.tg_long 0) (v + w.bus.delay + w.bus.sg_long 0 + w.bus.tg_long 0) known
          (has (v + w.bus.delay + w.bus.sg_long 0 + w.bus.tg_long 0) soon) (omega arith) (omega arith) soon (λ x i on. absurd (left.all x i on))))
    ]),
    tt,
  )
  in_rounds [] v (suc a) so left = (
    (λ k known has. elim (cases_lt (v + w.bus.delay + w.bus.tg_long (suc a)) w.c.horizon) [
      | inr fine ↦ fine
      | inl soon ↦ absurd (no_later v (suc a) (omega arith) so.0 so.1 (suc (v + w.bus.delay + w.bus.tg_long (suc a))) (λ x i on. absurd (left.all x i on)) (omega arith) soon
          (left_next v (suc a) so.0 so.1.lasts k (v + w.bus.delay + w.bus.tg_long (suc a)) (v + w.bus.delay + w.bus.tg_long (suc a)) known
          (has (v + w.bus.delay + w.bus.tg_long (suc a)) soon) (omega arith) (omega arith) soon (λ x i on. absurd (left.all x i on))))
    ]),
    tt,
  )
  in_rounds (y ∷ ys) v zero so left =
      let n : Opens v (v + w.bus.sg_short 0 + w.bus.tg_short 0) (v + w.bus.delay + w.bus.sg_long 0 + w.bus.tg_long 0) y ys =
      opens v (v + w.bus.sg_short 0 + w.bus.tg_short 0) (v + w.bus.delay + w.bus.sg_long 0 + w.bus.tg_long 0) (opening v so) y ys left in
      let more = in_rounds ys (end_of y) (next w.bus.senders 0) (next_at (end_of y) 0 (turn_then w v 0 y ys n.step)) (left_then w v 0 y ys n.step) in
      ((n.mine, n.low, n.high, more.0), (behind_then w v 0 y ys n.step, more.1))
  in_rounds (y ∷ ys) v (suc a) so left =
      let n : Next v (suc a) (omega arith) so.0 so.1 y ys = next_is v (suc a) (omega arith) so.0 so.1 y ys left in
      let more = in_rounds ys (end_of y) (next w.bus.senders (suc a)) (next_at (end_of y) (suc a) (turn_then w v (suc a) y ys n.step)) (left_then w v (suc a) y ys n.step) in
      ((n.mine, n.low, n.high, more.0), (behind_then w v (suc a) y ys n.step, more.1))
