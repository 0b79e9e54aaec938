-- What the two gaps of a sender have left at a moment.
use Rattle.std.proofs.Common.{◌≡◌, ℕ, suc, ◌+◌, ◌-◌, ◌<◌, ◌≤◌, ◌⊎◌, true, false, ◌&&◌, cond, inl, inr, arith, sym, refl, ap, ◌∙◌, subst, eq-eqb, ne_eqb, le-leb}
use Rattle.std.specs.Prelude.{nat_le}
use Rattle.std.proofs.lemmas.Bool.{cases_lt, true≢false}
use Rattle.bus_clocks.specs.Buses.{Bus}
use Rattle.bus_clocks.specs.Entries.{Entry, In}
use Rattle.bus_clocks.specs.Hearing.{Hears, hears_any}
use Rattle.bus_clocks.specs.Courses.{Begins, Course, IsCourse, IsQuiet, MayStart, SyncAt, carrier}
use Rattle.bus_clocks.specs.Faults.{MayStartBehind, SyncBehind, TimersLeft, gap_at, stands, wait_at}
use Rattle.bus_clocks.proofs.Existence.{None, dec_below, dec_both, dec_none, dec_sync}
use Rattle.bus_clocks.proofs.Timers.{Beginning, beginning, or_false, quiet_each}

module _ (bus : Bus) (c : Course) (fault : ℕ) (ok : IsCourse bus c) (k : ℕ) (known : k < bus.senders) where
  -- the two gaps let the sender start
  pub record Go (t : ℕ) : Type 0 where
    pub sync : ℕ
    pub synced : SyncAt c k sync
    pub none : (x : Entry) → In x c.list → x.sender ≡ k → x.moment < t → x.moment < sync
    pub from : ℕ
    pub begins : (from ≡ sync) ⊎ ((sync < from) × (carrier c k (from - 1) ≡ true))
    pub quiet : IsQuiet c k from t
    pub terminal : from + c.tg k from ≤ t

  pub record GoBehind (left : TimersLeft) (t : ℕ) : Type 0 where
    pub sync : ℕ
    pub synced : SyncBehind c fault left k sync
    pub none : (x : Entry) → In x c.list → x.sender ≡ k → fault ≤ x.moment → x.moment < t → x.moment < sync
    pub from : ℕ
    pub begins : (from ≡ sync) ⊎ ((sync < from) × (carrier c k (from - 1) ≡ true))
    pub quiet : IsQuiet c k from t
    pub terminal : from + gap_at c fault left k from ≤ t

  pub go_of : (t : ℕ) → MayStart c k t → Go t
  go_of t s = record { sync = s.sync; synced = s.synced; none = s.none; from = s.from; begins = s.begins; quiet = s.quiet; terminal = s.terminal }

  pub behind_of : (left : TimersLeft) (t : ℕ) → MayStartBehind c fault left k t → GoBehind left t
  behind_of left t s = record { sync = s.sync; synced = s.synced; none = s.none; from = s.from; begins = s.begins; quiet = s.quiet; terminal = s.terminal }

  -- who hears nothing doesn't start
  pub own_quiet : (a b : ℕ) (x : Entry) → In x c.list → x.sender ≡ k → IsQuiet c k a b → a ≤ x.moment → x.moment < b → ⊥
  own_quiet a b x i mine quiet low high =
      let h : Hears c.hears 0 bus.drop x k = subst (λ n. Hears c.hears 0 bus.drop x n) mine (ok.own x i) in
      let soon : h.first ≤ x.moment + 0 = h.first_soon in
      let from : x.moment ≤ h.first = (h.within h.first h.first_heard).0 in
      true≢false (sym h.first_heard ∙ quiet_each c.hears c.list k h.first
      (or_false (c.noise k h.first) (hears_any c.hears c.list k h.first) (quiet h.first (omega arith) (omega arith))).1 x i)

  pub begins_up : (a : ℕ) → Begins c k a → c.up k ≤ a
  begins_up a (inl is) = omega arith
  begins_up a (inr p) = (let l : c.up k < a = p.0 in omega arith)

  sync_up : (e : ℕ) → SyncAt c k e → c.up k ≤ e
  sync_up e s = (let up : c.up k ≤ s.from = begins_up s.from s.begins in let is : s.from + c.sg k s.from ≡ e = s.elapsed in omega arith)

  pub may_of : (x : Entry) → In x c.list → x.sender ≡ k → MayStart c k x.moment
  may_of x i mine = ((ok.exact k x.moment known (ok.sent x i).1).0 (record { entry = x; there = i; sender = mine; moment = refl })).0

  from_low : (t : ℕ) (g : Go t) → g.sync ≤ g.from
  from_low t g = elim g.begins [ inl is ↦ omega arith | inr p ↦ (let l : g.sync < g.from = p.0 in omega arith) ]

  from_behind : (left : TimersLeft) (t : ℕ) (g : GoBehind left t) → g.sync ≤ g.from
  from_behind left t g = elim g.begins [ inl is ↦ omega arith | inr p ↦ (let l : g.sync < g.from = p.0 in omega arith) ]

  pub start_up : (x : Entry) → In x c.list → x.sender ≡ k → c.up k ≤ x.moment
  start_up x i mine =
      let s : MayStart c k x.moment = may_of x i mine in
      let up : c.up k ≤ s.sync = sync_up s.sync s.synced in
      let low : s.sync ≤ s.from = elim s.begins [ inl is ↦ omega arith | inr p ↦ (let l : s.sync < s.from = p.0 in omega arith) ] in
      let terminal : s.from + c.tg k s.from ≤ x.moment = s.terminal in
      omega arith

  -- a timer that is begun elsewhere takes its own length
  stands_else : (a : ℕ) → (a ≡ fault → ⊥) → stands c fault k a ≡ false
  stands_else a other = ap (λ b. b && nat_le (c.up k) fault) (ne_eqb a fault other)

  wait_else : (left : TimersLeft) (a : ℕ) → (a ≡ fault → ⊥) → wait_at c fault left k a ≡ c.sg k a
  wait_else left a other = ap (λ b. cond b (left.wait k) (c.sg k a)) (stands_else a other)

  gap_else : (left : TimersLeft) (a : ℕ) → (a ≡ fault → ⊥) → gap_at c fault left k a ≡ c.tg k a
  gap_else left a other = ap (λ b. cond b (left.gap k) (c.tg k a)) (stands_else a other)

  pub sync_behind : (left : TimersLeft) (e : ℕ) (s : SyncAt c k e) → fault < s.from → SyncBehind c fault left k e
  sync_behind left e s more = record {
    from = s.from;
    begins = inr (more, s.begins);
    quiet = s.quiet;
    elapsed = subst (λ n. s.from + n ≡ e) (sym (wait_else left s.from (λ is. omega arith))) s.elapsed;
  }

  -- ---- who is powered up by then
  module _ (old : c.up k ≤ fault) where
    stands_fault : stands c fault k fault ≡ true
    stands_fault = ap (λ b. b && nat_le (c.up k) fault) (eq-eqb fault fault refl) ∙ le-leb (c.up k) fault old

    wait_fault : (left : TimersLeft) → wait_at c fault left k fault ≡ left.wait k
    wait_fault left = ap (λ b. cond b (left.wait k) (c.sg k fault)) stands_fault

    gap_fault : (left : TimersLeft) → gap_at c fault left k fault ≡ left.gap k
    gap_fault left = ap (λ b. cond b (left.gap k) (c.tg k fault)) stands_fault

    pub q : Beginning (carrier c k) (c.up k) fault
    q = beginning (carrier c k) (c.up k) (fault - c.up k) fault (omega arith)

    abbrev pub a : ℕ
    a = q.from

    abbrev pub e1 : ℕ
    e1 = a + c.sg k a

    -- quiet that lasts from where it begins into that which lasts until the fault begins there
    begin_at : (f m : ℕ) → Begins c k f → a ≤ m → m ≤ fault → f ≤ fault → IsQuiet c k f m → f ≡ a
    begin_at f m begins low high near quiet =
        let up_a : c.up k ≤ q.from = q.low in
        let high_a : q.from ≤ fault = q.high in
        let up : c.up k ≤ f = begins_up f begins in
        elim (cases_lt f q.from) [
          | inl early ↦ elim q.begins [
            | inl is ↦ absurd (omega arith)
            | inr p ↦ absurd (true≢false (sym p.1 ∙ quiet (q.from - 1) (omega arith) (omega arith)))
          ]
          | inr late ↦ elim (cases_lt q.from f) [
            | inr same ↦ omega arith
            | inl later ↦ elim begins [
              | inl is ↦ absurd (omega arith)
              | inr p ↦ absurd (true≢false (sym p.1 ∙ q.quiet (f - 1) (omega arith) (omega arith)))
            ]
          ]
        ]

    sync_a : (t : ℕ) → e1 ≤ t → IsQuiet c k a t → SyncAt c k e1
    sync_a t low quiet = record { from = q.from; begins = q.begins; quiet = λ u m n. quiet u m (omega arith); elapsed = refl }

    quiet_on : (t : ℕ) → IsQuiet c k fault t → IsQuiet c k a t
    quiet_on t quiet u m n = elim (cases_lt u fault) [ inl before ↦ q.quiet u m before | inr on ↦ quiet u on n ]

    -- the sender is in sync at the fault, and where all stays quiet its terminal gap is over at moment `over`
    pub record IsSynced : Type 0 where
      pub over : ℕ
      pub near : over ≤ fault + bus.tg_long k
      pub first : (e : ℕ) → e ≤ a → SyncAt c k e → None c k fault e → over ≤ a + c.tg k a
      pub second : over ≤ e1 + c.tg k e1
      pub quietly : (t : ℕ) → fault ≤ t → IsQuiet c k fault t → over ≤ t → Go t
      pub since : (e : ℕ) × (e ≤ fault) × SyncAt c k e × None c k fault e

    -- or it waits
    pub record IsWaiting : Type 0 where
      pub later : fault < e1
      pub none : (e : ℕ) → e ≤ a → SyncAt c k e → None c k fault e → ⊥

    none_on : (t e : ℕ) → None c k fault e → IsQuiet c k fault t → (x : Entry) → In x c.list → x.sender ≡ k → x.moment < t → x.moment < e
    none_on t e none quiet x i mine less = elim (cases_lt x.moment fault) [
      | inl before ↦ none x i mine before
      | inr on ↦ absurd (own_quiet fault t x i mine quiet on less)
    ]

    go_second : (t : ℕ) → fault ≤ t → IsQuiet c k fault t → e1 + c.tg k e1 ≤ t → Go t
    go_second t low quiet by = record {
      sync = e1;
      synced = sync_a t (omega arith) (quiet_on t quiet);
      none = λ x i mine less. elim (cases_lt x.moment e1) [
        | inl fine ↦ fine
        | inr on ↦ absurd (own_quiet q.from t x i mine (quiet_on t quiet) (omega arith) less)
      ];
      from = e1;
      begins = inl refl;
      quiet = λ u m n. quiet_on t quiet u (omega arith) n;
      terminal = by;
    }

    go_first : (e t : ℕ) → e ≤ a → SyncAt c k e → None c k fault e → fault ≤ t → IsQuiet c k fault t → a + c.tg k a ≤ t → Go t
    go_first e t low sync none on quiet by = record {
      sync = e;
      synced = sync;
      none = none_on t e none quiet;
      from = q.from;
      begins = elim q.begins [
        | inl is ↦ (let up : c.up k ≤ e = sync_up e sync in inl (omega arith))
        | inr p ↦ elim (cases_lt e q.from) [ inl less ↦ inr (less, p.1) | inr same ↦ inl (omega arith) ]
      ];
      quiet = quiet_on t quiet;
      terminal = by;
    }

    pub state : IsSynced ⊎ IsWaiting
    state =
        let high_a : q.from ≤ fault = q.high in
        let brief : c.tg k q.from ≤ bus.tg_long k = ok.tg_high k q.from known in
        elim (dec_below (λ e. SyncAt c k e × None c k fault e) (λ e. dec_both (dec_sync c k e) (dec_none c k fault e)) (suc q.from)) [
          | inl p ↦
              let low : p.0 < suc q.from = p.1 in
              elim (cases_lt (e1 + c.tg k e1) (a + c.tg k a)) [
                | inl sooner ↦ inl (record {
                  over = e1 + c.tg k e1;
                  near = omega arith;
                  first = λ e by sync none. omega arith;
                  second = omega arith;
                  quietly = go_second;
                  since = (p.0, omega arith, p.2.0, p.2.1);
                })
                | inr later ↦ inl (record {
                  over = a + c.tg k a;
                  near = omega arith;
                  first = λ e by sync none. omega arith;
                  second = later;
                  quietly = λ t low_t quiet by. go_first p.0 t (omega arith) p.2.0 p.2.1 low_t quiet by;
                  since = (p.0, omega arith, p.2.0, p.2.1);
                })
              ]
          | inr none ↦
              let none_a : (e : ℕ) → e ≤ a → SyncAt c k e → None c k fault e → ⊥ = λ e by sync clear. none (e, omega arith, (sync, clear)) in
              elim (cases_lt fault e1) [
                | inl later ↦ inr (record { later = later; none = none_a })
                | inr over_e ↦
                    let brief_e : c.tg k e1 ≤ bus.tg_long k = ok.tg_high k e1 known in
                    inl (record {
                      over = e1 + c.tg k e1;
                      near = omega arith;
                      first = λ e by sync clear. absurd (none_a e by sync clear);
                      second = omega arith;
                      quietly = go_second;
                      since = (
                        e1,
                        over_e,
                        sync_a fault over_e q.quiet,
                        (λ x i mine less. elim (cases_lt x.moment e1) [
                          | inl fine ↦ fine
                          | inr on ↦ absurd (own_quiet q.from fault x i mine q.quiet (omega arith) less)
                        ]),
                      );
                    })
              ]
        ]

    sync_fault : (left : TimersLeft) → left.wait k ≡ 0 → SyncBehind c fault left k fault
    sync_fault left none = record {
      from = fault;
      begins = inl (refl, old);
      quiet = λ u m n. absurd (omega arith);
      elapsed = (let is : wait_at c fault left k fault ≡ left.wait k = wait_fault left in omega arith);
    }

    -- a start that counts its terminal gap from the fault
    stay : (left : TimersLeft) (t g : ℕ) → left.wait k ≡ 0 → left.gap k ≡ g → IsQuiet c k fault t → fault + g ≤ t → GoBehind left t
    stay left t g none is quiet by = record {
      sync = fault;
      synced = sync_fault left none;
      none = λ x i mine on less. absurd (own_quiet fault t x i mine quiet on less);
      from = fault;
      begins = inl refl;
      quiet = quiet;
      terminal = (let gap : gap_at c fault left k fault ≡ left.gap k = gap_fault left in omega arith);
    }

    module _ (s : IsSynced) (left : TimersLeft) (none : left.wait k ≡ 0) (rest : left.gap k ≡ s.over - fault) where
      -- from the fault on all is quiet
      there_quiet : (t : ℕ) → fault ≤ t → IsQuiet c k fault t → s.over ≤ t → GoBehind left t
      there_quiet t low quiet by = stay left t (s.over - fault) none rest quiet (omega arith)

      there_early : (t : ℕ) (g : Go t) → fault ≤ t → g.from ≤ fault → GoBehind left t
      there_early t g low early =
          let sync_low : g.sync ≤ g.from = from_low t g in
          let up : c.up k ≤ g.sync = sync_up g.sync g.synced in
          let high_a : q.from ≤ fault = q.high in
          let up_a : c.up k ≤ q.from = q.low in
          let clear : None c k fault g.sync = λ x i mine less. g.none x i mine (omega arith) in
          let quiet_f : IsQuiet c k g.from fault = λ u m n. g.quiet u m (omega arith) in
          let by : s.over ≤ g.from + c.tg k g.from = elim g.begins [
            | inr p ↦
                let less : g.sync < g.from = p.0 in
                let is : g.from ≡ q.from = begin_at g.from fault (inr (omega arith, p.1)) high_a (omega arith) early quiet_f in
                subst (λ n. s.over ≤ n + c.tg k n) (sym is) (s.first g.sync (omega arith) g.synced clear)
            | inl same ↦ elim (cases_lt q.from g.sync) [
              | inl behind ↦
                  let begun : g.synced.from ≡ q.from =
                  begin_at g.synced.from g.sync g.synced.begins (omega arith) (omega arith) (let is : g.synced.from + c.sg k g.synced.from ≡ g.sync = g.synced.elapsed in omega arith) g.synced.quiet in
                  let at : q.from + c.sg k q.from ≡ g.sync = subst (λ n. n + c.sg k n ≡ g.sync) begun g.synced.elapsed in
                  subst (λ n. s.over ≤ n + c.tg k n) (at ∙ sym same) s.second
              | inr low_sync ↦
                  let is : g.from ≡ q.from = elim (cases_lt g.from q.from) [
                    | inr no_less ↦ omega arith
                    | inl less ↦ elim q.begins [
                      | inl is_up ↦ absurd (omega arith)
                      | inr p ↦ absurd (true≢false (sym p.1 ∙ quiet_f (q.from - 1) (omega arith) (omega arith)))
                    ]
                  ] in
                  subst (λ n. s.over ≤ n + c.tg k n) (sym is) (s.first g.sync (omega arith) g.synced clear)
            ]
          ] in
          let terminal : g.from + c.tg k g.from ≤ t = g.terminal in
          there_quiet t low (λ u m n. g.quiet u (omega arith) n) (omega arith)

      there_late : (t : ℕ) (g : Go t) → fault ≤ t → fault < g.from → GoBehind left t
      there_late t g low late =
          let gap : gap_at c fault left k g.from ≡ c.tg k g.from = gap_else left g.from (λ e. omega arith) in
          let terminal : g.from + c.tg k g.from ≤ t = g.terminal in
          let elapsed : g.synced.from + c.sg k g.synced.from ≡ g.sync = g.synced.elapsed in
          let high_a : q.from ≤ fault = q.high in
          elim (cases_lt fault g.synced.from) [
            | inl later ↦ record {
              sync = g.sync;
              synced = sync_behind left g.sync g.synced later;
              none = λ x i mine on less. g.none x i mine less;
              from = g.from;
              begins = g.begins;
              quiet = g.quiet;
              terminal = omega arith;
            }
            | inr begun_early ↦ elim (cases_lt fault g.sync) [
              | inr sync_early ↦ record {
                sync = fault;
                synced = sync_fault left none;
                none = λ x i mine on less. (let bad : x.moment < g.sync = g.none x i mine less in absurd (omega arith));
                from = g.from;
                begins = elim g.begins [ inl same ↦ absurd (omega arith) | inr p ↦ inr (late, p.1) ];
                quiet = g.quiet;
                terminal = omega arith;
              }
              | inl sync_late ↦
                  let begun : g.synced.from ≡ q.from =
                  begin_at g.synced.from fault g.synced.begins high_a (omega arith) begun_early (λ u m n. g.synced.quiet u m (omega arith)) in
                  let at : q.from + c.sg k q.from ≡ g.sync = subst (λ n. n + c.sg k n ≡ g.sync) begun g.synced.elapsed in
                  elim g.begins [
                    | inl same ↦
                        let by : s.over ≤ g.from + c.tg k g.from = subst (λ n. s.over ≤ n + c.tg k n) (at ∙ sym same) s.second in
                        there_quiet t low (λ u m n. elim (cases_lt u g.from) [
                          | inl before ↦ g.synced.quiet u (omega arith) (omega arith)
                          | inr on ↦ g.quiet u on n
                        ]) (omega arith)
                    | inr p ↦ record {
                      sync = fault;
                      synced = sync_fault left none;
                      none = λ x i mine on less.
                          let before : x.moment < g.sync = g.none x i mine less in
                          absurd (own_quiet g.synced.from g.sync x i mine g.synced.quiet (omega arith) before);
                      from = g.from;
                      begins = inr (late, p.1);
                      quiet = g.quiet;
                      terminal = omega arith;
                    }
                  ]
            ]
          ]

      pub there_synced : (t : ℕ) → fault ≤ t → Go t → GoBehind left t
      there_synced t low g = elim (cases_lt fault g.from) [ inl late ↦ there_late t g low late | inr early ↦ there_early t g low early ]

      pub back_synced : (t : ℕ) → fault ≤ t → GoBehind left t → Go t
      back_synced t low g = elim g.synced.begins [
        | inr p ↦
            let more : fault < g.synced.from = p.0 in
            let is : wait_at c fault left k g.synced.from ≡ c.sg k g.synced.from = wait_else left g.synced.from (λ e. omega arith) in
            let elapsed : g.synced.from + wait_at c fault left k g.synced.from ≡ g.sync = g.synced.elapsed in
            let sync_low : g.sync ≤ g.from = from_behind left t g in
            let gap : gap_at c fault left k g.from ≡ c.tg k g.from = gap_else left g.from (λ e. omega arith) in
            let terminal : g.from + gap_at c fault left k g.from ≤ t = g.terminal in
            record {
              sync = g.sync;
              synced = record { from = g.synced.from; begins = p.1; quiet = g.synced.quiet; elapsed = omega arith };
              none = λ x i mine less. elim (cases_lt x.moment fault) [ inl before ↦ omega arith | inr on ↦ g.none x i mine on less ];
              from = g.from;
              begins = g.begins;
              quiet = g.quiet;
              terminal = omega arith;
            }
        | inl p ↦
            let at : g.synced.from ≡ fault = p.0 in
            let is : wait_at c fault left k g.synced.from ≡ 0 = ap (λ n. wait_at c fault left k n) at ∙ wait_fault left ∙ none in
            let elapsed : g.synced.from + wait_at c fault left k g.synced.from ≡ g.sync = g.synced.elapsed in
            let sync_is : g.sync ≡ fault = omega arith in
            elim g.begins [
              | inl same ↦
                  let from_is : g.from ≡ fault = same ∙ sync_is in
                  let gap : gap_at c fault left k g.from ≡ s.over - fault = ap (λ n. gap_at c fault left k n) from_is ∙ gap_fault left ∙ rest in
                  let terminal : g.from + gap_at c fault left k g.from ≤ t = g.terminal in
                  s.quietly t low (λ u m n. g.quiet u (omega arith) n) (omega arith)
              | inr w ↦
                  let after : g.sync < g.from = w.0 in
                  let gap : gap_at c fault left k g.from ≡ c.tg k g.from = gap_else left g.from (λ e. omega arith) in
                  let terminal : g.from + gap_at c fault left k g.from ≤ t = g.terminal in
                  let early : s.since.0 ≤ fault = s.since.1 in
                  record {
                    sync = s.since.0;
                    synced = s.since.2;
                    none = λ x i mine less. elim (cases_lt x.moment fault) [
                      | inl before ↦ s.since.3 x i mine before
                      | inr on ↦ (let bad : x.moment < g.sync = g.none x i mine on less in absurd (omega arith))
                    ];
                    from = g.from;
                    begins = inr (omega arith, w.1);
                    quiet = g.quiet;
                    terminal = omega arith;
                  }
            ]
      ]

    module _ (s : IsWaiting) (left : TimersLeft) (wait : left.wait k ≡ e1 - fault) where
      pub there_waiting : (t : ℕ) → fault ≤ t → Go t → GoBehind left t
      there_waiting t low g =
          let high_a : q.from ≤ fault = q.high in
          let later : fault < e1 = s.later in
          let sync_low : g.sync ≤ g.from = from_low t g in
          let clear : None c k fault g.sync = λ x i mine less. g.none x i mine (omega arith) in
          let elapsed : g.synced.from + c.sg k g.synced.from ≡ g.sync = g.synced.elapsed in
          let sync_late : fault < g.sync = elim (cases_lt fault g.sync) [
            | inl fine ↦ fine
            | inr early ↦ elim (cases_lt q.from g.sync) [
              | inr low_sync ↦ absurd (s.none g.sync low_sync g.synced clear)
              | inl behind ↦
                  let begun : g.synced.from ≡ q.from = begin_at g.synced.from g.sync g.synced.begins (omega arith) early (omega arith) g.synced.quiet in
                  let at : q.from + c.sg k q.from ≡ g.sync = subst (λ n. n + c.sg k n ≡ g.sync) begun g.synced.elapsed in
                  absurd (omega arith)
            ]
          ] in
          let gap : gap_at c fault left k g.from ≡ c.tg k g.from = gap_else left g.from (λ e. omega arith) in
          let terminal : g.from + c.tg k g.from ≤ t = g.terminal in
          record {
            sync = g.sync;
            synced = elim (cases_lt fault g.synced.from) [
              | inl more ↦ sync_behind left g.sync g.synced more
              | inr early ↦
                  let begun : g.synced.from ≡ q.from =
                  begin_at g.synced.from fault g.synced.begins high_a (omega arith) early (λ u m n. g.synced.quiet u m (omega arith)) in
                  let at : q.from + c.sg k q.from ≡ g.sync = subst (λ n. n + c.sg k n ≡ g.sync) begun g.synced.elapsed in
                  let is : wait_at c fault left k fault ≡ left.wait k = wait_fault left in
                  record { from = fault; begins = inl (refl, old); quiet = λ u m n. g.synced.quiet u (omega arith) n; elapsed = omega arith }
            ];
            none = λ x i mine on less. g.none x i mine less;
            from = g.from;
            begins = g.begins;
            quiet = g.quiet;
            terminal = omega arith;
          }

      pub back_waiting : (t : ℕ) → fault ≤ t → GoBehind left t → Go t
      back_waiting t low g =
          let later : fault < e1 = s.later in
          let sync_low : g.sync ≤ g.from = from_behind left t g in
          let elapsed : g.synced.from + wait_at c fault left k g.synced.from ≡ g.sync = g.synced.elapsed in
          let both : (fault < g.sync) × SyncAt c k g.sync = elim g.synced.begins [
            | inr p ↦
                let more : fault < g.synced.from = p.0 in
                let is : wait_at c fault left k g.synced.from ≡ c.sg k g.synced.from = wait_else left g.synced.from (λ e. omega arith) in
                (omega arith, record { from = g.synced.from; begins = p.1; quiet = g.synced.quiet; elapsed = omega arith })
            | inl p ↦
                let at : g.synced.from ≡ fault = p.0 in
                let is : wait_at c fault left k g.synced.from ≡ e1 - fault = ap (λ n. wait_at c fault left k n) at ∙ wait_fault left ∙ wait in
                let sync_is : e1 ≡ g.sync = omega arith in
                (omega arith, subst (SyncAt c k) sync_is (sync_a g.sync (omega arith) (quiet_on g.sync (λ u m n. g.synced.quiet u (omega arith) n))))
          ] in
          let late : fault < g.sync = both.0 in
          let gap : gap_at c fault left k g.from ≡ c.tg k g.from = gap_else left g.from (λ e. omega arith) in
          let terminal : g.from + gap_at c fault left k g.from ≤ t = g.terminal in
          record {
            sync = g.sync;
            synced = both.1;
            none = λ x i mine less. elim (cases_lt x.moment fault) [ inl before ↦ omega arith | inr on ↦ g.none x i mine on less ];
            from = g.from;
            begins = g.begins;
            quiet = g.quiet;
            terminal = omega arith;
          }
