-- What a bus does behind a fault is a course that begins at the fault.
use Rattle.std.proofs.Common.{◌≡◌, ℕ, suc, ◌+◌, ◌-◌, ◌<◌, ◌≤◌, Bool, true, false, ◌||◌, ◌&&◌, cond, eqb, ltb, List, [], ◌∷◌, length, Option, Some, None, inl, inr, arith, sym, refl, ap, ◌∙◌, subst, eqb-true, leb-true, le-leb, lt-ltb}
use Rattle.std.specs.Prelude.{IfSome, nat_le}
use Rattle.std.specs.Option.{option_map}
use Rattle.std.proofs.lemmas.Bool.{cases_lt, cases_Bool, and_parts}
use Rattle.bus_clocks.specs.Buses.{Bus}
use Rattle.bus_clocks.specs.Entries.{Entry, In, IsAscending, end_of, own}
use Rattle.bus_clocks.specs.Hearing.{hears_any}
use Rattle.bus_clocks.specs.Courses.{Course, HasEntry, HasLeft, IsCourse, IsFresh, IsLeftAlone, IsQuiet, MayStart, SyncAt, carrier}
use Rattle.bus_clocks.specs.Faults.{FaultsAreCourses, FaultsSettle, IsBehindFault, IsFaultOver, MayStartBehind, SyncBehind, TimersLeft, behind, rebased, stands, until}
use Rattle.bus_clocks.proofs.Lists.{later_false, sooner_false}
use Rattle.bus_clocks.proofs.Hands.{left_by, own_most}
use Rattle.bus_clocks.proofs.Orders.{any_start_settles}
use Rattle.bus_clocks.proofs.Parts.{or_into, or_over}
use Rattle.bus_clocks.proofs.Timers.{or_both, quiet_all, unheard}

-- ---- what is sent before and behind

both : {a b : Bool} → a ≡ true → b ≡ true → a && b ≡ true
both {a} {b} one two = ap (λ x. x && b) one ∙ two

neither : (a b : Bool) → b ≡ false → a && b ≡ false
neither true b no' = no'
neither false b no' = refl

module _ (t : ℕ) where
  behind_in : (x : Entry) (l : List Entry) → t ≤ x.moment → behind t (x ∷ l) ≡ x ∷ behind t l
  behind_in x l on = ap (λ b. cond b (x ∷ behind t l) (behind t l)) (le-leb t x.moment on)

  behind_out : (x : Entry) (l : List Entry) → x.moment < t → behind t (x ∷ l) ≡ behind t l
  behind_out x l less = ap (λ b. cond b (x ∷ behind t l) (behind t l)) (later_false t x.moment less)

  until_in : (x : Entry) (l : List Entry) → x.moment < t → until t (x ∷ l) ≡ x ∷ until t l
  until_in x l less = ap (λ b. cond b (x ∷ until t l) (until t l)) (lt-ltb x.moment t less)

  until_out : (x : Entry) (l : List Entry) → t ≤ x.moment → until t (x ∷ l) ≡ until t l
  until_out x l on = ap (λ b. cond b (x ∷ until t l) (until t l)) (sooner_false x.moment t on)

  pub from_behind : (l : List Entry) (y : Entry) → In y (behind t l) → In y l × (t ≤ y.moment)
  from_behind [] y j = absurd j
  from_behind (x ∷ l) y j = elim (cases_lt x.moment t) [
    | inl less ↦ (let r = from_behind l y (subst (In y) (behind_out x l less) j) in (inr r.0, r.1))
    | inr on ↦
        let k : In y (x ∷ behind t l) = subst (In y) (behind_in x l on) j in
        elim k [
          | inl same ↦ (inl same, subst (λ (z : Entry). t ≤ z.moment) (sym same) on)
          | inr later ↦ (let r = from_behind l y later in (inr r.0, r.1))
        ]
  ]

  pub in_behind : (l : List Entry) (y : Entry) → In y l → t ≤ y.moment → In y (behind t l)
  in_behind [] y j low = absurd j
  in_behind (x ∷ l) y (inl same) low =
      subst (In y) (sym (behind_in x l (subst (λ (z : Entry). t ≤ z.moment) same low))) (inl same)
  in_behind (x ∷ l) y (inr j) low = elim (cases_lt x.moment t) [
    | inl less ↦ subst (In y) (sym (behind_out x l less)) (in_behind l y j low)
    | inr on ↦ subst (In y) (sym (behind_in x l on)) (inr (in_behind l y j low))
  ]

  from_until : (l : List Entry) (y : Entry) → In y (until t l) → In y l × (y.moment < t)
  from_until [] y j = absurd j
  from_until (x ∷ l) y j = elim (cases_lt x.moment t) [
    | inr on ↦ (let r = from_until l y (subst (In y) (until_out x l on) j) in (inr r.0, r.1))
    | inl less ↦
        let k : In y (x ∷ until t l) = subst (In y) (until_in x l less) j in
        elim k [
          | inl same ↦ (inl same, subst (λ (z : Entry). z.moment < t) (sym same) less)
          | inr later ↦ (let r = from_until l y later in (inr r.0, r.1))
        ]
  ]

  behind_up : (l : List Entry) → IsAscending l → IsAscending (behind t l)
  behind_up [] up = tt
  behind_up (x ∷ l) up = elim (cases_lt x.moment t) [
    | inl less ↦ subst IsAscending (sym (behind_out x l less)) (behind_up l up.1)
    | inr on ↦ subst IsAscending (sym (behind_in x l on)) ((λ y j. up.0 y (from_behind l y j).0), behind_up l up.1)
  ]

  heard_split : (h : Entry → ℕ → ℕ → Bool) (l : List Entry) (n u : ℕ) → hears_any h l n u ≡ hears_any h (until t l) n u || hears_any h (behind t l) n u
  heard_split h [] n u = refl
  heard_split h (x ∷ l) n u = elim (cases_lt x.moment t) [
    | inl less ↦
        ap (λ b. h x n u || b) (heard_split h l n u)
        ∙ sym (or_into (h x n u) (hears_any h (until t l) n u) (hears_any h (behind t l) n u))
        ∙ sym (ap (λ m. hears_any h m n u || hears_any h (behind t (x ∷ l)) n u) (until_in x l less)
        ∙ ap (λ m. (h x n u || hears_any h (until t l) n u) || hears_any h m n u) (behind_out x l less))
    | inr on ↦
        ap (λ b. h x n u || b) (heard_split h l n u)
        ∙ or_over (h x n u) (hears_any h (until t l) n u) (hears_any h (behind t l) n u)
        ∙ sym (ap (λ m. hears_any h m n u || hears_any h (behind t (x ∷ l)) n u) (until_out x l on)
        ∙ ap (λ m. hears_any h (until t l) n u || hears_any h m n u) (behind_in x l on))
  ]

  -- what a sender has sent before and behind
  own_split : (l : List Entry) (k u : ℕ) → t ≤ u → length (own l k u) ≡ length (own l k t) + length (own (behind t l) k u)
  own_split [] k u low = refl
  own_split (x ∷ l) k u low =
      let rest : length (own l k u) ≡ length (own l k t) + length (own (behind t l) k u) = own_split l k u low in
      elim (cases_lt x.moment t) [
        | inl less ↦
            let three : length (own (behind t (x ∷ l)) k u) ≡ length (own (behind t l) k u) = ap (λ m. length (own m k u)) (behind_out x l less) in
            elim (cases_Bool (eqb x.sender k)) [
              | inl mine ↦
                  let one : length (own (x ∷ l) k u) ≡ suc (length (own l k u)) =
                  ap (λ b. length (cond b (x ∷ own l k u) (own l k u))) (both mine (lt-ltb x.moment u (omega arith))) in
                  let two : length (own (x ∷ l) k t) ≡ suc (length (own l k t)) =
                  ap (λ b. length (cond b (x ∷ own l k t) (own l k t))) (both mine (lt-ltb x.moment t less)) in
                  omega arith
              | inr other ↦
                  let one : length (own (x ∷ l) k u) ≡ length (own l k u) = ap (λ b. length (cond (b && ltb x.moment u) (x ∷ own l k u) (own l k u))) other in
                  let two : length (own (x ∷ l) k t) ≡ length (own l k t) = ap (λ b. length (cond (b && ltb x.moment t) (x ∷ own l k t) (own l k t))) other in
                  omega arith
            ]
        | inr on ↦
            let two : length (own (x ∷ l) k t) ≡ length (own l k t) =
            ap (λ b. length (cond b (x ∷ own l k t) (own l k t))) (neither (eqb x.sender k) (ltb x.moment t) (sooner_false x.moment t on)) in
            let three : length (own (behind t (x ∷ l)) k u) ≡ length (own (x ∷ behind t l) k u) = ap (λ m. length (own m k u)) (behind_in x l on) in
            elim (cases_Bool (eqb x.sender k && ltb x.moment u)) [
              | inl yes' ↦
                  let one : length (own (x ∷ l) k u) ≡ suc (length (own l k u)) = ap (λ b. length (cond b (x ∷ own l k u) (own l k u))) yes' in
                  let four : length (own (x ∷ behind t l) k u) ≡ suc (length (own (behind t l) k u)) =
                  ap (λ b. length (cond b (x ∷ own (behind t l) k u) (own (behind t l) k u))) yes' in
                  omega arith
              | inr no' ↦
                  let one : length (own (x ∷ l) k u) ≡ length (own l k u) = ap (λ b. length (cond b (x ∷ own l k u) (own l k u))) no' in
                  let four : length (own (x ∷ behind t l) k u) ≡ length (own (behind t l) k u) =
                  ap (λ b. length (cond b (x ∷ own (behind t l) k u) (own (behind t l) k u))) no' in
                  omega arith
            ]
      ]

module _ (bus : Bus) (c : Course) (fault : ℕ) (left : TimersLeft) where
  abbrev d : Course
  d = rebased c fault left

  carrier_same : (n u : ℕ) → carrier c n u ≡ carrier d n u
  carrier_same n u =
      ap (λ b. c.noise n u || b) (heard_split fault c.hears c.list n u)
      ∙ sym (or_into (c.noise n u) (hears_any c.hears (until fault c.list) n u) (hears_any c.hears (behind fault c.list) n u))

  up_old : (k : ℕ) → c.up k ≤ fault → d.up k ≡ fault
  up_old k low = ap (λ b. cond b fault (c.up k)) (le-leb (c.up k) fault low)

  up_new : (k : ℕ) → fault < c.up k → d.up k ≡ c.up k
  up_new k more = ap (λ b. cond b fault (c.up k)) (later_false (c.up k) fault more)

  up_low : (k : ℕ) → (fault ≤ d.up k) × (c.up k ≤ d.up k)
  up_low k = elim (cases_lt fault (c.up k)) [
    | inl more ↦ (let e : d.up k ≡ c.up k = up_new k more in (omega arith, omega arith))
    | inr low ↦ (let e : d.up k ≡ fault = up_old k low in (omega arith, omega arith))
  ]

  quiet_there : (n a b : ℕ) → IsQuiet c n a b → IsQuiet d n a b
  quiet_there n a b quiet u p q = sym (carrier_same n u) ∙ quiet u p q

  quiet_back : (n a b : ℕ) → IsQuiet d n a b → IsQuiet c n a b
  quiet_back n a b quiet u p q = carrier_same n u ∙ quiet u p q

  sync_there : (k e : ℕ) → SyncBehind c fault left k e → SyncAt d k e
  sync_there k e s = record {
    from = s.from;
    begins = elim s.begins [
      | inl p ↦ inl (p.0 ∙ sym (up_old k p.1))
      | inr p ↦ elim p.1 [
        | inl is ↦ (let more : fault < s.from = p.0 in inl (is ∙ sym (up_new k (omega arith))))
        | inr q ↦
            let more : fault < s.from = p.0 in
            let after : c.up k < s.from = q.0 in
            inr (
              elim (cases_lt fault (c.up k)) [
                | inl new ↦ (let e : d.up k ≡ c.up k = up_new k new in omega arith)
                | inr old ↦ (let e : d.up k ≡ fault = up_old k old in omega arith)
              ],
              sym (carrier_same k (s.from - 1)) ∙ q.1,
            )
      ]
    ];
    quiet = quiet_there k s.from e s.quiet;
    elapsed = s.elapsed;
  }

  sync_back : (k e : ℕ) → SyncAt d k e → SyncBehind c fault left k e
  sync_back k e s = record {
    from = s.from;
    begins = elim s.begins [
      | inl is ↦ elim (cases_lt fault (c.up k)) [
        | inl new ↦ (let e : d.up k ≡ c.up k = up_new k new in inr (omega arith, inl (is ∙ up_new k new)))
        | inr old ↦ inl (is ∙ up_old k old, old)
      ]
      | inr p ↦
          let low : fault ≤ d.up k = (up_low k).0 in
          let high : c.up k ≤ d.up k = (up_low k).1 in
          let more : d.up k < s.from = p.0 in
          inr (omega arith, inr (omega arith, carrier_same k (s.from - 1) ∙ p.1))
    ];
    quiet = quiet_back k s.from e s.quiet;
    elapsed = s.elapsed;
  }

  sync_late : (k e : ℕ) → SyncAt d k e → fault ≤ e
  sync_late k e s =
      let low : fault ≤ d.up k = (up_low k).0 in
      let from : d.up k ≤ s.from = elim s.begins [ inl is ↦ omega arith | inr p ↦ (let l : d.up k < s.from = p.0 in omega arith) ] in
      let is : s.from + d.sg k s.from ≡ e = s.elapsed in
      omega arith

  may_there : (k t : ℕ) → MayStartBehind c fault left k t → MayStart d k t
  may_there k t s = record {
    sync = s.sync;
    synced = sync_there k s.sync s.synced;
    none = λ x i mine less. (let r = from_behind fault c.list x i in s.none x r.0 mine r.1 less);
    from = s.from;
    begins = elim s.begins [ inl same ↦ inl same | inr p ↦ inr (p.0, sym (carrier_same k (s.from - 1)) ∙ p.1) ];
    quiet = quiet_there k s.from t s.quiet;
    terminal = s.terminal;
    due = s.due;
    interval = λ x i mine less last. (let r = from_behind fault c.list x i in
        s.interval x r.0 mine r.1 less (λ y j own on before. last y (in_behind fault c.list y j on) own before));
  }

  may_back : (k t : ℕ) → MayStart d k t → MayStartBehind c fault left k t
  may_back k t s = record {
    sync = s.sync;
    synced = sync_back k s.sync s.synced;
    none = λ x i mine on less. s.none x (in_behind fault c.list x i on) mine less;
    from = s.from;
    begins = elim s.begins [ inl same ↦ inl same | inr p ↦ inr (p.0, carrier_same k (s.from - 1) ∙ p.1) ];
    quiet = quiet_back k s.from t s.quiet;
    terminal = s.terminal;
    due = s.due;
    interval = λ x i mine on less last.
        s.interval x (in_behind fault c.list x i on) mine less (λ y j own before. (let r = from_behind fault c.list y j in last y r.0 own r.1 before));
  }

  may_late : (k t : ℕ) → MayStart d k t → fault ≤ t
  may_late k t s =
      let low : fault ≤ s.sync = sync_late k s.sync s.synced in
      let from : s.sync ≤ s.from = elim s.begins [ inl is ↦ omega arith | inr p ↦ (let l : s.sync < s.from = p.0 in omega arith) ] in
      let terminal : s.from + d.tg k s.from ≤ t = s.terminal in
      omega arith

  -- messages left
  some_there : (o : Option ℕ) (a b e : ℕ) → e ≡ b + a → IfSome o (λ n. e < n) → IfSome (option_map (λ n. n - b) o) (λ n. a < n)
  some_there None a b e is h = tt
  some_there (Some n) a b e is h = (let less : e < n = h in omega arith)

  some_back : (o : Option ℕ) (a b e : ℕ) → e ≡ b + a → IfSome (option_map (λ n. n - b) o) (λ n. a < n) → IfSome o (λ n. e < n)
  some_back None a b e is h = tt
  some_back (Some n) a b e is h = (let less : a < n - b = h in omega arith)

  left_there : (k t : ℕ) → fault ≤ t → HasLeft c k t → HasLeft d k t
  left_there k t low h =
      some_there (c.messages k) (length (own (behind fault c.list) k t)) (length (own c.list k fault)) (length (own c.list k t)) (own_split fault c.list k t low) h

  left_back : (k t : ℕ) → fault ≤ t → HasLeft d k t → HasLeft c k t
  left_back k t low h =
      some_back (c.messages k) (length (own (behind fault c.list) k t)) (length (own c.list k fault)) (length (own c.list k t)) (own_split fault c.list k t low) h

  left_earlier : (k t : ℕ) → t < fault → HasLeft d k fault → HasLeft d k t
  left_earlier k t less h =
      let fewer : length (own (behind fault c.list) k t) ≤ length (own (behind fault c.list) k fault) = own_most (behind fault c.list) k t fault (omega arith) in
      left_by (d.messages k) (length (own (behind fault c.list) k t)) (length (own (behind fault c.list) k fault)) fewer h

  -- a timer that doesn't stand since the fault takes its time
  stands_not : (k a : ℕ) → IsFresh d k a → stands c fault k a ≡ false
  stands_not k a fresh = elim (cases_Bool (stands c fault k a)) [
    | inr no' ↦ no'
    | inl yes' ↦
        let p = and_parts (eqb a fault) (nat_le (c.up k) fault) yes' in
        let at : a ≡ fault = eqb-true a fault p.0 in
        let old : d.up k ≡ fault = up_old k (leb-true (c.up k) fault p.1) in
        absurd (elim fresh [
          | inl less ↦ omega arith
          | inr q ↦
              let on : fault ≤ q.0.moment = (from_behind fault c.list q.0 q.1).1 in
              let less : q.0.moment < d.up k = q.2 in
              omega arith
        ])
  ]

  fresh_back : (k a : ℕ) → IsFresh d k a → IsFresh c k a
  fresh_back k a (inl less) = (let high : c.up k ≤ d.up k = (up_low k).1 in inl (omega arith))
  fresh_back k a (inr q) =
      let on : fault ≤ q.0.moment = (from_behind fault c.list q.0 q.1).1 in
      let less : q.0.moment < d.up k = q.2 in
      elim (cases_lt fault (c.up k)) [
        | inl new ↦ (let e : d.up k ≡ c.up k = up_new k new in inr (q.0, (from_behind fault c.list q.0 q.1).0, omega arith))
        | inr old ↦ (let e : d.up k ≡ fault = up_old k old in absurd (omega arith))
      ]

  module _ (ok : IsBehindFault bus c fault left) where
    most : (b : Bool) (x y high : ℕ) → x ≤ high → y ≤ high → cond b x y ≤ high
    most true x y high one two = one
    most false x y high one two = two

    pub course_behind : IsCourse bus (rebased c fault left)
    course_behind = record {
      ordered = behind_up fault c.list ok.ordered;
      sent = λ x i. ok.sent x (from_behind fault c.list x i).0;
      exact = λ k t known soon. (
        (λ h.
            let r = from_behind fault c.list h.entry h.there in
            let on : fault ≤ t = subst (λ n. fault ≤ n) h.moment r.1 in
            let both = (ok.exact k t known on soon).0 (record { entry = h.entry; there = r.0; sender = h.sender; moment = h.moment }) in
            (may_there k t both.0, left_there k t on both.1)),
        (λ both.
            let on : fault ≤ t = may_late k t both.0 in
            let h : HasEntry c.list k t = (ok.exact k t known on soon).1 (may_back k t both.0, left_back k t on both.1) in
            let at : h.entry.moment ≡ t = h.moment in
            record { entry = h.entry; there = in_behind fault c.list h.entry h.there (omega arith); sender = h.sender; moment = h.moment }),
      );
      own = λ x i. ok.own x (from_behind fault c.list x i).0;
      others = λ x n i. ok.others x n (from_behind fault c.list x i).0;
      tg_low = λ k a known fresh.
          let not : stands c fault k a ≡ false = stands_not k a fresh in
          subst (λ b. bus.tg_short k ≤ cond b (left.gap k) (c.tg k a)) (sym not) (ok.tg_low k a known (fresh_back k a fresh) not);
      tg_high = λ k a known. most (stands c fault k a) (left.gap k) (c.tg k a) (bus.tg_long k) (ok.gap k known) (ok.tg_high k a known);
      sg_low = λ k a known fresh.
          let not : stands c fault k a ≡ false = stands_not k a fresh in
          subst (λ b. bus.sg_short k ≤ cond b (left.wait k) (c.sg k a)) (sym not) (ok.sg_low k a known (fresh_back k a fresh) not);
      sg_high = λ k a known. most (stands c fault k a) (left.wait k) (c.sg k a) (bus.sg_long k) (ok.wait k known) (ok.sg_high k a known);
      ti_low = ok.ti_low;
      ti_high = ok.ti_high;
    }

    pub alone_behind : (up : ℕ) → IsFaultOver bus c fault up → IsLeftAlone bus (rebased c fault left) up
    alone_behind up over = record {
      powered = λ k known. most (nat_le (c.up k) fault) fault (c.up k) up over.begun (over.powered k known);
      due = λ k known. elim (cases_lt fault (c.up k)) [
        | inl new ↦ subst (λ b. cond b (fault + left.rest k) (c.due k) ≤ up) (sym (later_false (c.up k) fault new)) (over.due k known new)
        | inr old ↦
            let brief : left.rest k ≤ bus.ti_long k = ok.rest k known in
            let long : fault + bus.ti_long k ≤ up = over.rest k known in
            subst (λ b. cond b (fault + left.rest k) (c.due k) ≤ up) (sym (le-leb (c.up k) fault old)) (let goal : fault + left.rest k ≤ up = omega arith in goal)
      ];
      still = λ n t low.
          or_both (c.noise n t) (hears_any c.hears (until fault c.list) n t) (over.still n t low)
          (quiet_all c.hears (until fault c.list) n t (λ x j.
          let r = from_until fault c.list x j in
          let way : end_of x + bus.delay ≤ up = over.way x r.0 r.1 in
          unheard c.hears bus.delay bus.drop x n t (ok.others x n r.0) (inr (omega arith))));
    }

pub faults_are_courses : FaultsAreCourses
faults_are_courses bus c fault left ok = (course_behind bus c fault left ok, alone_behind bus c fault left ok)

pub faults_settle : FaultsSettle
faults_settle bus c fault left up sg room itself ok have early over greatest =
    any_start_settles bus (rebased c fault left) up sg room itself (course_behind bus c fault left ok)
    (λ k t known soon. elim (cases_lt t fault) [
      | inr on ↦ left_there bus c fault left k t on (have k t known soon)
      | inl before ↦
          left_earlier bus c fault left k t before (left_there bus c fault left k fault (omega arith) (have k fault known early))
    ])
    (alone_behind bus c fault left ok up over) greatest
