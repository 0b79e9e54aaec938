-- What the timers of a sender do, told by the transmissions on the bus alone: when its synchronization gap may and must elapse, and when it may
-- and must start.
use Rattle.std.proofs.Common.{◌≡◌, ℕ, zero, suc, ◌+◌, ◌-◌, ◌<◌, ◌≤◌, ◌⊎◌, Bool, true, false, ◌||◌, List, [], ◌∷◌, inl, inr, arith, sym, refl, ap, ◌∙◌, subst}
use Rattle.std.proofs.lemmas.Bool.{cases_lt, cases_Bool, true≢false}
use Rattle.bus_clocks.specs.Buses.{Bus}
use Rattle.bus_clocks.specs.Entries.{Entry, In, end_of}
use Rattle.bus_clocks.specs.Courses.{Begins, Course, HasEntry, HasLeft, IsCourse, IsFresh, IsQuiet, MayStart, SyncAt, carrier}
use Rattle.bus_clocks.specs.Hearing.{Hears, hears_any}

-- ---- carrier of several transmissions

pub or_false : (a b : Bool) → a || b ≡ false → (a ≡ false) × (b ≡ false)
or_false true b h = absurd (true≢false h)
or_false false b h = (refl, h)

pub or_both : (a b : Bool) → a ≡ false → b ≡ false → a || b ≡ false
or_both true b h k = absurd (true≢false h)
or_both false b h k = k

pub quiet_each : (hears : Entry → ℕ → ℕ → Bool) (xs : List Entry) (n t : ℕ) → hears_any hears xs n t ≡ false → (x : Entry) → In x xs → hears x n t ≡ false
quiet_each hears [] n t h x i = absurd i
quiet_each hears (y ∷ ys) n t h x (inl same) = ap (λ z. hears z n t) same ∙ (or_false (hears y n t) (hears_any hears ys n t) h).0
quiet_each hears (y ∷ ys) n t h x (inr i) = quiet_each hears ys n t (or_false (hears y n t) (hears_any hears ys n t) h).1 x i

pub quiet_all : (hears : Entry → ℕ → ℕ → Bool) (xs : List Entry) (n t : ℕ) → ((x : Entry) → In x xs → hears x n t ≡ false) → hears_any hears xs n t ≡ false
quiet_all hears [] n t h = refl
quiet_all hears (y ∷ ys) n t h = or_both (hears y n t) (hears_any hears ys n t) (h y (inl refl)) (quiet_all hears ys n t (λ x i. h x (inr i)))

-- quiet that is as long as the drop, or begins before the transmission, lies before it is heard, or behind its end
pub apart : (hears : Entry → ℕ → ℕ → Bool) (d drop : ℕ) (x : Entry) (n a b : ℕ) → Hears hears d drop x n → ((t : ℕ) → a ≤ t → t < b → hears x n t ≡ false)
    → (a + drop ≤ b) ⊎ (a ≤ x.moment) → (b ≤ x.moment + d) ⊎ (end_of x ≤ a)
apart hears d drop x n a b h quiet fits =
    let soon : h.first ≤ x.moment + d = h.first_soon in
    let late : end_of x ≤ h.last + 1 = h.last_late in
    elim (cases_lt h.first b) [
      | inr before ↦ inl (omega arith)
      | inl first ↦ elim (cases_lt h.last a) [
        | inl past ↦ inr (omega arith)
        | inr last ↦ elim (cases_lt h.first a) [
          | inr inside ↦ absurd (true≢false (sym h.first_heard ∙ quiet h.first inside first))
          | inl over ↦ elim fits [
            | inl long ↦
                let f = h.filled a (omega arith) last in
                let low : a ≤ f.0 = f.1 in
                let high : f.0 < a + drop = f.2 in
                absurd (true≢false (sym f.3 ∙ quiet f.0 low (omega arith)))
            | inr early ↦ (let from : x.moment ≤ h.first = (h.within h.first h.first_heard).0 in absurd (omega arith))
          ]
        ]
      ]
    ]

-- a transmission that is over, or hasn't begun, isn't heard
pub unheard : (hears : Entry → ℕ → ℕ → Bool) (d drop : ℕ) (x : Entry) (n t : ℕ) → Hears hears d drop x n → (t < x.moment) ⊎ (end_of x + d ≤ t) → hears x n t ≡ false
unheard hears d drop x n t h out = elim (cases_Bool (hears x n t)) [
  | inr rests ↦ rests
  | inl sounds ↦
      let w = h.within t sounds in
      let low : x.moment ≤ t = w.0 in
      let high : t < end_of x + d = w.1 in
      absurd (elim out [ inl early ↦ omega arith | inr late ↦ omega arith ])
]

-- ---- where quiet begins that has lasted until b, no earlier than a

pub record Beginning (heard : ℕ → Bool) (a b : ℕ) : Type 0 where
  pub from : ℕ
  pub low : a ≤ from
  pub high : from ≤ b
  pub quiet : (t : ℕ) → from ≤ t → t < b → heard t ≡ false
  pub begins : (from ≡ a) ⊎ ((a < from) × (heard (from - 1) ≡ true))

pub beginning : (heard : ℕ → Bool) (a n b : ℕ) → a + n ≡ b → Beginning heard a b
beginning heard a zero b is = record { from = a; low = omega arith; high = omega arith; quiet = λ t p q. absurd (omega arith); begins = inl refl }
beginning heard a (suc n) b is =
    let before : Beginning heard a (b - 1) = beginning heard a n (b - 1) (omega arith) in
    let low : a ≤ before.from = before.low in
    let high : before.from ≤ b - 1 = before.high in
    elim (cases_Bool (heard (b - 1))) [
      | inl sounds ↦ record { from = b; low = omega arith; high = omega arith; quiet = λ t p q. absurd (omega arith); begins = inr ((omega arith), sounds) }
      | inr rests ↦ record {
        from = before.from;
        low = low;
        high = omega arith;
        quiet = λ t p q. elim (cases_lt t (b - 1)) [
          | inl old ↦ before.quiet t p old
          | inr now ↦ let e : t ≡ b - 1 = omega arith in ap heard e ∙ rests
        ];
        begins = before.begins;
      }
    ]

-- it is no later than any moment from which all has been quiet
pub begins_by : (heard : ℕ → Bool) (a b m : ℕ) (s : Beginning heard a b) → a ≤ m → m ≤ b → ((t : ℕ) → m ≤ t → t < b → heard t ≡ false) → s.from ≤ m
begins_by heard a b m s low high quiet = elim (cases_lt m s.from) [
  | inr fine ↦ fine
  | inl later ↦ elim s.begins [
    | inl is ↦ omega arith
    | inr w ↦ let end : s.from ≤ b = s.high in absurd (true≢false (sym w.1 ∙ quiet (s.from - 1) (omega arith) (omega arith)))
  ]
]

-- what happens on a bus, and from when on no noise is heard
pub record Heard : Type 0 where
  pub bus : Bus
  pub c : Course
  pub up : ℕ
  pub ok : IsCourse bus c
  pub still : (n t : ℕ) → up ≤ t → c.noise n t ≡ false
  pub lasting : (k : ℕ) → k < bus.senders → 0 < bus.shortest k

module _ (w : Heard) where
  quiet_one : (n a b : ℕ) (x : Entry) → In x w.c.list → IsQuiet w.c n a b → (t : ℕ) → a ≤ t → t < b → w.c.hears x n t ≡ false
  quiet_one n a b x i quiet t p q = quiet_each w.c.hears w.c.list n t (or_false (w.c.noise n t) (hears_any w.c.hears w.c.list n t) (quiet t p q)).1 x i

  pub quiet_apart : (n a b : ℕ) (x : Entry) → In x w.c.list → IsQuiet w.c n a b → (a + w.bus.drop ≤ b) ⊎ (a ≤ x.moment) → (b ≤ x.moment + w.bus.delay) ⊎ (end_of x ≤ a)
  quiet_apart n a b x i quiet fits = apart w.c.hears w.bus.delay w.bus.drop x n a b (w.ok.others x n i) (quiet_one n a b x i quiet) fits

  pub quiet_apart_own : (k a b : ℕ) (x : Entry) → In x w.c.list → x.sender ≡ k → IsQuiet w.c k a b → (a + w.bus.drop ≤ b) ⊎ (a ≤ x.moment) → (b ≤ x.moment) ⊎ (end_of x ≤ a)
  quiet_apart_own k a b x i mine quiet fits =
      elim (apart w.c.hears 0 w.bus.drop x k a b (subst (λ n. Hears w.c.hears 0 w.bus.drop x n) mine (w.ok.own x i)) (quiet_one k a b x i quiet) fits) [
        | inl early ↦ inl (omega arith)
        | inr late ↦ inr late
      ]

  -- between what has ended and what hasn't begun all is quiet
  pub is_quiet_own : (n a b : ℕ) → w.up ≤ a
      → ((x : Entry) → In x w.c.list → (b ≤ x.moment) ⊎ (end_of x + w.bus.delay ≤ a) ⊎ ((x.sender ≡ n) × (end_of x ≤ a))) → IsQuiet w.c n a b
  is_quiet_own n a b alone out t low high =
      or_both (w.c.noise n t) (hears_any w.c.hears w.c.list n t) (w.still n t (omega arith))
      (quiet_all w.c.hears w.c.list n t (λ x i. elim (out x i) [
        | inl early ↦ unheard w.c.hears w.bus.delay w.bus.drop x n t (w.ok.others x n i) (inl (omega arith))
        | inr (inl late) ↦ unheard w.c.hears w.bus.delay w.bus.drop x n t (w.ok.others x n i) (inr (omega arith))
        | inr (inr own) ↦ unheard w.c.hears 0 w.bus.drop x n t (subst (λ m. Hears w.c.hears 0 w.bus.drop x m) own.0 (w.ok.own x i))
            (let e : end_of x ≤ a = own.1 in inr (omega arith))
      ]))

  pub is_quiet : (n a b : ℕ) → w.up ≤ a → ((x : Entry) → In x w.c.list → (b ≤ x.moment) ⊎ (end_of x + w.bus.delay ≤ a)) → IsQuiet w.c n a b
  is_quiet n a b alone out = is_quiet_own n a b alone (λ x i. elim (out x i) [ inl early ↦ inl early | inr late ↦ inr (inl late) ])

  -- a timer takes its time, or is begun before each transmission
  pub fresh : (k a : ℕ) (x : Entry) → In x w.c.list → w.c.up k ≤ a → IsFresh w.c k a ⊎ (a ≤ x.moment)
  fresh k a x i low = elim (cases_lt (w.c.up k) a) [
    | inl behind ↦ inl (inl behind)
    | inr at ↦ elim (cases_lt x.moment (w.c.up k)) [
      | inl before ↦ inl (inr (x, i, before))
      | inr on ↦ inr (omega arith)
    ]
  ]

  pub begins_up : (k a : ℕ) → Begins w.c k a → w.c.up k ≤ a
  begins_up k a (inl is) = omega arith
  begins_up k a (inr p) = omega arith

  pub sync_up : (k e : ℕ) → SyncAt w.c k e → w.c.up k ≤ e
  sync_up k e s =
      let is : s.from + w.c.sg k s.from ≡ e = s.elapsed in
      let up : w.c.up k ≤ s.from = begins_up k s.from s.begins in
      omega arith

  pub may : (x : Entry) → In x w.c.list → MayStart w.c x.sender x.moment
  may x i = ((w.ok.exact x.sender x.moment (w.ok.sent x i).0 (w.ok.sent x i).1).0 (record { entry = x; there = i; sender = refl; moment = refl })).0

  pub some : (y : Entry) → In y w.c.list → 0 < y.length
  some y j =
      let some : 0 < w.bus.shortest y.sender = w.lasting y.sender (w.ok.sent y j).0 in
      let long : w.bus.shortest y.sender ≤ y.length = (w.ok.sent y j).2 in omega arith

  from_up : (k t : ℕ) (m : MayStart w.c k t) → w.c.up k ≤ m.from
  from_up k t m =
      let from : m.sync ≤ m.from = elim m.begins [ inl is ↦ omega arith | inr p ↦ omega arith ] in
      let up : w.c.up k ≤ m.sync = sync_up k m.sync m.synced in
      omega arith

  -- who may start when it has begun to hear another has heard it out
  pub may_out : (k t : ℕ) (y : Entry) → k < w.bus.senders → w.bus.drop ≤ w.bus.tg_short k → MayStart w.c k t → In y w.c.list → (t ≤ y.moment + w.bus.delay) ⊎ (end_of y + w.bus.tg_short k ≤ t)
  may_out k t y known drop m j =
      let terminal : m.from + w.c.tg k m.from ≤ t = m.terminal in
      elim (fresh k m.from y j (from_up k t m)) [
        | inl fresh ↦
            let low : w.bus.tg_short k ≤ w.c.tg k m.from = w.ok.tg_low k m.from known fresh in
            elim (quiet_apart k m.from t y j m.quiet (inl (omega arith))) [
              | inl early ↦ inl early
              | inr late ↦ inr (omega arith)
            ]
        | inr early ↦ elim (quiet_apart k m.from t y j m.quiet (inr early)) [
          | inl fine ↦ inl fine
          | inr late ↦ (let s : 0 < y.length = some y j in absurd (omega arith))
        ]
      ]

  pub heard_out : (x y : Entry) → In x w.c.list → In y w.c.list → w.bus.drop ≤ w.bus.tg_short x.sender → (x.moment ≤ y.moment + w.bus.delay) ⊎ (end_of y + w.bus.tg_short x.sender ≤ x.moment)
  heard_out x y i j drop = may_out x.sender x.moment y (w.ok.sent x i).0 drop (may x i) j

  pub heard_out_own : (x y : Entry) → In x w.c.list → In y w.c.list → w.bus.drop ≤ w.bus.tg_short x.sender → y.sender ≡ x.sender → (x.moment ≤ y.moment) ⊎ (end_of y + w.bus.tg_short x.sender ≤ x.moment)
  heard_out_own x y i j drop mine =
      let m : MayStart w.c x.sender x.moment = may x i in
      let known : x.sender < w.bus.senders = (w.ok.sent x i).0 in
      let terminal : m.from + w.c.tg x.sender m.from ≤ x.moment = m.terminal in
      elim (fresh x.sender m.from y j (from_up x.sender x.moment (may x i))) [
        | inl fresh ↦
            let low : w.bus.tg_short x.sender ≤ w.c.tg x.sender m.from = w.ok.tg_low x.sender m.from known fresh in
            elim (quiet_apart_own x.sender m.from x.moment y j mine m.quiet (inl (omega arith))) [
              | inl early ↦ inl early
              | inr late ↦ inr (omega arith)
            ]
        | inr early ↦ elim (quiet_apart_own x.sender m.from x.moment y j mine m.quiet (inr early)) [
          | inl fine ↦ inl fine
          | inr late ↦ (let s : 0 < y.length = some y j in absurd (omega arith))
        ]
      ]

  -- a sender doesn't start while it hears nothing, as it hears itself
  pub own_outside : (k a b : ℕ) (x : Entry) → In x w.c.list → x.sender ≡ k → IsQuiet w.c k a b → (x.moment < a) ⊎ (b ≤ x.moment)
  own_outside k a b x i mine quiet = elim (cases_lt x.moment a) [
    | inl before ↦ inl before
    | inr low ↦ elim (cases_lt x.moment b) [
      | inr behind ↦ inr behind
      | inl high ↦
          let h : Hears w.c.hears 0 w.bus.drop x k = subst (λ n. Hears w.c.hears 0 w.bus.drop x n) mine (w.ok.own x i) in
          let soon : h.first ≤ x.moment + 0 = h.first_soon in
          let first : x.moment ≤ h.first = (h.within h.first h.first_heard).0 in
          absurd (true≢false (sym h.first_heard ∙ quiet_one k a b x i quiet h.first (omega arith) (omega arith)))
    ]
  ]

  -- by moment b sender k is in sync, and before moment t there is no own start behind that
  pub record Synced (k b t : ℕ) : Type 0 where
    pub at : ℕ
    pub by : at ≤ b
    pub sync : SyncAt w.c k at
    pub none : (x : Entry) → In x w.c.list → x.sender ≡ k → x.moment < t → x.moment < at

  -- a long quiet elapses the synchronization gap
  pub sync_must : (k a b : ℕ) → k < w.bus.senders → w.c.up k ≤ a → a + w.bus.sg_long k ≤ b → IsQuiet w.c k a b → Synced k b b
  sync_must k a b known up fits quiet =
      let s : Beginning (carrier w.c k) (w.c.up k) b = beginning (carrier w.c k) (w.c.up k) (b - w.c.up k) b (omega arith) in
      let by : s.from ≤ a = begins_by (carrier w.c k) (w.c.up k) b a s up (omega arith) quiet in
      let short : w.c.sg k s.from ≤ w.bus.sg_long k = w.ok.sg_high k s.from known in
      record {
        at = s.from + w.c.sg k s.from;
        by = omega arith;
        sync = record { from = s.from; begins = s.begins; quiet = λ t p q. s.quiet t p (omega arith); elapsed = refl };
        none = λ x i mine less. elim (own_outside k s.from b x i mine s.quiet) [
          | inl before ↦ omega arith
          | inr behind ↦ absurd (omega arith)
        ];
      }

  -- a sender in sync starts where its terminal gap is over, and its transmit interval
  pub start_due : (k e a t : ℕ) → k < w.bus.senders → SyncAt w.c k e → ((x : Entry) → In x w.c.list → x.sender ≡ k → x.moment < t → x.moment < e)
      → e ≤ a → a + w.bus.tg_long k ≤ t → t < w.c.horizon → IsQuiet w.c k a t → HasLeft w.c k t → w.c.due k ≤ t
      → ((x : Entry) → In x w.c.list → x.sender ≡ k → x.moment < t → x.moment + w.bus.ti_long k ≤ t) → HasEntry w.c.list k t
  start_due k e a t known sync none low fits soon quiet left due interval =
      let s : Beginning (carrier w.c k) e t = beginning (carrier w.c k) e (t - e) t (omega arith) in
      let by : s.from ≤ a = begins_by (carrier w.c k) e t a s low (omega arith) quiet in
      let brief : w.c.tg k s.from ≤ w.bus.tg_long k = w.ok.tg_high k s.from known in
      let may : MayStart w.c k t = record {
        sync = e;
        synced = sync;
        none = none;
        from = s.from;
        begins = s.begins;
        quiet = s.quiet;
        terminal = omega arith;
        due = due;
        interval = λ x i mine less last.
            let long : w.c.ti k x.moment ≤ w.bus.ti_long k = w.ok.ti_high k x.moment known in
            let far : x.moment + w.bus.ti_long k ≤ t = interval x i mine less in
            omega arith;
      } in
      (w.ok.exact k t known soon).1 (may, left)
