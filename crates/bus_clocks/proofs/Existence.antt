-- Moment by moment, and at each moment sender by sender, those start that may.
use Rattle.std.proofs.Common.{◌≡◌, ℕ, zero, suc, ◌+◌, ◌-◌, ◌<◌, ◌≤◌, ◌⊎◌, Bool, true, false, ◌||◌, List, [], ◌∷◌, ◌++◌, inl, inr, arith, sym, refl, ap, ◌∙◌, subst}
use Rattle.std.specs.Prelude.{length, IfSome, Option, Some}
use Rattle.std.specs.Prelude.{None as Nothing}
use Rattle.std.proofs.lemmas.Bool.{cases_lt, cases_eq, cases_Bool, true≢false}
use Rattle.bus_clocks.specs.Buses.{Bus}
use Rattle.bus_clocks.specs.Entries.{Entry, In, IsAscending, IsBefore, own}
use Rattle.bus_clocks.specs.Courses.{Begins, Course, HasLeft, IsCourse, IsFresh, IsQuiet, MayStart, SyncAt, carrier}
use Rattle.bus_clocks.specs.Hearing.{hears_any}
use Rattle.bus_clocks.specs.Existing.{CoursesExist, IsBound, IsNature, with_list}
use Rattle.bus_clocks.proofs.Lists.{in_cases, in_left, in_right, own_early}

-- ---- what can be decided

abbrev pub Dec : Type 0 → Type 0
Dec P = P ⊎ (P → ⊥)

pub dec_both : {P Q : Type 0} → Dec P → Dec Q → Dec (P × Q)
dec_both (inl p) (inl q) = inl (p, q)
dec_both (inl p) (inr n) = inr (λ h. n h.1)
dec_both (inr n) q = inr (λ h. n h.0)

dec_one : {P Q : Type 0} → Dec P → Dec Q → Dec (P ⊎ Q)
dec_one (inl p) q = inl (inl p)
dec_one (inr n) (inl q) = inl (inr q)
dec_one (inr n) (inr m) = inr (λ h. elim h [ inl p ↦ n p | inr q ↦ m q ])

dec_if : {P Q : Type 0} → Dec P → Dec Q → Dec (P → Q)
dec_if (inr n) q = inl (λ p. absurd (n p))
dec_if (inl p) (inl q) = inl (λ _. q)
dec_if (inl p) (inr m) = inr (λ h. m (h p))

dec_map : {P Q : Type 0} → (P → Q) → (Q → P) → Dec P → Dec Q
dec_map f g (inl p) = inl (f p)
dec_map f g (inr n) = inr (λ q. n (g q))

dec_lt : (a b : ℕ) → Dec (a < b)
dec_lt a b = elim (cases_lt a b) [ inl less ↦ inl less | inr more ↦ inr (λ less. omega arith) ]

pub dec_le : (a b : ℕ) → Dec (a ≤ b)
dec_le a b = elim (cases_lt b a) [ inl less ↦ inr (λ more. omega arith) | inr more ↦ inl more ]

dec_true : (b : Bool) → Dec (b ≡ true)
dec_true true = inl refl
dec_true false = inr (λ h. absurd (true≢false (sym h)))

-- one below a bound
pub dec_below : (P : ℕ → Type 0) → ((i : ℕ) → Dec (P i)) → (n : ℕ) → Dec ((i : ℕ) × (i < n) × P i)
dec_below P d zero = inr (λ h. (let l : h.0 < 0 = h.1 in omega arith))
dec_below P d (suc n) = elim (d n) [
  | inl p ↦ inl (n, omega arith, p)
  | inr no_n ↦ elim (dec_below P d n) [
    | inl h ↦ inl (h.0, (let l : h.0 < n = h.1 in omega arith), h.2)
    | inr none ↦ inr (λ h. elim (cases_lt h.0 n) [
      | inl less ↦ none (h.0, less, h.2)
      | inr more ↦ (let l : h.0 < suc n = h.1 in no_n (subst P (let e : h.0 ≡ n = omega arith in e) h.2))
    ])
  ]
]

-- all of a list
dec_all : (P : Entry → Type 0) → ((x : Entry) → Dec (P x)) → (xs : List Entry) → Dec ((x : Entry) → In x xs → P x)
dec_all P d [] = inl (λ x i. absurd i)
dec_all P d (y ∷ ys) = elim (d y) [
  | inr no_y ↦ inr (λ h. no_y (h y (inl refl)))
  | inl p ↦ elim (dec_all P d ys) [
    | inr some ↦ inr (λ h. some (λ x i. h x (inr i)))
    | inl all ↦ inl (λ x i. elim i [ inl same ↦ subst P (sym same) p | inr j ↦ all x j ])
  ]
]

dec_quiet : (c : Course) (n a len : ℕ) → Dec (IsQuiet c n a (a + len))
dec_quiet c n a zero = inl (λ t p q. absurd (omega arith))
dec_quiet c n a (suc len) = elim (cases_Bool (carrier c n (a + len))) [
  | inl sounds ↦ inr (λ h. true≢false (sym sounds ∙ h (a + len) (omega arith) (omega arith)))
  | inr rests ↦ elim (dec_quiet c n a len) [
    | inr some ↦ inr (λ h. some (λ t p q. h t p (omega arith)))
    | inl all ↦ inl (λ t p q. elim (cases_lt t (a + len)) [
      | inl old ↦ all t p old
      | inr now ↦ (let e : t ≡ a + len = omega arith in ap (carrier c n) e ∙ rests)
    ])
  ]
]

dec_silent : (c : Course) (n a b : ℕ) → Dec (IsQuiet c n a b)
dec_silent c n a b = elim (cases_lt b a) [
  | inl less ↦ inl (λ t p q. absurd (omega arith))
  | inr more ↦ subst (λ e. Dec (IsQuiet c n a e)) (let e : a + (b - a) ≡ b = omega arith in e) (dec_quiet c n a (b - a))
]

pub dec_sync : (c : Course) (k e : ℕ) → Dec (SyncAt c k e)
dec_sync c k e =
    dec_map {P = (a : ℕ) × (a < suc e) × (Begins c k a × IsQuiet c k a e × (a + c.sg k a ≡ e))} {Q = SyncAt c k e}
    (λ h. record { from = h.0; begins = h.2.0; quiet = h.2.1; elapsed = h.2.2 })
    (λ s. (let is : s.from + c.sg k s.from ≡ e = s.elapsed in (s.from, omega arith, (s.begins, s.quiet, s.elapsed))))
    (dec_below (λ a. Begins c k a × IsQuiet c k a e × (a + c.sg k a ≡ e)) (λ a.
    dec_map {P = Begins c k a × (IsQuiet c k a e × (a + c.sg k a ≡ e))} {Q = Begins c k a × IsQuiet c k a e × (a + c.sg k a ≡ e)}
    (λ h. (h.0, h.1.0, h.1.1)) (λ h. (h.0, (h.1, h.2)))
    (dec_both (dec_one (cases_eq a (c.up k)) (dec_both (dec_lt (c.up k) a) (dec_true (carrier c k (a - 1)))))
    (dec_both (dec_silent c k a e) (cases_eq (a + c.sg k a) e)))) (suc e))

-- what is asked of own starts
abbrev pub None : Course → ℕ → ℕ → ℕ → Type 0
None c k t sync = (x : Entry) → In x c.list → x.sender ≡ k → x.moment < t → x.moment < sync

abbrev Last : Course → ℕ → ℕ → Entry → Type 0
Last c k t x = (y : Entry) → In y c.list → y.sender ≡ k → y.moment < t → y.moment ≤ x.moment

abbrev Interval : Course → ℕ → ℕ → Type 0
Interval c k t = (x : Entry) → In x c.list → x.sender ≡ k → x.moment < t → Last c k t x → x.moment + c.ti k x.moment ≤ t

pub dec_none : (c : Course) (k t sync : ℕ) → Dec (None c k t sync)
dec_none c k t sync = dec_all (λ x. x.sender ≡ k → x.moment < t → x.moment < sync)
    (λ x. dec_if (cases_eq x.sender k) (dec_if (dec_lt x.moment t) (dec_lt x.moment sync))) c.list

dec_last : (c : Course) (k t : ℕ) (x : Entry) → Dec (Last c k t x)
dec_last c k t x = dec_all (λ y. y.sender ≡ k → y.moment < t → y.moment ≤ x.moment)
    (λ y. dec_if (cases_eq y.sender k) (dec_if (dec_lt y.moment t) (dec_le y.moment x.moment))) c.list

dec_interval : (c : Course) (k t : ℕ) → Dec (Interval c k t)
dec_interval c k t = dec_all (λ x. x.sender ≡ k → x.moment < t → Last c k t x → x.moment + c.ti k x.moment ≤ t)
    (λ x. dec_if (cases_eq x.sender k) (dec_if (dec_lt x.moment t) (dec_if (dec_last c k t x) (dec_le (x.moment + c.ti k x.moment) t)))) c.list

abbrev Gap : Course → ℕ → ℕ → ℕ → ℕ → Type 0
Gap c k t sync from = ((from ≡ sync) ⊎ ((sync < from) × (carrier c k (from - 1) ≡ true))) × (IsQuiet c k from t × (from + c.tg k from ≤ t))

dec_gap : (c : Course) (k t sync from : ℕ) → Dec (Gap c k t sync from)
dec_gap c k t sync from =
    dec_both (dec_one (cases_eq from sync) (dec_both (dec_lt sync from) (dec_true (carrier c k (from - 1)))))
    (dec_both (dec_silent c k from t) (dec_le (from + c.tg k from) t))

abbrev Ready : Course → ℕ → ℕ → ℕ → Type 0
Ready c k t sync = SyncAt c k sync × (None c k t sync × ((from : ℕ) × (from < suc t) × Gap c k t sync from))

dec_ready : (c : Course) (k t sync : ℕ) → Dec (Ready c k t sync)
dec_ready c k t sync = dec_both (dec_sync c k sync) (dec_both (dec_none c k t sync) (dec_below (Gap c k t sync) (dec_gap c k t sync) (suc t)))

abbrev May : Course → ℕ → ℕ → Type 0
May c k t = ((sync : ℕ) × (sync < suc t) × Ready c k t sync) × ((c.due k ≤ t) × Interval c k t)

dec_may : (c : Course) (k t : ℕ) → Dec (MayStart c k t)
dec_may c k t = dec_map {P = May c k t} {Q = MayStart c k t}
    (λ h. record {
      sync = h.0.0;
      synced = h.0.2.0;
      none = h.0.2.1.0;
      from = h.0.2.1.1.0;
      begins = h.0.2.1.1.2.0;
      quiet = h.0.2.1.1.2.1.0;
      terminal = h.0.2.1.1.2.1.1;
      due = h.1.0;
      interval = h.1.1;
    })
    (λ m.
    let terminal : m.from + c.tg k m.from ≤ t = m.terminal in
    let low : m.sync ≤ m.from = elim m.begins [ inl is ↦ omega arith | inr p ↦ omega arith ] in
    ((m.sync, omega arith, (m.synced, (m.none, (m.from, omega arith, (m.begins, (m.quiet, m.terminal)))))), (m.due, m.interval)))
    (dec_both (dec_below (Ready c k t) (dec_ready c k t) (suc t)) (dec_both (dec_le (c.due k) t) (dec_interval c k t)))

-- whether a message is left

dec_some : (o : Option ℕ) (m : ℕ) → Dec (IfSome o (λ n. m < n))
dec_some Nothing m = inl tt
dec_some (Some n) m = dec_lt m n

-- a sender may start, and has a message left
abbrev pub IsDue : Course → ℕ → ℕ → Type 0
IsDue c k t = MayStart c k t × HasLeft c k t

dec_due : (c : Course) (k t : ℕ) → Dec (IsDue c k t)
dec_due c k t = dec_both (dec_may c k t) (dec_some (c.messages k) (length (own c.list k t)))

-- ---- what follows doesn't matter

module _ (c : Course) (t : ℕ) (l m : List Entry) (heard : (n u : ℕ) → u < t → carrier (with_list c l) n u ≡ carrier (with_list c m) n u)
    (there : (x : Entry) → In x l → x.moment < t → In x m) (back : (x : Entry) → In x m → x.moment < t → In x l) where
  quiet_same : (n a b : ℕ) → b ≤ t → IsQuiet (with_list c l) n a b → IsQuiet (with_list c m) n a b
  quiet_same n a b low quiet u p q = sym (heard n u (omega arith)) ∙ quiet u p q

  pub may_same : (k : ℕ) → MayStart (with_list c l) k t → MayStart (with_list c m) k t
  may_same k s =
      let terminal : s.from + c.tg k s.from ≤ t = s.terminal in
      let low : s.sync ≤ s.from = elim s.begins [ inl is ↦ omega arith | inr p ↦ omega arith ] in
      let is : s.synced.from + c.sg k s.synced.from ≡ s.sync = s.synced.elapsed in
      record {
        sync = s.sync;
        synced = record {
          from = s.synced.from;
          begins = elim s.synced.begins [
            | inl up ↦ inl up
            | inr p ↦ (let l : c.up k < s.synced.from = p.0 in inr (p.0, sym (heard k (s.synced.from - 1) (omega arith)) ∙ p.1))
          ];
          quiet = quiet_same k s.synced.from s.sync (omega arith) s.synced.quiet;
          elapsed = s.synced.elapsed;
        };
        none = λ x i mine less. s.none x (back x i less) mine less;
        from = s.from;
        begins = elim s.begins [
          | inl same ↦ inl same
          | inr p ↦ (let l : s.sync < s.from = p.0 in inr (p.0, sym (heard k (s.from - 1) (omega arith)) ∙ p.1))
        ];
        quiet = quiet_same k s.from t (omega arith) s.quiet;
        terminal = s.terminal;
        due = s.due;
        interval = λ x i mine less last. s.interval x (back x i less) mine less (λ y j own before. last y (there y j before) own before);
      }

-- ---- the list

hears_append : (hears : Entry → ℕ → ℕ → Bool) (l m : List Entry) (n u : ℕ) → ((x : Entry) → In x m → hears x n u ≡ false) → hears_any hears (l ++ m) n u ≡ hears_any hears l n u
hears_append hears [] [] n u none = refl
hears_append hears [] (y ∷ ys) n u none =
    ap (λ b. b || hears_any hears ys n u) (none y (inl refl)) ∙ hears_append hears [] ys n u (λ x i. none x (inr i))
hears_append hears (x ∷ l) m n u none = ap (λ b. hears x n u || b) (hears_append hears l m n u none)

pick : {P : Type 0} → Dec P → Entry → List Entry
pick (inl p) x = x ∷ []
pick (inr n) x = []

picked : {P : Type 0} (d : Dec P) (x y : Entry) → In y (pick d x) → P × (y ≡ x)
unfolding pick
picked (inl p) x y (inl same) = (p, same)
picked (inl p) x y (inr none) = absurd none
picked (inr n) x y i = absurd i

picks : {P : Type 0} (d : Dec P) (x : Entry) → P → In x (pick d x)
unfolding pick
picks (inl q) x p = inl refl
picks (inr n) x p = absurd (n p)

pick_up : {P : Type 0} (d : Dec P) (x : Entry) → IsAscending (pick d x)
unfolding pick
pick_up (inl p) x = ((λ y i. absurd i), tt)
pick_up (inr n) x = tt

ascending_append : (l m : List Entry) → IsAscending l → IsAscending m → ((x y : Entry) → In x l → In y m → IsBefore x y) → IsAscending (l ++ m)
ascending_append [] m a b h = b
ascending_append (x ∷ l) m a b h = (
  (λ y i. elim (in_cases l m y i) [ inl j ↦ a.0 y j | inr j ↦ h x y (inl refl) j ]),
  ascending_append l m a.1 b (λ z y i j. h z y (inr i) j),
)

module _ (bus : Bus) (c : Course) (lasts : ℕ → ℕ → ℕ) (nature : IsNature bus c lasts) where
  abbrev entry : ℕ → ℕ → Entry
  entry k t = record { moment = t; sender = k; length = lasts k t }

  starts : List Entry → ℕ → ℕ → List Entry
  starts l t zero = []
  starts l t (suc k) = starts l t k ++ pick (dec_due (with_list c l) k t) (entry k t)

  started_is : (l : List Entry) (t n : ℕ) (x : Entry) → In x (starts l t n) → (x.sender < n) × (x ≡ entry x.sender t) × IsDue (with_list c l) x.sender t
  unfolding starts
  started_is l t zero x i = absurd i
  started_is l t (suc k) x i = elim (in_cases (starts l t k) (pick (dec_due (with_list c l) k t) (entry k t)) x i) [
    | inl j ↦ (let h = started_is l t k x j in let less : x.sender < k = h.0 in (omega arith, h.1, h.2))
    | inr j ↦
        let h = picked (dec_due (with_list c l) k t) (entry k t) x j in
        let is : x.sender ≡ k = ap (λ (z : Entry). z.sender) h.1 in
        (omega arith, subst (λ i. x ≡ entry i t) (sym is) h.1, subst (λ i. IsDue (with_list c l) i t) (sym is) h.0)
  ]

  starts_in : (l : List Entry) (t n k : ℕ) → k < n → IsDue (with_list c l) k t → In (entry k t) (starts l t n)
  unfolding starts
  starts_in l t zero k less may = absurd (omega arith)
  starts_in l t (suc n) k less may = elim (cases_eq k n) [
    | inl same ↦ in_right (starts l t n) (pick (dec_due (with_list c l) n t) (entry n t)) (entry k t)
        (subst (λ i. In (entry i t) (pick (dec_due (with_list c l) n t) (entry n t))) (sym same)
        (picks (dec_due (with_list c l) n t) (entry n t) (subst (λ i. IsDue (with_list c l) i t) same may)))
    | inr other ↦ in_left (starts l t n) (pick (dec_due (with_list c l) n t) (entry n t)) (entry k t) (starts_in l t n k (omega arith) may)
  ]

  starts_up : (l : List Entry) (t n : ℕ) → IsAscending (starts l t n)
  unfolding starts
  starts_up l t zero = tt
  starts_up l t (suc k) =
      ascending_append (starts l t k) (pick (dec_due (with_list c l) k t) (entry k t)) (starts_up l t k) (pick_up (dec_due (with_list c l) k t) (entry k t))
      (λ x y i j.
      let h = started_is l t k x i in
      let p = picked (dec_due (with_list c l) k t) (entry k t) y j in
      let less : x.sender < k = h.0 in
      let one : x.moment ≡ t = ap (λ (z : Entry). z.moment) h.1 in
      let two : y.moment ≡ t = ap (λ (z : Entry). z.moment) p.1 in
      let three : y.sender ≡ k = ap (λ (z : Entry). z.sender) p.1 in
      inr (omega arith, (λ same. omega arith)))

  pub upto : ℕ → List Entry
  upto zero = []
  upto (suc t) = upto t ++ starts (upto t) t bus.senders

  record Good (t : ℕ) (x : Entry) : Type 0 where
    sender : x.sender < bus.senders
    early : x.moment < t
    long : x.length ≡ lasts x.sender x.moment
    may : IsDue (with_list c (upto x.moment)) x.sender x.moment

  good : (t : ℕ) (x : Entry) → In x (upto t) → Good t x
  unfolding upto
  good zero x i = absurd i
  good (suc t) x i = elim (in_cases (upto t) (starts (upto t) t bus.senders) x i) [
    | inl j ↦ (let g : Good t x = good t x j in let e : x.moment < t = g.early in record { sender = g.sender; early = omega arith; long = g.long; may = g.may })
    | inr j ↦
        let h = started_is (upto t) t bus.senders x j in
        let at : x.moment ≡ t = ap (λ (z : Entry). z.moment) h.1 in
        record {
          sender = h.0;
          early = omega arith;
          long = ap (λ (z : Entry). z.length) h.1 ∙ ap (lasts x.sender) (sym at);
          may = subst (λ u. IsDue (with_list c (upto u)) x.sender u) (sym at) h.2;
        }
  ]

  upto_up : (t : ℕ) → IsAscending (upto t)
  unfolding upto
  upto_up zero = tt
  upto_up (suc t) =
      ascending_append (upto t) (starts (upto t) t bus.senders) (upto_up t) (starts_up (upto t) t bus.senders)
      (λ x y i j.
      let g : Good t x = good t x i in
      let early : x.moment < t = g.early in
      let at : y.moment ≡ t = ap (λ (z : Entry). z.moment) (started_is (upto t) t bus.senders y j).1 in
      inl (omega arith))

  -- what is longer is the same, and later
  record More (t n : ℕ) : Type 0 where
    rest : List Entry
    is : upto (t + n) ≡ upto t ++ rest
    late : (x : Entry) → In x rest → t ≤ x.moment

  append_nil : (l : List Entry) → l ≡ l ++ []
  append_nil [] = refl
  append_nil (x ∷ l) = ap (λ m. x ∷ m) (append_nil l)

  assoc : (a b d : List Entry) → (a ++ b) ++ d ≡ a ++ (b ++ d)
  assoc [] b d = refl
  assoc (x ∷ a) b d = ap (λ l. x ∷ l) (assoc a b d)

  more : (t n : ℕ) → More t n
  unfolding upto
  more t zero = record { rest = []; is = ap upto (let e : t + 0 ≡ t = omega arith in e) ∙ append_nil (upto t); late = λ x i. absurd i }
  more t (suc n) =
      let m : More t n = more t n in
      record {
        rest = m.rest ++ starts (upto (t + n)) (t + n) bus.senders;
        is = ap upto (let e : t + suc n ≡ suc (t + n) = omega arith in e) ∙ ap (λ l. l ++ starts (upto (t + n)) (t + n) bus.senders) m.is
            ∙ assoc (upto t) m.rest (starts (upto (t + n)) (t + n) bus.senders);
        late = λ x i. elim (in_cases m.rest (starts (upto (t + n)) (t + n) bus.senders) x i) [
          | inl j ↦ m.late x j
          | inr j ↦ (let at : x.moment ≡ t + n = ap (λ (z : Entry). z.moment) (started_is (upto (t + n)) (t + n) bus.senders x j).1 in omega arith)
        ];
      }

  abbrev pub whole : List Entry
  whole = upto c.horizon

  some_length : (x : Entry) → In x whole → 0 < x.length
  some_length x i =
      let g : Good c.horizon x = good c.horizon x i in
      let long : x.length ≡ lasts x.sender x.moment = g.long in
      let some : 0 < lasts x.sender x.moment = (nature.lengths x.sender x.moment g.sender).0 in
      omega arith

  before : (t : ℕ) → t ≤ c.horizon → More t (c.horizon - t)
  before t low = more t (c.horizon - t)

  whole_is : (t : ℕ) (low : t ≤ c.horizon) → whole ≡ upto t ++ (before t low).rest
  whole_is t low = ap upto (let e : c.horizon ≡ t + (c.horizon - t) = omega arith in e) ∙ (before t low).is

  heard_same : (t : ℕ) → t ≤ c.horizon → (n u : ℕ) → u < t → carrier (with_list c (upto t)) n u ≡ carrier (with_list c whole) n u
  heard_same t low n u less =
      let b : More t (c.horizon - t) = before t low in
      let none : (x : Entry) → In x b.rest → c.hears x n u ≡ false = λ x i. elim (cases_Bool (c.hears x n u)) [
        | inr rests ↦ rests
        | inl sounds ↦
            let late : t ≤ x.moment = b.late x i in
            let j : In x whole = subst (In x) (sym (whole_is t low)) (in_right (upto t) b.rest x i) in
            let w : x.moment ≤ u = ((nature.others x n (some_length x j)).within u sounds).0 in
            absurd (omega arith)
      ] in
      ap (λ v. c.noise n u || v) (sym (hears_append c.hears (upto t) b.rest n u none) ∙ ap (λ l. hears_any c.hears l n u) (sym (whole_is t low)))

  in_whole : (t : ℕ) → t ≤ c.horizon → (x : Entry) → In x (upto t) → In x whole
  in_whole t low x i = subst (In x) (sym (whole_is t low)) (in_left (upto t) (before t low).rest x i)

  from_whole : (t : ℕ) → t ≤ c.horizon → (x : Entry) → In x whole → x.moment < t → In x (upto t)
  from_whole t low x i less = elim (in_cases (upto t) (before t low).rest x (subst (In x) (whole_is t low) i)) [
    | inl j ↦ j
    | inr j ↦ (let late : t ≤ x.moment = (before t low).late x j in absurd (omega arith))
  ]

  own_whole : (t : ℕ) → t ≤ c.horizon → (k : ℕ) → own whole k t ≡ own (upto t) k t
  own_whole t low k = ap (λ l. own l k t) (whole_is t low) ∙ own_early (upto t) (before t low).rest k t (before t low).late

  -- nobody starts before its power-up
  is_bound : (k a : ℕ) → IsFresh (with_list c whole) k a → IsBound bus c k a
  is_bound k a (inl less) = inl less
  is_bound k a (inr p) =
      let x : Entry = p.0 in
      let g : Good c.horizon x = good c.horizon x p.1 in
      let early : x.moment < c.up k = p.2 in
      let m : MayStart (with_list c (upto x.moment)) x.sender x.moment = g.may.0 in
      let from : c.up x.sender ≤ m.synced.from = elim m.synced.begins [ inl is ↦ omega arith | inr q ↦ (let l : c.up x.sender < m.synced.from = q.0 in omega arith) ] in
      let is : m.synced.from + c.sg x.sender m.synced.from ≡ m.sync = m.synced.elapsed in
      let terminal : m.from + c.tg x.sender m.from ≤ x.moment = m.terminal in
      let low : m.sync ≤ m.from = elim m.begins [ inl same ↦ omega arith | inr q ↦ omega arith ] in
      inr (x.sender, g.sender, omega arith)

  pub admissible : IsCourse bus (with_list c whole)
  unfolding upto
  admissible = record {
    ordered = upto_up c.horizon;
    sent = λ x i.
        let g : Good c.horizon x = good c.horizon x i in
        let long : x.length ≡ lasts x.sender x.moment = g.long in
        let l = nature.lengths x.sender x.moment g.sender in
        let short : bus.shortest x.sender ≤ lasts x.sender x.moment = l.1 in
        let brief : lasts x.sender x.moment ≤ bus.longest x.sender = l.2 in
        (g.sender, g.early, omega arith, omega arith);
    exact = λ k t known less. (
      (λ h.
          let g : Good c.horizon h.entry = good c.horizon h.entry h.there in
          let one : IsDue (with_list c (upto h.entry.moment)) h.entry.sender h.entry.moment = g.may in
          let two : IsDue (with_list c (upto t)) h.entry.sender t = subst (λ u. IsDue (with_list c (upto u)) h.entry.sender u) h.moment one in
          let three : IsDue (with_list c (upto t)) k t = subst (λ j. IsDue (with_list c (upto t)) j t) h.sender two in (
            may_same c t (upto t) whole (heard_same t (omega arith)) (λ x i _. in_whole t (omega arith) x i) (λ x i l. from_whole t (omega arith) x i l) k three.0,
            subst (λ (l : List Entry). IfSome (c.messages k) (λ n. length l < n)) (sym (own_whole t (omega arith) k)) three.1,
          )),
      (λ m.
          let may : MayStart (with_list c (upto t)) k t =
          may_same c t whole (upto t) (λ n u l. sym (heard_same t (omega arith) n u l)) (λ x i l. from_whole t (omega arith) x i l) (λ x i _. in_whole t (omega arith) x i) k m.0 in
          let left : HasLeft (with_list c (upto t)) k t = subst (λ (l : List Entry). IfSome (c.messages k) (λ n. length l < n)) (own_whole t (omega arith) k) m.1 in
          record {
            entry = entry k t;
            there = in_whole (suc t) less (entry k t) (in_right (upto t) (starts (upto t) t bus.senders) (entry k t) (starts_in (upto t) t bus.senders k known (may, left)));
            sender = refl;
            moment = refl;
          }),
    );
    own = λ x i. nature.own x (some_length x i);
    others = λ x n i. nature.others x n (some_length x i);
    tg_low = λ k a known fresh. nature.tg_low k a known (is_bound k a fresh);
    tg_high = nature.tg_high;
    sg_low = λ k a known fresh. nature.sg_low k a known (is_bound k a fresh);
    sg_high = nature.sg_high;
    ti_low = λ k a known. (nature.ti k a known).0;
    ti_high = λ k a known. (nature.ti k a known).1;
  }

pub courses_exist : CoursesExist
courses_exist bus c lasts nature = (
  whole bus c lasts nature,
  admissible bus c lasts nature,
  (λ x i. (good bus c lasts nature c.horizon x i).long),
)
