-- Courses that are written down, of a few senders with exact timers and no delay, all powered up at moment 0: what each may do is tested.
use Rattle.std.proofs.Common.{◌≡◌, ℕ, zero, suc, ◌+◌, ◌-◌, ◌<◌, ◌≤◌, ◌⊎◌, Bool, true, false, ◌&&◌, ◌||◌, cond, List, [], ◌∷◌, None, inl, inr, arith, sym, refl, ap, ◌∙◌, leb-true, eq-eqb, ltb-true}
use Rattle.std.specs.Prelude.{nat_eq, nat_le, nat_lt}
use Rattle.std.proofs.lemmas.Bool.{true≢false, and_parts}
use Rattle.bus_clocks.specs.Entries.{Entry, In, IsAscending}
use Rattle.bus_clocks.specs.Courses.{Course, carrier, IsQuiet, MayStart}
use Rattle.bus_clocks.proofs.Timers.{unheard, quiet_all}
use Rattle.bus_drift.proofs.Examples.{prompt, is_prompt}

abbrev pub entry : ℕ → ℕ → ℕ → Entry
entry t k long = record { moment = t; sender = k; length = long }

-- ---- what is tested of each

abbrev pub each : (Entry → Bool) → List Entry → Bool
each test [] = true
each test (x ∷ xs) = test x && each test xs

pub each_is : (test : Entry → Bool) (xs : List Entry) → each test xs ≡ true → (x : Entry) → In x xs → test x ≡ true
each_is test [] h x i = absurd i
each_is test (y ∷ ys) h x (inl same) = ap test same ∙ (and_parts (test y) (each test ys) h).0
each_is test (y ∷ ys) h x (inr i) = each_is test ys (and_parts (test y) (each test ys) h).1 x i

pub or_parts : (a b : Bool) → a || b ≡ true → (a ≡ true) ⊎ (b ≡ true)
or_parts true b h = inl refl
or_parts false b h = inr h

-- each has ended by moment a, or begins at moment b or later
abbrev pub outside : ℕ → ℕ → Entry → Bool
outside a b x = nat_le b x.moment || nat_le (x.moment + x.length) a

-- each of sender k begins before moment v, or at moment t or later
abbrev pub before : ℕ → ℕ → ℕ → Entry → Bool
before k v t x = nat_lt x.moment v || (nat_le t x.moment || cond (nat_eq x.sender k) false true)

pub push : (x : Entry) (xs : List Entry) → each (λ y. nat_lt x.moment y.moment) xs ≡ true → IsAscending xs → IsAscending (x ∷ xs)
push x xs h up = ((λ y i. inl (ltb-true x.moment y.moment (each_is (λ y. nat_lt x.moment y.moment) xs h y i))), up)

pub of_two : (P : ℕ → Type 0) → P 0 → P 1 → (k : ℕ) → k < 2 → P k
of_two P a b zero less = a
of_two P a b (suc zero) less = b
of_two P a b (suc (suc k)) less = absurd (omega arith)

-- gap, interval: what the terminal gap and the transmit interval of each sender take; sg: what every synchronization gap takes
module _ (due gap interval : ℕ → ℕ) (sg horizon : ℕ) (sent : List Entry) (long : each (λ x. nat_lt 0 x.length) sent ≡ true) where
  abbrev pub row : Course
  row = record {
    up = λ _. 0;
    due = due;
    tg = λ k _. gap k;
    sg = λ _ _. sg;
    ti = λ k _. interval k;
    messages = λ _. None;
    noise = λ _ _. false;
    hears = prompt;
    horizon = horizon;
    list = sent;
  }

  pub some_length : (x : Entry) → In x sent → 0 < x.length
  some_length x i = ltb-true 0 x.length (each_is (λ x. nat_lt 0 x.length) sent long x i)

  pub quiet : (n a b : ℕ) → each (outside a b) sent ≡ true → IsQuiet row n a b
  quiet n a b h t low high = quiet_all prompt sent n t (λ x i.
      unheard prompt 0 1 x n t (is_prompt x (some_length x i) n 0 1 (omega arith))
      (elim (or_parts (nat_le b x.moment) (nat_le (x.moment + x.length) a) (each_is (outside a b) sent h x i)) [
        | inl later ↦ (let l : b ≤ x.moment = leb-true b x.moment later in inl (omega arith))
        | inr over ↦ (let l : x.moment + x.length ≤ a = leb-true (x.moment + x.length) a over in inr (omega arith))
      ]))

  pub own_before : (k v t : ℕ) → each (before k v t) sent ≡ true → (x : Entry) → In x sent → x.sender ≡ k → x.moment < t → x.moment < v
  own_before k v t h x i mine less = elim (or_parts (nat_lt x.moment v) (nat_le t x.moment || cond (nat_eq x.sender k) false true) (each_is (before k v t) sent h x i)) [
    | inl fine ↦ ltb-true x.moment v fine
    | inr rest ↦ elim (or_parts (nat_le t x.moment) (cond (nat_eq x.sender k) false true) rest) [
      | inl late ↦ (let l : t ≤ x.moment = leb-true t x.moment late in absurd (omega arith))
      | inr other ↦ (let is : cond (nat_eq x.sender k) false true ≡ false = ap (λ b. cond b false true) (eq-eqb x.sender k mine) in absurd (true≢false (sym other ∙ is)))
    ]
  ]

  -- sender k may start at moment t: it hears nothing from f on for a synchronization gap, and from g on for its terminal gap
  pub start : (k t f g : ℕ) → (f ≡ 0) ⊎ ((0 < f) × (carrier row k (f - 1) ≡ true)) → each (outside f (f + sg)) sent ≡ true → each (before k (f + sg) t) sent ≡ true
      → (g ≡ f + sg) ⊎ ((f + sg < g) × (carrier row k (g - 1) ≡ true)) → each (outside g t) sent ≡ true → g + gap k ≤ t → due k ≤ t
      → each (before k (suc t - interval k) t) sent ≡ true → MayStart row k t
  start k t f g begins synced none from silent terminal on_time apart = record {
    sync = f + sg;
    synced = record { from = f; begins = begins; quiet = quiet k f (f + sg) synced; elapsed = refl };
    none = λ x i mine less. own_before k (f + sg) t none x i mine less;
    from = g;
    begins = from;
    quiet = quiet k g t silent;
    terminal = terminal;
    due = on_time;
    interval = λ x i mine less last. (let l : x.moment < suc t - interval k = own_before k (suc t - interval k) t apart x i mine less in omega arith);
  }

  pub wait : (k t : ℕ) (x : Entry) (next : ℕ) → In x sent → x.sender ≡ k → x.moment < t → t < x.moment + interval k → t ≤ next
      → each (before k (suc x.moment) next) sent ≡ true → MayStart row k t → ⊥
  wait k t x next i mine less soon fits test m =
      let l : x.moment + interval k ≤ t = m.interval x i mine less
      (λ y j own earlier. let b : y.moment < suc x.moment = own_before k (suc x.moment) next test y j own (omega arith) in omega arith) in
      omega arith
