-- Sums over stretches of turns.
use Rattle.std.proofs.Common.{◌≡◌, ℕ, zero, suc, ◌+◌, ◌-◌, ◌*◌, ◌%◌, ◌<◌, ◌≤◌, inl, inr, arith, sym, refl, ap, ◌∙◌}
use Rattle.std.proofs.lemmas.Bool.{cases_lt, cases_eq}
use Rattle.std.proofs.Math.Nat.{add-mod_right, mod-eq_of_lt, suc-mul}
use Rattle.bus_clocks.specs.Buses.{sum_below}
use Rattle.bus_drift.specs.Turns.{between}

-- ---- sums

-- the sum of so many values of f from a on
abbrev pub sum_from : (ℕ → ℕ) → ℕ → ℕ → ℕ
sum_from f a n = sum_below (λ l. f (a + l)) n

pub sum_split : (f : ℕ → ℕ) (a m n : ℕ) → sum_from f a (m + n) ≡ sum_from f a m + sum_from f (a + m) n
sum_split f a m zero = ap (sum_from f a) (let e : m + 0 ≡ m = omega arith in e) ∙ (let e : sum_from f a m ≡ sum_from f a m + 0 = omega arith in e)
sum_split f a m (suc n) =
    let one : sum_from f a (m + suc n) ≡ sum_from f a (m + n) + f (a + (m + n)) = ap (sum_from f a) (let e : m + suc n ≡ suc (m + n) = omega arith in e) in
    let two : sum_from f a (m + n) ≡ sum_from f a m + sum_from f (a + m) n = sum_split f a m n in
    let three : f (a + (m + n)) ≡ f (a + m + n) = ap f (let e : a + (m + n) ≡ a + m + n = omega arith in e) in
    omega arith

pub sum_one : (f : ℕ → ℕ) (a : ℕ) → sum_from f a 1 ≡ f a
sum_one f a = let e : f (a + 0) ≡ f a = ap f (let e : a + 0 ≡ a = omega arith in e) in omega arith

pub sum_shift : (f : ℕ → ℕ) (k : ℕ) → ((l : ℕ) → f (l + k) ≡ f l) → (a n : ℕ) → sum_from f (a + k) n ≡ sum_from f a n
sum_shift f k same a zero = refl
sum_shift f k same a (suc n) =
    let one : sum_from f (a + k) n ≡ sum_from f a n = sum_shift f k same a n in
    let two : f (a + k + n) ≡ f (a + n + k) = ap f (let e : a + k + n ≡ a + n + k = omega arith in e) in
    let three : f (a + n + k) ≡ f (a + n) = same (a + n) in
    omega arith

pub sum_less : (f g : ℕ → ℕ) → ((l : ℕ) → f l ≤ g l) → (a n : ℕ) → sum_from f a n ≤ sum_from g a n
sum_less f g less a zero = omega arith
sum_less f g less a (suc n) =
    let one : sum_from f a n ≤ sum_from g a n = sum_less f g less a n in
    let two : f (a + n) ≤ g (a + n) = less (a + n) in
    omega arith

pub sum_same : (f g : ℕ → ℕ) → ((l : ℕ) → f l ≡ g l) → (a n : ℕ) → sum_from f a n ≡ sum_from g a n
sum_same f g same a zero = refl
sum_same f g same a (suc n) =
    let one : sum_from f a n ≡ sum_from g a n = sum_same f g same a n in
    let two : f (a + n) ≡ g (a + n) = same (a + n) in
    omega arith

pub sum_plus : (f g : ℕ → ℕ) (a n : ℕ) → sum_from (λ l. f l + g l) a n ≡ sum_from f a n + sum_from g a n
sum_plus f g a zero = refl
sum_plus f g a (suc n) =
    let one : sum_from (λ l. f l + g l) a n ≡ sum_from f a n + sum_from g a n = sum_plus f g a n in
    omega arith

pub sum_const : (v a n : ℕ) → sum_from (λ _. v) a n ≡ n * v
sum_const v a zero = omega arith
sum_const v a (suc n) =
    let one : sum_from (λ _. v) a n ≡ n * v = sum_const v a n in
    let two : suc n * v ≡ n * v + v = suc-mul n v in
    omega arith

-- a whole round is the same from wherever it begins
pub sum_turned : (f : ℕ → ℕ) (k : ℕ) → ((l : ℕ) → f (l + k) ≡ f l) → (a : ℕ) → sum_from f a k ≡ sum_from f 0 k
sum_turned f k same zero = refl
sum_turned f k same (suc a) =
    let one : sum_from f a (1 + k) ≡ sum_from f a 1 + sum_from f (a + 1) k = sum_split f a 1 k in
    let two : sum_from f a (1 + k) ≡ sum_from f a k + f (a + k) = ap (sum_from f a) (let e : 1 + k ≡ suc k = omega arith in e) in
    let three : sum_from f (a + 1) k ≡ sum_from f (suc a) k = ap (λ i. sum_from f i k) (let e : a + 1 ≡ suc a = omega arith in e) in
    let four : f (a + k) ≡ f a = same a in
    let five : sum_from f a 1 ≡ f a = sum_one f a in
    let six : sum_from f a k ≡ sum_from f 0 k = sum_turned f k same a in
    omega arith

pub sum_is_below : (f g : ℕ → ℕ) (n : ℕ) → ((l : ℕ) → l < n → f l ≡ g l) → sum_from f 0 n ≡ sum_below g n
sum_is_below f g zero same = refl
sum_is_below f g (suc n) same =
    let one : sum_from f 0 n ≡ sum_below g n = sum_is_below f g n (λ l less. same l (omega arith)) in
    let two : f (0 + n) ≡ f n = ap f (let e : 0 + n ≡ n = omega arith in e) in
    let three : f n ≡ g n = same n (omega arith) in
    omega arith

-- ---- between

pub between_none : (f : ℕ → ℕ) (i : ℕ) → between f i i ≡ 0
between_none f i = ap (sum_from f i) (let e : i - i ≡ 0 = omega arith in e)

pub between_join : (f : ℕ → ℕ) (i j k : ℕ) → i ≤ j → j ≤ k → between f i k ≡ between f i j + between f j k
between_join f i j k a b =
    let one : sum_from f i (k - i) ≡ sum_from f i ((j - i) + (k - j)) = ap (sum_from f i) (let e : k - i ≡ (j - i) + (k - j) = omega arith in e) in
    let two : sum_from f i ((j - i) + (k - j)) ≡ sum_from f i (j - i) + sum_from f (i + (j - i)) (k - j) = sum_split f i (j - i) (k - j) in
    let three : sum_from f (i + (j - i)) (k - j) ≡ sum_from f j (k - j) = ap (λ m. sum_from f m (k - j)) (let e : i + (j - i) ≡ j = omega arith in e) in
    omega arith

pub between_next : (f : ℕ → ℕ) (i : ℕ) → between f i (suc i) ≡ f i
between_next f i = ap (sum_from f i) (let e : suc i - i ≡ 1 = omega arith in e) ∙ sum_one f i

pub between_more : (f : ℕ → ℕ) (i j : ℕ) → i ≤ j → between f i (suc j) ≡ between f i j + f j
between_more f i j a =
    let one : between f i (suc j) ≡ between f i j + between f j (suc j) = between_join f i j (suc j) a (omega arith) in
    let two : between f j (suc j) ≡ f j = between_next f j in
    omega arith

-- a round later it is the same
pub between_shift : (f : ℕ → ℕ) (k : ℕ) → ((l : ℕ) → f (l + k) ≡ f l) → (i j : ℕ) → k ≤ i → k ≤ j → between f i j ≡ between f (i - k) (j - k)
between_shift f k same i j a b =
    let one : sum_from f i (j - i) ≡ sum_from f (i - k + k) (j - i) = ap (λ m. sum_from f m (j - i)) (let e : i ≡ i - k + k = omega arith in e) in
    let two : sum_from f (i - k + k) (j - i) ≡ sum_from f (i - k) (j - i) = sum_shift f k same (i - k) (j - i) in
    let three : sum_from f (i - k) (j - i) ≡ sum_from f (i - k) (j - k - (i - k)) = ap (sum_from f (i - k)) (let e : j - i ≡ j - k - (i - k) = omega arith in e) in
    one ∙ two ∙ three

pub between_less : (f g : ℕ → ℕ) → ((l : ℕ) → f l ≤ g l) → (i j : ℕ) → between f i j ≤ between g i j
between_less f g less i j = sum_less f g less i (j - i)

pub between_round : (f : ℕ → ℕ) (k : ℕ) → ((l : ℕ) → f (l + k) ≡ f l) → (i : ℕ) → between f i (i + k) ≡ sum_from f 0 k
between_round f k same i = ap (sum_from f i) (let e : i + k - i ≡ k = omega arith in e) ∙ sum_turned f k same i

-- so it is any number of rounds later
pub between_rounds : (f : ℕ → ℕ) (k : ℕ) → ((l : ℕ) → f (l + k) ≡ f l) → (r i j : ℕ) → between f (i + r * k) (j + r * k) ≡ between f i j
between_rounds f k same zero i j =
    let one : i + 0 * k ≡ i = omega arith in
    let two : j + 0 * k ≡ j = omega arith in
    ap (λ m. between f m (j + 0 * k)) one ∙ ap (between f i) two
between_rounds f k same (suc r) i j =
    let more : suc r * k ≡ r * k + k = suc-mul r k in
    let one : i + suc r * k - k ≡ i + r * k = omega arith in
    let two : j + suc r * k - k ≡ j + r * k = omega arith in
    between_shift f k same (i + suc r * k) (j + suc r * k) (omega arith) (omega arith) ∙ ap (λ m. between f m (j + suc r * k - k)) one
    ∙ ap (between f (i + r * k)) two ∙ between_rounds f k same r i j

-- ---- rounds are counted

pub times_less : (a b k : ℕ) → a ≤ b → a * k ≤ b * k
times_less a zero k less = let e : a * k ≡ 0 * k = ap (λ i. i * k) (let q : a ≡ 0 = omega arith in q) in omega arith
times_less a (suc b) k less = elim (cases_eq a (suc b)) [
  | inl same ↦ (let e : a * k ≡ suc b * k = ap (λ i. i * k) same in omega arith)
  | inr other ↦
      let before : a * k ≤ b * k = times_less a b k (omega arith) in
      let more : suc b * k ≡ b * k + k = suc-mul b k in
      omega arith
]

pub same_round : (a b k d : ℕ) → d < k → a * k ≤ b * k + d → b * k + d < a * k + k → a ≡ b
same_round a b k d small low high = elim (cases_lt a b) [
  | inl less ↦
      let one : suc a * k ≤ b * k = times_less (suc a) b k (omega arith) in
      let two : suc a * k ≡ a * k + k = suc-mul a k in
      absurd (omega arith)
  | inr on ↦ elim (cases_lt b a) [
    | inl less ↦
        let one : suc b * k ≤ a * k = times_less (suc b) a k (omega arith) in
        let two : suc b * k ≡ b * k + k = suc-mul b k in
        absurd (omega arith)
    | inr also ↦ omega arith
  ]
]

-- ---- whose turn it is

-- the next turn of sender k, from n on
pub record NextTurn (senders k n : ℕ) : Type 0 where
  pub at : ℕ
  pub low : n ≤ at
  pub high : at < n + senders
  pub is : at % senders ≡ k

pub next_turn : (senders k n : ℕ) → k < senders → NextTurn senders k n
next_turn senders k zero less = record { at = k; low = omega arith; high = omega arith; is = mod-eq_of_lt less }
next_turn senders k (suc n) less =
    let t : NextTurn senders k n = next_turn senders k n less in
    let low : n ≤ t.at = t.low in
    let high : t.at < n + senders = t.high in
    elim (cases_eq t.at n) [
      | inl same ↦ record { at = n + senders; low = omega arith; high = omega arith; is = add-mod_right n senders ∙ ap (λ i. i % senders) (sym same) ∙ t.is }
      | inr other ↦ record { at = t.at; low = omega arith; high = omega arith; is = t.is }
    ]

-- a round before it was the same sender's turn
pub turn_before : (senders n : ℕ) → senders ≤ n → (n - senders) % senders ≡ n % senders
turn_before senders n more = sym (add-mod_right (n - senders) senders) ∙ ap (λ i. i % senders) (let e : n - senders + senders ≡ n = omega arith in e)

turns_differ_by : (senders i j r : ℕ) → 0 < senders → i < j → j < i + senders → i % senders ≡ j % senders → i ≤ r → ⊥
turns_differ_by senders i j zero some less within same upto =
    let one : i % senders ≡ i = mod-eq_of_lt (let e : i < senders = omega arith in e) in
    let two : j % senders ≡ j = mod-eq_of_lt (let e : j < senders = omega arith in e) in
    omega arith
turns_differ_by senders i j (suc r) some less within same upto = elim (cases_lt i senders) [
  | inr on ↦ turns_differ_by senders (i - senders) (j - senders) r some (omega arith) (omega arith)
      (turn_before senders i on ∙ same ∙ sym (turn_before senders j (omega arith))) (omega arith)
  | inl first ↦
      let one : i % senders ≡ i = mod-eq_of_lt first in
      elim (cases_lt j senders) [
        | inl also ↦ (let two : j % senders ≡ j = mod-eq_of_lt also in omega arith)
        | inr second ↦
            let two : (j - senders) % senders ≡ j % senders = turn_before senders j second in
            let three : (j - senders) % senders ≡ j - senders = mod-eq_of_lt (let e : j - senders < senders = omega arith in e) in
            omega arith
      ]
]

-- inside a round all are different
pub turns_differ : (senders i j : ℕ) → 0 < senders → i < j → j < i + senders → i % senders ≡ j % senders → ⊥
turns_differ senders i j some less within same = turns_differ_by senders i j i some less within same (omega arith)
