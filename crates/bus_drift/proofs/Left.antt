-- Hands of even size: where anybody has a message left, so has whoever is next.
use Rattle.std.proofs.Common.{◌≡◌, ℕ, zero, suc, ◌+◌, ◌-◌, ◌%◌, ◌<◌, ◌≤◌, Bool, ◌&&◌, cond, eqb, ltb, List, [], ◌∷◌, length, get_or, inl, inr, arith, sym, refl, ap, ◌∙◌, subst}
use Rattle.std.specs.Prelude.{filter, IfSome}
use Rattle.std.proofs.lemmas.Bool.{cases_lt, cases_eq, cases_Bool, eq-eqb, eqb-true}
use Rattle.std.proofs.lemmas.Nat.{mod_below}
use Rattle.std.proofs.Math.Nat.{add-mod_right, mod-eq_of_lt}
use Rattle.bus_clocks.specs.Buses.{sum_below}
use Rattle.bus_clocks.specs.Entries.{Entry, own}
use Rattle.bus_clocks.specs.Courses.{Course, HasLeft}
use Rattle.bus_clocks.proofs.Hands.{left_by}
use Rattle.bus_clocks.proofs.Lists.{is_own, own_is}
use Rattle.bus_drift.specs.Turns.{turn}
use Rattle.bus_drift.proofs.Sums.{sum_from, sum_split, sum_turned, turn_before}

-- 1 where it is so, and 0 where not
abbrev pub one_if : Bool → ℕ
one_if b = cond b 1 0

-- ---- sums up to a place

pub sum_first : (f : ℕ → ℕ) (n : ℕ) → sum_below f (suc n) ≡ f 0 + sum_below (λ p. f (suc p)) n
sum_first f zero = omega arith
sum_first f (suc n) = (let before : sum_below f (suc n) ≡ f 0 + sum_below (λ p. f (suc p)) n = sum_first f n in omega arith)

pub sum_alike : (f g : ℕ → ℕ) (n : ℕ) → ((p : ℕ) → p < n → f p ≡ g p) → sum_below f n ≡ sum_below g n
sum_alike f g zero same = refl
sum_alike f g (suc n) same =
    let before : sum_below f n ≡ sum_below g n = sum_alike f g n (λ p less. same p (omega arith)) in
    let last : f n ≡ g n = same n (omega arith) in
    omega arith

-- what adds nothing behind place n
pub sum_short : (f : ℕ → ℕ) (n m : ℕ) → n ≤ m → ((p : ℕ) → n ≤ p → p < m → f p ≡ 0) → sum_below f m ≡ sum_below f n
sum_short f n zero low none = ap (sum_below f) (let e : 0 ≡ n = omega arith in e)
sum_short f n (suc m) low none = elim (cases_eq n (suc m)) [
  | inl same ↦ ap (sum_below f) (sym same)
  | inr other ↦
      let before : sum_below f m ≡ sum_below f n = sum_short f n m (omega arith) (λ p a b. none p a (omega arith)) in
      let last : f m ≡ 0 = none m (omega arith) (omega arith) in
      omega arith
]

-- how many there are that pass a test
pub count_is : (test : Entry → Bool) (list : List Entry) (d : Entry) → length (filter test list) ≡ sum_below (λ p. one_if (test (get_or list p d))) (length list)
count_is test [] d = refl
count_is test (x ∷ xs) d =
    let rest : length (filter test xs) ≡ sum_below (λ p. one_if (test (get_or xs p d))) (length xs) = count_is test xs d in
    let first : sum_below (λ p. one_if (test (get_or (x ∷ xs) p d))) (suc (length xs)) ≡ one_if (test x) + sum_below (λ p. one_if (test (get_or xs p d))) (length xs) =
    sum_first (λ p. one_if (test (get_or (x ∷ xs) p d))) (length xs) in
    elim (cases_Bool (test x)) [
      | inl yes' ↦
          let one : length (filter test (x ∷ xs)) ≡ suc (length (filter test xs)) = ap (λ b. length (cond b (x ∷ filter test xs) (filter test xs))) yes' in
          let two : one_if (test x) ≡ 1 = ap one_if yes' in
          omega arith
      | inr no' ↦
          let one : length (filter test (x ∷ xs)) ≡ length (filter test xs) = ap (λ b. length (cond b (x ∷ filter test xs) (filter test xs))) no' in
          let two : one_if (test x) ≡ 0 = ap one_if no' in
          omega arith
    ]

-- ---- turns of one sender

-- how many of the first n turns are of sender j
abbrev pub turns_of : ℕ → ℕ → ℕ → ℕ
turns_of senders j n = sum_below (λ p. one_if (eqb (p % senders) j)) n

module _ (senders : ℕ) (some : 0 < senders) where
  again : (j l : ℕ) → one_if (eqb ((l + senders) % senders) j) ≡ one_if (eqb (l % senders) j)
  again j l = ap (λ i. one_if (eqb i j)) (add-mod_right l senders)

  other_none : (i j : ℕ) → (i ≡ j → ⊥) → one_if (eqb i j) ≡ 0
  other_none i j other = elim (cases_Bool (eqb i j)) [ inl yes' ↦ absurd (other (eqb-true i j yes')) | inr no' ↦ ap one_if no' ]

  -- in the first round none before its own
  none_first : (j n : ℕ) → n ≤ senders → n ≤ j → turns_of senders j n ≡ 0
  none_first j zero within upto = refl
  none_first j (suc n) within upto =
      let before : turns_of senders j n ≡ 0 = none_first j n (omega arith) (omega arith) in
      let at : n % senders ≡ n = mod-eq_of_lt (let q : n < senders = omega arith in q) in
      let last : one_if (eqb (n % senders) j) ≡ 0 = other_none (n % senders) j (λ same. omega arith) in
      omega arith

  one_first : (j n : ℕ) → n ≤ senders → j < n → turns_of senders j n ≡ 1
  one_first j zero within upto = absurd (omega arith)
  one_first j (suc n) within upto =
      let at : n % senders ≡ n = mod-eq_of_lt (let q : n < senders = omega arith in q) in
      elim (cases_eq n j) [
        | inl same ↦
            let before : turns_of senders j n ≡ 0 = none_first j n (omega arith) (omega arith) in
            let last : one_if (eqb (n % senders) j) ≡ 1 = ap one_if (eq-eqb (n % senders) j (at ∙ same)) in
            omega arith
        | inr other ↦
            let before : turns_of senders j n ≡ 1 = one_first j n (omega arith) (omega arith) in
            let last : one_if (eqb (n % senders) j) ≡ 0 = other_none (n % senders) j (λ same. omega arith) in
            omega arith
      ]

  -- in any round one
  one_more : (j n : ℕ) → j < senders → turns_of senders j (n + senders) ≡ suc (turns_of senders j n)
  one_more j n known =
      let f : ℕ → ℕ = λ p. one_if (eqb (p % senders) j) in
      let parts : sum_from f 0 (n + senders) ≡ sum_from f 0 n + sum_from f (0 + n) senders = sum_split f 0 n senders in
      let round : sum_from f (0 + n) senders ≡ sum_from f 0 senders = sum_turned f senders (again j) (0 + n) in
      let one : turns_of senders j senders ≡ 1 = one_first j senders (omega arith) known in
      let a : sum_from f 0 (n + senders) ≡ sum_below f (n + senders) = sum_alike (λ l. f (0 + l)) f (n + senders) (λ p less. ap f (let q : 0 + p ≡ p = omega arith in q)) in
      let b : sum_from f 0 n ≡ sum_below f n = sum_alike (λ l. f (0 + l)) f n (λ p less. ap f (let q : 0 + p ≡ p = omega arith in q)) in
      let g : sum_from f 0 senders ≡ sum_below f senders = sum_alike (λ l. f (0 + l)) f senders (λ p less. ap f (let q : 0 + p ≡ p = omega arith in q)) in
      omega arith

  -- nobody has had fewer turns than who is next
  fewest : (fuel j n : ℕ) → n < fuel → j < senders → turns_of senders (n % senders) n ≤ turns_of senders j n
  fewest zero j n within known = absurd (omega arith)
  fewest (suc fuel) j n within known = elim (cases_lt n senders) [
    | inl first ↦
        let at : n % senders ≡ n = mod-eq_of_lt first in
        let none : turns_of senders (n % senders) n ≡ 0 = none_first (n % senders) n (omega arith) (omega arith) in
        omega arith
    | inr on ↦
        let before : turns_of senders ((n - senders) % senders) (n - senders) ≤ turns_of senders j (n - senders) = fewest fuel j (n - senders) (omega arith) known in
        let same : (n - senders) % senders ≡ n % senders = turn_before senders n on in
        let is : n - senders + senders ≡ n = omega arith in
        let one : turns_of senders (n % senders) (n - senders + senders) ≡ suc (turns_of senders (n % senders) (n - senders)) =
        one_more (n % senders) (n - senders) (mod_below n senders some) in
        let two : turns_of senders j (n - senders + senders) ≡ suc (turns_of senders j (n - senders)) = one_more j (n - senders) known in
        let a : turns_of senders (n % senders) (n - senders + senders) ≡ turns_of senders (n % senders) n = ap (turns_of senders (n % senders)) is in
        let b : turns_of senders j (n - senders + senders) ≡ turns_of senders j n = ap (turns_of senders j) is in
        let g : turns_of senders ((n - senders) % senders) (n - senders) ≡ turns_of senders (n % senders) (n - senders) = ap (λ i. turns_of senders i (n - senders)) same in
        omega arith
  ]

-- ---- and of a course

-- before moment m a sender has had its turns of the first n, where these came before, and all others come later
pub own_turns : (c : Course) (senders m n j : ℕ) → n ≤ length c.list → ((p : ℕ) → p < n → ((turn c p).sender ≡ p % senders) × ((turn c p).moment < m))
    → ((z : ℕ) → n ≤ z → z < length c.list → m ≤ (turn c z).moment) → length (own c.list j m) ≡ turns_of senders j n
own_turns c senders m n j upto before behind =
    let test : Entry → Bool = λ x. eqb x.sender j && ltb x.moment m in
    let f : ℕ → ℕ = λ p. one_if (test (turn c p)) in
    let all : length (own c.list j m) ≡ sum_below f (length c.list) = count_is test c.list (record { moment = 0; sender = 0; length = 0 }) in
    let short : sum_below f (length c.list) ≡ sum_below f n = sum_short f n (length c.list) upto (λ z low less. elim (cases_Bool (test (turn c z))) [
      | inl yes' ↦
          let l : (turn c z).moment < m = (is_own j m (turn c z) yes').1 in
          let late : m ≤ (turn c z).moment = behind z low less in
          absurd (omega arith)
      | inr no' ↦ ap one_if no'
    ]) in
    let same : sum_below f n ≡ turns_of senders j n = sum_alike f (λ p. one_if (eqb (p % senders) j)) n (λ p less.
    let b = before p less in
    elim (cases_eq (p % senders) j) [
      | inl is ↦ ap one_if (own_is j m (turn c p) (b.0 ∙ is) b.1 ∙ sym (eq-eqb (p % senders) j is))
      | inr other ↦ elim (cases_Bool (test (turn c p))) [
        | inl yes' ↦ absurd (other (sym b.0 ∙ (is_own j m (turn c p) yes').0))
        | inr no' ↦ elim (cases_Bool (eqb (p % senders) j)) [ inl bad ↦ absurd (other (eqb-true (p % senders) j bad)) | inr none ↦ ap one_if (no' ∙ sym none) ]
      ]
    ]) in
    all ∙ short ∙ same

-- so where sender i has a message left at moment m, so has whoever is next
pub left_too : (c : Course) (senders m n i : ℕ) → n ≤ length c.list → 0 < senders → i < senders
    → ((j : ℕ) → j < senders → c.messages j ≡ c.messages 0)
    → ((p : ℕ) → p < n → ((turn c p).sender ≡ p % senders) × ((turn c p).moment < m))
    → ((z : ℕ) → n ≤ z → z < length c.list → m ≤ (turn c z).moment) → HasLeft c i m → HasLeft c (n % senders) m
left_too c senders m n i upto some known even before behind left =
    let next : n % senders < senders = mod_below n senders some in
    let one : length (own c.list (n % senders) m) ≡ turns_of senders (n % senders) n = own_turns c senders m n (n % senders) upto before behind in
    let two : length (own c.list i m) ≡ turns_of senders i n = own_turns c senders m n i upto before behind in
    let few : turns_of senders (n % senders) n ≤ turns_of senders i n = fewest senders some (suc n) i n (omega arith) known in
    let same : c.messages i ≡ c.messages (n % senders) = even i known ∙ sym (even (n % senders) next) in
    let least : length (own c.list (n % senders) m) ≤ length (own c.list i m) = omega arith in
    left_by (c.messages (n % senders)) (length (own c.list (n % senders) m)) (length (own c.list i m)) least
    (subst (λ o. IfSome o (λ h. length (own c.list i m) < h)) same left)
