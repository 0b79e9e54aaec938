-- Numbers with a thin space between their thousands.
use Rattle.std.proofs.Common.{◌≡◌, ℕ, ◌+◌, ◌/◌, ◌%◌, ◌^◌, ◌<◌, ◌≤◌, Bool, true, false, cond, eqb, ltb, List, [], ◌∷◌, ◌++◌, length, decimal}
use Rattle.std.proofs.Common.{inl, inr, arith, refl, sym, ap, ◌∙◌, append_assoc}
use Rattle.std.specs.Prelude.{◌&&◌}
use Rattle.std.proofs.lemmas.Bool.{cases_lt, lt-ltb}
use Rattle.std.proofs.lemmas.Fmt.{decimal_digit, decimal_nonempty, decimal_step}
use Rattle.bus_pen.specs.Numbers.{are_thousands, parted, thin_space}

-- ---- digits
abbrev digit : ℕ → List ℕ
digit n = (48 + n % 10) ∷ []

three : (n : ℕ) → 1000 ≤ n → n < 2 ^ 64
    → decimal n ≡ decimal (n / 1000) ++ ((48 + n % 1000 / 100) ∷ ((48 + n % 1000 / 10 % 10) ∷ ((48 + n % 1000 % 10) ∷ [])))
three n h low =
    let a : n / 10 / 10 / 10 ≡ n / 1000 = omega arith in
    let x : n / 10 / 10 % 10 ≡ n % 1000 / 100 = omega arith in
    let y : n / 10 % 10 ≡ n % 1000 / 10 % 10 = omega arith in
    let z : n % 10 ≡ n % 1000 % 10 = omega arith in
    decimal_step n (omega arith) low
    ∙ ap (λ l. l ++ digit n) (decimal_step (n / 10) (omega arith) (omega arith)
    ∙ ap (λ l. l ++ digit (n / 10)) (decimal_step (n / 10 / 10) (omega arith) (omega arith)))
    ∙ append_assoc (decimal (n / 10 / 10 / 10) ++ digit (n / 10 / 10)) (digit (n / 10)) (digit n)
    ∙ append_assoc (decimal (n / 10 / 10 / 10)) (digit (n / 10 / 10)) (digit (n / 10) ++ digit n)
    ∙ ap (λ m. decimal m ++ ((48 + n / 10 / 10 % 10) ∷ ((48 + n / 10 % 10) ∷ ((48 + n % 10) ∷ [])))) a
    ∙ ap (λ d. decimal (n / 1000) ++ ((48 + d) ∷ ((48 + n / 10 % 10) ∷ ((48 + n % 10) ∷ [])))) x
    ∙ ap (λ d. decimal (n / 1000) ++ ((48 + n % 1000 / 100) ∷ ((48 + d) ∷ ((48 + n % 10) ∷ [])))) y
    ∙ ap (λ d. decimal (n / 1000) ++ ((48 + n % 1000 / 100) ∷ ((48 + n % 1000 / 10 % 10) ∷ ((48 + d) ∷ [])))) z

-- ---- few digits
parted_one : (a : ℕ) → parted (a ∷ []) ≡ a ∷ []
parted_one a = refl

pub parted_small : (n : ℕ) → n < 1000 → parted (decimal n) ≡ decimal n
parted_small n h = elim (cases_lt n 10) [
  | inl one ↦ ap parted (decimal_digit n one) ∙ sym (decimal_digit n one)
  | inr more ↦
      elim (cases_lt n 100) [
        | inl two ↦
            let e : decimal n ≡ (48 + n / 10) ∷ digit n =
            decimal_step n more (omega arith) ∙ ap (λ l. l ++ digit n) (decimal_digit (n / 10) (omega arith)) in
            ap parted e ∙ sym e
        | inr many ↦
            let e : decimal n ≡ (48 + n / 10 / 10) ∷ ((48 + n / 10 % 10) ∷ digit n) =
            decimal_step n more (omega arith) ∙ ap (λ l. l ++ digit n) (decimal_step (n / 10) (omega arith) (omega arith)
            ∙ ap (λ l. l ++ digit (n / 10)) (decimal_digit (n / 10 / 10) (omega arith))) in
            ap parted e ∙ sym e
      ]
]

-- ---- a thousand more
same_test : (m : ℕ) → 0 < m → (ltb 0 (m + 3) && eqb ((m + 3) % 3) 0) ≡ (ltb 0 m && eqb (m % 3) 0)
same_test m some =
    ap (λ b. b && eqb ((m + 3) % 3) 0) (lt-ltb 0 (m + 3) (omega arith) ∙ sym (lt-ltb 0 m some))
    ∙ ap (λ r. ltb 0 m && eqb r 0) (let e : (m + 3) % 3 ≡ m % 3 = omega arith in e)

longer : (a b c : ℕ) (ys : List ℕ) → length (ys ++ a ∷ (b ∷ (c ∷ []))) ≡ length ys + 3
longer a b c [] = refl
longer a b c (y ∷ ys) = let e : length (ys ++ a ∷ (b ∷ (c ∷ []))) ≡ length ys + 3 = longer a b c ys in omega arith

same_thousands : (xs : List ℕ) (x a b c : ℕ) → are_thousands ((x ∷ xs) ++ a ∷ (b ∷ (c ∷ []))) ≡ are_thousands (x ∷ xs)
same_thousands xs x a b c =
    ap (λ n. ltb 0 n && eqb (n % 3) 0) (longer a b c (x ∷ xs)) ∙ same_test (length (x ∷ xs)) (omega arith)

join_step : (x : ℕ) (t : Bool) (joined whole more : List ℕ) → joined ≡ whole ++ thin_space ++ more
    → cond t (x ∷ (thin_space ++ joined)) (x ∷ joined) ≡ cond t (x ∷ (thin_space ++ whole)) (x ∷ whole) ++ thin_space ++ more
join_step x true joined whole more e = ap (λ l. x ∷ (thin_space ++ l)) e
join_step x false joined whole more e = ap (λ l. x ∷ l) e

parted_join : (x : ℕ) (xs : List ℕ) (a b c : ℕ)
    → parted ((x ∷ xs) ++ a ∷ (b ∷ (c ∷ []))) ≡ parted (x ∷ xs) ++ thin_space ++ a ∷ (b ∷ (c ∷ []))
parted_join x [] a b c = refl
parted_join x (y ∷ ys) a b c =
    let more : List ℕ = a ∷ (b ∷ (c ∷ [])) in
    ap (λ t. cond t (x ∷ (thin_space ++ parted ((y ∷ ys) ++ more))) (x ∷ parted ((y ∷ ys) ++ more))) (same_thousands ys y a b c)
    ∙ join_step x (are_thousands (y ∷ ys)) (parted ((y ∷ ys) ++ more)) (parted (y ∷ ys)) more (parted_join y ys a b c)

pub parted_more : (n : ℕ) → 1000 ≤ n → n < 2 ^ 64
    → parted (decimal (n / 1000)) ++ thin_space ++ ((48 + n % 1000 / 100) ∷ ((48 + n % 1000 / 10 % 10) ∷ ((48 + n % 1000 % 10) ∷ [])))
    ≡ parted (decimal n)
parted_more n h low =
    let d : List ℕ = decimal (n / 1000) in
    sym (ap parted (three n h low) ∙ joined d (decimal_nonempty (n / 1000) (omega arith)))
  where
    joined : (ds : List ℕ) → 0 < length ds
        → parted (ds ++ ((48 + n % 1000 / 100) ∷ ((48 + n % 1000 / 10 % 10) ∷ ((48 + n % 1000 % 10) ∷ []))))
        ≡ parted ds ++ thin_space ++ ((48 + n % 1000 / 100) ∷ ((48 + n % 1000 / 10 % 10) ∷ ((48 + n % 1000 % 10) ∷ [])))
    joined [] some = absurd (omega arith)
    joined (x ∷ xs) some = parted_join x xs (48 + n % 1000 / 100) (48 + n % 1000 / 10 % 10) (48 + n % 1000 % 10)
