-- What a search finds, and what is found.
use Rattle.std.specs.Prelude.{◌≡◌, ℕ, zero, suc, ◌+◌, ◌-◌, ◌<◌, ◌≤◌, Bool, true, false, Some, None}
use Rattle.std.proofs.Common.{inl, inr, arith, sym, refl, ap, ◌∙◌, cond}
use Rattle.std.proofs.lemmas.Bool.{cases_lt, true≢false}
use Rattle.bus_advice.specs.Search.{first_from, least_from, least_above, greatest_below}

-- the first that passes
first_some : (test : ℕ → Bool) (n count x : ℕ) → n ≤ x → x < n + count → test x ≡ true → ((m : ℕ) → n ≤ m → m < x → test m ≡ false)
    → first_from test n count ≡ Some x
unfolding first_from
first_some test n zero x low high good bad = absurd (omega arith)
first_some test n (suc count) x low high good bad =
    (elim (test n) as (λ b. test n ≡ b → cond b (Some n) (first_from test (n + 1) count) ≡ Some x) [
      | true ↦ λ e. elim (cases_lt n x) [
        | inl less ↦ absurd (true≢false (sym e ∙ bad n (omega arith) less))
        | inr rest ↦ (let same : n ≡ x = omega arith in ap Some same)
      ]
      | false ↦ λ e. elim (cases_lt n x) [
        | inl less ↦ first_some test (n + 1) count x (omega arith) (omega arith) good (λ m a b. bad m (omega arith) b)
        | inr rest ↦ (let same : n ≡ x = omega arith in absurd (true≢false (sym good ∙ ap test (sym same) ∙ e)))
      ]
    ]) refl

first_none : (test : ℕ → Bool) (n count : ℕ) → ((m : ℕ) → n ≤ m → m < n + count → test m ≡ false) → first_from test n count ≡ None
unfolding first_from
first_none test n zero bad = refl
first_none test n (suc count) bad =
    ap (λ b. cond b (Some n) (first_from test (n + 1) count)) (bad n (omega arith) (omega arith))
    ∙ first_none test (n + 1) count (λ m a b. bad m (omega arith) (omega arith))

pub least_some : (test : ℕ → Bool) (n x : ℕ) → n ≤ x → x ≤ 128000 → test x ≡ true → ((m : ℕ) → n ≤ m → m < x → test m ≡ false)
    → Some x ≡ least_from test n
least_some test n x low high good bad = sym (first_some test n (128001 - n) x low (omega arith) good bad)

pub least_none : (test : ℕ → Bool) (n : ℕ) → ((m : ℕ) → n ≤ m → m ≤ 128000 → test m ≡ false) → None ≡ least_from test n
least_none test n bad = sym (first_none test n (128001 - n) (λ m a b. bad m a (omega arith)))

pub above_some : (test : ℕ → Bool) (n x : ℕ) → n < x → x ≤ 128000 → test x ≡ true → ((m : ℕ) → n < m → m < x → test m ≡ false)
    → Some x ≡ least_above test n
above_some test n x low high good bad = least_some test (n + 1) x (omega arith) high good (λ m a b. bad m (omega arith) b)

pub above_none : (test : ℕ → Bool) (n : ℕ) → ((m : ℕ) → n < m → m ≤ 128000 → test m ≡ false) → None ≡ least_above test n
above_none test n bad = least_none test (n + 1) (λ m a b. bad m (omega arith) b)

pub below_some : (test : ℕ → Bool) (n x : ℕ) → x < n → test x ≡ true → ((m : ℕ) → x < m → m < n → test m ≡ false)
    → greatest_below test n ≡ Some x
unfolding greatest_below
below_some test zero x low good bad = absurd (omega arith)
below_some test (suc n) x low good bad =
    (elim (test n) as (λ b. test n ≡ b → cond b (Some n) (greatest_below test n) ≡ Some x) [
      | true ↦ λ e. elim (cases_lt x n) [
        | inl less ↦ absurd (true≢false (sym e ∙ bad n less (omega arith)))
        | inr rest ↦ (let same : n ≡ x = omega arith in ap Some same)
      ]
      | false ↦ λ e. elim (cases_lt x n) [
        | inl less ↦ below_some test n x less good (λ m a b. bad m a (omega arith))
        | inr rest ↦ (let same : n ≡ x = omega arith in absurd (true≢false (sym good ∙ ap test (sym same) ∙ e)))
      ]
    ]) refl

pub below_none : (test : ℕ → Bool) (n : ℕ) → ((m : ℕ) → m < n → test m ≡ false) → greatest_below test n ≡ None
unfolding greatest_below
below_none test zero bad = refl
below_none test (suc n) bad =
    ap (λ b. cond b (Some n) (greatest_below test n)) (bad n (omega arith)) ∙ below_none test n (λ m a. bad m (omega arith))

-- what is found passes, and nothing before it does
pub record IsFirst (test : ℕ → Bool) (n x : ℕ) : Type 0 where
  pub passes : test x ≡ true
  pub low : n ≤ x
  pub before : (m : ℕ) → n ≤ m → m < x → test m ≡ false

found_first : (test : ℕ → Bool) (n count x : ℕ) → first_from test n count ≡ Some x → IsFirst test n x
unfolding first_from
found_first test n zero x h = absurd (cc)
found_first test n (suc count) x h =
    (elim (test n) as (λ b. test n ≡ b → cond b (Some n) (first_from test (n + 1) count) ≡ Some x → IsFirst test n x) [
      | true ↦ λ e k. (let same : n ≡ x = cc in record {
        passes = ap test (sym same) ∙ e;
        low = omega arith;
        before = λ m a b. absurd (omega arith);
      })
      | false ↦ λ e k. (let f = found_first test (n + 1) count x k in
          let low = f.low in record {
            passes = f.passes;
            low = omega arith;
            before = λ m a b. elim (cases_lt n m) [
              | inl less ↦ f.before m (omega arith) b
              | inr rest ↦ (let same : n ≡ m = omega arith in ap test (sym same) ∙ e)
            ];
          })
    ]) refl h

pub found_least : (test : ℕ → Bool) (n x : ℕ) → least_from test n ≡ Some x → IsFirst test n x
found_least test n x h = found_first test n (128001 - n) x h

pub record IsLast (test : ℕ → Bool) (n x : ℕ) : Type 0 where
  pub passes : test x ≡ true
  pub low : x < n
  pub behind : (m : ℕ) → x < m → m < n → test m ≡ false

pub found_below : (test : ℕ → Bool) (n x : ℕ) → greatest_below test n ≡ Some x → IsLast test n x
unfolding greatest_below
found_below test zero x h = absurd (cc)
found_below test (suc n) x h =
    (elim (test n) as (λ b. test n ≡ b → cond b (Some n) (greatest_below test n) ≡ Some x → IsLast test (suc n) x) [
      | true ↦ λ e k. (let same : n ≡ x = cc in record {
        passes = ap test (sym same) ∙ e;
        low = omega arith;
        behind = λ m a b. absurd (omega arith);
      })
      | false ↦ λ e k. (let f = found_below test n x k in
          let low = f.low in record {
            passes = f.passes;
            low = omega arith;
            behind = λ m a b. elim (cases_lt m n) [
              | inl less ↦ f.behind m a less
              | inr rest ↦ (let same : n ≡ m = omega arith in ap test (sym same) ∙ e)
            ];
          })
    ]) refl h

-- where one passes, there is one that is found
first_there : (test : ℕ → Bool) (n count x : ℕ) → n ≤ x → x < n + count → test x ≡ true → (y : ℕ) × (first_from test n count ≡ Some y)
unfolding first_from
first_there test n zero x low high good = absurd (omega arith)
first_there test n (suc count) x low high good =
    (elim (test n) as (λ b. test n ≡ b → (y : ℕ) × (cond b (Some n) (first_from test (n + 1) count) ≡ Some y)) [
      | true ↦ λ e. (n, refl)
      | false ↦ λ e. elim (cases_lt n x) [
        | inl less ↦ first_there test (n + 1) count x (omega arith) (omega arith) good
        | inr rest ↦ (let same : n ≡ x = omega arith in absurd (true≢false (sym good ∙ ap test (sym same) ∙ e)))
      ]
    ]) refl

pub least_there : (test : ℕ → Bool) (n x : ℕ) → n ≤ x → x ≤ 128000 → test x ≡ true → (y : ℕ) × (least_from test n ≡ Some y)
least_there test n x low high good = first_there test n (128001 - n) x low (omega arith) good

pub below_there : (test : ℕ → Bool) (n x : ℕ) → x < n → test x ≡ true → (y : ℕ) × (greatest_below test n ≡ Some y)
unfolding greatest_below
below_there test zero x low good = absurd (omega arith)
below_there test (suc n) x low good =
    (elim (test n) as (λ b. test n ≡ b → (y : ℕ) × (cond b (Some n) (greatest_below test n) ≡ Some y)) [
      | true ↦ λ e. (n, refl)
      | false ↦ λ e. elim (cases_lt x n) [
        | inl less ↦ below_there test n x less good
        | inr rest ↦ (let same : n ≡ x = omega arith in absurd (true≢false (sym good ∙ ap test (sym same) ∙ e)))
      ]
    ]) refl

-- what passes is beyond a number up to which none passes, and before one from which on none does
pub beyond : (test : ℕ → Bool) (own x : ℕ) → test x ≡ true → ((m : ℕ) → m ≤ own → test m ≡ false) → own < x
beyond test own x good bad = elim (cases_lt own x) [ inl more ↦ more | inr rest ↦ absurd (true≢false (sym good ∙ bad x rest)) ]

pub short_of : (test : ℕ → Bool) (own x : ℕ) → test x ≡ true → ((m : ℕ) → own ≤ m → test m ≡ false) → x < own
short_of test own x good bad = elim (cases_lt x own) [ inl less ↦ less | inr rest ↦ absurd (true≢false (sym good ∙ bad x rest)) ]
