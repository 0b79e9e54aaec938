-- The greatest number that a test takes.
use Rattle.std.proofs.Common.{◌≡◌, ℕ, zero, suc, ◌+◌, ◌<◌, ◌≤◌, Bool, true, false, cond, Some, None, inl, inr, arith, sym, refl, ap, ◌∙◌, subst}
use Rattle.std.specs.Prelude.{◌↔◌, nat_le, IsTrue}
use Rattle.std.specs.Option.{option_map_or}
use Rattle.std.proofs.lemmas.Bool.{cases_Bool, cases_lt, leb-true, le-leb, true≢false}
use Rattle.bus_medium.proofs.PastLaws.{same_bools}
use Rattle.bus_reach.specs.Bearing.{greatest_to}
use Rattle.bus_reach.specs.Limits.{greatest_taken}

on_yes : (test : ℕ → Bool) (n : ℕ) → test (suc n) ≡ true → greatest_to test (suc n) ≡ suc n
on_yes test n yes' = ap (λ b. cond b (suc n) (greatest_to test n)) yes'

on_no : (test : ℕ → Bool) (n : ℕ) → test (suc n) ≡ false → greatest_to test (suc n) ≡ greatest_to test n
on_no test n no' = ap (λ b. cond b (suc n) (greatest_to test n)) no'

-- it is one that the test takes
pub greatest_takes : (test : ℕ → Bool) (n : ℕ) → test 0 ≡ true → test (greatest_to test n) ≡ true
greatest_takes test zero h = h
greatest_takes test (suc n) h = elim (cases_Bool (test (suc n))) [
  | inl yes' ↦ subst (λ k. test k ≡ true) (sym (on_yes test n yes')) yes'
  | inr no' ↦ subst (λ k. test k ≡ true) (sym (on_no test n no')) (greatest_takes test n h)
]

-- and takes none that is greater, up to the bound
pub greatest_beyond : (test : ℕ → Bool) (n k : ℕ) → greatest_to test n < k → k ≤ n → test k ≡ false
greatest_beyond test zero k more within = absurd (let none : greatest_to test zero ≡ 0 = refl in omega arith)
greatest_beyond test (suc n) k more within = elim (cases_Bool (test (suc n))) [
  | inl yes' ↦ absurd (let e : greatest_to test (suc n) ≡ suc n = on_yes test n yes' in omega arith)
  | inr no' ↦
      let e : greatest_to test (suc n) ≡ greatest_to test n = on_no test n no' in
      elim (cases_lt n k) [
        | inl last ↦ let same : suc n ≡ k = omega arith in subst (λ m. test m ≡ false) same no'
        | inr before ↦ greatest_beyond test n k (omega arith) before
      ]
]

-- so it is the number up to which the test takes all
pub greatest_is : (test : ℕ → Bool) (most n : ℕ) → ((d : ℕ) → (d ≤ most) ↔ IsTrue (test d)) → most ≤ n → greatest_to test n ≡ most
greatest_is test most zero all within = let none : greatest_to test zero ≡ 0 = refl in omega arith
greatest_is test most (suc n) all within = elim (cases_Bool (test (suc n))) [
  | inl yes' ↦ let e : greatest_to test (suc n) ≡ suc n = on_yes test n yes' in let low : suc n ≤ most = (all (suc n)).1 yes' in omega arith
  | inr no' ↦ elim (cases_lt n most) [
    | inl more ↦ absurd (true≢false (sym ((all (suc n)).0 (omega arith)) ∙ no'))
    | inr less ↦ on_no test n no' ∙ greatest_is test most n all less
  ]
]

-- where it takes all up to a number, that is the greatest it takes
pub taken_some : (test : ℕ → Bool) (most far : ℕ) → ((d : ℕ) → (d ≤ most) ↔ IsTrue (test d)) → most < far → Some most ≡ greatest_taken test far
unfolding greatest_taken
taken_some test most far all near =
    ap Some (sym (greatest_is test most far all (omega arith)))
    ∙ sym (elim (cases_Bool (test far)) [
      | inl yes' ↦ absurd (let low : far ≤ most = (all far).1 yes' in omega arith)
      | inr no' ↦ ap (λ b. cond b None (Some (greatest_to test far))) no'
    ])

pub taken_none : (test : ℕ → Bool) (far : ℕ) → test far ≡ true → None ≡ greatest_taken test far
unfolding greatest_taken
taken_none test far yes' = sym (ap (λ b. cond b None (Some (greatest_to test far))) yes')

-- A test that takes 0, with each number all lesser ones, and with the farthest all.
pub record IsSteady (test : ℕ → Bool) (far : ℕ) : Type 0 where
  pub none : test 0 ≡ true
  pub less : (d e : ℕ) → d ≤ e → test e ≡ true → test d ≡ true
  pub beyond : (d : ℕ) → far ≤ d → test d ≡ test far

pub steady : (test : ℕ → Bool) (most far : ℕ) → ((d : ℕ) → (d ≤ most) ↔ IsTrue (test d)) → most < far → IsSteady test far
steady test most far all near = record {
  none = (all 0).0 (omega arith);
  less = λ d e low yes'. let within : e ≤ most = (all e).1 yes' in (all d).0 (omega arith);
  beyond = λ d past. not_taken d (omega arith) ∙ sym (not_taken far near);
}
  where
    not_taken : (d : ℕ) → most < d → test d ≡ false
    not_taken d over = elim (cases_Bool (test d)) [
      | inl yes' ↦ absurd (let low : d ≤ most = (all d).1 yes' in omega arith)
      | inr no' ↦ no'
    ]

-- what is found of such a test tells it
pub taken_tells : (test : ℕ → Bool) (far d : ℕ) → IsSteady test far → option_map_or (λ most. nat_le d most) (greatest_taken test far) true ≡ test d
unfolding greatest_taken
taken_tells test far d h = elim (cases_Bool (test far)) [
  | inl yes' ↦
      ap (λ b. option_map_or (λ most. nat_le d most) (cond b None (Some (greatest_to test far))) true) yes'
      ∙ sym (elim (cases_lt d far) [
        | inl near ↦ h.less d far (omega arith) yes'
        | inr past ↦ h.beyond d past ∙ yes'
      ])
  | inr no' ↦
      ap (λ b. option_map_or (λ most. nat_le d most) (cond b None (Some (greatest_to test far))) true) no'
      ∙ same_bools (nat_le d (greatest_to test far)) (test d)
      (λ low. h.less d (greatest_to test far) (leb-true d (greatest_to test far) low) (greatest_takes test far h.none))
      (λ yes'. elim (cases_lt (greatest_to test far) d) [
        | inl over ↦ absurd (true≢false (sym yes' ∙ (elim (cases_lt far d) [
          | inl past ↦ h.beyond d (omega arith) ∙ no'
          | inr within ↦ greatest_beyond test far d over within
        ])))
        | inr low ↦ le-leb d (greatest_to test far) low
      ])
]

-- two numbers next to each other, of which the test takes the lesser alone, tell the greatest
pub taken_between : (test : ℕ → Bool) (borne above far : ℕ) → ((d e : ℕ) → d ≤ e → test e ≡ true → test d ≡ true) → test borne ≡ true
    → test above ≡ false → above ≤ borne + 1 → above ≤ far → borne < above → Some borne ≡ greatest_taken test far
taken_between test borne above far less yes' no' near within apart =
    taken_some test borne far (λ d. (
      (λ low. less d borne low yes'),
      (λ is. elim (cases_lt borne d) [
        | inl over ↦ absurd (true≢false (sym (less above d (omega arith) is) ∙ no'))
        | inr low ↦ low
      ]),
    )) (omega arith)
