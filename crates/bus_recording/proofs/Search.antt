-- A search for a stretch in which nobody is met.
use Rattle.std.proofs.Common.{◌≡◌, ◌≢◌, ◌⊎◌, ℕ, zero, suc, ◌+◌, ◌<◌, ◌≤◌, List, [], ◌∷◌, inl, inr, arith, refl, ap, ◌∙◌, subst}
use Rattle.std.proofs.lemmas.Bool.{cases_lt, cases_eq}
use Rattle.bus_recording.specs.Seen.{IsIn, Seen}

-- whether somebody is met in a stretch
met_or_free : (recording : List Seen) (k a b : ℕ) → ((r : Seen) × IsIn r recording × (r.sender ≢ k) × (r.moment < b) × (a < r.soonest))
    ⊎ ((r : Seen) → IsIn r recording → r.sender ≢ k → (b ≤ r.moment) ⊎ (r.soonest ≤ a))
met_or_free [] k a b = inr (λ r i. absurd i)
met_or_free (y ∷ recording) k a b = elim (met_or_free recording k a b) [
  | inl m ↦ inl (m.0, inr m.1, m.2, m.3, m.4)
  | inr free ↦ elim (cases_eq y.sender k) [
    | inl mine ↦ inr (λ r i foreign. elim i [
      | inl same ↦ absurd (foreign (ap (λ (v : Seen). v.sender) same ∙ mine))
      | inr j ↦ free r j foreign
    ])
    | inr other ↦ elim (cases_lt y.moment b) [
      | inr far ↦ inr (λ r i foreign. elim i [
        | inl same ↦ (let e : r.moment ≡ y.moment = ap (λ (v : Seen). v.moment) same in inl (omega arith))
        | inr j ↦ free r j foreign
      ])
      | inl begun ↦ elim (cases_lt a y.soonest) [
        | inl here ↦ inl (y, inl refl, other, begun, here)
        | inr over' ↦ inr (λ r i foreign. elim i [
          | inl same ↦ (let e : r.soonest ≡ y.soonest = ap (λ (v : Seen). v.soonest) same in inr (omega arith))
          | inr j ↦ free r j foreign
        ])
      ]
    ]
  ]
]

abbrev pub Free : List Seen → ℕ → ℕ → ℕ → Type 0
Free recording k a b = (r : Seen) → IsIn r recording → r.sender ≢ k → (b ≤ r.moment) ⊎ (r.soonest ≤ a)

abbrev pub Met : List Seen → ℕ → ℕ → ℕ → Type 0
Met recording k a b = (r : Seen) × IsIn r recording × (r.sender ≢ k) × (r.moment < b) × (a < r.soonest)

-- some stretch is free, or each is met
pub look : (recording : List Seen) (k low sg high n : ℕ) → ((a : ℕ) × (low ≤ a) × (a + sg ≤ high) × Free recording k a (a + sg))
    ⊎ ((a : ℕ) → a < n → low ≤ a → a + sg ≤ high → Met recording k a (a + sg))
look recording k low sg high zero = inr (λ a before. absurd (omega arith))
look recording k low sg high (suc n) = elim (look recording k low sg high n) [
  | inl done ↦ inl done
  | inr all ↦ elim (cases_lt n low) [
    | inl early ↦ inr (λ a before from' fits. all a (omega arith) from' fits)
    | inr from ↦ elim (cases_lt high (n + sg)) [
      | inl out ↦ inr (λ a before from' fits. all a (omega arith) from' fits)
      | inr fits ↦ elim (met_or_free recording k n (n + sg)) [
        | inr free ↦ inl (n, from, fits, free)
        | inl m ↦ inr (λ a before from' fits'. elim (cases_lt a n) [
          | inl less ↦ all a less from' fits'
          | inr last ↦ (let e : n ≡ a = omega arith in subst (λ v. Met recording k v (v + sg)) e m)
        ])
      ]
    ]
  ]
]
