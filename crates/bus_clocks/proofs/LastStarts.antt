-- The last own start of a sender.
use Rattle.std.proofs.Common.{◌≡◌, ℕ, ◌<◌, ◌≤◌, ◌⊎◌, List, [], ◌∷◌, inl, inr, arith, sym, refl, ap, ◌∙◌}
use Rattle.std.proofs.lemmas.Bool.{cases_lt, cases_eq}
use Rattle.bus_clocks.specs.Entries.{Entry, In}

-- the last own start before a moment
pub find_last : (l : List Entry) (k t : ℕ) → ((x : Entry) → In x l → x.sender ≡ k → x.moment < t → ⊥)
    ⊎ ((x : Entry) × In x l × (x.sender ≡ k) × (x.moment < t) × ((y : Entry) → In y l → y.sender ≡ k → y.moment < t → y.moment ≤ x.moment))
find_last [] k t = inl (λ x i mine less. i)
find_last (z ∷ l) k t = elim (find_last l k t) [
  | inl none ↦ elim (cases_eq z.sender k) [
    | inr other ↦ inl (λ x i mine less. elim i [ inl same ↦ other (ap (λ (w : Entry). w.sender) (sym same) ∙ mine) | inr j ↦ none x j mine less ])
    | inl own ↦ elim (cases_lt z.moment t) [
      | inr late ↦ inl (λ x i mine less. elim i [
        | inl same ↦ (let e : x.moment ≡ z.moment = ap (λ (w : Entry). w.moment) same in omega arith)
        | inr j ↦ none x j mine less
      ])
      | inl early ↦ inr (
        z,
        inl refl,
        own,
        early,
        (λ y i mine less. elim i [
          | inl same ↦ (let e : y.moment ≡ z.moment = ap (λ (w : Entry). w.moment) same in omega arith)
          | inr j ↦ absurd (none y j mine less)
        ]),
      )
    ]
  ]
  | inr p ↦ elim (cases_eq z.sender k) [
    | inr other ↦ inr (
      p.0,
      inr p.1,
      p.2,
      p.3,
      (λ y i mine less. elim i [
        | inl same ↦ absurd (other (ap (λ (w : Entry). w.sender) (sym same) ∙ mine))
        | inr j ↦ p.4 y j mine less
      ]),
    )
    | inl own ↦ elim (cases_lt z.moment t) [
      | inr late ↦ inr (
        p.0,
        inr p.1,
        p.2,
        p.3,
        (λ y i mine less. elim i [
          | inl same ↦ (let e : y.moment ≡ z.moment = ap (λ (w : Entry). w.moment) same in absurd (omega arith))
          | inr j ↦ p.4 y j mine less
        ]),
      )
      | inl early ↦ elim (cases_lt p.0.moment z.moment) [
        | inl greater ↦ inr (
          z,
          inl refl,
          own,
          early,
          (λ y i mine less. elim i [
            | inl same ↦ (let e : y.moment ≡ z.moment = ap (λ (w : Entry). w.moment) same in omega arith)
            | inr j ↦ (let f : y.moment ≤ p.0.moment = p.4 y j mine less in omega arith)
          ]),
        )
        | inr fewer ↦ inr (
          p.0,
          inr p.1,
          p.2,
          p.3,
          (λ y i mine less. elim i [
            | inl same ↦ (let e : y.moment ≡ z.moment = ap (λ (w : Entry). w.moment) same in omega arith)
            | inr j ↦ p.4 y j mine less
          ]),
        )
      ]
    ]
  ]
]
